-- Each cell has a lawful rule.
use Rattle.std.proofs.Common.{◌≡◌, ◌∙◌, refl, ap, subst, ◌≢◌, ℕ, zero, suc, ◌+◌, ◌-◌, ◌<◌, ◌≤◌, ℤ, pos, ◌≤ℤ◌, ◌<ℤ◌, Bool, true, false, ◌&&◌, ◌||◌, not, List, [], ◌∷◌, length, map, get_or, slice_get, Some, None, arith}
use Rattle.std.specs.Prelude.{filter, int_le, int_lt, nat_le}
use Rattle.std.specs.List.{Contains, find, list_all}
use Rattle.std.proofs.Math.Bool.{cond}
use Rattle.std.proofs.lemmas.Bool.{and_parts, leb-false, leb-true}
use Rattle.std.proofs.lemmas.Int.{ints}
use Rattle.std.proofs.lemmas.Option.{slice_get_within}
use Rattle.std.proofs.lemmas.List.FromFn.{get_or-range_with_len, length-range_with_len}
use Rattle.pb_linear.specs.Form.{value}
use Rattle.pb_linear.specs.RuleBox.{Bounds}
use Rattle.pb_linear.specs.Sizes.{InRange}
use Rattle.pb_linear.specs.declared.form.Form.{Form}
use Rattle.pb_linear.specs.declared.vform.SymBox.{SymBox}
use Rattle.pb_linear.proofs.SizesLemmas.{le_everywhere-at}
use Rattle.pb_grid.specs.Cuts.{le}
use Rattle.pb_grid.specs.Grids.{areas_of}
use Rattle.pb_grid.specs.Places.{is_at, is_in}
use Rattle.pb_grid.specs.Segments.{SegmentValue, holder_of, holds, is_uncovered, segment_of}
use Rattle.pb_program.specs.Trees.{ProgRule, ProgTransform}
use Rattle.pb_program.specs.WellFormed.{IsWellFormed}
use Rattle.pb_model.specs.Cells.{Cell, IsCell}
use Rattle.pb_model.specs.Lawful.{CanMake, IsLawful, can_make, lawful}
use Rattle.pb_model.proofs.LawfulLemmas.{can_test, in_lawful}
use Rattle.pb_base.proofs.ListLemmas.{all_each, at_in, filter_in, in_at, in_none, in_tail, in_head, map_in}
use Rattle.pb_check.specs.Cuts.{AreCut, HasCut, IsCut}
use Rattle.pb_check.specs.Phases.{IsSound}
use Rattle.pb_check.proofs.FirstLemmas.{all_at}
use Rattle.pb_check.proofs.LawfulLemmas.{one_at, ranges, unguarded_can}

-- ---- lists and tests
module _ {A : Type 0} (p : A → Bool) where
  some_by : (x : A) (xs : List A) (b : Bool) → p x ≡ b → length (cond b (x ∷ filter p xs) (filter p xs)) ≡ 1 → (length (filter p xs) ≡ 1 → (y : A) × Contains xs y × (p y ≡ true)) → (y : A) × Contains (x ∷ xs) y × (p y ≡ true)
  some_by x xs true e h rest = (x, in_head x xs, e)
  some_by x xs false e h rest = let r = rest h in (r.0, in_tail x r.0 xs r.1, r.2)

  pub some_of : (xs : List A) → length (filter p xs) ≡ 1 → (y : A) × Contains xs y × (p y ≡ true)
  some_of [] h = absurd (omega (arith, h))
  some_of (x ∷ xs) h = some_by x xs (p x) refl h (some_of xs)

  other_by : (x : A) (xs : List A) (b : Bool) → p x ≡ b → (b && list_all p xs) ≡ false → (list_all p xs ≡ false → (y : A) × Contains xs y × (p y ≡ false)) → (y : A) × Contains (x ∷ xs) y × (p y ≡ false)
  other_by x xs false e h rest = (x, in_head x xs, e)
  other_by x xs true e h rest = let r = rest h in (r.0, in_tail x r.0 xs r.1, r.2)

  not_all : (xs : List A) → list_all p xs ≡ false → (y : A) × Contains xs y × (p y ≡ false)
  not_all [] h = absurd (let e : true ≡ false = h in cc)
  not_all (x ∷ xs) h = other_by x xs (p x) refl h (not_all xs)

  none_by : (x : A) (xs : List A) (b : Bool) → p x ≡ b → cond b (Some x) (find p xs) ≡ None → (b ≡ false) × (find p xs ≡ None)
  none_by x xs false e h = (refl, h)
  none_by x xs true e h = absurd (let some : Some x ≡ None = h in cc)

  find_none : (xs : List A) → find p xs ≡ None → (k : ℕ) (d : A) → k < length xs → p (get_or xs k d) ≡ false
  find_none [] h k d below = absurd (omega arith)
  find_none (x ∷ xs) h zero d below = (none_by x xs (p x) refl h).0
  find_none (x ∷ xs) h (suc k) d below = find_none xs (none_by x xs (p x) refl h).1 k d (omega arith)

-- an element that fails by what it is mapped to
mapped_by : {A B : Type 0} (f : A → B) (p : B → Bool) (x : A) (xs : List A) (b : Bool) → p (f x) ≡ b → (b && list_all p (map f xs)) ≡ false → (list_all p (map f xs) ≡ false → (y : A) × Contains xs y × (p (f y) ≡ false))
    → (y : A) × Contains (x ∷ xs) y × (p (f y) ≡ false)
mapped_by f p x xs false e h rest = (x, in_head x xs, e)
mapped_by f p x xs true e h rest = let r = rest h in (r.0, in_tail x r.0 xs r.1, r.2)

not_all_mapped : {A B : Type 0} (f : A → B) (p : B → Bool) (xs : List A) → list_all p (map f xs) ≡ false → (y : A) × Contains xs y × (p (f y) ≡ false)
not_all_mapped f p [] h = absurd (let e : true ≡ false = h in cc)
not_all_mapped f p (x ∷ xs) h = mapped_by f p x xs (p (f x)) refl h (not_all_mapped f p xs)

both : (a b : Bool) → a ≡ true → b ≡ true → (a && b) ≡ true
both a b ea eb = rw (ea, eb) refl

-- ---- a box that holds a segment holds its places
module _ (leasts sizes : List ℕ) (range : InRange leasts sizes) where
  le_at : (a b : Form) → le leasts a b ≡ true → value a sizes ≤ℤ value b sizes
  unfolding le
  le_at a b h = le_everywhere-at leasts (value a) (value b) h sizes range

  lower_at : (low : Form) (v : ℤ) (fs : List Form) → value low sizes ≤ℤ v → list_all (λ f. le leasts f low) fs ≡ true → list_all (λ f. int_le (value f sizes) v) fs ≡ true
  lower_at low v [] h all = refl
  lower_at low v (f ∷ fs) h all =
      let parts = and_parts (le leasts f low) (list_all (λ g. le leasts g low) fs) all in
      let here = le_at f low parts.0 in
      let test : int_le (value f sizes) v ≡ true = grind (arith, ints) in
      both _ _ test (lower_at low v fs h parts.1)

  upper_at : (high : Form) (v : ℤ) (fs : List Form) → v <ℤ value high sizes → list_all (λ f. le leasts high f) fs ≡ true → list_all (λ f. int_lt v (value f sizes)) fs ≡ true
  upper_at high v [] h all = refl
  upper_at high v (f ∷ fs) h all =
      let parts = and_parts (le leasts high f) (list_all (λ g. le leasts high g) fs) all in
      let here = le_at high f parts.0 in
      let test : int_lt v (value f sizes) ≡ true = grind (arith, ints) in
      both _ _ test (upper_at high v fs h parts.1)

  le_true : (a b : ℤ) → int_le a b ≡ true → a ≤ℤ b
  le_true a b h = grind (arith, ints)

  lt_true : (a b : ℤ) → int_lt a b ≡ true → a <ℤ b
  lt_true a b h = grind (arith, ints)

  holds_at : (s : SymBox) (x y : ℤ) (b : Bounds) → ((int_le (value s.x0 sizes) x && int_lt x (value s.x1 sizes)) && (int_le (value s.y0 sizes) y && int_lt y (value s.y1 sizes))) ≡ true → holds leasts s b ≡ true → is_in sizes x y b ≡ true
  holds_at s x y b place held =
      let parts = and_parts _ _ place in
      let px = and_parts _ _ parts.0 in
      let py = and_parts _ _ parts.1 in
      let axes = and_parts _ _ held in
      let hx = and_parts _ _ axes.0 in
      let hy = and_parts _ _ axes.1 in
      both _ _ (both _ _ (lower_at s.x0 x b.lower_x (le_true _ _ px.0) hx.0) (upper_at s.x1 x b.upper_x (lt_true _ _ px.1) hx.1))
      (both _ _ (lower_at s.y0 y b.lower_y (le_true _ _ py.0) hy.0) (upper_at s.y1 y b.upper_y (lt_true _ _ py.1) hy.1))

-- a segment that is covered has a box without a guard that holds it
covering : (leasts : List ℕ) (boxes : List Bounds) (s : SymBox) → is_uncovered leasts boxes s ≡ false → (b : Bounds) × Contains boxes b × (holds leasts s b ≡ true) × (b.guarded ≡ false)
covering leasts boxes s h =
    let b = not_all_mapped holder_of _ (filter (holds leasts s) boxes) h in
    let kept = filter_in (holds leasts s) boxes b.0 b.1 in
    (b.0, kept.0, kept.1, b.2)

-- ---- of rules that can make a cell one comes first
module _ (t : ProgTransform) (sizes : List ℕ) (c : Cell) where
  abbrev least_test : ProgRule → ProgRule → Bool
  least_test r other = not (can_make t.matrices sizes c other) || nat_le r.priority other.priority

  to_least : (b : Bool) (p q : ℕ) → (not b || nat_le p q) ≡ true → b ≡ true → p ≤ q
  to_least true p q h e = leb-true p q h
  to_least false p q h e = absurd (cc)

  smaller : (b : Bool) (p q : ℕ) → (not b || nat_le p q) ≡ false → (b ≡ true) × (q < p)
  smaller true p q h = (refl, leb-false p q h)
  smaller false p q h = absurd (let e : true ≡ false = h in cc)

  first_by : (n k : ℕ) (r : ProgRule) (b : Bool) → slice_get t.rules k ≡ Some r → CanMake t.matrices sizes c r → r.priority < suc n → list_all (least_test r) t.rules ≡ b
      → ((j : ℕ) (o : ProgRule) → slice_get t.rules j ≡ Some o → CanMake t.matrices sizes c o → o.priority < n → (i : ℕ) × IsLawful t sizes c i) → (i : ℕ) × IsLawful t sizes c i
  first_by n k r true there can below e rest =
      (k, record { rule = r; there = there; can = can; least = λ j o at other. to_least (can_make t.matrices sizes c o) r.priority o.priority (all_each (least_test r) t.rules o e (in_at t.rules j o at)) ((can_test t.matrices sizes c o).1 other) })
  first_by n k r false there can below e rest =
      let o = not_all (least_test r) t.rules e in
      let less = smaller (can_make t.matrices sizes c o.0) r.priority o.0.priority o.2 in
      let place = at_in t.rules o.0 o.1 in
      rest place.0 o.0 place.1 ((can_test t.matrices sizes c o.0).0 less.0) (omega (arith, less.1, below))

  first_of : (n k : ℕ) (r : ProgRule) → slice_get t.rules k ≡ Some r → CanMake t.matrices sizes c r → r.priority < n → (i : ℕ) × IsLawful t sizes c i
  first_of zero k r there can below = absurd (omega (arith, below))
  first_of (suc n) k r there can below = first_by n k r (list_all (least_test r) t.rules) there can below refl (first_of n)

  some_lawful : (k : ℕ) (r : ProgRule) → slice_get t.rules k ≡ Some r → CanMake t.matrices sizes c r → lawful t sizes c ≢ []
  some_lawful k r there can none =
      let first = first_of (suc r.priority) k r there can (omega arith) in
      in_none first.0 (subst (λ l. Contains l first.0) none (in_lawful t sizes c first.0 first.1))

module _ (p : List ProgTransform) (number : ℕ) (t : ProgTransform) (c : Cell) (sizes : List ℕ) (well : IsWellFormed p) (sound : IsSound p) (at : slice_get p number ≡ Some t) (cell : IsCell t sizes c) where
  covered_by : (ss : List SegmentValue) → IsCut t c.matrix ss → lawful t sizes c ≢ []
  covered_by ss cut =
      let m = cut.matrix in
      let s = some_of (is_at sizes (pos c.x) (pos c.y)) ss (one_at p number t c sizes well sound at cell ss cut) in
      let area = map_in (segment_of m.leasts m.boxes) (areas_of m) s.0 (subst (λ l. Contains l s.0) cut.grid.segments s.1) in
      let bare = subst (λ a. is_uncovered m.leasts m.boxes a ≡ false) area.1.2 (find_none (is_uncovered m.leasts m.boxes) (areas_of m) cut.grid.covered area.1.0 area.0 area.1.1) in
      let b = covering m.leasts m.boxes area.0 bare in
      let range = ranges p number t c sizes well sound at cell m cut.is in
      let place = ap (λ (k : SegmentValue). is_at sizes (pos c.x) (pos c.y) k) area.2 ∙ s.2 in
      let can = unguarded_can p number t c sizes well sound at cell m cut.is b.0 b.1 (holds_at m.leasts sizes range area.0 (pos c.x) (pos c.y) b.0 place b.2) b.3 in
      some_lawful t sizes c can.0 can.1 can.2 can.3

  has_cut : t.inputs ≤ c.matrix → HasCut t c.matrix
  has_cut made =
      let k = c.matrix - t.inputs in
      let inside : c.matrix < length t.matrices = slice_get_within t.matrices c.matrix cell.decl cell.there in
      let e : t.inputs + k ≡ c.matrix = omega (arith, made) in
      let below : k < length t.matrices - t.inputs = omega (arith, made, inside) in
      let is = get_or-range_with_len t.inputs (length t.matrices - t.inputs) k 0 below ∙ e in
      subst (HasCut t) is ((all_at AreCut p number t sound.cut at).each k 0 (omega (arith, below, length-range_with_len t.inputs (length t.matrices - t.inputs))))

  pub has_lawful : t.inputs ≤ c.matrix → lawful t sizes c ≢ []
  has_lawful made = let cut = has_cut made in covered_by cut.segments cut.cut
