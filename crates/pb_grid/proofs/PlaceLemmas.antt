-- The segments at a place of a matrix.
use Rattle.std.proofs.Common.{◌≡◌, ◌∙◌, refl, sym, ap, subst, inl, inr, ◌⊎◌, ℕ, zero, suc, ◌+◌, ◌*◌, Bool, true, false, ◌&&◌, ◌||◌, not, List, [], ◌∷◌, ◌++◌, length, map, None, ℤ, pos, ◌≤ℤ◌, ◌<ℤ◌, int_le, int_lt, arith}
use Rattle.std.specs.Prelude.{filter}
use Rattle.std.specs.List.{All, AllByRecursion, flat_map, list_all, list_any}
use Rattle.std.proofs.Math.Bool.{cond}
use Rattle.std.proofs.Math.IntN.{zero-*ℤ}
use Rattle.std.proofs.lemmas.Bool.{and_parts}
use Rattle.std.proofs.lemmas.Int.{ints}
use Rattle.std.proofs.lemmas.List.{length-append, map-append}
use Rattle.std.proofs.lemmas.List.Elements.{filter-append}
use Rattle.pb_linear.specs.Form.{numbers, value}
use Rattle.pb_linear.specs.RuleBox.{Bounds}
use Rattle.pb_linear.specs.Sizes.{InRange}
use Rattle.pb_linear.specs.declared.form.Form.{Form}
use Rattle.pb_linear.specs.declared.vform.SymBox.{SymBox}
use Rattle.pb_linear.proofs.SizesLemmas.{le_everywhere-at}
use Rattle.pb_linear.proofs.Values.{exact_value-multiple}
use Rattle.pb_grid.specs.declared.axis.Axis.{Axis}
use Rattle.pb_grid.specs.declared.axis.Axis.TheVariants as axis
use Rattle.pb_grid.specs.Crossings.{crossing}
use Rattle.pb_grid.specs.Cuts as Cuts
use Rattle.pb_grid.specs.Cuts.{bounds_on, cuts, is_inner, le, lower, same, upper}
use Rattle.pb_grid.specs.Grids.{IsGrid, Matrix, areas_of, cuts_x, cuts_y}
use Rattle.pb_grid.specs.Lists.{firsts, in_order, neighbours}
use Rattle.pb_grid.specs.Places.{holders_at, is_at, is_in, is_on}
use Rattle.pb_grid.specs.Segments.{SegmentValue, area_of, best, holder_of, holds, holds_on, segment_of}
use Rattle.pb_grid.proofs.CutLemmas.{le-refl, le-trans, same-trans}
use Rattle.pb_grid.proofs.ListLemmas.{all_tail, any_kept}
use Rattle.pb_grid.proofs.OrderLemmas.{Beside, Rises, beside, both, list_any-in_order, or_cases, rises}
use Rattle.pb_grid.proofs.ValueLemmas.{is_between, lower_test, one_gap, true_le, true_lt, upper_test}

-- ---- what is said of each element
each_at : {A : Type 0} (P : A → Type 0) (xs : List A) → AllByRecursion P xs → All P xs
each_at P [] h k d below = absurd (omega arith)
each_at P (x ∷ xs) h zero d below = h.0
each_at P (x ∷ xs) h (suc k) d below = each_at P xs h.1 k d (omega arith)

each_from : {A : Type 0} (P : A → Type 0) (xs : List A) → All P xs → AllByRecursion P xs
each_from P [] h = tt
each_from P (x ∷ xs) h = (h 0 x (omega arith), each_from P xs (all_tail P x xs h))

each_and : {A : Type 0} (P Q : A → Type 0) → ((x : A) → P x → Q x) → (xs : List A) → AllByRecursion P xs → AllByRecursion Q xs
each_and P Q f [] h = tt
each_and P Q f (x ∷ xs) h = (f x h.0, each_and P Q f xs h.1)

each_part : {A : Type 0} (P : A → Type 0) (xs ys : List A) → AllByRecursion P (xs ++ ys) → AllByRecursion P xs × AllByRecursion P ys
each_part P [] ys h = (tt, h)
each_part P (x ∷ xs) ys h = let rest = each_part P xs ys h.1 in ((h.0, rest.0), rest.1)

each_join : {A : Type 0} (P : A → Type 0) (xs ys : List A) → AllByRecursion P xs → AllByRecursion P ys → AllByRecursion P (xs ++ ys)
each_join P [] ys h k = k
each_join P (x ∷ xs) ys h k = (h.0, each_join P xs ys h.1 k)

each_piece : {A B : Type 0} (P : B → Type 0) (f : A → List B) (xs : List A) → AllByRecursion P (flat_map f xs) → AllByRecursion (λ x. AllByRecursion P (f x)) xs
each_piece P f [] h = tt
each_piece P f (x ∷ xs) h = let parts = each_part P (f x) (flat_map f xs) h in (parts.0, each_piece P f xs parts.1)

each_mapped : {A B : Type 0} (P : B → Type 0) (f : A → B) (xs : List A) → AllByRecursion (λ x. P (f x)) xs → AllByRecursion P (map f xs)
each_mapped P f [] h = tt
each_mapped P f (x ∷ xs) h = (h.0, each_mapped P f xs h.1)

each_flat : {A B : Type 0} (P : B → Type 0) (f : A → List B) (xs : List A) → AllByRecursion (λ x. AllByRecursion P (f x)) xs → AllByRecursion P (flat_map f xs)
each_flat P f [] h = tt
each_flat P f (x ∷ xs) h = each_join P (f x) (flat_map f xs) h.0 (each_flat P f xs h.1)

-- each element fails a test or is among those that pass
by_filter : {A : Type 0} (p : A → Bool) (Q : A → Type 0) (x : A) (xs : List A) (b : Bool) → p x ≡ b → AllByRecursion Q (cond b (x ∷ filter p xs) (filter p xs)) → (AllByRecursion Q (filter p xs) → AllByRecursion (λ y. (p y ≡ false) ⊎ Q y) xs)
    → ((p x ≡ false) ⊎ Q x) × AllByRecursion (λ y. (p y ≡ false) ⊎ Q y) xs
by_filter p Q x xs true e h rest = (inr h.0, rest h.1)
by_filter p Q x xs false e h rest = (inl e, rest h)

each_unfiltered : {A : Type 0} (p : A → Bool) (Q : A → Type 0) (xs : List A) → AllByRecursion Q (filter p xs) → AllByRecursion (λ y. (p y ≡ false) ⊎ Q y) xs
each_unfiltered p Q [] h = tt
each_unfiltered p Q (x ∷ xs) h = by_filter p Q x xs (p x) refl h (each_unfiltered p Q xs)

same_all : {A : Type 0} (p q : A → Bool) (xs : List A) → AllByRecursion (λ x. p x ≡ q x) xs → list_all p xs ≡ list_all q xs
same_all p q [] h = refl
same_all p q (x ∷ xs) h = ap (λ b. b && list_all p xs) h.0 ∙ ap (λ b. q x && b) (same_all p q xs h.1)

same_filter : {A : Type 0} (p q : A → Bool) (xs : List A) → AllByRecursion (λ x. p x ≡ q x) xs → filter p xs ≡ filter q xs
same_filter p q [] h = refl
same_filter p q (x ∷ xs) h = ap (λ (b : Bool). cond b (x ∷ filter p xs) (filter p xs)) h.0 ∙ ap (λ l. cond (q x) (x ∷ l) l) (same_filter p q xs h.1)

-- ---- each element of a list is the same as one of its firsts
module _ {A : Type 0} (alike : A → A → Bool) (itself : (a : A) → alike a a ≡ true) (trans : (a b c : A) → alike a b ≡ true → alike b c ≡ true → alike a c ≡ true) where
  still_known : (x y : A) (fs : List A) (b : Bool) → alike x y ≡ b → list_any (λ z. alike z y) fs ≡ true → (b || list_any (λ z. alike z y) (filter (λ z. not (alike x z)) fs)) ≡ true
  still_known x y fs true e h = refl
  still_known x y fs false e h = any_kept alike trans x y fs e ∙ h

  first_known : (x : A) (l : List A) → (alike x x || list_any (λ z. alike z x) l) ≡ true
  first_known x l = ap (λ b. b || list_any (λ z. alike z x) l) (itself x)

  known : (xs : List A) → AllByRecursion (λ y. list_any (λ z. alike z y) (firsts alike xs) ≡ true) xs
  known [] = tt
  known (x ∷ xs) = (
    first_known x (filter (λ z. not (alike x z)) (firsts alike xs)),
    each_and (λ y. list_any (λ z. alike z y) (firsts alike xs) ≡ true) (λ y. list_any (λ z. alike z y) (firsts alike (x ∷ xs)) ≡ true) (λ y h. still_known x y (firsts alike xs) (alike x y) refl h) xs (known xs),
  )

-- a value of an element is that of one that is the same
any_value : {A : Type 0} (alike : A → A → Bool) (p : A → Bool) → (y : A) → ((z : A) → alike z y ≡ true → p z ≡ true) → (zs : List A) → list_any (λ z. alike z y) zs ≡ true → list_any p zs ≡ true
any_value alike p y f [] h = h
any_value alike p y f (z ∷ zs) h = elim (or_cases (alike z y) (list_any (λ z. alike z y) zs) h) [
  | inl here ↦ ap (λ b. b || list_any p zs) (f z here)
  | inr later ↦ or_true (p z) (any_value alike p y f zs later.1)
]
  where
    or_true : (a : Bool) {b : Bool} → b ≡ true → (a || b) ≡ true
    or_true true h = refl
    or_true false h = h

zero_value : (sizes : List ℕ) → value Cuts.zero sizes ≡ pos 0
zero_value sizes = exact_value-multiple (pos 0) (numbers Cuts.zero) sizes ∙ zero-*ℤ (value Cuts.zero sizes)

-- a bound that isn't inner is at most 0, or at least the side
outside : (a b : Bool) → (not a && not b) ≡ false → (a ≡ true) ⊎ (b ≡ true)
outside true b h = inl refl
outside false true h = inr refl
outside false false h = absurd (let e : true ≡ false = h in cc)

-- ---- an axis at a value
module _ (leasts sizes : List ℕ) (range : InRange leasts sizes) where
  sound : (a b : Form) → le leasts a b ≡ true → value a sizes ≤ℤ value b sizes
  unfolding le
  sound a b h = le_everywhere-at leasts (value a) (value b) h sizes range

  module _ (a : Axis) (side : Form) (boxes : List Bounds) (v : ℤ) (low : pos 0 ≤ℤ v) (high : v <ℤ value side sizes) (straight : crossing leasts (cuts leasts a side boxes) ≡ None) where
    rising : Rises (le leasts) (in_order (le leasts) (cuts leasts a side boxes))
    unfolding crossing
    rising = rises (le leasts) (le-trans leasts) (cuts leasts a side boxes) straight

    -- what is listed is the same as a cut
    abbrev Listed : Form → Type 0
    Listed f = list_any (λ z. same leasts z f) (in_order (le leasts) (cuts leasts a side boxes)) ≡ true

    same-refl : (f : Form) → same leasts f f ≡ true
    same-refl f = both (le leasts f f) (le leasts f f) (le-refl leasts f) (le-refl leasts f)

    all_listed : AllByRecursion Listed (Cuts.listed leasts a side boxes)
    unfolding cuts
    all_listed = each_and _ Listed (λ f h. list_any-in_order (le leasts) (λ z. same leasts z f) (cuts leasts a side boxes) ∙ h) (Cuts.listed leasts a side boxes) (known (same leasts) same-refl (same-trans leasts) (Cuts.listed leasts a side boxes))

    -- one gap holds the value
    pub one_at : length (filter (is_between (λ f. value f sizes) v) (neighbours (in_order (le leasts) (cuts leasts a side boxes)))) ≡ 1
    one_at =
        one_gap (le leasts) (λ f. value f sizes) sound v _ rising
        (any_value (same leasts) (λ z. int_le (value z sizes) v) Cuts.zero (λ z h. let below = sound z Cuts.zero (and_parts (le leasts z Cuts.zero) (le leasts Cuts.zero z) h).0 in let nought = zero_value sizes in let at : value z sizes ≤ℤ v = omega (arith, ints) in grind (arith, ints)) _ all_listed.0)
        (any_value (same leasts) (λ z. int_lt v (value z sizes)) side (λ z h. let above = sound side z (and_parts (le leasts z side) (le leasts side z) h).1 in let at : v <ℤ value z sizes = omega (arith, ints) in grind (arith, ints)) _ all_listed.1.0)

    -- a bound of a box is at most 0, or at least the side, or the same as a cut
    Known : Form → Type 0
    Known f = ((le leasts f Cuts.zero ≡ true) ⊎ (le leasts side f ≡ true)) ⊎ Listed f

    known_of : (f : Form) → (is_inner leasts side f ≡ false) ⊎ Listed f → Known f
    unfolding Known
    known_of f (inl out) = inl (outside (le leasts f Cuts.zero) (le leasts side f) out)
    known_of f (inr h) = inr h

    all_known : AllByRecursion (λ b. AllByRecursion Known (bounds_on a b)) boxes
    all_known =
        let bounds = flat_map (bounds_on a) boxes in
        each_piece Known (bounds_on a) boxes (each_and _ Known known_of bounds (each_unfiltered (is_inner leasts side) Listed bounds all_listed.1.1))

    abbrev At : Form × Form → Type 0
    At g = is_between (λ f. value f sizes) v g ≡ true

    module _ (g : Form × Form) (at : is_between (λ f. value f sizes) v g ≡ true) where
      low_at : value g.0 sizes ≤ℤ v
      low_at = true_le (value g.0 sizes) v (and_parts (int_le (value g.0 sizes) v) (int_lt v (value g.1 sizes)) at).0

      high_at : v <ℤ value g.1 sizes
      high_at = true_lt v (value g.1 sizes) (and_parts (int_le (value g.0 sizes) v) (int_lt v (value g.1 sizes)) at).1

      -- so it stands beside a gap that holds the value
      beside_known : (zero_beside : Beside (le leasts) (le-trans leasts) Cuts.zero g) (side_beside : Beside (le leasts) (le-trans leasts) side g) → (f : Form) → (Listed f → Beside (le leasts) (le-trans leasts) f g) → Known f → Beside (le leasts) (le-trans leasts) f g
      unfolding Known
      beside_known (inl z) sb f by_list (inl (inl h)) = inl (le-trans leasts f Cuts.zero g.0 h z)
      beside_known (inr z) sb f by_list (inl (inl h)) = absurd (omega (arith, ints, sound g.1 Cuts.zero z, zero_value sizes, high_at))
      beside_known zb (inr s) f by_list (inl (inr h)) = inr (le-trans leasts g.1 side f s h)
      beside_known zb (inl s) f by_list (inl (inr h)) = absurd (omega (arith, ints, sound side g.0 s, low_at))
      beside_known zb sb f by_list (inr h) = by_list h

      -- a box holds the gap exactly where it holds the value
      module _ (beside_each : (f : Form) → Known f → Beside (le leasts) (le-trans leasts) f g) where
        lower_each : (f : Form) → Known f → le leasts f g.0 ≡ int_le (value f sizes) v
        lower_each f k = lower_test (le leasts) (λ f. value f sizes) sound v (le-trans leasts) g at f (beside_each f k)

        upper_each : (f : Form) → Known f → le leasts g.1 f ≡ int_lt v (value f sizes)
        upper_each f k = upper_test (le leasts) (λ f. value f sizes) sound v (le-trans leasts) g at f (beside_each f k)

        box_at : (b : Bounds) → AllByRecursion Known (bounds_on a b) → holds_on leasts a g b ≡ is_on sizes a v b
        box_at b k =
            let parts = each_part Known (lower a b) (upper a b) k in
            ap (λ t. t && list_all (λ f. le leasts g.1 f) (upper a b)) (same_all _ _ (lower a b) (each_and Known _ lower_each (lower a b) parts.0))
            ∙ ap (λ t. list_all (λ f. int_le (value f sizes) v) (lower a b) && t) (same_all _ _ (upper a b) (each_and Known _ upper_each (upper a b) parts.1))

        boxes_at : AllByRecursion (λ b. holds_on leasts a g b ≡ is_on sizes a v b) boxes
        boxes_at = each_and (λ b. AllByRecursion Known (bounds_on a b)) _ box_at boxes all_known

    -- each gap that holds the value is held by the boxes that hold the value
    abbrev pub AtGap : Form × Form → Type 0
    AtGap g = is_between (λ f. value f sizes) v g ≡ true → AllByRecursion (λ b. holds_on leasts a g b ≡ is_on sizes a v b) boxes

    beside_listed : (f : Form) → Listed f → All (Beside (le leasts) (le-trans leasts) f) (neighbours (in_order (le leasts) (cuts leasts a side boxes)))
    beside_listed f h = each_at _ _ (beside (le leasts) (le-trans leasts) f _ rising h)

    pub gaps_at : AllByRecursion AtGap (neighbours (in_order (le leasts) (cuts leasts a side boxes)))
    gaps_at = each_from AtGap _ (λ k d below at. boxes_at _ at (λ f. beside_known _ at (beside_listed Cuts.zero all_listed.0 k d below) (beside_listed side all_listed.1.0 k d below) f (λ h. beside_listed f h k d below)))

-- ---- both axes
module _ (sizes : List ℕ) (x y : ℤ) where
  abbrev on_x : Form × Form → Bool
  on_x = is_between (λ f. value f sizes) x

  abbrev on_y : Form × Form → Bool
  on_y = is_between (λ f. value f sizes) y

  module _ (seg : SymBox → SegmentValue) (areas_kept : (s : SymBox) → (seg s).area ≡ s) where
    at_area : (gx gy : Form × Form) → is_at sizes x y (seg (area_of gx gy)) ≡ (on_x gx && on_y gy)
    at_area gx gy = ap (λ (s : SymBox). (int_le (value s.x0 sizes) x && int_lt x (value s.x1 sizes)) && (int_le (value s.y0 sizes) y && int_lt y (value s.y1 sizes))) (areas_kept (area_of gx gy))

    count_step : (b c : Bool) (s : SegmentValue) (l : List SegmentValue) (m : List (Form × Form)) (gx : Form × Form) → is_at sizes x y s ≡ (b && c) → length l ≡ cond c (length m) 0 → length (cond (is_at sizes x y s) (s ∷ l) l) ≡ cond c (length (cond b (gx ∷ m) m)) 0
    count_step true true s l m gx e h = rw e (ap suc h)
    count_step true false s l m gx e h = rw e h
    count_step false true s l m gx e h = rw e h
    count_step false false s l m gx e h = rw e h

    count_row : (gy : Form × Form) (nx : List (Form × Form)) → length (filter (is_at sizes x y) (map seg (map (λ gx. area_of gx gy) nx))) ≡ cond (on_y gy) (length (filter on_x nx)) 0
    count_row gy [] = none (on_y gy)
      where
        none : (b : Bool) → ◌≡◌ {A = ℕ} 0 (cond b 0 0)
        none true = refl
        none false = refl
    count_row gy (gx ∷ nx) = count_step (on_x gx) (on_y gy) (seg (area_of gx gy)) _ (filter on_x nx) gx (at_area gx gy) (count_row gy nx)

    count_add : (b : Bool) (m n : ℕ) (gy : Form × Form) (k : List (Form × Form)) → n ≡ length k * m → cond b m 0 + n ≡ length (cond b (gy ∷ k) k) * m
    count_add true m n gy k h = omega (arith, h)
    count_add false m n gy k h = omega (arith, h)

    count_all : (nx ny : List (Form × Form)) → length (filter (is_at sizes x y) (map seg (flat_map (λ gy. map (λ gx. area_of gx gy) nx) ny))) ≡ length (filter on_y ny) * length (filter on_x nx)
    count_all nx [] = omega arith
    count_all nx (gy ∷ ny) =
        let row = map (λ gx. area_of gx gy) nx in
        let rest = flat_map (λ gy. map (λ gx. area_of gx gy) nx) ny in
        ap (λ l. length (filter (is_at sizes x y) l)) (map-append seg row rest)
        ∙ ap length (filter-append (is_at sizes x y) (map seg row) (map seg rest))
        ∙ length-append (filter (is_at sizes x y) (map seg row)) (filter (is_at sizes x y) (map seg rest))
        ∙ ap (λ n. n + length (filter (is_at sizes x y) (map seg rest))) (count_row gy nx)
        ∙ count_add (on_y gy) (length (filter on_x nx)) _ gy (filter on_y ny) (count_all nx ny)

-- ---- the laws
module _ (m : Matrix) (ss : List SegmentValue) (grid : IsGrid m ss) (sizes : List ℕ) (range : InRange m.leasts sizes) (x y : ℤ) (low_x : pos 0 ≤ℤ x) (high_x : x <ℤ value m.width sizes) (low_y : pos 0 ≤ℤ y) (high_y : y <ℤ value m.height sizes) where
  abbrev nx : List (Form × Form)
  nx = neighbours (in_order (le m.leasts) (cuts_x m))

  abbrev ny : List (Form × Form)
  ny = neighbours (in_order (le m.leasts) (cuts_y m))

  pub one_segment : length (filter (is_at sizes x y) ss) ≡ 1
  one_segment =
      ap (λ l. length (filter (is_at sizes x y) l)) grid.segments
      ∙ count_all sizes x y (segment_of m.leasts m.boxes) (λ s. refl) nx ny
      ∙ ap (λ n. n * length (filter (on_x sizes x y) nx)) (one_at m.leasts sizes range axis.Y m.height m.boxes y low_y high_y grid.cut.straight.on_y)
      ∙ ap (λ n. 1 * n) (one_at m.leasts sizes range axis.X m.width m.boxes x low_x high_x grid.cut.straight.on_x)

  -- the rules of a segment are those of the place
  abbrev RulesAt : SegmentValue → Type 0
  RulesAt s = is_at sizes x y s ≡ true → s.rules ≡ best (holders_at sizes x y m.boxes)

  area_rules : (gx gy : Form × Form) → AtGap m.leasts sizes range axis.X m.width m.boxes x low_x high_x grid.cut.straight.on_x gx → AtGap m.leasts sizes range axis.Y m.height m.boxes y low_y high_y grid.cut.straight.on_y gy → RulesAt (segment_of m.leasts m.boxes (area_of gx gy))
  area_rules gx gy hx hy at =
      let parts = and_parts (on_x sizes x y gx) (on_y sizes x y gy) at in
      ap (λ bs. best (map holder_of bs)) (same_filter (holds m.leasts (area_of gx gy)) (is_in sizes x y) m.boxes (each_both m.boxes (hx parts.0) (hy parts.1)))
    where
      each_both : (bs : List Bounds) → AllByRecursion (λ b. holds_on m.leasts axis.X gx b ≡ is_on sizes axis.X x b) bs → AllByRecursion (λ b. holds_on m.leasts axis.Y gy b ≡ is_on sizes axis.Y y b) bs → AllByRecursion (λ b. holds m.leasts (area_of gx gy) b ≡ is_in sizes x y b) bs
      each_both [] h k = tt
      each_both (b ∷ bs) h k = (ap (λ t. t && holds_on m.leasts axis.Y gy b) h.0 ∙ ap (λ t. is_on sizes axis.X x b && t) k.0, each_both bs h.1 k.1)

  pub rules_at : All (λ s. is_at sizes x y s ≡ true → s.rules ≡ best (holders_at sizes x y m.boxes)) ss
  rules_at =
      let hx = gaps_at m.leasts sizes range axis.X m.width m.boxes x low_x high_x grid.cut.straight.on_x in
      let hy = gaps_at m.leasts sizes range axis.Y m.height m.boxes y low_y high_y grid.cut.straight.on_y in
      subst (All RulesAt) (sym grid.segments) (each_at RulesAt _ (each_mapped RulesAt (segment_of m.leasts m.boxes) (areas_of m)
      (each_flat _ (λ gy. map (λ gx. area_of gx gy) nx) ny (each_and _ _ (λ gy ky. each_mapped _ (λ gx. area_of gx gy) nx (each_and _ _ (λ gx kx. area_rules gx gy kx ky) nx hx)) ny hy))))
