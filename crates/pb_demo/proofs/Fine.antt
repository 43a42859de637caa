-- What is computed of a transform, and what it says of bounds, segments and their order.
use Rattle.std.proofs.Common.{◌≡◌, refl, sym, ◌∙◌, ap, subst, ℕ, zero, suc, ◌≤◌, Bool, true, false, ◌&&◌, ◌||◌, ◌==◌, ◌⊎◌, inl, inr, List, [], ◌∷◌, length, map, get_or, slice_get, pos, negsuc, Some, arith}
use Rattle.std.specs.Prelude.{nat_lt}
use Rattle.std.specs.List.{Contains, list_all}
use Rattle.std.proofs.lemmas.Int.{ints}
use Rattle.pb_base.proofs.ListLemmas.{in_map}
use Rattle.pb_linear.specs.Form.{numbers, value}
use Rattle.pb_linear.specs.Numbers.{exact_value, multiple}
use Rattle.pb_linear.specs.Sizes.{leasts_of}
use Rattle.pb_linear.specs.declared.boxes.ReadBox.{ReadBox}
use Rattle.pb_linear.specs.declared.boxes.Sign.TheVariants.{Plus}
use Rattle.pb_linear.specs.declared.boxes.Step.{Step}
use Rattle.pb_linear.specs.declared.vform.SymBox.{SymBox}
use Rattle.pb_linear.proofs.SizesLemmas.{le_everywhere-at, le_everywhere-from, le_everywhere-refl}
use Rattle.pb_syntax.specs.declared.refusal.Refusal.{Refusal}
use Rattle.pb_program.specs.declared.view.Read.{Read}
use Rattle.pb_program.specs.Forms.{CoordinateValue, DeclValue, coordinate_at}
use Rattle.pb_program.specs.Trees.{ProgTransform}
use Rattle.pb_region.specs.Boxes.{box_of}
use Rattle.pb_region.specs.Dims.{AreSides, HasNoNegative, sides}
use Rattle.pb_region.specs.Ends.{Ends, ends_of}
use Rattle.pb_region.specs.Overlaps.{HasNoOverlap, are_apart, are_separate, is_before, overlap_at}
use Rattle.pb_region.specs.Reads.{ReadValue, read_value}
use Rattle.pb_graph.specs.Edges.{fits, step}
use Rattle.pb_graph.specs.Expressions.{holds, minus, of_vform, own, worst}
use Rattle.pb_graph.specs.Layerings.{one}
use Rattle.pb_check.specs.Cuts.{HasCut}
use Rattle.pb_check.specs.Orders.{HasNoOrder, made_reads}
use Rattle.pb_demo.proofs.Everywhere.{Far, is_low, low_is, never_negative}
use Rattle.pb_demo.proofs.Grids.{all_true, bounds_of, boxes_by, boxes_same, form_of, grid_is, is_cut, low_test}

-- ---- outputs that don't overlap
and_false : (b : Bool) → (b && false) ≡ false
and_false true = refl
and_false false = refl

or_true : (b : Bool) → (b || true) ≡ true
or_true true = refl
or_true false = refl

module _ (ls : List ℕ) (ms : List DeclValue) where
  pub one_out : (outs : List Read) → length outs ≡ 1 → HasNoOverlap ls ms outs
  unfolding overlap_at
  one_out [] e i j = absurd (omega (arith, e))
  one_out (p ∷ q ∷ outs) e i j = absurd (omega (arith, e))
  one_out (p ∷ []) e zero zero = refl
  one_out (p ∷ []) e zero (suc j) = and_false (nat_lt zero (suc j))
  one_out (p ∷ []) e (suc i) j = and_false (nat_lt (suc i) j)

  -- the first ends on an axis where the second begins
  abbrev pub Meet : List Read → Type 0
  Meet (p ∷ q ∷ []) = ((ends_of ms p).x.high ≡ (ends_of ms q).x.low) ⊎ ((ends_of ms p).y.high ≡ (ends_of ms q).y.low)
  Meet _ = ⊥

  before_same : (a b : CoordinateValue) → a ≡ b → is_before ls a b ≡ true
  unfolding is_before
  before_same a b e = subst (λ c. is_before ls a c ≡ true) e (le_everywhere-refl ls (λ s. coordinate_at a s (pos 0) (pos 0)))

  separate : (a b : Ends) → (a.x.high ≡ b.x.low) ⊎ (a.y.high ≡ b.y.low) → are_separate ls a b ≡ true
  separate a b (inl e) = rw (before_same a.x.high b.x.low e) refl
  separate a b (inr e) = rw (before_same a.y.high b.y.low e) (or_true (are_apart ls a.x b.x))

  pub two_outs : (outs : List Read) → Meet outs → HasNoOverlap ls ms outs
  unfolding overlap_at
  two_outs [] m i j = absurd m
  two_outs (p ∷ []) m i j = absurd m
  two_outs (p ∷ q ∷ r ∷ outs) m i j = absurd m
  two_outs (p ∷ q ∷ []) m zero zero = refl
  two_outs (p ∷ q ∷ []) m zero (suc zero) = rw (separate (ends_of ms p) (ends_of ms q) m) (and_false (p.matrix == q.matrix))
  two_outs (p ∷ q ∷ []) m zero (suc (suc j)) = and_false (nat_lt zero (suc (suc j)))
  two_outs (p ∷ q ∷ []) m (suc zero) zero = refl
  two_outs (p ∷ q ∷ []) m (suc zero) (suc zero) = refl
  two_outs (p ∷ q ∷ []) m (suc zero) (suc (suc j)) = and_false (nat_lt (suc zero) (suc (suc j)))
  two_outs (p ∷ q ∷ []) m (suc (suc i)) j = and_false (nat_lt (suc (suc i)) j)

-- ---- a transform
module _ (t : ProgTransform) (few : length (leasts_of t.ranges) ≤ 8) (far : Far (leasts_of t.ranges)) where
  abbrev pub ls_of : List ℕ
  ls_of = leasts_of t.ranges

  -- its sides
  abbrev pub sides_low : Bool
  sides_low = list_all (λ (d : DeclValue). list_all (λ n. is_low ls_of (multiple (negsuc 0) n)) (sides d)) t.matrices

  pub are_sides : sides_low ≡ true → AreSides t
  are_sides e = record {
    each = all_true (λ (d : DeclValue). list_all (λ n. is_low ls_of (multiple (negsuc 0) n)) (sides d)) (HasNoNegative ls_of)
        (λ d q. record { sides = all_true (λ n. is_low ls_of (multiple (negsuc 0) n)) _ (λ n p. never_negative ls_of few far n p) (sides d) q }) t.matrices e;
  }

  -- its cuts
  pub cut_of : (number : ℕ) (d : DeclValue) → slice_get t.matrices number ≡ Some d → map box_of (map bounds_of (boxes_by (is_low ls_of) t number)) ≡ boxes_by (is_low ls_of) t number
      → numbers (form_of d.w) ≡ d.w → numbers (form_of d.h) ≡ d.h → is_cut (low_test ls_of) (map bounds_of (boxes_by (is_low ls_of) t number)) (form_of d.w) (form_of d.h) ≡ true → HasCut t number
  cut_of number d there boxes width height cut = record {
    segments = _;
    cut = record {
      matrix = record { leasts = ls_of; boxes = map bounds_of (boxes_by (is_low ls_of) t number); width = form_of d.w; height = form_of d.h };
      is = record { decl = d; there = there; leasts = refl; boxes = boxes ∙ sym (boxes_same t few far number); width = width; height = height };
      grid = grid_is ls_of few far (map bounds_of (boxes_by (is_low ls_of) t number)) (form_of d.w) (form_of d.h) cut;
    };
  }

-- ---- the order of its segments
none_contained : {A : Type 0} (xs : List A) (x : A) → xs ≡ [] → Contains xs x → ⊥
none_contained xs x e c = absurd (omega (arith, c.1, ap length e))

module _ (t : ProgTransform) (place : ℕ) (e : Refusal) (bad : HasNoOrder t place e) where
  declared : (r : ReadBox) → Contains bad.choices.reads r → Contains (made_reads t) (read_value r)
  declared r c = subst (λ l. Contains l (read_value r)) bad.are.reads (in_map read_value bad.choices.reads r c)

  -- where the rules read no matrix that rules make
  pub no_reads : made_reads t ≡ [] → ⊥
  no_reads none = bad.unordered.no_order (
    λ n. 0,
    λ n. [],
    record {
      shared = λ u v j. refl;
      lower = λ touch is. absurd (none_contained (made_reads t) (read_value touch.read) none (declared touch.read is.declared));
    },
  )

  -- where they read one thing, before the cell itself on the first axis
  module _ (few : length (leasts_of t.ranges) ≤ 8) (far : Far (leasts_of t.ranges)) (v : ReadValue) (only : made_reads t ≡ v ∷ []) (cell : v.wide ≡ false) (along_x : v.ends.x.high.x ≡ pos 1) (along_y : v.ends.x.high.y ≡ pos 0)
      (low : is_low (leasts_of t.ranges) v.ends.x.high.rest ≡ true) where
    abbrev steps : List Step
    steps = step 0 Plus ∷ []

    the_read : (r : ReadBox) → Contains (made_reads t) (read_value r) → read_value r ≡ v
    the_read r c = only_one (made_reads t) (read_value r) only c
      where
        only_one : (xs : List ReadValue) (y : ReadValue) → xs ≡ v ∷ [] → Contains xs y → y ≡ v
        only_one xs y e (zero, below, is) = sym is ∙ ap (λ l. get_or l 0 y) e
        only_one xs y e (suc k, below, is) = absurd (omega (arith, below, ap length e))

    fits_so : (area : SymBox) (r : ReadBox) → read_value r ≡ v → fits (leasts_of t.ranges) area r steps ≡ true
    unfolding holds
    fits_so area r e =
        le_everywhere-from (leasts_of t.ranges) (worst (minus (of_vform r.x1) (own 0)) area) (λ _. pos 0) (λ sizes range.
        let before = le_everywhere-at (leasts_of t.ranges) (exact_value v.ends.x.high.rest) (λ _. pos 0) (sym (low_is (leasts_of t.ranges) few far v.ends.x.high.rest) ∙ low) sizes range in
        let x : r.x1.x ≡ pos 1 = ap (λ (q : ReadValue). q.ends.x.high.x) e ∙ along_x in
        let y : r.x1.y ≡ pos 0 = ap (λ (q : ReadValue). q.ends.x.high.y) e ∙ along_y in
        let rest : value r.x1.rest sizes ≡ exact_value v.ends.x.high.rest sizes = ap (λ (q : ReadValue). exact_value q.ends.x.high.rest sizes) e in
        rw (x, y) (omega (arith, ints, before, rest)))

    pub one_read : ⊥
    one_read = bad.unordered.no_order (
      λ n. 0,
      λ n. steps,
      record {
        shared = λ u v j. refl;
        lower = λ touch is.
            let same = the_read touch.read (declared touch.read is.declared) in
            inr (
              refl,
              record {
                is_list = one (omega arith);
                cell = ap (λ (q : ReadValue). q.wide) same ∙ cell;
                reader = is.reader;
                has_reader = is.has_reader;
                fits = subst (λ l. fits l is.reader.area touch.read steps ≡ true) (sym bad.are.leasts) (fits_so is.reader.area touch.read same);
              },
            );
      },
    )
