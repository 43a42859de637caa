-- How great the numbers of the bounds of a box are.
use Rattle.std.proofs.Common.{◌≡◌, refl, subst, ℕ, zero, suc, ◌+◌, ◌^◌, ◌≤◌, ◌<◌, List, [], ◌∷◌, ◌++◌, map, length, get_or, Bool, true, false, Option, Some, None, slice_get, ℤ, pos, negsuc, ◌+ℤ◌, ◌*ℤ◌, unsigned_abs, arith}
use Rattle.std.specs.Prelude.{◌==◌, IfSome, if◌then◌else◌}
use Rattle.std.specs.List.{AllByRecursion, Contains, cons_option, flat_map, list_all}
use Rattle.std.specs.Ordering.{int_eq}
use Rattle.std.proofs.lemmas.Bool.{and_parts, le-leb, leb-true}
use Rattle.std.proofs.lemmas.Int.{ints}
use Rattle.pb_linear.specs.Numbers.{Numbers, row_multiple, row_sum}
use Rattle.pb_syntax.specs.declared.tree.expression.Relation.{Relation}
use Rattle.pb_syntax.specs.declared.tree.expression.Relation.TheVariants as relation
use Rattle.pb_program.specs.declared.rule.RuleKind.{RuleKind}
use Rattle.pb_program.specs.declared.rule.RuleKind.TheVariants as kind
use Rattle.pb_program.specs.declared.view.Cond.{Cond}
use Rattle.pb_program.specs.declared.view.Read.{Read}
use Rattle.pb_program.specs.declared.view.ReadView.{ReadView}
use Rattle.pb_program.specs.declared.view.ReadView.TheVariants as view
use Rattle.pb_program.specs.Conditions.{Condition, by_relation, by_view, cell_conditions, conditions, in_matrix, region_conditions, view_conditions, written}
use Rattle.pb_program.specs.Forms.{CoordinateValue, DeclValue, nothing}
use Rattle.pb_program.specs.Trees.{ProgRule}
use Rattle.pb_program.specs.WellFormed.{IsCondition, IsDecl, IsForm, IsRule, IsView, is_small, variables}
use Rattle.pb_region.specs.declared.bounds.Axis.{Axis}
use Rattle.pb_region.specs.declared.bounds.Axis.TheVariants as axis
use Rattle.pb_region.specs.declared.bounds.Side.{Side}
use Rattle.pb_region.specs.declared.bounds.Side.TheVariants as side
use Rattle.pb_region.specs.Boxes.{bound, bounds, box, coefficient, from_one, gaps_of, limits_of}
use Rattle.pb_region.specs.Ends.{Ends, Interval, between, ends_by, ends_in, ends_of, from_start, one_place}
use Rattle.pb_region.specs.Gaps.{gap, raised}
use Rattle.pb_region.specs.Small.{AreSmallLimits, IsSmallBound, is_bound_number}
use Rattle.pb_region.proofs.SmallLemmas.{at_place}

-- ---- lists
all_join : {A : Type 0} (P : A → Type 0) (xs ys : List A) → AllByRecursion P xs → AllByRecursion P ys → AllByRecursion P (xs ++ ys)
all_join P [] ys h k = k
all_join P (x ∷ xs) ys h k = (h.0, all_join P xs ys h.1 k)

all_flat : {A B : Type 0} (P : A → Type 0) (Q : B → Type 0) (f : A → List B) → ((x : A) → P x → AllByRecursion Q (f x)) → (xs : List A) → AllByRecursion P xs → AllByRecursion Q (flat_map f xs)
all_flat P Q f each [] h = tt
all_flat P Q f each (x ∷ xs) h = all_join Q (f x) (flat_map f xs) (each x h.0) (all_flat P Q f each xs h.1)

all_if : {A : Type 0} (P : A → Type 0) (b : Bool) (xs : List A) → AllByRecursion P xs → AllByRecursion P (if b then [] else xs)
all_if P true xs h = tt
all_if P false xs h = h

in_of : {A : Type 0} (P : A → Type 0) (xs : List A) (x : A) (k : ℕ) → AllByRecursion P xs → k < length xs → get_or xs k x ≡ x → P x
in_of P [] x k h below is = absurd (omega arith)
in_of P (y ∷ xs) x zero h below is = subst P is h.0
in_of P (y ∷ xs) x (suc k) h below is = in_of P xs x k h.1 (omega arith) is

-- ---- numbers
pub all_numbers : (p q : ℤ → Bool) → ((z : ℤ) → p z ≡ true → q z ≡ true) → (xs : List ℤ) → list_all p xs ≡ true → list_all q xs ≡ true
all_numbers p q each [] h = refl
all_numbers p q each (x ∷ xs) h = let parts = and_parts (p x) (list_all p xs) h in rw (each x parts.0, all_numbers p q each xs parts.1) refl

bound_is : (z : ℤ) → unsigned_abs z ≤ 2 ^ 24 + 2 → is_bound_number z ≡ true
bound_is z h = le-leb _ _ h

small_bound : (z : ℤ) → is_small z ≡ true → is_bound_number z ≡ true
small_bound z h = bound_is z (omega (arith, leb-true _ _ h))

small_row : (xs : List ℤ) → list_all is_small xs ≡ true → list_all is_bound_number xs ≡ true
small_row = all_numbers is_small is_bound_number small_bound

negative_bound : (z : ℤ) → is_bound_number z ≡ true → is_bound_number (negsuc 0 *ℤ z) ≡ true
negative_bound z h = bound_is (negsuc 0 *ℤ z) (omega (arith, ints, leb-true _ _ h))

negative_row : (xs : List ℤ) → list_all is_bound_number xs ≡ true → list_all is_bound_number (row_multiple (negsuc 0) xs) ≡ true
negative_row [] h = refl
negative_row (x ∷ xs) h = let parts = and_parts (is_bound_number x) (list_all is_bound_number xs) h in rw (negative_bound x parts.0, negative_row xs parts.1) refl

difference_bound : (a b : ℤ) → is_small a ≡ true → is_small b ≡ true → is_bound_number (a +ℤ negsuc 0 *ℤ b) ≡ true
difference_bound a b h k = bound_is (a +ℤ negsuc 0 *ℤ b) (omega (arith, ints, leb-true _ _ h, leb-true _ _ k))

difference_row : (xs ys : List ℤ) → list_all is_small xs ≡ true → list_all is_small ys ≡ true → list_all is_bound_number (row_sum xs (row_multiple (negsuc 0) ys)) ≡ true
difference_row [] ys h k = negative_row ys (small_row ys k)
difference_row (x ∷ xs) [] h k = small_row (x ∷ xs) h
difference_row (x ∷ xs) (y ∷ ys) h k =
    let left = and_parts (is_small x) (list_all is_small xs) h in
    let right = and_parts (is_small y) (list_all is_small ys) k in
    rw (difference_bound x y left.0 right.0, difference_row xs ys left.1 right.1) refl

-- ---- forms: those of a program, and those of conditions with their terms collected
pub record Small (n : Numbers) : Type 0 where
  constant : is_small n.constant ≡ true
  whole : list_all is_small n.whole ≡ true
  half : list_all is_small n.half ≡ true
  third : list_all is_small n.third ≡ true
  quarter : list_all is_small n.quarter ≡ true

record Collected (n : Numbers) : Type 0 where
  constant : unsigned_abs n.constant ≤ 2 ^ 24 + 1
  whole : list_all is_bound_number n.whole ≡ true
  half : list_all is_bound_number n.half ≡ true
  third : list_all is_bound_number n.third ≡ true
  quarter : list_all is_bound_number n.quarter ≡ true

pub small_form : (sizes : ℕ) (n : Numbers) → IsForm sizes n → Small n
small_form sizes n h = record { constant = h.constant; whole = h.whole.0; half = h.half.0; third = h.third.0; quarter = h.quarter.0 }

small_nothing : Small nothing.rest
small_nothing = record { constant = refl; whole = refl; half = refl; third = refl; quarter = refl }

-- a form of a program, and one more
pub bound_form : (n : Numbers) → Small n → IsSmallBound n
bound_form n h = record {
  constant = small_bound n.constant h.constant;
  whole = small_row n.whole h.whole;
  half = small_row n.half h.half;
  third = small_row n.third h.third;
  quarter = small_row n.quarter h.quarter;
}

bound_next : (n : Numbers) → Small n → IsSmallBound (raised (pos 1) n)
bound_next n h = record {
  constant = bound_is (n.constant +ℤ pos 1) (omega (arith, ints, leb-true _ _ h.constant));
  whole = small_row n.whole h.whole;
  half = small_row n.half h.half;
  third = small_row n.third h.third;
  quarter = small_row n.quarter h.quarter;
}

bound_collected : (n : Numbers) → Collected n → IsSmallBound n
bound_collected n h = record { constant = bound_is n.constant (omega (arith, h.constant)); whole = h.whole; half = h.half; third = h.third; quarter = h.quarter }

bound_from_one : (n : Numbers) → Collected n → IsSmallBound (from_one n)
bound_from_one n h = record {
  constant = bound_is (negsuc 0 *ℤ n.constant +ℤ pos 1) (omega (arith, ints, h.constant));
  whole = negative_row n.whole h.whole;
  half = negative_row n.half h.half;
  third = negative_row n.third h.third;
  quarter = negative_row n.quarter h.quarter;
}

-- ---- conditions
record IsSmallCondition (c : Condition) : Type 0 where
  left : Small c.left.rest
  more : c.more ≤ 1
  right : Small c.right.rest

constant_near : (a b : ℤ) (more : ℕ) → is_small a ≡ true → is_small b ≡ true → more ≤ 1 → unsigned_abs ((a +ℤ negsuc 0 *ℤ b) +ℤ pos more) ≤ 2 ^ 24 + 1
constant_near a b more h k m = omega (arith, ints, leb-true _ _ h, leb-true _ _ k)

collected : (c : Condition) → IsSmallCondition c → Collected (gap c).rest
unfolding gap
collected c h = record {
  constant = constant_near c.left.rest.constant c.right.rest.constant c.more h.left.constant h.right.constant h.more;
  whole = difference_row c.left.rest.whole c.right.rest.whole h.left.whole h.right.whole;
  half = difference_row c.left.rest.half c.right.rest.half h.left.half h.right.half;
  third = difference_row c.left.rest.third c.right.rest.third h.left.third h.right.third;
  quarter = difference_row c.left.rest.quarter c.right.rest.quarter h.left.quarter h.right.quarter;
}

abbrev AllSmall : List Condition → Type 0
AllSmall = AllByRecursion IsSmallCondition

cell_small : (e : CoordinateValue) (side : Numbers) → Small e.rest → Small side → AllSmall (cell_conditions e side)
cell_small e side he hs = (record { left = small_nothing; more = omega arith; right = he }, (record { left = he; more = omega arith; right = hs }, tt))

region_small : (a b : CoordinateValue) (side : Numbers) → Small a.rest → Small b.rest → Small side → AllSmall (region_conditions a b side)
region_small a b side ha hb hs =
    (record { left = small_nothing; more = omega arith; right = ha }, (record { left = ha; more = omega arith; right = hb }, (record { left = hb; more = omega arith; right = hs }, tt)))

record SmallView (r : Read) : Type 0 where
  x0 : Small r.x0.rest
  y0 : Small r.y0.rest
  x1 : Small r.x1.rest
  y1 : Small r.y1.rest

record SmallDecl (d : DeclValue) : Type 0 where
  w : Small d.w
  h : Small d.h

view_small : (v : ReadView) (r : Read) (d : DeclValue) → SmallView r → SmallDecl d → AllSmall (by_view v r d)
view_small view.Cell r d h k = all_join IsSmallCondition (cell_conditions r.x0 d.w) (if r.dims == 1 then [] else cell_conditions r.y0 d.h) (cell_small r.x0 d.w h.x0 k.w) (all_if IsSmallCondition (r.dims == 1) (cell_conditions r.y0 d.h) (cell_small r.y0 d.h h.y0 k.h))
view_small view.Row r d h k = cell_small r.y0 d.h h.y0 k.h
view_small view.Column r d h k = cell_small r.x0 d.w h.x0 k.w
view_small view.Region r d h k =
    all_join IsSmallCondition (region_conditions r.x0 r.x1 d.w) (if r.dims == 1 then [] else region_conditions r.y0 r.y1 d.h) (region_small r.x0 r.x1 d.w h.x0 h.x1 k.w)
    (all_if IsSmallCondition (r.dims == 1) (region_conditions r.y0 r.y1 d.h) (region_small r.y0 r.y1 d.h h.y0 h.y1 k.h))
view_small view.Whole r d h k = tt

relation_small : (k : Relation) (a b : CoordinateValue) → Small a.rest → Small b.rest → AllSmall (by_relation k a b)
relation_small relation.Less a b h k = (record { left = h; more = omega arith; right = k }, tt)
relation_small relation.LessOrEqual a b h k = (record { left = h; more = omega arith; right = k }, tt)
relation_small relation.Greater a b h k = (record { left = k; more = omega arith; right = h }, tt)
relation_small relation.GreaterOrEqual a b h k = (record { left = k; more = omega arith; right = h }, tt)
relation_small relation.Equal a b h k = (record { left = h; more = omega arith; right = k }, (record { left = k; more = omega arith; right = h }, tt))
relation_small relation.Unequal a b h k = tt

-- ---- bounds and ends
by_test : (b : Bool) (n : Numbers) → IsSmallBound n → IfSome (if b then Some n else None) IsSmallBound
by_test true n k = k
by_test false n k = tt

bound_by : (s : Side) (a : Axis) (g : CoordinateValue) → Collected g.rest → IfSome (bound s a g) IsSmallBound
bound_by side.Lower a g k = by_test (int_eq (coefficient a g) (negsuc 0)) g.rest (bound_collected g.rest k)
bound_by side.Upper a g k = by_test (int_eq (coefficient a g) (pos 1)) (from_one g.rest) (bound_from_one g.rest k)

with_bound : (o : Option Numbers) (ns : List Numbers) → IfSome o IsSmallBound → AllByRecursion IsSmallBound ns → AllByRecursion IsSmallBound (cons_option o ns)
with_bound None ns h k = k
with_bound (Some n) ns h k = (h, k)

bounds_small : (s : Side) (a : Axis) (gs : List CoordinateValue) → AllByRecursion (λ (g : CoordinateValue). Collected g.rest) gs → AllByRecursion IsSmallBound (bounds s a gs)
unfolding bounds
bounds_small s a [] h = tt
bounds_small s a (g ∷ gs) h = with_bound (bound s a g) (bounds s a gs) (bound_by s a g h.0) (bounds_small s a gs h.1)

pub record SmallEnds (e : Ends) : Type 0 where
  pub x0 : IsSmallBound e.x.low.rest
  pub x1 : IsSmallBound e.x.high.rest
  pub y0 : IsSmallBound e.y.low.rest
  pub y1 : IsSmallBound e.y.high.rest

record SmallInterval (i : Interval) : Type 0 where
  low : IsSmallBound i.low.rest
  high : IsSmallBound i.high.rest

one_small : (c : CoordinateValue) → Small c.rest → SmallInterval (one_place c)
one_small c h = record { low = bound_form c.rest h; high = bound_next c.rest h }

start_small : (n : Numbers) → Small n → SmallInterval (from_start n)
start_small n h = record { low = bound_form nothing.rest small_nothing; high = bound_form n h }

between_small : (a b : CoordinateValue) → Small a.rest → Small b.rest → SmallInterval (between a b)
between_small a b h k = record { low = bound_form a.rest h; high = bound_form b.rest k }

flat_small : (b : Bool) (i : Interval) → SmallInterval i → SmallInterval (if b then one_place nothing else i)
flat_small true i h = one_small nothing small_nothing
flat_small false i h = h

both_small : (x y : Interval) → SmallInterval x → SmallInterval y → SmallEnds (record { x = x; y = y })
both_small x y h k = record { x0 = h.low; x1 = h.high; y0 = k.low; y1 = k.high }

ends_small : (v : ReadView) (r : Read) (d : DeclValue) → SmallView r → SmallDecl d → SmallEnds (ends_by v r d)
ends_small view.Cell r d h k = both_small _ _ (one_small r.x0 h.x0) (flat_small (r.dims == 1) (one_place r.y0) (one_small r.y0 h.y0))
ends_small view.Row r d h k = both_small _ _ (start_small d.w k.w) (one_small r.y0 h.y0)
ends_small view.Column r d h k = both_small _ _ (one_small r.x0 h.x0) (start_small d.h k.h)
ends_small view.Region r d h k = both_small _ _ (between_small r.x0 r.x1 h.x0 h.x1) (flat_small (r.dims == 1) (between r.y0 r.y1) (between_small r.y0 r.y1 h.y0 h.y1))
ends_small view.Whole r d h k = both_small _ _ (start_small d.w k.w) (start_small d.h k.h)

module _ (sizes : ℕ) (ms : List DeclValue) (fit : AllByRecursion (IsDecl sizes) ms) where
  small_decl : (d : DeclValue) → IsDecl sizes d → SmallDecl d
  small_decl d h = record { w = small_form sizes d.w h.w; h = small_form sizes d.h h.h }

  small_view : (variables matrices : ℕ) (r : Read) → IsView sizes variables matrices r → SmallView r
  small_view variables matrices r h = record {
    x0 = small_form sizes r.x0.rest h.x0.rest;
    y0 = small_form sizes r.y0.rest h.y0.rest;
    x1 = small_form sizes r.x1.rest h.x1.rest;
    y1 = small_form sizes r.y1.rest h.y1.rest;
  }

  in_small : (r : Read) (o : Option DeclValue) → slice_get ms r.matrix ≡ o → SmallView r → AllSmall (in_matrix r o)
  in_small r None e h = tt
  in_small r (Some d) e h = view_small r.view r d h (small_decl d (at_place (IsDecl sizes) ms r.matrix d fit e))

  views_small : (variables matrices : ℕ) (r : Read) → IsView sizes variables matrices r → AllSmall (view_conditions ms r)
  views_small variables matrices r h = in_small r (slice_get ms r.matrix) refl (small_view variables matrices r h)

  cond_small : (variables : ℕ) (c : Cond) → IsCondition sizes variables c → AllSmall (written c)
  cond_small variables c h = relation_small c.relation c.left c.right (small_form sizes c.left.rest h.left.rest) (small_form sizes c.right.rest h.right.rest)

  module _ (inputs matrices transforms : ℕ) (r : ProgRule) (h : IsRule sizes inputs matrices transforms r) where
    rule_small : AllSmall (conditions ms r)
    rule_small =
        let outs = all_flat (IsView sizes (variables r.outs) matrices) IsSmallCondition (view_conditions ms) (views_small (variables r.outs) matrices) r.outs h.outs in
        let reads = all_flat (IsView sizes (variables r.outs) matrices) IsSmallCondition (view_conditions ms) (views_small (variables r.outs) matrices) r.reads h.reads in
        let conds = all_flat (IsCondition sizes (variables r.outs)) IsSmallCondition written (cond_small (variables r.outs)) r.conds h.conds in
        all_join IsSmallCondition (flat_map (view_conditions ms) r.outs ++ flat_map (view_conditions ms) r.reads) (flat_map written r.conds) (all_join IsSmallCondition (flat_map (view_conditions ms) r.outs) (flat_map (view_conditions ms) r.reads) outs reads) conds

    gaps_collected : (cs : List Condition) → AllSmall cs → AllByRecursion (λ (g : CoordinateValue). Collected g.rest) (map gap cs)
    gaps_collected [] a = tt
    gaps_collected (c ∷ cs) a = (collected c a.0, gaps_collected cs a.1)

    pub ends_small_by : (o : Option DeclValue) (out : Read) → slice_get ms out.matrix ≡ o → IsView sizes (variables r.outs) matrices out → SmallEnds (ends_in out o)
    ends_small_by None out e view = record { x0 = bound_form nothing.rest small_nothing; x1 = bound_form nothing.rest small_nothing; y0 = bound_form nothing.rest small_nothing; y1 = bound_form nothing.rest small_nothing }
    ends_small_by (Some d) out e view = ends_small out.view out d (small_view (variables r.outs) matrices out view) (small_decl d (at_place (IsDecl sizes) ms out.matrix d fit e))

    limits_small : (k : RuleKind) (e : Ends) → SmallEnds e → AreSmallLimits (limits_of k (gaps_of ms r) e)
    limits_small kind.Cell e h =
        let all = gaps_collected (conditions ms r) rule_small in
        record { lower_x = bounds_small side.Lower axis.X _ all; upper_x = bounds_small side.Upper axis.X _ all; lower_y = bounds_small side.Lower axis.Y _ all; upper_y = bounds_small side.Upper axis.Y _ all }
    limits_small kind.Wide e h = record { lower_x = (h.x0, tt); upper_x = (h.x1, tt); lower_y = (h.y0, tt); upper_y = (h.y1, tt) }
    limits_small kind.Plan e h = record { lower_x = (h.x0, tt); upper_x = (h.x1, tt); lower_y = (h.y0, tt); upper_y = (h.y1, tt) }

    pub small_limits : (leasts : List ℕ) (number : ℕ) (out : Read) → Contains r.outs out → AreSmallLimits (box leasts ms number r out).limits
    unfolding ends_of
    small_limits leasts number out c =
        limits_small r.kind (ends_of ms out) (ends_small_by (slice_get ms out.matrix) out refl (in_of (IsView sizes (variables r.outs) matrices) r.outs out c.0 h.outs c.1 c.2))
