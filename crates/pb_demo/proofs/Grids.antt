-- Matrices that are cut: their grids by a test that is computed.
use Rattle.std.proofs.Common.{◌≡◌, refl, sym, ◌∙◌, ap, ℕ, zero, suc, ◌≤◌, Bool, true, false, ◌&&◌, not, ◌==◌, List, [], ◌∷◌, ◌++◌, length, map, filter, Option, Some, None, arith}
use Rattle.std.specs.Prelude.{is_some}
use Rattle.std.specs.List.{All, AllByRecursion, enumerate_from, find, flat_map, list_all, list_any}
use Rattle.std.proofs.Math.Path.{fun_ext}
use Rattle.pb_syntax.proofs.TestLemmas.{and_parts}
use Rattle.pb_linear.specs.Form.{numbers}
use Rattle.pb_linear.specs.Limits.{is_number}
use Rattle.pb_linear.specs.Numbers.{Numbers, difference}
use Rattle.pb_linear.specs.RuleBox.{Bounds}
use Rattle.pb_linear.specs.Sizes.{leasts_of}
use Rattle.pb_linear.specs.declared.form.Form.{Form}
use Rattle.pb_linear.specs.declared.vform.SymBox.{SymBox}
use Rattle.pb_program.specs.declared.view.Read.{Read}
use Rattle.pb_program.specs.Trees.{ProgRule, ProgTransform}
use Rattle.pb_region.specs.Boxes.{BoxValue, gaps_of, is_free, is_wide, limits_of}
use Rattle.pb_region.specs.Ends.{ends_of}
use Rattle.pb_grid.specs.Cuts.{cuts, le, zero as zero_form}
use Rattle.pb_grid.specs.Crossings.{crossing}
use Rattle.pb_grid.specs.Grids.{IsGrid, Matrix, are_too_many, areas_of, cuts_x, cuts_y}
use Rattle.pb_grid.specs.Lists.{first_pair, firsts, in_order}
use Rattle.pb_grid.specs.Segments.{areas, holder_of, is_uncovered, segment_of}
use Rattle.pb_check.specs.Cuts.{boxes_on}
use Rattle.pb_demo.proofs.Everywhere.{Far, is_low, le_is, low_is}

-- ---- lists
pub all_of : {A : Type 0} (P : A → Type 0) (xs : List A) → AllByRecursion P xs → All P xs
all_of P [] h k d below = absurd (omega (arith, below))
all_of P (x ∷ xs) h zero d below = h.0
all_of P (x ∷ xs) h (suc k) d below = all_of P xs h.1 k d (omega (arith, below))

pub all_true : {A : Type 0} (f : A → Bool) (P : A → Type 0) → ((x : A) → f x ≡ true → P x) → (xs : List A) → list_all f xs ≡ true → All P xs
all_true f P each [] e k d below = absurd (omega (arith, below))
all_true f P each (x ∷ xs) e zero d below = each x (and_parts (f x) (list_all f xs) e).0
all_true f P each (x ∷ xs) e (suc k) d below = all_true f P each xs (and_parts (f x) (list_all f xs) e).1 k d (omega (arith, below))

-- ---- the grid by any test
abbrev pub Test : Type 0
Test = Form → Form → Bool

abbrev pub on_x : Bounds → List Form × List Form
on_x b = (b.lower_x, b.upper_x)

abbrev pub on_y : Bounds → List Form × List Form
on_y b = (b.lower_y, b.upper_y)

module _ (le : Test) where
  abbrev pub cuts_by : (Bounds → List Form × List Form) → Form → List Bounds → List Form
  cuts_by on side boxes = firsts (λ x y. le x y && le y x) (zero_form ∷ side ∷ filter (λ f. not (le f zero_form) && not (le side f)) (flat_map (λ b. (on b).0 ++ (on b).1) boxes))

  abbrev pub crossing_by : List Form → Option (Form × Form)
  crossing_by cuts = first_pair (λ a b. not (le a b) && not (le b a)) cuts

  abbrev pub holds_by : List Form × List Form → Form × Form → Bool
  holds_by ends gap = list_all (λ f. le f gap.0) ends.0 && list_all (λ f. le gap.1 f) ends.1

  abbrev pub uncovered_by : List Bounds → SymBox → Bool
  uncovered_by boxes s = list_all (λ h. h.guarded) (map holder_of (filter (λ b. holds_by (on_x b) (s.x0, s.x1) && holds_by (on_y b) (s.y0, s.y1)) boxes))

  abbrev pub areas_by : List Form → List Form → List SymBox
  areas_by xs ys = areas (in_order le xs) (in_order le ys)

abbrev pub low_test : List ℕ → Test
low_test ls a b = is_low ls (difference (numbers a) (numbers b))

-- what is computed of a matrix
abbrev pub is_cut : Test → List Bounds → Form → Form → Bool
is_cut le boxes width height =
    let xs = cuts_by le on_x width boxes in
    let ys = cuts_by le on_y height boxes in
    (not (is_some (crossing_by le xs)) && not (is_some (crossing_by le ys)))
    && (not (are_too_many (length xs) (length ys)) && not (is_some (find (uncovered_by le boxes) (areas_by le xs ys))))

module _ (ls : List ℕ) (few : length ls ≤ 8) (far : Far ls) where
  le_same : le ls ≡ low_test ls
  le_same = fun_ext (λ a. fun_ext (λ b. le_is ls few far a b))

  module _ (boxes : List Bounds) (width height : Form) where
    abbrev matrix : Matrix
    matrix = record { leasts = ls; boxes = boxes; width = width; height = height }

    x_same : cuts_x matrix ≡ cuts_by (low_test ls) on_x width boxes
    unfolding cuts
    x_same = ap (λ (f : Test). cuts_by f on_x width boxes) le_same

    y_same : cuts_y matrix ≡ cuts_by (low_test ls) on_y height boxes
    unfolding cuts
    y_same = ap (λ (f : Test). cuts_by f on_y height boxes) le_same

  crossing_same : (cuts : List Form) → crossing ls cuts ≡ crossing_by (low_test ls) cuts
  unfolding crossing
  crossing_same cuts = ap (λ (f : Test). crossing_by f cuts) le_same

  uncovered_same : (boxes : List Bounds) → is_uncovered ls boxes ≡ uncovered_by (low_test ls) boxes
  uncovered_same boxes = ap (λ (f : Test). uncovered_by f boxes) le_same

  areas_same : (xs ys : List Form) → areas (in_order (le ls) xs) (in_order (le ls) ys) ≡ areas_by (low_test ls) xs ys
  areas_same xs ys = ap (λ (f : Test). areas_by f xs ys) le_same

-- what is computed is so
no_some : {A : Type 0} (o : Option A) → not (is_some o) ≡ true → o ≡ None
no_some None e = refl
no_some (Some x) e = absurd (cc)

not_so : (b : Bool) → not b ≡ true → b ≡ false
not_so true e = absurd (cc)
not_so false e = refl

module _ (ls : List ℕ) (few : length ls ≤ 8) (far : Far ls) (boxes : List Bounds) (width height : Form) (cut : is_cut (low_test ls) boxes width height ≡ true) where
  abbrev xs : List Form
  xs = cuts_by (low_test ls) on_x width boxes

  abbrev ys : List Form
  ys = cuts_by (low_test ls) on_y height boxes

  pub grid_is : IsGrid (matrix ls few far boxes width height) (map (segment_of ls boxes) (areas_of (matrix ls few far boxes width height)))
  grid_is =
      let parts = and_parts (not (is_some (crossing_by (low_test ls) xs)) && not (is_some (crossing_by (low_test ls) ys)))
      (not (are_too_many (length xs) (length ys)) && not (is_some (find (uncovered_by (low_test ls) boxes) (areas_by (low_test ls) xs ys)))) cut in
      let m : Matrix = matrix ls few far boxes width height in
      let straight = and_parts (not (is_some (crossing_by (low_test ls) xs))) (not (is_some (crossing_by (low_test ls) ys))) parts.0 in
      let rest = and_parts (not (are_too_many (length xs) (length ys))) (not (is_some (find (uncovered_by (low_test ls) boxes) (areas_by (low_test ls) xs ys)))) parts.1 in
      let on_axis_x : cuts_x m ≡ xs = x_same ls few far boxes width height in
      let on_axis_y : cuts_y m ≡ ys = y_same ls few far boxes width height in
      record {
        cut = record {
          straight = record {
            on_x = ap (crossing ls) on_axis_x ∙ crossing_same ls few far xs ∙ no_some _ straight.0;
            on_y = ap (crossing ls) on_axis_y ∙ crossing_same ls few far ys ∙ no_some _ straight.1;
          };
          few = rw (on_axis_x, on_axis_y) (not_so _ rest.0);
        };
        covered = ap (λ test. find test (areas_of m)) (uncovered_same ls few far boxes)
            ∙ ap (find (uncovered_by (low_test ls) boxes)) (ap (λ l. areas (in_order (le ls) l) (in_order (le ls) (cuts_y m))) on_axis_x ∙ ap (λ l. areas (in_order (le ls) xs) (in_order (le ls) l)) on_axis_y ∙ areas_same ls few far xs ys)
            ∙ no_some _ rest.1;
        segments = refl;
      }

-- ---- the boxes on a matrix
module _ (low : Numbers → Bool) (t : ProgTransform) where
  abbrev pub box_by : ℕ → ProgRule → Read → BoxValue
  box_by number r out = record {
    rule = number;
    priority = r.priority;
    guarded = list_any (λ g. is_free g && not (low g.rest)) (gaps_of t.matrices r);
    wide = is_wide r.kind;
    limits = limits_of r.kind (gaps_of t.matrices r) (ends_of t.matrices out);
  }

  abbrev pub boxes_by : ℕ → List BoxValue
  boxes_by matrix = flat_map (λ r. map (box_by r.0 r.1) (filter (λ o. o.matrix == matrix) r.1.outs)) (enumerate_from 0 t.rules)

pub boxes_same : (t : ProgTransform) → length (leasts_of t.ranges) ≤ 8 → Far (leasts_of t.ranges) → (number : ℕ) → boxes_on t number ≡ boxes_by (is_low (leasts_of t.ranges)) t number
boxes_same t few far number = ap (λ (f : Numbers → Bool). boxes_by f t number) (fun_ext (λ n. sym (low_is (leasts_of t.ranges) few far n)))

-- a form of numbers that are small, and of others the form 0
abbrev pub form_if : (n : Numbers) (a b c d e : Bool) → is_number n.constant ≡ a → list_all is_number n.whole ≡ b → list_all is_number n.half ≡ c → list_all is_number n.third ≡ d → list_all is_number n.quarter ≡ e → Form
form_if n true true true true true p q r s u = record {
  constant = n.constant;
  whole = n.whole;
  half = n.half;
  third = n.third;
  quarter = n.quarter;
  small_constant = p;
  small_whole = q;
  small_half = r;
  small_third = s;
  small_quarter = u;
}
form_if n a b c d e p q r s u = zero_form

abbrev pub form_of : Numbers → Form
form_of n = form_if n _ _ _ _ _ refl refl refl refl refl

abbrev pub bounds_of : BoxValue → Bounds
bounds_of b = record {
  rule = b.rule;
  priority = b.priority;
  guarded = b.guarded;
  wide = b.wide;
  lower_x = map form_of b.limits.lower_x;
  upper_x = map form_of b.limits.upper_x;
  lower_y = map form_of b.limits.lower_y;
  upper_y = map form_of b.limits.upper_y;
}
