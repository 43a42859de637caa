-- The outcomes of matrices that stand one after the other.
use Rattle.std.proofs.Common.{◌≡◌, ◌∙◌, refl, sym, ap, subst, ⊎_elim, ℕ, zero, suc, ◌+◌, ◌-◌, ◌*◌, ◌<◌, ◌≤◌, ℤ, pos, List, [], ◌∷◌, ◌++◌, length, map, drop, slice_get, Some, arith, length-append}
use Rattle.std.specs.Prelude.{filter, int_le, nat_lt, slice_index_or, true, unwrap_or}
use Rattle.std.specs.List.{flat_map, range_with_len}
use Rattle.std.proofs.lemmas.Bool.{cases_lt}
use Rattle.std.proofs.lemmas.Bool.Decides.{nat_tests}
use Rattle.std.proofs.lemmas.Int.{ints}
use Rattle.std.proofs.lemmas.List.{length-map}
use Rattle.std.proofs.lemmas.Option.{slice_get_within}
use Rattle.pb_linear.specs.Numbers.{exact_value}
use Rattle.pb_values.specs.declared.outcome.Outcome.{Outcome}
use Rattle.pb_values.specs.declared.view.View.{View}
use Rattle.pb_program.specs.Areas.{from_start}
use Rattle.pb_program.specs.Configs.{ConfigValue}
use Rattle.pb_program.specs.Forms.{DeclValue}
use Rattle.pb_program.specs.Trees.{ProgTransform}
use Rattle.pb_model.specs.Calls.{Outcomes, Plans, call_of, in_matrices, made_from, made_matrix, matrix_cells, no_outcome, outcome_in}
use Rattle.pb_model.specs.Cells.{Cell, cells_of, natural, numbers_of}
use Rattle.pb_model.specs.Grids.{at_place, no_grid}
use Rattle.pb_frame.specs.Handed.{AreGiven, HasSides}
use Rattle.pb_check.proofs.FirstLemmas.{some_at, some_same}
use Rattle.pb_plan.proofs.FlatLemmas.{flat_at, start}
use Rattle.pb_taskgraph.specs.Plans.{outcome_at}
use Rattle.pb_views.specs.Layouts.{AreInARow, area_at, cell_count, shape_of}
use Rattle.pb_views.specs.Windows.{number_in}
use Rattle.pb_plan.proofs.NumberLemmas.{IsNumbered, before, number_is, row_below}
use Rattle.pb_solution.specs.Solutions.{all_matrices, outcomes_of}

pub index_at : {A : Type 0} (xs : List A) (k : ℕ) (x d : A) → slice_get xs k ≡ Some x → slice_index_or xs k d ≡ x
index_at [] k x d e = absurd (cc)
index_at (y ∷ xs) zero x d e = some_same y x e
index_at (y ∷ xs) (suc k) x d e = index_at xs k x d e

pub get_left : {A : Type 0} (xs ys : List A) (i : ℕ) → i < length xs → slice_get (xs ++ ys) i ≡ slice_get xs i
get_left [] ys i below = absurd (omega (arith, below))
get_left (x ∷ xs) ys zero below = refl
get_left (x ∷ xs) ys (suc i) below = get_left xs ys i (omega (arith, below))

pub get_right : {A : Type 0} (xs ys : List A) (i : ℕ) → slice_get (xs ++ ys) (length xs + i) ≡ slice_get ys i
get_right [] ys i = let e : 0 + i ≡ i = omega arith in ap (slice_get ys) e
get_right (x ∷ xs) ys i = let e : suc (length xs) + i ≡ suc (length xs + i) = omega arith in ap (slice_get (x ∷ (xs ++ ys))) e ∙ get_right xs ys i

-- ---- matrices with the sides of their declarations
module _ (sizes : List ℕ) where
  pub record AreSided (ds : List DeclValue) (ms : List Outcomes) : Type 0 where
    pub count : length ms ≡ length ds
    pub each : (m : ℕ) (d : DeclValue) (g : Outcomes) → slice_get ds m ≡ Some d → slice_get ms m ≡ Some g → HasSides sizes d g

  rest_sided : (d : DeclValue) (ds : List DeclValue) (g : Outcomes) (ms : List Outcomes) → AreSided (d ∷ ds) (g ∷ ms) → AreSided ds ms
  rest_sided d ds g ms h = record { count = omega (arith, h.count); each = λ m e k at there. h.each (suc m) e k at there }

  area_is : (d : DeclValue) (g : Outcomes) → HasSides sizes d g → length g.cells ≡ area_at sizes d
  area_is d g s = s.all ∙ (λ i. s.width i * s.height i)

  -- how many outcomes there are
  pub count_is : (ds : List DeclValue) (ms : List Outcomes) → AreSided ds ms → length (outcomes_of ms) ≡ cell_count sizes ds
  unfolding outcomes_of
  count_is [] [] h = refl
  count_is [] (g ∷ ms) h = absurd (omega (arith, h.count))
  count_is (d ∷ ds) [] h = absurd (omega (arith, h.count))
  count_is (d ∷ ds) (g ∷ ms) h = omega (arith, length-append g.cells (flat_map (λ (m : Outcomes). m.cells) ms), area_is d g (h.each 0 d g refl refl), count_is ds ms (rest_sided d ds g ms h))

  -- where the outcomes of a matrix begin
  start_is : (ds : List DeclValue) (ms : List Outcomes) → AreSided ds ms → (m : ℕ) → start (λ (g : Outcomes). g.cells) ms m ≡ before sizes ds m
  start_is [] [] h zero = refl
  start_is [] [] h (suc m) = refl
  start_is [] (g ∷ ms) h m = absurd (omega (arith, h.count))
  start_is (d ∷ ds) [] h m = absurd (omega (arith, h.count))
  start_is (d ∷ ds) (g ∷ ms) h zero = refl
  start_is (d ∷ ds) (g ∷ ms) h (suc m) = omega (arith, area_is d g (h.each 0 d g refl refl), start_is ds ms (rest_sided d ds g ms h) m)

  pub outcome_there : (ds : List DeclValue) (ms : List Outcomes) → AreSided ds ms → (m : ℕ) (g : Outcomes) (k : ℕ) (o : Outcome) → slice_get ms m ≡ Some g → slice_get g.cells k ≡ Some o → slice_get (outcomes_of ms) (before sizes ds m + k) ≡ Some o
  unfolding outcomes_of
  outcome_there ds ms h m g k o there at = subst (λ n. slice_get (flat_map (λ (q : Outcomes). q.cells) ms) (n + k) ≡ Some o) (start_is ds ms h m) (flat_at (λ (q : Outcomes). q.cells) ms m g k o there at)

  pub below_test : (a b : ℕ) → a < b → nat_lt a b ≡ true
  below_test a b h = grind (arith, nat_tests, h)

  -- a place inside a matrix
  pub placed : (d : DeclValue) (g : Outcomes) (x y : ℕ) → HasSides sizes d g → x < (shape_of sizes d).w → y < (shape_of sizes d).h → (o : Outcome) × (slice_get g.cells (y * (shape_of sizes d).w + x) ≡ Some o) × (at_place g x y ≡ Some o)
  placed d g x y s on_x on_y =
      let below = row_below (shape_of sizes d).w (shape_of sizes d).h x y on_x on_y in
      let o = some_at g.cells (y * (shape_of sizes d).w + x) (omega (arith, below, area_is d g s)) in
      let inx : nat_lt x g.width ≡ true = below_test x g.width (omega (arith, on_x, s.width)) in
      let iny : nat_lt y g.height ≡ true = below_test y g.height (omega (arith, on_y, s.height)) in
      (o.0, o.1, rw (inx, iny) (ap (λ w. slice_get g.cells (y * w + x)) s.width ∙ o.1))

  -- the outcome of a cell at its number is that in its matrix
  module _ (ds : List DeclValue) (vs : List View) (row : AreInARow 0 sizes ds vs) (ms : List Outcomes) (sided : AreSided ds ms) where
    number_for : (c : Cell) (n : ℕ) (is : IsNumbered sizes 0 ds vs row c.matrix c.x c.y n) → number_in vs c ≡ n
    number_for c n is = rw is.at (sym is.is)

    pub outcome_is : (c : Cell) (n : ℕ) → IsNumbered sizes 0 ds vs row c.matrix c.x c.y n → (o : Outcome) × (in_matrices ms c ≡ Some o) × (slice_get (outcomes_of ms) n ≡ Some o)
    unfolding in_matrices
    outcome_is c n is =
        let g = some_at ms c.matrix (omega (arith, slice_get_within ds c.matrix is.decl is.there, sided.count)) in
        let s = sided.each c.matrix is.decl g.0 is.there g.1 in
        let o = placed is.decl g.0 c.x c.y s is.on_x is.on_y in
        let number : n ≡ before sizes ds c.matrix + (c.y * (shape_of sizes is.decl).w + c.x) = omega (arith, number_is sizes 0 ds vs row c.matrix c.x c.y n is) in
        (o.0, ap (λ (q : Outcomes). at_place q c.x c.y) (index_at ms c.matrix g.0 no_grid g.1) ∙ o.2, ap (slice_get (outcomes_of ms)) number ∙ outcome_there ds ms sided c.matrix g.0 (c.y * (shape_of sizes is.decl).w + c.x) o.0 g.1 o.1)

    -- by its number among the views
    pub outcome_by : (c : Cell) (n : ℕ) → IsNumbered sizes 0 ds vs row c.matrix c.x c.y n → outcome_at (outcomes_of ms) (number_in vs c) ≡ outcome_in ms c
    unfolding outcome_at
    outcome_by c n is =
        let o = outcome_is c n is in
        ap (λ k. slice_index_or (outcomes_of ms) k no_outcome) (number_for c n is) ∙ index_at (outcomes_of ms) n o.0 no_outcome o.2 ∙ sym (ap (λ q. unwrap_or q no_outcome) o.1)

-- ---- the matrices of a call
all_kept : (n a : ℕ) → filter (λ k. int_le (pos 0) (pos k)) (range_with_len a n) ≡ range_with_len a n
all_kept zero a = refl
all_kept (suc n) a = let test : int_le (pos 0) (pos a) ≡ true = grind (arith, ints) in rw test (ap (λ l. a ∷ l) (all_kept n (a + 1)))

from_start_numbers : (side : ℤ) → numbers_of (from_start side) ≡ range_with_len 0 (natural side)
from_start_numbers side = all_kept (natural side) 0

pub matrix_is : (sizes : List ℕ) (m : ℕ) (d : DeclValue) → matrix_cells sizes m d ≡ flat_map (λ y. map (λ x. record { matrix = m; x = x; y = y }) (range_with_len 0 (natural (exact_value d.w sizes)))) (range_with_len 0 (natural (exact_value d.h sizes)))
unfolding cells_of
matrix_is sizes m d = rw (from_start_numbers (exact_value d.w sizes), from_start_numbers (exact_value d.h sizes)) refl

row_count : {A : Type 0} (g : ℕ → A) (b n : ℕ) → length (map g (range_with_len b n)) ≡ n
row_count g b zero = refl
row_count g b (suc n) = ap suc (row_count g (b + 1) n)

pub rows_count : {A : Type 0} (f : ℕ → ℕ → A) (w a h : ℕ) → length (flat_map (λ y. map (λ x. f x y) (range_with_len 0 w)) (range_with_len a h)) ≡ h * w
rows_count f w a zero = omega arith
rows_count f w a (suc h) =
    omega (arith, length-append (map (λ x. f x a) (range_with_len 0 w)) (flat_map (λ y. map (λ x. f x y) (range_with_len 0 w)) (range_with_len (a + 1) h)), row_count (λ x. f x a) 0 w, rows_count f w (a + 1) h)

module _ (config : ConfigValue) (plans : Plans) (number : ℕ) (t : ProgTransform) (sizes : List ℕ) (ins : List Outcomes) where
  -- a made matrix has its sides
  made_sides : (m : ℕ) (d : DeclValue) → HasSides sizes d (made_matrix config plans number t sizes ins m d)
  made_sides m d =
      let w = natural (exact_value d.w sizes) in
      let h = natural (exact_value d.h sizes) in
      let cell : ℕ → ℕ → Cell = λ x y. record { matrix = m; x = x; y = y } in
      let swap : h * w ≡ w * h = grind arith in
      record {
        width = refl;
        height = refl;
        all = length-map (matrix_cells sizes m d) _ ∙ ap length (matrix_is sizes m d) ∙ rows_count cell w 0 h ∙ swap;
      }

  made_count : (m : ℕ) (ds : List DeclValue) → length (made_from config plans number t sizes ins m ds) ≡ length ds
  made_count m [] = refl
  made_count m (d ∷ ds) = ap suc (made_count (m + 1) ds)

  pub made_at : (m : ℕ) (ds : List DeclValue) (k : ℕ) (g : Outcomes) → slice_get (made_from config plans number t sizes ins m ds) k ≡ Some g → (d : DeclValue) × (slice_get ds k ≡ Some d) × (g ≡ made_matrix config plans number t sizes ins (m + k) d)
  made_at m [] k g e = absurd (cc)
  made_at m (d ∷ ds) zero g e = let here : m + 0 ≡ m = omega arith in (d, refl, sym (some_same (made_matrix config plans number t sizes ins m d) g e) ∙ ap (λ n. made_matrix config plans number t sizes ins n d) (sym here))
  made_at m (d ∷ ds) (suc k) g e = let rest = made_at (m + 1) ds k g e in let here : (m + 1) + k ≡ m + suc k = omega arith in (rest.0, rest.1, rest.2 ∙ ap (λ n. made_matrix config plans number t sizes ins n rest.0) here)

  pub dropped_at : {A : Type 0} (xs : List A) (n k : ℕ) (x : A) → slice_get (drop n xs) k ≡ Some x → slice_get xs (n + k) ≡ Some x
  dropped_at xs zero k x at = let here : 0 + k ≡ k = omega arith in rw here at
  dropped_at [] (suc n) k x at = absurd (cc)
  dropped_at (y ∷ xs) (suc n) k x at = let here : suc n + k ≡ suc (n + k) = omega arith in rw here (dropped_at xs n k x at)

  drop_count : {A : Type 0} (xs : List A) (n : ℕ) → n ≤ length xs → n + length (drop n xs) ≡ length xs
  drop_count xs zero h = omega arith
  drop_count [] (suc n) h = absurd (omega (arith, h))
  drop_count (x ∷ xs) (suc n) h = omega (arith, drop_count xs n (omega (arith, h)))

  -- which matrix of a call it is
  abbrev pub all : List Outcomes
  all = all_matrices config plans number t sizes ins

  module _ (given : AreGiven t sizes ins) (some : t.inputs ≤ length t.matrices) where
    pub sides_are : AreSided sizes t.matrices all
    unfolding call_of
    sides_are = record {
      count = omega (arith, length-append ins (made_from config plans number t sizes ins t.inputs (drop t.inputs t.matrices)), made_count t.inputs (drop t.inputs t.matrices), given.count, drop_count t.matrices t.inputs some);
      each = λ m d g decl there. ⊎_elim
          (λ (low : m < length ins). given.each m d g decl (sym (get_left ins (made_from config plans number t sizes ins t.inputs (drop t.inputs t.matrices)) m low) ∙ there))
          (λ (high : length ins ≤ m).
          let k : ℕ = m - length ins in
          let back : m ≡ length ins + k = omega (arith, high) in
          let from = made_at t.inputs (drop t.inputs t.matrices) k g (sym (get_right ins (made_from config plans number t sizes ins t.inputs (drop t.inputs t.matrices)) k) ∙ ap (slice_get all) (sym back) ∙ there) in
          let at : slice_get t.matrices m ≡ Some from.0 = (let same : m ≡ t.inputs + k = omega (arith, back, given.count) in ap (slice_get t.matrices) same) ∙ dropped_at t.matrices t.inputs k from.0 from.1 in
          let same : from.0 ≡ d = some_same from.0 d (sym at ∙ decl) in
          subst (λ (q : Outcomes). HasSides sizes d q) (sym (from.2 ∙ ap (made_matrix config plans number t sizes ins (t.inputs + k)) same)) (made_sides (t.inputs + k) d))
          (cases_lt m (length ins));
    }
