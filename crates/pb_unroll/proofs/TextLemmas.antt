-- The texts of matrices that stand one after the other.
use Rattle.std.proofs.Common.{◌≡◌, ◌∙◌, refl, sym, ap, subst, inl, inr, ⊎_elim, ℕ, zero, suc, ◌+◌, ◌*◌, ◌<◌, ◌≤◌, pos, ◌*ℤ◌, List, [], ◌∷◌, ◌++◌, length, map, take, drop, arith, append_assoc, flat_map}
use Rattle.std.specs.List.{All, AllByRecursion, zip}
use Rattle.std.proofs.Math.IntN.{zero-*ℤ}
use Rattle.std.proofs.lemmas.Bool.{cases_lt}
use Rattle.std.proofs.lemmas.Int.{ints}
use Rattle.std.proofs.lemmas.List.{drop-drop, drop_at, nil_from_length, take_at}
use Rattle.std.proofs.lemmas.List.Elements.{All-cons, All-head, All-tail}
use Rattle.pb_linear.specs.Numbers.{exact_value}
use Rattle.pb_linear.proofs.Values.{exact_value-multiple, exact_value-with_constant}
use Rattle.pb_values.specs.declared.outcome.Outcome.{Outcome}
use Rattle.pb_values.specs.declared.shape.Shape.{Shape}
use Rattle.pb_values.specs.declared.view.View.{View}
use Rattle.pb_program.specs.Forms.{DeclValue, constant_numbers}
use Rattle.pb_program.specs.WellFormed.{IsDecl}
use Rattle.pb_matrix.specs.Header.{IsMatrixShape, cell_count}
use Rattle.pb_matrix.specs.declared.header.TheConstants.{MAX_CELLS}
use Rattle.pb_model.specs.Calls.{Outcomes}
use Rattle.pb_model.specs.Cells.{natural}
use Rattle.pb_model.specs.Equations.{number_in}
use Rattle.pb_calls.specs.Given.{HasSides}
use Rattle.pb_views.specs.Layouts.{AreInARow, HasShortSides, IsWhole, area_at, shape_of}
use Rattle.pb_views.specs.Layouts as layout
use Rattle.pb_solution.specs.Solutions.{outcomes_of}
use Rattle.pb_solution.proofs.OutcomeLemmas.{AreSided}
use Rattle.pb_unroll.specs.Answers.{matrices_text, matrix_of}
use Rattle.pb_unroll.specs.ShownCells.{IsWritable, cells_in, matrix_in, text_in}
use Rattle.pb_unroll.proofs.PlaceLemmas.{some_side}

one_is : (sizes : List ℕ) → exact_value (constant_numbers (pos 1)) sizes ≡ pos 1
one_is sizes =
    let n = constant_numbers (pos 0) in
    let none : exact_value n sizes ≡ pos 0 *ℤ exact_value n sizes = exact_value-multiple (pos 0) n sizes in
    omega (arith, ints, exact_value-with_constant (pos 1) n sizes, none, zero-*ℤ (exact_value n sizes))

module _ (sizes : List ℕ) where
  -- ---- the shapes of matrices within the limits
  shape_fits : (n : ℕ) (d : DeclValue) → IsDecl n d → HasShortSides sizes d → area_at sizes d ≤ MAX_CELLS → IsMatrixShape (shape_of sizes d)
  shape_fits n d is short few = record {
    dims = ⊎_elim
        (λ (low : d.dims < 2). let flat : d.dims ≡ 1 = omega (arith, low, is.dims) in inl (flat, ap (λ k. natural (exact_value k sizes)) (is.flat flat) ∙ ap natural (one_is sizes)))
        (λ (high : 2 ≤ d.dims). inr (omega (arith, high, is.dims)))
        (cases_lt d.dims 2);
    width = short.width;
    height = short.height;
    cells = few;
  }

  pub shapes_fit : (n : ℕ) (ds : List DeclValue) → AllByRecursion (IsDecl n) ds → All (HasShortSides sizes) ds → layout.cell_count sizes ds ≤ MAX_CELLS → AllByRecursion (λ d. IsMatrixShape (shape_of sizes d)) ds
  shapes_fit n [] are short few = tt
  shapes_fit n (d ∷ ds) are short few = (
    shape_fits n d are.0 (All-head (HasShortSides sizes) d ds short) (omega (arith, few)),
    shapes_fit n ds are.1 (All-tail (HasShortSides sizes) d ds short) (omega (arith, few)),
  )

  -- ---- the cells of a matrix
  module _ (os rest : List Outcome) (first : ℕ) (d : DeclValue) (v : View) (g : Outcomes) (whole : IsWhole first sizes d v) (sides : HasSides sizes d g) (here : drop first os ≡ g.cells ++ rest) where
    area_is : length g.cells ≡ area_at sizes d
    area_is = sides.all ∙ (λ i. sides.width i * sides.height i)

    -- where there are none, it doesn't matter where they begin
    first_is : 0 < area_at sizes d → v.first ≡ first
    first_is some =
        let s = shape_of sizes d in
        let turned : s.h * s.w ≡ s.w * s.h = grind arith in
        let across = some_side 0 s.w s.h some in
        let down = some_side 0 s.h s.w (omega (arith, some, turned)) in
        omega (arith, whole.cells 0 0 across down)

    cells_are : cells_in os v ≡ g.cells
    cells_are =
        let area = area_at sizes d in
        ap (λ (s : Shape). take (cell_count s) (drop v.first os)) whole.shape
        ∙ ⊎_elim
        (λ (some : 0 < area). ap (λ n. take area (drop n os)) (first_is some) ∙ ap (take area) here ∙ take_at g.cells rest area area_is)
        (λ (none : area ≤ 0). let no_area : area ≡ 0 = omega arith in ap (λ n. take n (drop v.first os)) no_area ∙ sym (nil_from_length g.cells (area_is ∙ no_area)))
        (cases_lt 0 area)

    shape_is : v.shape ≡ (matrix_of (d, g)).shape
    shape_is = whole.shape ∙ (λ i. record { dims = d.dims; w = sym sides.width i; h = sym sides.height i })

    matrix_is : matrix_in os v ≡ matrix_of (d, g)
    matrix_is = λ i. record { shape = shape_is i; cells = map number_in (cells_are i) }

    is_writable : IsMatrixShape (shape_of sizes d) → IsWritable os v
    is_writable fits = record { shape = subst IsMatrixShape (sym whole.shape) fits; cells = ap length cells_are ∙ area_is ∙ ap cell_count (sym whole.shape) }

    rest_is : drop (first + area_at sizes d) os ≡ rest
    rest_is = sym (drop-drop (area_at sizes d) first os) ∙ ap (drop (area_at sizes d)) here ∙ drop_at g.cells rest (area_at sizes d) area_is

  rest_sided : (d : DeclValue) (ds : List DeclValue) (g : Outcomes) (ms : List Outcomes) → AreSided sizes (d ∷ ds) (g ∷ ms) → AreSided sizes ds ms
  rest_sided d ds g ms h = record { count = omega (arith, h.count); each = λ m e k at there. h.each (suc m) e k at there }

  -- ---- all of them, where others may come after them
  module _ (os more : List Outcome) where
    abbrev later : List Outcomes → List Outcome
    later ms = flat_map (λ (m : Outcomes). m.cells) ms ++ more

    first_of : (first : ℕ) (g : Outcomes) (ms : List Outcomes) → drop first os ≡ outcomes_of (g ∷ ms) ++ more → drop first os ≡ g.cells ++ later ms
    unfolding outcomes_of
    first_of first g ms here = here ∙ append_assoc g.cells (flat_map (λ (m : Outcomes). m.cells) ms) more

    nothing : (n : ℕ) (ms : List Outcomes) → map (matrix_in os) (drop n []) ≡ map matrix_of (zip (drop n []) (drop n ms))
    nothing zero ms = refl
    nothing (suc n) ms = refl

    pub matrices_are : (n first : ℕ) (ds : List DeclValue) (vs : List View) (ms : List Outcomes) → AreInARow first sizes ds vs → AreSided sizes ds ms → drop first os ≡ outcomes_of ms ++ more
        → map (matrix_in os) (drop n vs) ≡ map matrix_of (zip (drop n ds) (drop n ms))
    unfolding outcomes_of
    matrices_are n first [] vs ms row sided here = ap (λ (l : List View). map (matrix_in os) (drop n l)) row ∙ nothing n ms
    matrices_are n first (d ∷ ds) [] ms row sided here = absurd row
    matrices_are n first (d ∷ ds) (v ∷ vs) [] row sided here = absurd (omega (arith, sided.count))
    matrices_are zero first (d ∷ ds) (v ∷ vs) (g ∷ ms) row sided here =
        let sides = sided.each 0 d g refl refl in
        let mine = first_of first g ms here in
        let matrix = matrix_is os (later ms) first d v g row.0 sides mine in
        let matrices = matrices_are zero (first + area_at sizes d) ds vs ms row.1 (rest_sided d ds g ms sided) (rest_is os (later ms) first d v g row.0 sides mine) in
        λ i. matrix i ∷ matrices i
    matrices_are (suc n) first (d ∷ ds) (v ∷ vs) (g ∷ ms) row sided here =
        matrices_are n (first + area_at sizes d) ds vs ms row.1 (rest_sided d ds g ms sided) (rest_is os (later ms) first d v g row.0 (sided.each 0 d g refl refl) (first_of first g ms here))

    pub texts_of : (vs : List View) → flat_map (text_in os) vs ≡ matrices_text (map (matrix_in os) vs)
    texts_of [] = refl
    texts_of (v ∷ vs) = ap (λ l. text_in os v ++ l) (texts_of vs)

    pub are_writable : (first : ℕ) (ds : List DeclValue) (vs : List View) (ms : List Outcomes) → AreInARow first sizes ds vs → AreSided sizes ds ms → drop first os ≡ outcomes_of ms ++ more
        → AllByRecursion (λ d. IsMatrixShape (shape_of sizes d)) ds → All (IsWritable os) vs
    unfolding outcomes_of
    are_writable first [] vs ms row sided here fit = subst (All (IsWritable os)) (sym row) (λ k d below. absurd (omega (arith, below)))
    are_writable first (d ∷ ds) [] ms row sided here fit = absurd row
    are_writable first (d ∷ ds) (v ∷ vs) [] row sided here fit = absurd (omega (arith, sided.count))
    are_writable first (d ∷ ds) (v ∷ vs) (g ∷ ms) row sided here fit =
        let sides = sided.each 0 d g refl refl in
        let mine = first_of first g ms here in
        All-cons (IsWritable os) v vs (is_writable os (later ms) first d v g row.0 sides mine fit.0)
        (are_writable (first + area_at sizes d) ds vs ms row.1 (rest_sided d ds g ms sided) (rest_is os (later ms) first d v g row.0 sides mine) fit.1)
