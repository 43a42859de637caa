-- What views show of the matrices of an instance, and where it stands.
use Rattle.std.proofs.Common.{◌≡◌, ◌∙◌, refl, sym, ap, subst, ℕ, zero, suc, ◌+◌, ◌-◌, ◌*◌, ◌<◌, ◌≤◌, ℤ, pos, negsuc, ◌+ℤ◌, ◌-ℤ◌, ◌≤ℤ◌, ◌<ℤ◌, true, false, List, [], ◌∷◌, ◌++◌, length, map, take, drop, slice_get, Some, None, arith, length-append}
use Rattle.std.specs.Prelude.{if◌then◌else◌, nat_lt, unwrap_or}
use Rattle.std.specs.List.{AllZip, flat_map, range_with_len}
use Rattle.std.proofs.lemmas.Bool.Decides.{nat_tests}
use Rattle.std.proofs.lemmas.Int.{ints}
use Rattle.std.proofs.lemmas.List.{length-map}
use Rattle.pb_linear.specs.Numbers.{exact_value}
use Rattle.pb_values.specs.declared.outcome.Outcome.{Outcome}
use Rattle.pb_values.specs.declared.rect.Rect.{Rect}
use Rattle.pb_program.specs.Areas.{Area, Span, area_by, area_of, one_place}
use Rattle.pb_program.specs.Forms.{DeclValue, coordinate_at}
use Rattle.pb_program.specs.declared.view.Read.{Read}
use Rattle.pb_program.specs.declared.view.ReadView.{ReadView}
use Rattle.pb_program.specs.declared.view.ReadView.TheVariants as view
use Rattle.pb_region.specs.Within.{IsAlong, IsWithin}
use Rattle.pb_model.specs.Calls.{Outcomes, in_matrices, no_outcome, outcome_in}
use Rattle.pb_model.specs.Cells.{Cell, cells_of, cells_of_view, natural, numbers_of}
use Rattle.pb_model.specs.Equations.{shown_area}
use Rattle.pb_model.specs.Grids.{Grid, at_place, no_grid}
use Rattle.pb_model.proofs.GridLemmas.{range_at, row_at}
use Rattle.pb_calls.specs.Given.{HasSides}
use Rattle.pb_check.proofs.FirstLemmas.{some_at, some_same}
use Rattle.pb_views.proofs.CellLemmas.{numbers_are}
use Rattle.pb_plan.specs.Boxes.{rect_from}
use Rattle.pb_plan.proofs.JobLemmas.{at_map}
use Rattle.pb_solution.proofs.OutcomeLemmas.{index_at}
use Rattle.pb_recursion.specs.Depths.{cut_into}
use Rattle.pb_recursion.specs.Plans.{no_cell, sides_of_view}
use Rattle.pb_recursion.specs.Shapes.{Sides, area, sides_of_area, span_length}
use Rattle.pb_views.specs.declared.seat.Seat.{Seat}
use Rattle.pb_views.specs.Seats.{across, down, is_turning, no_seat, part_seat}
use Rattle.pb_runs.specs.Steps.{Instance, number_at, seat_in}
use Rattle.pb_runs.specs.Unrolled.{view_seat}
use Rattle.pb_runs.proofs.SeatLemmas.{HasCell, IsPart, LiesIn, part_across, part_down, part_has, part_placed, part_x, part_y}
use Rattle.pb_runs.specs.Placed.{IsAt, IsPlaced, outcome_of}

pub zip_at : {A B : Type 0} (R : A → B → Type 0) (xs : List A) (ys : List B) (k : ℕ) (y : B) → AllZip R xs ys → slice_get ys k ≡ Some y → (x : A) × (slice_get xs k ≡ Some x) × R x y
zip_at R [] [] k y h e = absurd (let wrong : None ≡ Some y = e in cc)
zip_at R [] (z ∷ ys) k y h e = absurd h
zip_at R (x ∷ xs) [] k y h e = absurd h
zip_at R (x ∷ xs) (z ∷ ys) zero y h e = (x, refl, subst (R x) (some_same z y e) h.0)
zip_at R (x ∷ xs) (z ∷ ys) (suc k) y h e = zip_at R xs ys k y h.1 e

-- ---- spans
-- the numbers of a span within a matrix
module _ (s : Span) (side : ℤ) (along : IsAlong s side) where
  at_low : pos (natural s.low) ≡ s.low
  at_low = by s.low along.start
    where
      by : (z : ℤ) → pos 0 ≤ℤ z → pos (natural z) ≡ z
      by (pos n) h = refl
      by (negsuc n) h = absurd (omega (arith, ints, h))

  at_high : pos (natural s.high) ≡ s.high
  at_high = by s.high (omega (arith, ints, along.start, along.order))
    where
      by : (z : ℤ) → pos 0 ≤ℤ z → pos (natural z) ≡ z
      by (pos n) h = refl
      by (negsuc n) h = absurd (omega (arith, ints, h))

  rising : natural s.low ≤ natural s.high
  rising = omega (arith, ints, at_low, at_high, along.order)

  pub span_numbers : numbers_of s ≡ range_with_len (natural s.low) (natural s.high - natural s.low)
  span_numbers = numbers_are s (natural s.low) (natural s.high) at_low at_high rising

  pub span_is : natural (span_length s) ≡ natural s.high - natural s.low
  span_is = by (s.high -ℤ s.low) (omega (arith, ints, at_low, at_high, rising))
    where
      by : (z : ℤ) → z ≡ pos (natural s.high - natural s.low) → natural z ≡ natural s.high - natural s.low
      by z e = ap natural e

  pub span_below : (n : ℕ) → pos n ≡ side → natural s.high ≤ n
  span_below n e = omega (arith, ints, at_high, along.end, e)

  pub natural_end : (n : ℕ) → n ≡ natural side → natural s.high ≤ n
  natural_end n e = omega (arith, ints, at_high, along.end, e, above side)
    where
      above : (z : ℤ) → z ≤ℤ pos (natural z)
      above (pos n) = omega (arith, ints)
      above (negsuc n) = omega (arith, ints)

narrow : (s : Span) (z side : ℤ) → s ≡ one_place z → IsAlong s side → natural s.high - natural s.low ≡ 1
narrow s z side e along = ap (λ (q : Span). natural q.high - natural q.low) e ∙ by z (subst (λ (q : Span). pos 0 ≤ℤ q.low) e along.start)
  where
    by : (z : ℤ) → pos 0 ≤ℤ z → natural (z +ℤ pos 1) - natural z ≡ 1
    by (pos n) h = omega arith
    by (negsuc n) h = absurd (omega (arith, ints, h))

swapped : (a b : ℕ) → b * a ≡ a * b
swapped a b = grind arith

zero_times : (n : ℕ) → 0 * n ≡ 0
zero_times n = omega arith

times_one : (n : ℕ) → n * 1 ≡ n
times_one n = omega arith

-- ---- rows
rows_length : {A : Type 0} (f : ℕ → ℕ → A) (a w b h : ℕ) → length (flat_map (λ y. map (λ x. f x y) (range_with_len a w)) (range_with_len b h)) ≡ h * w
rows_length f a w b zero = omega arith
rows_length f a w b (suc h) =
    omega (arith, length-append (map (λ x. f x b) (range_with_len a w)) (flat_map (λ y. map (λ x. f x y) (range_with_len a w)) (range_with_len (b + 1) h)), row_length (λ x. f x b) a w, rows_length f a w (b + 1) h)
  where
    row_length : {A : Type 0} (g : ℕ → A) (a n : ℕ) → length (map g (range_with_len a n)) ≡ n
    row_length g a zero = refl
    row_length g a (suc n) = ap suc (row_length g (a + 1) n)

rows_at : {A : Type 0} (f : ℕ → ℕ → A) (a w b h x y : ℕ) → x < w → y < h → slice_get (flat_map (λ y. map (λ x. f x y) (range_with_len a w)) (range_with_len b h)) (y * w + x) ≡ Some (f (a + x) (b + y))
rows_at f a w b h x y on_x on_y = row_at (λ y. map (λ x. f x y) (range_with_len a w)) w (λ k. row_length (λ x. f x k) a w) b h x y on_x on_y ∙ range_at (λ x. f x (b + y)) a w x on_x
  where
    row_length : {A : Type 0} (g : ℕ → A) (a n : ℕ) → length (map g (range_with_len a n)) ≡ n
    row_length g a zero = refl
    row_length g a (suc n) = ap suc (row_length g (a + 1) n)

-- ---- what is cut into matrices
take_first : {A : Type 0} (xs ys : List A) (n : ℕ) → length xs ≡ n → take n (xs ++ ys) ≡ xs
take_first [] ys n e = rw (← e) refl
take_first (x ∷ xs) ys n e = rw (← e) (ap (λ l. x ∷ l) (take_first xs ys (length xs) refl))

drop_first : {A : Type 0} (xs ys : List A) (n : ℕ) → length xs ≡ n → drop n (xs ++ ys) ≡ ys
drop_first [] ys n e = rw (← e) refl
drop_first (x ∷ xs) ys n e = rw (← e) (drop_first xs ys (length xs) refl)

map_append : {A B : Type 0} (f : A → B) (xs ys : List A) → map f (xs ++ ys) ≡ map f xs ++ map f ys
map_append f [] ys = refl
map_append f (x ∷ xs) ys = ap (λ l. f x ∷ l) (map_append f xs ys)

abbrev pub one_cut : {A : Type 0} → Sides → List A → Grid A
one_cut s cells = record { width = natural s.0; height = natural s.1; cells = cells }

pub cut_is : {V C A : Type 0} (sides : V → Sides) (cells : V → List C) (f : C → A) (vs : List V) → ((k : ℕ) (v : V) → slice_get vs k ≡ Some v → length (cells v) ≡ area (sides v))
    → cut_into (map sides vs) (map f (flat_map cells vs)) ≡ map (λ v. one_cut (sides v) (map f (cells v))) vs
cut_is sides cells f [] same = refl
cut_is sides cells f (v ∷ vs) same =
    let split = map_append f (cells v) (flat_map cells vs) in
    let count : length (map f (cells v)) ≡ area (sides v) = length-map (cells v) f ∙ same 0 v refl in
    let first : take (area (sides v)) (map f (flat_map cells (v ∷ vs))) ≡ map f (cells v) = ap (take (area (sides v))) split ∙ take_first (map f (cells v)) (map f (flat_map cells vs)) (area (sides v)) count in
    let rest : drop (area (sides v)) (map f (flat_map cells (v ∷ vs))) ≡ map f (flat_map cells vs) = ap (drop (area (sides v))) split ∙ drop_first (map f (cells v)) (map f (flat_map cells vs)) (area (sides v)) count in
    (λ i. one_cut (sides v) (first i) ∷ cut_into (map sides vs) (rest i)) ∙ ap (λ l. one_cut (sides v) (map f (cells v)) ∷ l) (cut_is sides cells f vs (λ k w e. same (suc k) w e))

-- ---- an instance
module _ (ms : List Outcomes) where
  -- these are the matrices of an instance, with the sides of their declarations, and stand where it says
  pub record IsLocal (i : Instance) (lm : List Outcomes) : Type 0 where
    pub count : length lm ≡ length i.transform.matrices
    pub seats : AllZip (IsPlaced ms) i.seats lm
    pub sides : (m : ℕ) (d : DeclValue) (g : Outcomes) → slice_get i.transform.matrices m ≡ Some d → slice_get lm m ≡ Some g → HasSides i.sizes d g

  -- one of them
  pub record HasMatrix (i : Instance) (lm : List Outcomes) (m : ℕ) (d : DeclValue) : Type 0 where
    pub grid : Outcomes
    pub there : slice_get lm m ≡ Some grid
    pub sides : HasSides i.sizes d grid
    pub placed : IsPlaced ms (seat_in i m) grid

  get_below : {A : Type 0} (xs : List A) (k : ℕ) (x : A) → slice_get xs k ≡ Some x → k < length xs
  get_below [] k x e = absurd (let wrong : None ≡ Some x = e in cc)
  get_below (y ∷ xs) zero x e = omega arith
  get_below (y ∷ xs) (suc k) x e = let rest = get_below xs k x e in omega (arith, rest)

  pub has_matrix : (i : Instance) (lm : List Outcomes) → IsLocal i lm → (m : ℕ) (d : DeclValue) → slice_get i.transform.matrices m ≡ Some d → HasMatrix i lm m d
  has_matrix i lm local m d declared =
      let g = some_at lm m (omega (arith, get_below i.transform.matrices m d declared, local.count)) in
      let s = zip_at (IsPlaced ms) i.seats lm m g.0 local.seats g.1 in
      record { grid = g.0; there = g.1; sides = local.sides m d g.0 declared g.1; placed = subst (λ q. IsPlaced ms q g.0) (sym (index_at i.seats m s.0 no_seat s.1)) s.2 }

  below_natural : (z : ℤ) (n : ℕ) → pos n <ℤ z → n < natural z
  below_natural (pos k) n h = omega (arith, ints, h)
  below_natural (negsuc k) n h = absurd (omega (arith, ints, h))

  below_test : (a b : ℕ) → a < b → nat_lt a b ≡ true
  below_test a b h = grind (arith, nat_tests, h)

  -- the cell at a place of a matrix
  pub matrix_at : (i : Instance) (lm : List Outcomes) (m : ℕ) (d : DeclValue) (h : HasMatrix i lm m d) (x y : ℕ) → x < h.grid.width → y < h.grid.height
      → (slice_get h.grid.cells (y * h.grid.width + x) ≡ Some (outcome_in lm (record { matrix = m; x = x; y = y }))) × IsAt ms (seat_in i m) x y (outcome_in lm (record { matrix = m; x = x; y = y }))
  unfolding in_matrices
  matrix_at i lm m d h x y on_x on_y =
      let o = h.placed.cells x y (omega (arith, on_x, h.placed.width)) (omega (arith, on_y, h.placed.height)) in
      let inx = below_test x h.grid.width on_x in
      let iny = below_test y h.grid.height on_y in
      let place : at_place h.grid x y ≡ Some o.0 = rw (inx, iny) o.1 in
      let is : outcome_in lm (record { matrix = m; x = x; y = y }) ≡ o.0 = ap (λ (g : Outcomes). unwrap_or (at_place g x y) no_outcome) (index_at lm m h.grid no_grid h.there) ∙ ap (λ q. unwrap_or q no_outcome) place in
      (o.1 ∙ ap (λ q. Some q) (sym is), subst (IsAt ms (seat_in i m) x y) (sym is) o.2)

  -- the outcome of a cell is that at its number
  pub number_is : (i : Instance) (lm : List Outcomes) → IsLocal i lm → (c : Cell) (d : DeclValue) → slice_get i.transform.matrices c.matrix ≡ Some d → pos c.x <ℤ exact_value d.w i.sizes → pos c.y <ℤ exact_value d.h i.sizes
      → outcome_of ms (number_at i c) ≡ outcome_in lm c
  number_is i lm local c d declared on_x on_y =
      let h = has_matrix i lm local c.matrix d declared in
      (matrix_at i lm c.matrix d h c.x c.y (omega (arith, below_natural (exact_value d.w i.sizes) c.x on_x, h.sides.width)) (omega (arith, below_natural (exact_value d.h i.sizes) c.y on_y, h.sides.height))).1.is

  -- ---- a view of one of them
  module _ (i : Instance) (lm : List Outcomes) (local : IsLocal i lm) (v : Read) (d : DeclValue) (declared : slice_get i.transform.matrices v.matrix ≡ Some d) where
    abbrev a : Area
    a = shown_area i.transform.matrices i.sizes no_cell v

    abbrev cells : List Cell
    cells = cells_of_view i.transform.matrices i.sizes no_cell v

    abbrev r : Rect
    r = rect_from a

    abbrev wide : ℕ
    wide = natural a.x.high - natural a.x.low

    abbrev tall : ℕ
    tall = natural a.y.high - natural a.y.low

    module _ (within : IsWithin a (exact_value d.w i.sizes) (exact_value d.h i.sizes)) where
      abbrev cell : ℕ → ℕ → Cell
      cell x y = record { matrix = v.matrix; x = x; y = y }

      area_there : a ≡ area_of i.sizes (pos 0) (pos 0) v d
      area_there = rw declared refl

      cells_there : cells ≡ cells_of v.matrix (area_of i.sizes (pos 0) (pos 0) v d)
      cells_there = rw declared refl

      area_cells : cells_of v.matrix a ≡ flat_map (λ y. map (λ x. cell x y) (range_with_len (natural a.x.low) wide)) (range_with_len (natural a.y.low) tall)
      unfolding cells_of
      area_cells = λ k. flat_map (λ y. map (λ x. cell x y) (span_numbers a.x (exact_value d.w i.sizes) within.x k)) (span_numbers a.y (exact_value d.h i.sizes) within.y k)

      pub cells_are : cells ≡ flat_map (λ y. map (λ x. cell x y) (range_with_len (natural a.x.low) wide)) (range_with_len (natural a.y.low) tall)
      cells_are = cells_there ∙ ap (cells_of v.matrix) (sym area_there) ∙ area_cells

      cells_length : length cells ≡ tall * wide
      cells_length = ap length cells_are ∙ rows_length cell (natural a.x.low) wide (natural a.y.low) tall

      cell_there : (x y : ℕ) → x < wide → y < tall → slice_get cells (y * wide + x) ≡ Some (cell (natural a.x.low + x) (natural a.y.low + y))
      cell_there x y on_x on_y = ap (λ l. slice_get l (y * wide + x)) cells_are ∙ rows_at cell (natural a.x.low) wide (natural a.y.low) tall x y on_x on_y

      -- a column is one place wide
      column_wide : v.view ≡ view.Column → wide ≡ 1
      column_wide e = narrow a.x (coordinate_at v.x0 i.sizes (pos 0) (pos 0)) (exact_value d.w i.sizes) (ap (λ (q : Area). q.x) area_there ∙ ap (λ k. (area_by i.sizes (pos 0) (pos 0) k v d).x) e) within.x

      module _ (h : HasMatrix i lm v.matrix d) where
        abbrev seat : Seat
        seat = seat_in i v.matrix

        abbrev outcomes : List Outcome
        outcomes = map (outcome_in lm) cells

        right_end : natural a.x.high ≤ h.grid.width
        right_end = natural_end a.x (exact_value d.w i.sizes) within.x h.grid.width h.sides.width

        high_end : natural a.y.high ≤ h.grid.height
        high_end = natural_end a.y (exact_value d.h i.sizes) within.y h.grid.height h.sides.height

        outcome_there : (x y : ℕ) → x < wide → y < tall → slice_get outcomes (y * wide + x) ≡ slice_get h.grid.cells ((natural a.y.low + y) * h.grid.width + (natural a.x.low + x))
        outcome_there x y on_x on_y =
            at_map (outcome_in lm) cells (y * wide + x) (cell (natural a.x.low + x) (natural a.y.low + y)) (cell_there x y on_x on_y)
            ∙ sym (matrix_at i lm v.matrix d h (natural a.x.low + x) (natural a.y.low + y) (omega (arith, on_x, right_end)) (omega (arith, on_y, high_end))).0

        plain : (k : ReadView) → is_turning k ≡ false → sides_of_area k a ≡ (span_length a.x, span_length a.y) → IsPart ms k seat r h.grid (one_cut (sides_of_area k a) outcomes)
        plain k straight sides =
            let width : natural (sides_of_area k a).0 ≡ wide = ap (λ (q : Sides). natural q.0) sides ∙ span_is a.x (exact_value d.w i.sizes) within.x in
            let height : natural (sides_of_area k a).1 ≡ tall = ap (λ (q : Sides). natural q.1) sides ∙ span_is a.y (exact_value d.h i.sizes) within.y in
            let goes : across (part_seat k seat r) ≡ wide = part_across k seat r ∙ ap (λ b. if b then r.y1 - r.y0 else r.x1 - r.x0) straight in
            let falls : down (part_seat k seat r) ≡ tall = part_down k seat r ∙ ap (λ b. if b then r.x1 - r.x0 else r.y1 - r.y0) straight in
            record {
              width = width ∙ sym goes;
              height = height ∙ sym falls;
              whole = length-map cells (outcome_in lm) ∙ cells_length ∙ swapped wide tall ∙ (λ j. sym width j * sym height j);
              cells = λ x y on_x on_y. (
                  let px : part_x k seat r x y ≡ natural a.x.low + x = ap (λ b. natural a.x.low + (if b then y else x)) straight in
                  let py : part_y k seat r x y ≡ natural a.y.low + y = ap (λ b. natural a.y.low + (if b then x else y)) straight in
                  ap (λ w. slice_get outcomes (y * w + x)) width ∙ outcome_there x y (subst (λ n. x < n) goes on_x) (subst (λ n. y < n) falls on_y) ∙ (λ j. slice_get h.grid.cells (sym py j * h.grid.width + sym px j)));
            }

        turned : wide ≡ 1 → IsPart ms view.Column seat r h.grid (one_cut (sides_of_area view.Column a) outcomes)
        turned thin =
            let width : natural (span_length a.y) ≡ tall = span_is a.y (exact_value d.h i.sizes) within.y in
            let goes : across (part_seat view.Column seat r) ≡ tall = part_across view.Column seat r in
            let falls : down (part_seat view.Column seat r) ≡ 1 = part_down view.Column seat r ∙ thin in
            record {
              width = width ∙ sym goes;
              height = sym falls;
              whole = length-map cells (outcome_in lm) ∙ cells_length ∙ (λ j. sym width j * thin j);
              cells = λ x y on_x on_y. (
                  let first : y ≡ 0 = omega (arith, on_y, falls) in
                  let place : y * natural (span_length a.y) + x ≡ x * wide + 0 = (let none : y * natural (span_length a.y) ≡ 0 = ap (λ n. n * natural (span_length a.y)) first ∙ zero_times (natural (span_length a.y)) in let one : x * wide ≡ x = ap (λ n. x * n) thin ∙ times_one x in omega (arith, none, one)) in
                  let px : natural a.x.low + 0 ≡ natural a.x.low + y = ap (λ n. natural a.x.low + n) (sym first) in
                  ap (slice_get outcomes) place ∙ outcome_there 0 x (omega (arith, thin)) (subst (λ n. x < n) goes on_x) ∙ (λ j. slice_get h.grid.cells ((natural a.y.low + x) * h.grid.width + px j)));
            }

        part_for : (k : ReadView) → (k ≡ view.Column → wide ≡ 1) → IsPart ms k seat r h.grid (one_cut (sides_of_area k a) outcomes)
        part_for view.Cell thin = plain view.Cell refl refl
        part_for view.Row thin = plain view.Row refl refl
        part_for view.Column thin = turned (thin refl)
        part_for view.Region thin = plain view.Region refl refl
        part_for view.Whole thin = plain view.Whole refl refl

        lies : LiesIn v.view seat r
        lies = record { right = omega (arith, right_end, h.placed.width); high = omega (arith, high_end, h.placed.height) }

        pub view_placed : IsPlaced ms (view_seat i v) (one_cut (sides_of_view i.transform.matrices i.sizes v) outcomes)
        view_placed = part_placed ms v.view seat r h.grid (one_cut (sides_of_area v.view a) outcomes) h.placed lies (part_for v.view (λ e. column_wide e))

        -- its cells are among those of the matrix
        pub view_has : (c : ℕ) → HasCell (view_seat i v) c → HasCell seat c
        view_has c has = part_has v.view seat r lies c has

      -- there are as many cells as its sides say
      pub view_count : length cells ≡ area (sides_of_view i.transform.matrices i.sizes v)
      view_count = by v.view (λ e. column_wide e)
        where
          by : (k : ReadView) → (k ≡ view.Column → wide ≡ 1) → length cells ≡ area (sides_of_area k a)
          by view.Column thin = cells_length ∙ (λ j. sym (span_is a.y (exact_value d.h i.sizes) within.y) j * thin refl j)
          by view.Cell thin = cells_length ∙ swapped wide tall ∙ (λ j. sym (span_is a.x (exact_value d.w i.sizes) within.x) j * sym (span_is a.y (exact_value d.h i.sizes) within.y) j)
          by view.Row thin = cells_length ∙ swapped wide tall ∙ (λ j. sym (span_is a.x (exact_value d.w i.sizes) within.x) j * sym (span_is a.y (exact_value d.h i.sizes) within.y) j)
          by view.Region thin = cells_length ∙ swapped wide tall ∙ (λ j. sym (span_is a.x (exact_value d.w i.sizes) within.x) j * sym (span_is a.y (exact_value d.h i.sizes) within.y) j)
          by view.Whole thin = cells_length ∙ swapped wide tall ∙ (λ j. sym (span_is a.x (exact_value d.w i.sizes) within.x) j * sym (span_is a.y (exact_value d.h i.sizes) within.y) j)
