-- What a scene stands for.
use Rattle.std.proofs.Common.{◌≡◌, ◌∙◌, refl, sym, ap, ℕ, zero, suc, ◌*◌, ◌+◌, ◌<◌, ◌≤◌, ℤ, pos, List, [], ◌∷◌, length, length-take, map, take, get_or, to_z, w64, Some, arith}
use Rattle.std.specs.Prelude.{slice_index, slice_index_or, slice_get}
use Rattle.std.specs.List.{range_with_len}
use Rattle.std.proofs.lemmas.Int.{to_z_pos}
use Rattle.pb_linear.specs.declared.sizes.Sizes.{Sizes}
use Rattle.pb_linear.proofs.SizesLemmas.{size_at}
use Rattle.pb_values.specs.Cells.{Turn}
use Rattle.pb_values.specs.declared.view.View.{View}
use Rattle.pb_program.specs.declared.meaning.Meaning.TheVariants as meaning
use Rattle.std.proofs.lemmas.List.{get_or-map, length-map}
use Rattle.std.proofs.lemmas.Option.{slice_get-get_or}
use Rattle.std.proofs.lemmas.Bool.Decides.{nat_tests}
use Rattle.pb_model.specs.Bodies.{local, output_grid, view_of}
use Rattle.pb_model.specs.Grids.{no_grid}
use Rattle.pb_statements.specs.Places.{grid_shown, number_at, row_of, rows_of}
use Rattle.pb_statements.specs.Shown.{Around, around_of, grid_told, IsSetting, number_told}
use Rattle.pb_statements.specs.Stored.{bound, in_spot, sides_of, store_of, stored}
use Rattle.pb_statements.specs.declared.scratch.Scratch.{Scratch}
use Rattle.pb_statements.specs.declared.shown.Shown.TheVariants.{Told, Kept, Nothing}
use Rattle.pb_statements.specs.declared.spot.Spot.{Spot}
use Rattle.pb_statements.proofs.PlaceLemmas.{laid_within as within, map_rows, rows_like}
use Rattle.pb_values.specs.Views.{cell_of}

past_none : {A : Type 0} (l : List A) (i : ℕ) (d : A) → length l ≤ i → get_or l i d ≡ d
past_none [] i d past = refl
past_none (n ∷ l) zero d past = absurd (omega arith)
past_none (n ∷ l) (suc i) d past = past_none l i d (omega arith)

pub get_or_any : {A : Type 0} (l : List A) (i : ℕ) (d e : A) → i < length l → get_or l i d ≡ get_or l i e
get_or_any [] i d e below = absurd (omega arith)
get_or_any (n ∷ l) zero d e below = refl
get_or_any (n ∷ l) (suc i) d e below = get_or_any l i d e (omega (arith, below))

module _ (turn : Turn) (sizes : Sizes) (x y : ℕ) (views : List View) (a : Around) (e : around_of turn sizes x y views ≡ a) (h : IsSetting turn sizes x y views) where
  size_is : (k : ℕ) → get_or sizes.of k 0 ≡ slice_index a.sizes k
  unfolding around_of
  size_is k = sym (size_at sizes.count sizes.of sizes.zero_past_count k) ∙ ap (λ (b : Around). slice_index b.sizes k) e

  pub size_there : (k : ℕ) → to_z w64 (get_or sizes.of k 0) ≡ pos (slice_index a.sizes k)
  size_there k = to_z_pos w64 (get_or sizes.of k 0) (h.small k) ∙ ap pos (size_is k)

  pub size_past : (k : ℕ) → 8 ≤ k → pos 0 ≡ pos (slice_index a.sizes k)
  unfolding around_of
  size_past k past =
      let few : sizes.count ≤ 8 = sizes.few in
      ap pos (sym (past_none (take sizes.count sizes.of) k 0 (omega (arith, length-take sizes.count sizes.of))) ∙ ap (λ (b : Around). slice_index b.sizes k) e)

  pub x_is : to_z w64 x ≡ a.x
  unfolding around_of
  x_is = to_z_pos w64 x h.small_x ∙ ap (λ (b : Around). b.x) e

  pub y_is : to_z w64 y ≡ a.y
  unfolding around_of
  y_is = to_z_pos w64 y h.small_y ∙ ap (λ (b : Around). b.y) e

-- ---- what names of views stand for
pub told_grid : (turn : Turn) (numbers : List ℤ) (v : View) → grid_told turn v ≡ grid_shown turn numbers (Told v)
unfolding grid_told grid_shown row_of rows_of
told_grid turn numbers v = λ i. record { width = v.shape.w; height = v.shape.h; cells = map_rows (number_told turn) (cell_of v) v.shape.w (range_with_len 0 v.shape.h) i }

pub none_grid : (turn : Turn) (numbers : List ℤ) → grid_shown turn numbers Nothing ≡ no_grid
unfolding grid_shown rows_of
none_grid turn numbers = refl

module _ (turn : Turn) (sizes : Sizes) (x y : ℕ) (views : List View) (a : Around) (e : around_of turn sizes x y views ≡ a) (s : Scratch) (numbers : List ℤ) (k : ℕ) where
  read_is : view_of (bound a s) (store_of s) (meaning.Read k) ≡ get_or (map (grid_told turn) views) k no_grid
  unfolding view_of bound around_of
  read_is = ap (λ (b : Around). slice_index_or b.reads k no_grid) (sym e)

  pub read_grid : (v : View) → k < length views → v ≡ get_or views k v → grid_shown turn numbers (Told v) ≡ view_of (bound a s) (store_of s) (meaning.Read k)
  read_grid v below is = sym (told_grid turn numbers v) ∙ ap (grid_told turn) is ∙ sym (get_or-map (grid_told turn) views k v no_grid below) ∙ sym read_is

  pub read_past : length views ≤ k → grid_shown turn numbers Nothing ≡ view_of (bound a s) (store_of s) (meaning.Read k)
  read_past past = none_grid turn numbers ∙ sym (past_none (map (grid_told turn) views) k no_grid (omega (arith, length-map views (grid_told turn)))) ∙ sym read_is

module _ (turn : Turn) (a : Around) (s : Scratch) (k : ℕ) where
  in_range : (numbers : List ℤ) (t : Spot) (x y : ℕ) → x < t.width → y < t.height → in_spot numbers (Some t) x y ≡ slice_index_or numbers (t.first + (y * t.width + x)) (pos 0)
  in_range numbers t x y across down = grind (arith, nat_tests)

  pub output_shown : (t : Spot) → k < length s.spots.items → t ≡ get_or s.spots.items k t → grid_shown turn s.numbers.items (Kept t) ≡ view_of (bound a s) (store_of s) (meaning.Output k)
  unfolding view_of bound store_of stored grid_shown row_of rows_of
  output_shown t below is =
      let sides : ◌≡◌ {A = ℕ × ℕ} (slice_index_or (map sides_of s.spots.items) k (0, 0)) (t.width, t.height) = get_or-map sides_of s.spots.items k t (0, 0) below ∙ ap sides_of (sym is) in
      let there : slice_get s.spots.items k ≡ Some t = slice_get-get_or s.spots.items k t below ∙ ap (λ z. Some z) (sym is) in
      let cells = rows_like (λ i j. in_spot s.numbers.items (slice_get s.spots.items k) i j) (number_at turn s.numbers.items (Kept t)) t.width t.height
      (λ i j across down. ap (λ o. in_spot s.numbers.items o i j) there ∙ in_range s.numbers.items t i j across down) in
      (λ i. record { width = t.width; height = t.height; cells = sym cells i }) ∙ ap (output_grid (store_of s) k) (sym sides)

  pub output_past : length s.spots.items ≤ k → grid_shown turn s.numbers.items Nothing ≡ view_of (bound a s) (store_of s) (meaning.Output k)
  unfolding view_of bound
  output_past past = none_grid turn s.numbers.items ∙ ap (output_grid (store_of s) k) (sym (past_none (map sides_of s.spots.items) k (0, 0) (omega (arith, length-map s.spots.items sides_of))))

pub laid_within : (s : Scratch) (k : ℕ) (t : Spot) → k < length s.spots.items → t ≡ get_or s.spots.items k t → t.first + t.height * t.width ≤ length s.numbers.items
laid_within s k t below is = within (length s.numbers.items) 0 s.spots.items k t s.laid below is

module _ (s : Scratch) (k : ℕ) where
  pub local_there : (n : ℤ) → n ≡ get_or s.locals.items k n → k < length s.locals.items → n ≡ store_of s (local k)
  unfolding store_of stored
  local_there n is below = is ∙ get_or_any s.locals.items k n (pos 0) below

  pub local_past : length s.locals.items ≤ k → pos 0 ≡ store_of s (local k)
  unfolding store_of stored
  local_past past = sym (past_none s.locals.items k (pos 0) past)
