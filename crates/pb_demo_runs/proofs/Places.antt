-- The cells that the product makes and reads, at sizes (n, h, n).
use Rattle.std.proofs.Common.{◌≡◌, refl, ap, subst, ℕ, zero, suc, ◌≤◌, ◌<◌, ℤ, pos, List, [], ◌∷◌, map, slice_get, Option, Some, None, arith}
use Rattle.std.specs.Prelude.{int_le}
use Rattle.std.specs.List.{AllByRecursion, Contains, flat_map, range_with_len}
use Rattle.std.specs.Option.{option_map_or}
use Rattle.std.proofs.lemmas.Int.{ints}
use Rattle.std.proofs.lemmas.List.{append-nil}
use Rattle.std.proofs.lemmas.Option.{none-some, same_Some}
use Rattle.pb_base.proofs.ListLemmas.{filter_in, flat_in, map_in, range_in}
use Rattle.pb_linear.specs.Numbers.{exact_value, value_before}
use Rattle.pb_program.specs.declared.view.Read.{Read}
use Rattle.pb_program.specs.Areas.{Area, area_of, from_start}
use Rattle.pb_program.specs.Forms.{DeclValue}
use Rattle.pb_program.specs.Trees.{ProgRule}
use Rattle.pb_model.specs.Calls.{made_cells, matrix_cells}
use Rattle.pb_model.specs.Cells.{Cell, cells_of, cells_of_view, natural, numbers_of, reads}
use Rattle.pb_demo.proofs.Product.{written}
use Rattle.pb_demo.proofs.Sound.{decl_or}
use Rattle.pb_demo_runs.proofs.Lists.{each_joined, each_mapped}

-- the one matrix that it makes
pub matrix_is : (n h m : ℕ) (d : DeclValue) → 2 ≤ m → slice_get written.matrices m ≡ Some d → (m ≡ 2) × (exact_value d.w (n ∷ h ∷ n ∷ []) ≡ pos n) × (exact_value d.h (n ∷ h ∷ n ∷ []) ≡ pos h)
unfolding value_before
matrix_is n h zero d made at = absurd (omega (arith, made))
matrix_is n h (suc zero) d made at = absurd (omega (arith, made))
matrix_is n h (suc (suc zero)) d made at =
    let two : ℕ = 2 in
    let same = same_Some _ _ at in
    subst (λ (e : DeclValue). (two ≡ two) × (exact_value e.w (n ∷ h ∷ n ∷ []) ≡ pos n) × (exact_value e.h (n ∷ h ∷ n ∷ []) ≡ pos h)) same (refl, omega (arith, ints), omega (arith, ints))
matrix_is n h (suc (suc (suc m))) d made at = absurd (none-some d at)

in_span : (z : ℤ) (n : ℕ) → z ≡ pos n → (x : ℕ) → Contains (numbers_of (from_start z)) x → x < n
in_span z n e x has =
    let kept = filter_in (λ (k : ℕ). int_le (pos 0) (pos k)) (range_with_len 0 (natural z)) x has in
    omega (arith, range_in (natural z) x kept.0, ap natural e)

abbrev pub nth_decl : ℕ → DeclValue
nth_decl k = decl_or (slice_get written.matrices k)

pub is_made : (n h : ℕ) (c : Cell) → Contains (made_cells written (n ∷ h ∷ n ∷ [])) c → (c ≡ record { matrix = 2; x = c.x; y = c.y }) × (c.x < n) × (c.y < h)
unfolding made_cells cells_of
is_made n h c has =
    let wide = exact_value (nth_decl 2).w (n ∷ h ∷ n ∷ []) in
    let high = exact_value (nth_decl 2).h (n ∷ h ∷ n ∷ []) in
    let one = subst (λ cs. Contains cs c) (append-nil (matrix_cells (n ∷ h ∷ n ∷ []) 2 (nth_decl 2))) has in
    let row = flat_in (λ (y : ℕ). map (λ (x : ℕ). (let q : Cell = record { matrix = 2; x = x; y = y } in q)) (numbers_of (from_start wide))) (numbers_of (from_start high)) c one in
    let from = map_in (λ (x : ℕ). (let q : Cell = record { matrix = 2; x = x; y = row.0 } in q)) (numbers_of (from_start wide)) c row.2 in
    let sides = matrix_is n h 2 (nth_decl 2) (omega arith) refl in
    subst (λ (q : Cell). (q ≡ record { matrix = 2; x = q.x; y = q.y }) × (q.x < n) × (q.y < h)) from.2 (refl, in_span wide n sides.1 from.0 from.1, in_span high h sides.2 row.0 row.1)

-- ---- a rule reads given matrices alone, where its views are of these
abbrev pub IsLow : Cell → Type 0
IsLow c = c.matrix < 2

low_cells : (m : ℕ) (a : Area) → m < 2 → AllByRecursion IsLow (cells_of m a)
unfolding cells_of
low_cells m a low = rows (numbers_of a.y)
  where
    rows : (ys : List ℕ) → AllByRecursion IsLow (flat_map (λ (y : ℕ). map (λ (x : ℕ). (let c : Cell = record { matrix = m; x = x; y = y } in c)) (numbers_of a.x)) ys)
    rows [] = tt
    rows (y ∷ ys) = each_joined IsLow (map (λ (x : ℕ). (let c : Cell = record { matrix = m; x = x; y = y } in c)) (numbers_of a.x)) _ (each_mapped IsLow (λ (x : ℕ). (let c : Cell = record { matrix = m; x = x; y = y } in c)) (λ x. low) (numbers_of a.x)) (rows ys)

module _ (matrices : List DeclValue) (sizes : List ℕ) (c : Cell) where
  low_view : (v : Read) → v.matrix < 2 → AllByRecursion IsLow (cells_of_view matrices sizes c v)
  low_view v low = by (slice_get matrices v.matrix)
    where
      by : (o : Option DeclValue) → AllByRecursion IsLow (option_map_or (λ d. cells_of v.matrix (area_of sizes (pos c.x) (pos c.y) v d)) o [])
      by None = tt
      by (Some d) = low_cells v.matrix _ low

  low_views : (vs : List Read) → AllByRecursion (λ (v : Read). v.matrix < 2) vs → AllByRecursion IsLow (flat_map (cells_of_view matrices sizes c) vs)
  low_views [] h = tt
  low_views (v ∷ vs) h = each_joined IsLow (cells_of_view matrices sizes c v) (flat_map (cells_of_view matrices sizes c) vs) (low_view v h.0) (low_views vs h.1)

  pub reads_low : (r : ProgRule) → AllByRecursion (λ (v : Read). v.matrix < 2) r.reads → AllByRecursion IsLow (reads matrices sizes c r)
  unfolding reads
  reads_low r h = low_views r.reads h
