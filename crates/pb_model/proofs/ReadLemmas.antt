-- The cells that a rule reads, by lists and by what its views show.
use Rattle.std.proofs.Common.{◌≡◌, refl, sym, ap, subst, ◌↔◌, ℕ, ◌<◌, ℤ, pos, negsuc, ◌≤ℤ◌, ◌<ℤ◌, true, List, [], map, slice_get, Option, Some, None, arith}
use Rattle.std.specs.Prelude.{int_le}
use Rattle.std.specs.List.{Contains, flat_map, range_with_len}
use Rattle.std.specs.Option.{option_map_or}
use Rattle.std.proofs.lemmas.Int.{ints}
use Rattle.pb_program.specs.declared.view.Read.{Read}
use Rattle.pb_program.specs.Areas.{Area, IsIn, Span, area_of}
use Rattle.pb_program.specs.Forms.{DeclValue}
use Rattle.pb_program.specs.Trees.{ProgRule}
use Rattle.pb_model.specs.Cells.{Cell, ReadsCell, Shows, cells_of, cells_of_view, natural, numbers_of, reads}
use Rattle.pb_base.proofs.ListLemmas.{filter_in, flat_in, in_filter, in_flat, in_map, in_none, in_range, map_in, range_in}

below_natural : (z : ℤ) (n : ℕ) → n < natural z → pos n <ℤ z
below_natural (pos k) n h = omega (arith, ints)
below_natural (negsuc k) n h = absurd (omega arith)

natural_above : (z : ℤ) (n : ℕ) → pos n <ℤ z → n < natural z
natural_above (pos k) n h = omega (arith, ints)
natural_above (negsuc k) n h = absurd (omega (arith, ints))

number_in : (s : Span) (n : ℕ) → Contains (numbers_of s) n → (s.low ≤ℤ pos n) × (pos n <ℤ s.high)
number_in s n h =
    let parts = filter_in (λ k. int_le s.low (pos k)) (range_with_len 0 (natural s.high)) n h in
    let low = parts.1 in
    (grind (arith, ints), below_natural s.high n (range_in (natural s.high) n parts.0))

in_numbers : (s : Span) (n : ℕ) → s.low ≤ℤ pos n → pos n <ℤ s.high → Contains (numbers_of s) n
in_numbers s n low high =
    let test : int_le s.low (pos n) ≡ true = grind (arith, ints) in
    in_filter (λ k. int_le s.low (pos k)) (range_with_len 0 (natural s.high)) n (in_range (natural s.high) n (natural_above s.high n high)) test

abbrev row : ℕ → Area → ℕ → List Cell
row m a y = map (λ x. record { matrix = m; x = x; y = y }) (numbers_of a.x)

cell_in : (m : ℕ) (a : Area) (c : Cell) → Contains (cells_of m a) c → (m ≡ c.matrix) × IsIn a (pos c.x) (pos c.y)
unfolding cells_of
cell_in m a c h =
    let r = flat_in (row m a) (numbers_of a.y) c h in
    let q = map_in (λ x. record { matrix = m; x = x; y = r.0 }) (numbers_of a.x) c r.2 in
    let ex : q.0 ≡ c.x = ap (λ (k : Cell). k.x) q.2 in
    let ey : r.0 ≡ c.y = ap (λ (k : Cell). k.y) q.2 in
    let nx = subst (λ n. (a.x.low ≤ℤ pos n) × (pos n <ℤ a.x.high)) ex (number_in a.x q.0 q.1) in
    let ny = subst (λ n. (a.y.low ≤ℤ pos n) × (pos n <ℤ a.y.high)) ey (number_in a.y r.0 r.1) in
    (ap (λ (k : Cell). k.matrix) q.2, record { left = nx.0; right = nx.1; low = ny.0; high = ny.1 })

in_cells : (m : ℕ) (a : Area) (c : Cell) → m ≡ c.matrix → IsIn a (pos c.x) (pos c.y) → Contains (cells_of m a) c
unfolding cells_of
in_cells m a c e h =
    let x = in_map (λ n. record { matrix = m; x = n; y = c.y }) (numbers_of a.x) c.x (in_numbers a.x c.x h.left h.right) in
    let there = in_flat (row m a) (numbers_of a.y) c.y (record { matrix = m; x = c.x; y = c.y }) (in_numbers a.y c.y h.low h.high) x in
    subst (λ k. Contains (flat_map (row m a) (numbers_of a.y)) (record { matrix = k; x = c.x; y = c.y })) e there

module _ (ms : List DeclValue) (sizes : List ℕ) (c : Cell) where
  shown_by : (r : Read) (d : Cell) (o : Option DeclValue) → slice_get ms r.matrix ≡ o → Contains (option_map_or (λ (m : DeclValue). cells_of r.matrix (area_of sizes (pos c.x) (pos c.y) r m)) o []) d → Shows ms sizes c r d
  shown_by r d None e h = absurd (in_none d h)
  shown_by r d (Some m) e h = let parts = cell_in r.matrix (area_of sizes (pos c.x) (pos c.y) r m) d h in record { decl = m; there = e; same = parts.0; inside = parts.1 }

  shows_in : (r : Read) (d : Cell) → Shows ms sizes c r d → Contains (cells_of_view ms sizes c r) d
  shows_in r d s = subst (λ o. Contains (option_map_or (λ (m : DeclValue). cells_of r.matrix (area_of sizes (pos c.x) (pos c.y) r m)) o []) d) (sym s.there) (in_cells r.matrix (area_of sizes (pos c.x) (pos c.y) r s.decl) d s.same s.inside)

  pub reads_are : (d : Cell) (r : ProgRule) → Contains (reads ms sizes c r) d ↔ ReadsCell ms sizes c r d
  unfolding reads
  reads_are d r = (
    λ h. let found = flat_in (cells_of_view ms sizes c) r.reads d h in record { read = found.0; declared = found.1; shows = shown_by found.0 d (slice_get ms found.0.matrix) refl found.2 },
    λ h. in_flat (cells_of_view ms sizes c) r.reads h.read d h.declared (shows_in h.read d h.shows),
  )
