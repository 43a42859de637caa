-- What an instance costs, by its parts.
use Rattle.std.proofs.Common.{◌≡◌, ◌∙◌, refl, sym, ap, ℕ, ◌+◌, Bool, true, false, List, length, map, slice_get, arith}
use Rattle.std.specs.Prelude.{◌==◌, ◌&&◌, if◌then◌else◌, sum_by}
use Rattle.std.specs.List.{Contains, enumerate_from, flat_map, list_any}
use Rattle.std.specs.Option.{option_map_or}
use Rattle.pb_values.specs.declared.rect.Rect.{Rect}
use Rattle.pb_program.specs.Configs.{ConfigValue, IsValid}
use Rattle.pb_program.specs.Forms.{DeclValue}
use Rattle.pb_program.specs.Trees.{ProgRule, ProgTransform}
use Rattle.pb_program.specs.declared.view.Read.{Read}
use Rattle.pb_region.specs.Boxes.{is_wide}
use Rattle.pb_model.specs.Calls.{made_cells}
use Rattle.pb_model.specs.Cells.{Cell, cells_of_view, reads}
use Rattle.pb_model.specs.Chosen.{chosen_rule}
use Rattle.pb_check.specs.Orders.{AnalysisValue}
use Rattle.pb_frame.specs.Choices.{IsInstance}
use Rattle.pb_frame.specs.declared.part.FramePart.{FramePart}
use Rattle.pb_frame.proofs.PartLemmas.{held_chosen, held_made, some_part}
use Rattle.pb_recursion.specs.Plans.{no_cell}
use Rattle.pb_instance_cost.specs.Costs.{cell_cost, equation_cost, instance_cost, single_cost, wide_cost}
use Rattle.pb_instance_cost.specs.Parts.{at_start, is_wide_of, part_shown, single_shown, wide_shown}
use Rattle.pb_instance_cost.specs.Shown.{columns, row_shown, rows, rule_shown, view_shown}
use Rattle.pb_instance_cost.proofs.CellLemmas.{cells_held, from_parts, grid, is_made, made_is, matrix_of, once_made, once_parts, part_cells, parts, to_parts}
use Rattle.pb_instance_cost.proofs.ListLemmas.{any_in, in_any, length_flat, no_sum, same_sums, sum_flat, sum_map, sum_swap, sums_alike, two_sums}
use Rattle.pb_instance_cost.proofs.PartLemmas.{first_cell, the_rule}

-- ---- the views of a rule
module _ (matrices : List DeclValue) (sizes : List ℕ) where
  module _ (m : ℕ) (rect : Rect) where
    abbrev cells : List Cell
    cells = grid m (columns rect) (rows rect)

    abbrev shown : Cell → Read → ℕ
    shown c v = length (cells_of_view matrices sizes c v)

    of_view : (v : Read) → sum_by (λ c. shown c v) cells ≡ view_shown matrices sizes rect v
    unfolding row_shown
    of_view v =
        sum_flat (λ c. shown c v) (λ y. map (λ x. record { matrix = m; x = x; y = y }) (columns rect)) (rows rect)
        ∙ same_sums _ _ (rows rect) (λ y _. sum_map (λ c. shown c v) (λ x. record { matrix = m; x = x; y = y }) (columns rect))

    of_views : (vs : List Read) → sum_by (λ c. length (flat_map (cells_of_view matrices sizes c) vs)) cells ≡ sum_by (view_shown matrices sizes rect) vs
    of_views vs = same_sums _ _ cells (λ c _. length_flat (cells_of_view matrices sizes c) vs) ∙ sum_swap shown cells vs ∙ same_sums _ _ vs (λ v _. of_view v)

    pub of_rule : (r : ProgRule) → sum_by (λ c. equation_cost matrices sizes c r) cells ≡ rule_shown matrices sizes rect r
    unfolding equation_cost reads
    of_rule r = two_sums (λ c. length (flat_map (cells_of_view matrices sizes c) r.reads)) (λ c. length (flat_map (cells_of_view matrices sizes c) r.outs)) cells ∙ λ i. of_views r.reads i + of_views r.outs i

  -- at the one place where rule variables are 0
  at_zero : (r : ProgRule) → equation_cost matrices sizes no_cell r ≡ rule_shown matrices sizes at_start r
  at_zero r = let one : 0 + equation_cost matrices sizes no_cell r ≡ rule_shown matrices sizes at_start r = of_rule 0 at_start r in omega (arith, one)

module _ (config : ConfigValue) (number : ℕ) (t : ProgTransform) (a : AnalysisValue) (sizes : List ℕ) (i : IsInstance number t a sizes) (valid : IsValid i.program config) where
  abbrev all_parts : List FramePart
  all_parts = parts config number t a sizes i

  abbrev cells_in : FramePart → List Cell
  cells_in = part_cells config number t a sizes i

  abbrev chosen : Cell → ℕ
  chosen = chosen_rule config number t sizes

  -- ---- cells of rules for single cells
  of_part : (part : FramePart) → Contains all_parts part → sum_by (cell_cost config number t sizes) (cells_in part) ≡ part_shown t sizes part
  of_part part own =
      let r = the_rule config number t a sizes i valid part own in
      same_sums _ (λ c. single_cost config number t sizes c r.0) (cells_in part) (λ c h.
      ap (λ k. option_map_or (single_cost config number t sizes c) (slice_get t.rules k) 0) (held_chosen config number t a sizes i part c own (cells_held config number t a sizes i part own c h))
      ∙ ap (λ o. option_map_or (single_cost config number t sizes c) o 0) r.1)
      ∙ by r.0 (is_wide r.0.kind) refl ∙ sym (ap (λ o. option_map_or (single_shown t sizes part.rect) o 0) r.1)
    where
      by : (r : ProgRule) (b : Bool) → is_wide r.kind ≡ b → sum_by (λ c. single_cost config number t sizes c r) (cells_in part) ≡ single_shown t sizes part.rect r
      by r true e = rw e (no_sum (cells_in part))
      by r false e = rw e (of_rule t.matrices sizes (matrix_of config number t a sizes i part) part.rect r)

  singles : sum_by (cell_cost config number t sizes) (made_cells t sizes) ≡ sum_by (part_shown t sizes) all_parts
  singles =
      sums_alike (cell_cost config number t sizes) (made_cells t sizes) (flat_map cells_in all_parts) (once_made config number t a sizes i) (once_parts config number t a sizes i) (to_parts config number t a sizes i) (from_parts config number t a sizes i)
      ∙ sum_flat (cell_cost config number t sizes) cells_in all_parts ∙ same_sums _ _ all_parts of_part

  -- ---- other rules
  same_test : (p q : Bool) → (p ≡ true → q ≡ true) → (q ≡ true → p ≡ true) → p ≡ q
  same_test true q f g = sym (f refl)
  same_test false true f g = g refl
  same_test false false f g = refl

  pub any_same : (k : ℕ) → list_any (λ c. chosen c == k) (made_cells t sizes) ≡ list_any (λ (part : FramePart). part.rule == k) all_parts
  any_same k = same_test _ _
      (λ h.
      let c = in_any (λ c. chosen c == k) (made_cells t sizes) h in
      let p = some_part config number t a sizes i c.0 (made_is config number t a sizes i c.0 c.1) in
      any_in (λ (part : FramePart). part.rule == k) all_parts p.0 p.1 (ap (λ n. n == k) (sym (held_chosen config number t a sizes i p.0 c.0 p.1 p.2)) ∙ c.2))
      (λ h.
      let p = in_any (λ (part : FramePart). part.rule == k) all_parts h in
      let c = first_cell config number t a sizes i valid p.0 p.1 in
      any_in (λ c. chosen c == k) (made_cells t sizes) c.0 (is_made config number t a sizes i c.0 (held_made config number t a sizes i p.0 c.0 p.1 c.1)) (ap (λ n. n == k) (held_chosen config number t a sizes i p.0 c.0 p.1 c.1) ∙ p.2))

  wides : sum_by (wide_cost config number t sizes) (enumerate_from 0 t.rules) ≡ sum_by (wide_shown t sizes all_parts) (enumerate_from 0 t.rules)
  wides = same_sums _ _ (enumerate_from 0 t.rules) (λ r _.
      ap (λ b. if is_wide r.1.kind && b then equation_cost t.matrices sizes no_cell r.1 else 0) (any_same r.0) ∙ ap (λ n. if is_wide_of all_parts r then n else 0) (at_zero t.matrices sizes r.1))

  pub cost_is : instance_cost config number t sizes ≡ sum_by (part_shown t sizes) all_parts + sum_by (wide_shown t sizes all_parts) (enumerate_from 0 t.rules)
  unfolding instance_cost
  cost_is i = singles i + wides i
