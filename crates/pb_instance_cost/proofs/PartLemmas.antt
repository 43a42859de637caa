-- The views of the rules of parts lie within their matrices.
use Rattle.std.proofs.Common.{◌≡◌, ◌∙◌, refl, sym, ap, subst, ℕ, ◌<◌, pos, true, List, length, get_or, slice_get, Some, arith}
use Rattle.std.specs.Prelude.{◌==◌}
use Rattle.std.specs.List.{All, AllByRecursion, Contains, list_any}
use Rattle.pb_base.proofs.ListLemmas.{in_at}
use Rattle.std.proofs.lemmas.Bool.{and_parts, eqb-true}
use Rattle.std.proofs.lemmas.Option.{slice_get-get_or}
use Rattle.pb_linear.specs.Numbers.{exact_value}
use Rattle.pb_values.specs.Views.{HasPlace}
use Rattle.pb_values.specs.declared.rect.Rect.{Rect}
use Rattle.pb_program.specs.declared.view.Read.{Read}
use Rattle.pb_program.specs.Areas.{area_of}
use Rattle.pb_program.specs.Forms.{DeclValue}
use Rattle.pb_program.specs.Conditions.{Applies}
use Rattle.pb_program.specs.Configs.{ConfigValue, IsValid}
use Rattle.pb_program.specs.Trees.{ProgRule, ProgTransform}
use Rattle.pb_program.specs.WellFormed.{IsRule, IsTransform, IsView, variables}
use Rattle.pb_region.specs.Boxes.{is_wide}
use Rattle.pb_region.specs.Small.{IsSmallRead}
use Rattle.pb_region.specs.Within.{IsWithin}
use Rattle.pb_region.proofs.SmallLemmas.{at_place, small_rule}
use Rattle.pb_model.specs.Cells.{Cell}
use Rattle.pb_check.specs.Orders.{AnalysisValue}
use Rattle.pb_check.proofs.FirstLemmas.{all_at, some_at, some_same}
use Rattle.pb_calls.proofs.InsideLemmas.{output_within, view_within}
use Rattle.pb_frame.specs.Choices.{IsInstance}
use Rattle.pb_frame.specs.Frames.{HoldsCell, parts_of}
use Rattle.pb_frame.specs.declared.part.FramePart.{FramePart}
use Rattle.pb_frame.proofs.PartLemmas.{held_chosen, held_made, of_part}
use Rattle.pb_plan.proofs.BeforeLemmas.{some_places}
use Rattle.pb_plan.proofs.BoxLemmas.{steady}
use Rattle.pb_plan.proofs.MadeLemmas.{chosen}
use Rattle.pb_plan.proofs.PieceLemmas.{whole_piece}
use Rattle.pb_plan.proofs.WideLemmas.{applies_same}
use Rattle.pb_instance_cost.specs.Parts.{CanShowPart, CanShowWides, at_start}
use Rattle.pb_instance_cost.specs.Shown.{CanShow, CanShowRule}
use Rattle.pb_instance_cost.proofs.ListLemmas.{in_any}

module _ (config : ConfigValue) (number : ℕ) (t : ProgTransform) (a : AnalysisValue) (sizes : List ℕ) (i : IsInstance number t a sizes) where
  fits : IsTransform (length i.program) t
  fits = at_place (IsTransform (length i.program)) i.program number t i.well_formed.transforms i.there

  -- a rule that applies at each place of a rectangle
  module _ (k : ℕ) (r : ProgRule) (there : slice_get t.rules k ≡ Some r) (rect : Rect) (wide : rect.x0 < rect.x1) (tall : rect.y0 < rect.y1) (applies : (x y : ℕ) → HasPlace rect x y → Applies t.matrices r sizes (pos x) (pos y)) where
    rule_fits : IsRule (length t.sizes) t.inputs (length t.matrices) (length i.program) r
    rule_fits = at_place (IsRule (length t.sizes) t.inputs (length t.matrices) (length i.program)) t.rules k r fits.rules there

    can_views : (views : List Read) → AllByRecursion (IsView (length t.sizes) (variables r.outs) (length t.matrices)) views → All IsSmallRead views
        → ((j : ℕ) (q : Read) (d : DeclValue) → slice_get views j ≡ Some q → slice_get t.matrices q.matrix ≡ Some d → (x y : ℕ) → HasPlace rect x y → IsWithin (area_of sizes (pos x) (pos y) q d) (exact_value d.w sizes) (exact_value d.h sizes))
        → All (CanShow t.matrices sizes rect) views
    can_views views fit small within j d below =
        let q = get_or views j d in
        let at = slice_get-get_or views j d below in
        let decl = some_at t.matrices q.matrix (at_place (IsView (length t.sizes) (variables r.outs) (length t.matrices)) views j q fit at).matrix in
        record { decl = decl.0; there = decl.1; steady = steady q (all_at IsSmallRead views j q small at); wide = wide; tall = tall; within = within j q decl.0 at decl.1 }

    can_show : CanShowRule t.matrices sizes rect r
    can_show =
        let small = small_rule i.program i.well_formed number t i.there k r there in
        record {
          reads = can_views r.reads rule_fits.reads small.reads (λ j q d at decl x y place. view_within i.program number t sizes i.well_formed i.sound i.there k r there j q d at decl i.in_range (pos x) (pos y) (applies x y place));
          outs = can_views r.outs rule_fits.outs small.outs (λ j q d at decl x y place. output_within i.program number t sizes i.well_formed i.sound i.there k r there j q d at decl i.in_range (pos x) (pos y) (applies x y place));
        }

  module _ (valid : IsValid i.program config) where
    abbrev pub parts : List FramePart
    parts = parts_of config number t sizes a.nodes

    module _ (part : FramePart) (own : Contains parts part) where
      -- its rule is there, and applies at each of its places
      rule_at : (x y : ℕ) → HasPlace part.rect x y → (r : ProgRule) × (slice_get t.rules part.rule ≡ Some r) × Applies t.matrices r sizes (pos x) (pos y)
      rule_at x y place =
          let n = of_part number t a sizes i config part own in
          let c : Cell = record { matrix = n.0.matrix; x = x; y = y } in
          let h : HoldsCell a.nodes part c = record { node = n.0; there = n.1; matrix = refl; place = place } in
          let law = chosen config number t a sizes 0 i valid c (held_made config number t a sizes i part c own h) in
          (law.rule, ap (slice_get t.rules) (sym (held_chosen config number t a sizes i part c own h)) ∙ law.there, law.can.applies)

      places : (part.rect.x0 < part.rect.x1) × (part.rect.y0 < part.rect.y1)
      places = some_places config number t a sizes 0 i valid part (whole_piece parts part own)

      corner : HasPlace part.rect part.rect.x0 part.rect.y0
      corner = record { left = omega arith; right = places.0; low = omega arith; high = places.1 }

      -- it has a cell
      pub first_cell : (c : Cell) × HoldsCell a.nodes part c
      first_cell = let n = of_part number t a sizes i config part own in (record { matrix = n.0.matrix; x = part.rect.x0; y = part.rect.y0 }, record { node = n.0; there = n.1; matrix = refl; place = corner })

      pub the_rule : (r : ProgRule) × (slice_get t.rules part.rule ≡ Some r)
      the_rule = let f = rule_at part.rect.x0 part.rect.y0 corner in (f.0, f.1)

      applies_at : (r : ProgRule) → slice_get t.rules part.rule ≡ Some r → (x y : ℕ) → HasPlace part.rect x y → Applies t.matrices r sizes (pos x) (pos y)
      applies_at r there x y place = let f = rule_at x y place in subst (λ (q : ProgRule). Applies t.matrices q sizes (pos x) (pos y)) (some_same f.0 r (sym f.1 ∙ there)) f.2

      can_part : CanShowPart t sizes part
      can_part = let r = the_rule in record { rule = r.0; there = r.1; can = can_show part.rule r.0 r.1 part.rect places.0 places.1 (applies_at r.0 r.1) }

      -- one that isn't for single cells applies anywhere
      can_start : (r : ProgRule) → slice_get t.rules part.rule ≡ Some r → is_wide r.kind ≡ true → CanShowRule t.matrices sizes at_start r
      can_start r there wide = can_show part.rule r there at_start (omega arith) (omega arith) (λ x y place.
          applies_same i.program number t i.well_formed i.sound i.there part.rule r there wide sizes (pos part.rect.x0) (pos part.rect.y0) (pos x) (pos y) (applies_at r there part.rect.x0 part.rect.y0 corner))

    pub can_parts : All (CanShowPart t sizes) parts
    can_parts = λ k d below. let part = get_or parts k d in can_part part (in_at parts k part (slice_get-get_or parts k d below))

    pub can_wides : CanShowWides t sizes parts
    can_wides k r there h =
        let both = and_parts (is_wide r.kind) (list_any (λ (part : FramePart). part.rule == k) parts) h in
        let part = in_any (λ (part : FramePart). part.rule == k) parts both.1 in
        can_start part.0 part.1 r (ap (slice_get t.rules) (eqb-true part.0.rule k part.2) ∙ there) both.0
