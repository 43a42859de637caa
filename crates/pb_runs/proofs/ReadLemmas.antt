-- What a job reads lies in its boxes.
use Rattle.std.proofs.Common.{◌≡◌, ◌∙◌, sym, ap, subst, ℕ, pos, false, true, refl, List, [], map, slice_get, Option, Some, None, arith}
use Rattle.std.specs.List.{Contains}
use Rattle.std.specs.Option.{option_map_or}
use Rattle.pb_linear.specs.Numbers.{exact_value}
use Rattle.pb_values.specs.Views.{HasPlace}
use Rattle.pb_program.specs.Areas.{Area, IsIn, area_of}
use Rattle.pb_program.specs.Configs.{ConfigValue}
use Rattle.pb_program.specs.Forms.{DeclValue}
use Rattle.pb_program.specs.Trees.{ProgRule, ProgTransform}
use Rattle.pb_program.specs.declared.view.Read.{Read}
use Rattle.pb_region.specs.Boxes.{is_wide}
use Rattle.pb_base.proofs.ListLemmas.{in_at, in_flat, in_map, in_none}
use Rattle.pb_model.specs.Calls.{Outcomes, cell_reads}
use Rattle.pb_model.specs.Cells.{Cell, IsCell, ReadsCell, reads}
use Rattle.pb_model.specs.Chosen.{chosen_rule}
use Rattle.pb_model.proofs.LawfulLemmas.{in_lawful}
use Rattle.pb_model.proofs.ReadLemmas.{reads_are}
use Rattle.pb_calls.proofs.InsideLemmas.{reads_inside}
use Rattle.pb_frame.specs.Frames.{JobValue}
use Rattle.pb_frame.specs.declared.part.FramePart.{FramePart}
use Rattle.pb_links.specs.declared.places.Spot.{Spot}
use Rattle.pb_plan.specs.Boxes.{boxes_by, part_area, part_box, part_boxes, shown_at, whole_box}
use Rattle.pb_plan.specs.Made.{IsMadeBy}
use Rattle.pb_plan.proofs.BeforeLemmas.{parts}
use Rattle.pb_plan.proofs.JobLemmas.{part_of, placed}
use Rattle.pb_plan.proofs.MadeLemmas.{chosen, made_cell, made_rule}
use Rattle.pb_plan.proofs.SpreadLemmas.{covers, in_rect, shown_is}
use Rattle.pb_plan.proofs.WideLemmas.{shown_same}
use Rattle.pb_walk.specs.declared.stop.Stop.{Stop}
use Rattle.pb_solution.specs.Solutions.{stop_cell, stops_of}
use Rattle.pb_solution.proofs.OrderLemmas.{stop_made}
use Rattle.pb_runs.specs.Right.{no_plans}
use Rattle.pb_views.specs.Seats.{base_x, base_y}
use Rattle.pb_runs.specs.Steps.{Instance, number_at, seat_in, through}
use Rattle.pb_runs.proofs.BoxLemmas.{IsSituated, inst, jobs}
use Rattle.pb_runs.proofs.OwnLemmas.{side_below}
use Rattle.pb_runs.proofs.SpotLemmas.{IsCellAt, cell_has, spot_place}
use Rattle.pb_runs.proofs.ViewLemmas.{IsLocal, has_matrix}

module _ (config : ConfigValue) (ms : List Outcomes) (p : List ProgTransform) (i : Instance) (grain : ℕ) (at : IsSituated config p i) (lm : List Outcomes) (local : IsLocal ms i lm) where
  abbrev t : ProgTransform
  t = i.transform

  abbrev all_jobs : List JobValue
  all_jobs = jobs config p i grain at

  abbrev all_parts : List FramePart
  all_parts = parts config i.number t i.found i.sizes grain (inst config p i grain at) at.valid

  -- where a cell of the instance stands
  pub cell_there : (c : Cell) → IsCell t i.sizes c → IsCellAt ms (seat_in i c.matrix).base (base_x (seat_in i c.matrix) c.x c.y) (base_y (seat_in i c.matrix) c.x c.y) (number_at i c)
  cell_there c cell =
      let d = cell.decl in
      let h = has_matrix ms i lm local c.matrix d cell.there in
      let on_x = side_below (exact_value d.w i.sizes) c.x cell.before_x in
      let on_y = side_below (exact_value d.h i.sizes) c.y cell.before_y in
      cell_has ms (seat_in i c.matrix) h.grid h.placed c.x c.y (omega (arith, on_x, h.sides.width, h.placed.width)) (omega (arith, on_y, h.sides.height, h.placed.height))

  -- the box of a job that has what the chosen rule of a cell reads
  module _ (j k : ℕ) (job : JobValue) (e : slice_get all_jobs j ≡ Some job) (c shown : Cell) (m : IsMadeBy all_jobs i.found.nodes c j k) (rule : ProgRule) (there : slice_get t.rules (chosen_rule config i.number t i.sizes c) ≡ Some rule) (reading : ReadsCell t.matrices i.sizes c rule shown) where
    abbrev read : Read
    read = reading.read

    abbrev decl : DeclValue
    decl = reading.shows.decl

    of_part_rule : slice_get t.rules m.part.rule ≡ Some rule
    of_part_rule = ap (slice_get t.rules) (sym (made_rule config i.number t i.found i.sizes grain (inst config p i grain at) c j k m)) ∙ there

    abbrev Has : Option ℕ → Type 0
    Has o = (b : Spot) × Contains (boxes_by t i.sizes o m.job.parts) b × (b.base ≡ shown.matrix) × HasPlace b.rect shown.x shown.y

    box_has : (o : Option ℕ) → m.job.rule ≡ o → Has o
    box_has None none = (
      part_box t.matrices i.sizes m.part.rect read,
      in_flat (part_boxes t i.sizes) m.job.parts m.part (part_box t.matrices i.sizes m.part.rect read) (in_at m.job.parts k m.part m.has)
          (subst (λ o. Contains (option_map_or (λ (r : ProgRule). map (part_box t.matrices i.sizes m.part.rect) r.reads) o []) (part_box t.matrices i.sizes m.part.rect read)) (sym of_part_rule) (in_map (part_box t.matrices i.sizes m.part.rect) rule.reads read reading.declared)),
      reading.shows.same,
      in_rect (part_area t.matrices i.sizes m.part.rect read) shown.x shown.y (covers t.matrices i.sizes read decl reading.shows.there m.part.rect c.x c.y m.holds.place (pos shown.x) (pos shown.y) reading.shows.inside),
    )
    box_has (Some n) some =
        let of = part_of t i.found.order grain all_parts j m.job (placed t i.found.order grain all_parts j m.job m.is) m.part (in_at m.job.parts k m.part m.has) in
        let same = of.wide n some in
        let at_n : slice_get t.rules n ≡ Some rule = ap (slice_get t.rules) (sym same.0) ∙ of_part_rule in
        let wide : is_wide rule.kind ≡ true = sym (ap (λ o. option_map_or (λ (z : ProgRule). is_wide z.kind) o false) at_n) ∙ same.1 in
        let area : area_of i.sizes (pos c.x) (pos c.y) read decl ≡ shown_at t.matrices i.sizes read 0 0 = shown_same p i.number t at.well at.sound at.there n rule at_n wide read decl reading.declared i.sizes (pos c.x) (pos c.y) (pos 0) (pos 0) ∙ sym (shown_is t.matrices i.sizes read decl reading.shows.there 0 0) in (
          whole_box t.matrices i.sizes read,
          subst (λ o. Contains (option_map_or (λ (r : ProgRule). map (whole_box t.matrices i.sizes) r.reads) o []) (whole_box t.matrices i.sizes read)) (sym at_n) (in_map (whole_box t.matrices i.sizes) rule.reads read reading.declared),
          reading.shows.same,
          in_rect (shown_at t.matrices i.sizes read 0 0) shown.x shown.y (subst (λ (b : Area). IsIn b (pos shown.x) (pos shown.y)) area reading.shows.inside),
        )

    -- it is a cell of the instance
    inside : IsCell t i.sizes shown
    inside =
        let made = made_cell config i.number t i.found i.sizes grain (inst config p i grain at) c j k m in
        let n = chosen_rule config i.number t i.sizes c in
        reads_inside p i.number t i.sizes at.well at.sound at.there c n rule made.cell (in_lawful t i.sizes c n (chosen config i.number t i.found i.sizes grain (inst config p i grain at) at.valid c made)) there shown reading

    -- and the box, in the run, has its number
    pub box_reads : (b : Spot) × Contains (map (through i) (boxes_by t i.sizes job.rule job.parts)) b × (x : ℕ) × (y : ℕ) × HasPlace b.rect x y × IsCellAt ms b.base x y (number_at i shown)
    box_reads =
        let jobs_same : m.job ≡ job = some_same m.job job (sym m.is ∙ e) in
        let b = box_has m.job.rule (λ z. m.job.rule) in
        let seat = seat_in i b.0.base in
        let listed : Contains (boxes_by t i.sizes job.rule job.parts) b.0 = subst (λ (w : JobValue). Contains (boxes_by t i.sizes w.rule w.parts) b.0) jobs_same b.1 in (
          through i b.0,
          in_map (through i) (boxes_by t i.sizes job.rule job.parts) b.0 listed,
          base_x seat shown.x shown.y,
          base_y seat shown.x shown.y,
          spot_place seat b.0.rect shown.x shown.y b.3,
          subst (λ n. IsCellAt ms (seat_in i n).base (base_x (seat_in i n) shown.x shown.y) (base_y (seat_in i n) shown.x shown.y) (number_at i shown)) (sym b.2) (cell_there shown inside),
        )
      where
        some_same : (x y : JobValue) → Some x ≡ Some y → x ≡ y
        some_same x y h = cc

  -- what the chosen rule of a cell reads
  rule_reads : (c shown : Cell) → Contains (cell_reads config no_plans i.number t i.sizes c) shown → (r : ProgRule) × (slice_get t.rules (chosen_rule config i.number t i.sizes c) ≡ Some r) × ReadsCell t.matrices i.sizes c r shown
  unfolding cell_reads
  rule_reads c shown h = by (slice_get t.rules (chosen_rule config i.number t i.sizes c)) refl h
    where
      by : (o : Option ProgRule) → slice_get t.rules (chosen_rule config i.number t i.sizes c) ≡ o → Contains (option_map_or (reads t.matrices i.sizes c) o []) shown → (r : ProgRule) × (slice_get t.rules (chosen_rule config i.number t i.sizes c) ≡ Some r) × ReadsCell t.matrices i.sizes c r shown
      by None e h = absurd (in_none shown h)
      by (Some r) e h = (r, e, (reads_are t.matrices i.sizes c shown r).0 h)

  pub job_reads : (j : ℕ) (job : JobValue) → slice_get all_jobs j ≡ Some job → (s : Stop) → Contains (stops_of i.found.nodes i.found.order.layers job) s → (shown : Cell) → Contains (cell_reads config no_plans i.number t i.sizes (stop_cell s)) shown
      → (b : Spot) × Contains (map (through i) (boxes_by t i.sizes job.rule job.parts)) b × (x : ℕ) × (y : ℕ) × HasPlace b.rect x y × IsCellAt ms b.base x y (number_at i shown)
  job_reads j job e s h shown in_reads =
      let m = stop_made config i.number t i.found i.sizes grain (inst config p i grain at) at.valid j job e s h in
      let r = rule_reads (stop_cell s) shown in_reads in
      box_reads j s.piece job e (stop_cell s) shown m r.0 r.1 r.2
