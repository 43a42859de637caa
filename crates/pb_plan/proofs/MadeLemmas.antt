-- Each cell that rules make is made by one job, once.
use Rattle.std.proofs.Common.{◌≡◌, ◌∙◌, refl, sym, ap, ℕ, zero, suc, ◌<◌, Bool, true, false, not, List, [], ◌∷◌, length, slice_get, slice_index, Some, arith}
use Rattle.std.specs.Prelude.{filter}
use Rattle.std.specs.List.{Contains, enumerate_from}
use Rattle.std.specs.Option.{option_map_or}
use Rattle.std.proofs.lemmas.Option.{slice_get_within}
use Rattle.pb_values.specs.Views.{HasPlace}
use Rattle.pb_graph.specs.Layerings.{LayerValue}
use Rattle.pb_graph.specs.Nodes.{NodeValue}
use Rattle.pb_program.specs.Configs.{ConfigValue, IsValid}
use Rattle.pb_program.specs.Trees.{ProgRule, ProgTransform}
use Rattle.pb_region.specs.Boxes.{is_wide}
use Rattle.pb_base.proofs.ListLemmas.{at_in, in_at}
use Rattle.pb_model.specs.Cells.{Cell}
use Rattle.pb_model.specs.Chosen.{chosen_rule}
use Rattle.pb_model.specs.Lawful.{IsLawful}
use Rattle.pb_model.proofs.ChosenLemmas.{chosen_lawful}
use Rattle.pb_check.specs.Orders.{AnalysisValue}
use Rattle.pb_check.specs.Ranked.{IsMadeCell}
use Rattle.pb_check.proofs.CoverLemmas.{has_lawful}
use Rattle.pb_check.proofs.FirstLemmas.{some_same}
use Rattle.pb_frame.specs.Choices.{IsInstance}
use Rattle.pb_frame.specs.Frames.{HoldsCell, JobValue, has_cell, part_of as part_for, parts_of}
use Rattle.pb_frame.specs.declared.part.FramePart.{FramePart}
use Rattle.pb_frame.proofs.PartLemmas.{held_chosen, held_made, node_layer, of_part, one_part, some_part}
use Rattle.pb_plan.specs.Made.{IsMadeBy, jobs_for}
use Rattle.pb_plan.proofs.JobLemmas.{HasPiece, block_has, one_job, part_of, placed, rising_parts, wide_has}
use Rattle.pb_plan.proofs.PieceLemmas.{IsPiece}
use Rattle.pb_plan.proofs.RiseLemmas.{Rises, rises_filter, rises_map, rises_numbered, rises_one}

module _ (config : ConfigValue) (number : ℕ) (t : ProgTransform) (a : AnalysisValue) (sizes : List ℕ) (grain : ℕ) (i : IsInstance number t a sizes) where
  abbrev pub parts : List FramePart
  parts = parts_of config number t sizes a.nodes

  abbrev pub jobs : List JobValue
  jobs = jobs_for config number t a sizes grain

  parts_rise : Rises (λ (part : FramePart). part.node) parts
  parts_rise = rises_map (λ (e : ℕ × NodeValue). e.0) (λ (part : FramePart). part.node) (part_for config number t sizes) (λ e. refl) (filter (has_cell sizes) (enumerate_from 0 a.nodes))
      (rises_filter (λ (e : ℕ × NodeValue). e.0) (has_cell sizes) (enumerate_from 0 a.nodes) (rises_numbered 0 a.nodes))

  -- a part of a job is a piece of a part of the instance
  pub piece_of : (c : Cell) (j k : ℕ) (m : IsMadeBy jobs a.nodes c j k) → IsPiece parts m.part
  piece_of c j k m = (part_of t a.order grain parts j m.job (placed t a.order grain parts j m.job m.is) m.part (in_at m.job.parts k m.part m.has)).piece

  abbrev pub held_whole : (piece : FramePart) (p : IsPiece parts piece) (c : Cell) → HoldsCell a.nodes piece c → HoldsCell a.nodes p.whole c
  held_whole piece p c h = record { node = h.node; there = ap (slice_get a.nodes) p.node ∙ h.there; matrix = h.matrix; place = p.inside c.x c.y h.place }

  pub made_cell : (c : Cell) (j k : ℕ) → IsMadeBy jobs a.nodes c j k → IsMadeCell t sizes c
  made_cell c j k m = let p = piece_of c j k m in held_made config number t a sizes i p.whole c p.among (held_whole m.part p c m.holds)

  pub made_rule : (c : Cell) (j k : ℕ) (m : IsMadeBy jobs a.nodes c j k) → chosen_rule config number t sizes c ≡ m.part.rule
  made_rule c j k m = let p = piece_of c j k m in held_chosen config number t a sizes i p.whole c p.among (held_whole m.part p c m.holds) ∙ p.rule

  pub made_once : (c : Cell) (j k l m : ℕ) → IsMadeBy jobs a.nodes c j k → IsMadeBy jobs a.nodes c l m → (j ≡ l) × (k ≡ m)
  made_once c j k l m x y =
      let p = piece_of c j k x in
      let q = piece_of c l m y in
      let whole : p.whole ≡ q.whole = one_part config number t a sizes i c p.whole q.whole p.among q.among (held_whole x.part p c x.holds) (held_whole y.part q c y.holds) in
      let node : x.part.node ≡ y.part.node = sym p.node ∙ ap (λ (r : FramePart). r.node) whole ∙ q.node in
      let rule : x.part.rule ≡ y.part.rule = sym p.rule ∙ ap (λ (r : FramePart). r.rule) whole ∙ q.rule in
      let job : j ≡ l = one_job t a.order grain parts j l x.job y.job x.is y.is x.part y.part (in_at x.job.parts k x.part x.has) (in_at y.job.parts m y.part y.has) node rule c.x c.y x.holds.place y.holds.place in
      let same : x.job ≡ y.job = some_same x.job y.job (sym x.is ∙ ap (slice_get jobs) job ∙ y.is) in
      (job, rises_one (λ (q : FramePart). q.node) x.job.parts (rising_parts t a.order grain parts parts_rise j x.job x.is) k m x.part y.part x.has (ap (λ (b : JobValue). slice_get b.parts m) same ∙ y.has) node)

  module _ (valid : IsValid i.program config) where
    pub chosen : (c : Cell) → IsMadeCell t sizes c → IsLawful t sizes c (chosen_rule config number t sizes c)
    chosen c made = chosen_lawful i.program config number t sizes c valid (has_lawful i.program number t c sizes i.well_formed i.sound i.there made.cell made.made)

    some_at : {A : Type 0} (xs : List A) (k : ℕ) → k < length xs → (x : A) × (slice_get xs k ≡ Some x)
    some_at [] k b = absurd (omega (arith, b))
    some_at (x ∷ xs) zero b = (x, refl)
    some_at (x ∷ xs) (suc k) b = some_at xs k (omega (arith, b))

    pub made_by : (c : Cell) → IsMadeCell t sizes c → (j : ℕ) × (k : ℕ) × IsMadeBy jobs a.nodes c j k
    made_by c made =
        let p = some_part config number t a sizes i c made in
        let of = of_part number t a sizes i config p.0 p.1 in
        let rule : chosen_rule config number t sizes c ≡ p.0.rule = held_chosen config number t a sizes i p.0 c p.1 p.2 in
        let law = chosen c made in
        let there : slice_get t.rules p.0.rule ≡ Some law.rule = ap (slice_get t.rules) (sym rule) ∙ law.there in
        let layer = (node_layer number t a sizes i p.0.node (slice_get_within a.nodes p.0.node of.0 of.1)).1 in
        let v = some_at a.order.layers (slice_index a.order.layer p.0.node) layer in
        let h = by p.0 law.rule v.0 p.1 there v.1 p.2.place (is_wide law.rule.kind) refl in
        let k = at_in h.job.parts h.piece h.of in
        (h.number, k.0, record { job = h.job; is = h.is; part = h.piece; has = k.1; holds = record { node = p.2.node; there = ap (slice_get a.nodes) h.node ∙ p.2.there; matrix = p.2.matrix; place = h.place } })
      where
        by : (part : FramePart) (r : ProgRule) (v : LayerValue) → Contains parts part → slice_get t.rules part.rule ≡ Some r → slice_get a.order.layers (slice_index a.order.layer part.node) ≡ Some v → HasPlace part.rect c.x c.y
            → (b : Bool) → is_wide r.kind ≡ b → HasPiece t a.order grain parts part c.x c.y
        by part r v h there layer place true e = wide_has t a.order grain parts part v h layer (slice_get_within t.rules part.rule r there) (ap (λ o. option_map_or (λ (q : ProgRule). is_wide q.kind) o false) there ∙ e) c.x c.y place
        by part r v h there layer place false e = block_has t a.order grain parts part v h layer (ap (λ o. option_map_or (λ (q : ProgRule). not (is_wide q.kind)) o false) there ∙ ap not e) c.x c.y place
