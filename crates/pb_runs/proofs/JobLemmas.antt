-- A job of an instance reads what is known, and makes its cells as their rules say.
use Rattle.std.proofs.Common.{◌≡◌, ◌∙◌, refl, sym, ap, subst, inl, inr, ◌⊎◌, ⊎_elim, ℕ, ◌+◌, ◌-◌, ◌<◌, ◌≤◌, List, [], drop, map, slice_get, Some, None, arith}
use Rattle.std.specs.List.{Contains}
use Rattle.std.specs.Option.{option_map_or}
use Rattle.std.proofs.lemmas.Bool.{cases_lt}
use Rattle.pb_linear.specs.Numbers.{exact_value}
use Rattle.pb_values.specs.declared.outcome.Outcome.{Outcome}
use Rattle.pb_program.specs.Configs.{ConfigValue}
use Rattle.pb_program.specs.Trees.{ProgRule, ProgTransform}
use Rattle.pb_program.specs.declared.rule.RuleKind.{RuleKind}
use Rattle.pb_program.specs.declared.rule.RuleKind.TheVariants as kind
use Rattle.pb_base.proofs.ListLemmas.{in_map, map_in}
use Rattle.pb_model.specs.Calls.{IsSettled, Outcomes, Plans, cell_equation, cell_reads, made_by, made_cells, no_outcome, outcome_in, rule_of}
use Rattle.pb_model.specs.Cells.{Cell, IsCell, reads}
use Rattle.pb_model.specs.Chosen.{chosen_rule}
use Rattle.pb_model.proofs.CallLemmas.{in_made}
use Rattle.pb_model.proofs.LawfulLemmas.{in_lawful}
use Rattle.pb_model.proofs.ReadLemmas.{reads_are}
use Rattle.pb_calls.proofs.InsideLemmas.{reads_inside}
use Rattle.pb_check.specs.Ranked.{IsMadeCell}
use Rattle.pb_frame.specs.Frames.{JobValue}
use Rattle.pb_links.specs.declared.places.Spot.{Spot}
use Rattle.pb_plan.specs.Boxes.{boxes_by}
use Rattle.pb_plan.specs.Made.{IsMadeBy}
use Rattle.pb_plan.proofs.MadeLemmas.{chosen, made_cell}
use Rattle.pb_walk.specs.declared.stop.Stop.{Stop}
use Rattle.pb_solution.specs.Solutions.{stop_cell, stops_of}
use Rattle.pb_solution.proofs.MayLemmas.{map_same}
use Rattle.pb_solution.proofs.OrderLemmas.{made_stop, stop_made}
use Rattle.pb_runs.specs.Right.{IsMadeByRule, no_plans}
use Rattle.pb_runs.specs.Steps.{Instance, by_job, cells_of, number_at, seat_in, stop_number, through}
use Rattle.pb_runs.proofs.BoxLemmas.{IsSituated, box_before, box_ends, box_there, inst, jobs}
use Rattle.pb_runs.proofs.SoundLemmas.{Cells, IsLaid, IsMade}
use Rattle.pb_runs.proofs.SpotLemmas.{spot_back}
use Rattle.pb_runs.proofs.ViewLemmas.{IsLocal, has_matrix, number_is}
use Rattle.pb_runs.specs.Placed.{SpotCell, outcome_of}
use Rattle.pb_runs.proofs.OwnLemmas.{at_dropped, below_side, side_below}

-- the cells of a job, in its order
abbrev pub own_cells : Instance → JobValue → List ℕ
own_cells i job = map (stop_number i) (stops_of i.found.nodes i.found.order.layers job)

module _ (config : ConfigValue) (ms : List Outcomes) (p : List ProgTransform) (i : Instance) (grain : ℕ) (at : IsSituated config p i) (plans : Plans) (lm : List Outcomes) (local : IsLocal ms i lm) where
  abbrev t : ProgTransform
  t = i.transform

  abbrev all_jobs : List JobValue
  all_jobs = jobs config p i grain at

  -- what is known when a job's turn comes: the given matrices, and what the jobs before it make
  pub record IsKnown (known : Cells) (j : ℕ) : Type 0 where
    pub given : (c : Cell) → IsCell t i.sizes c → c.matrix < t.inputs → known (number_at i c)
    pub before : (u : ℕ) (job : JobValue) → u < j → slice_get all_jobs u ≡ Some job → (c : ℕ) → Contains (own_cells i job) c → known c

  -- a cell that a job makes
  pub made_own : (u l : ℕ) (c : Cell) (m : IsMadeBy all_jobs i.found.nodes c u l) → Contains (own_cells i m.job) (number_at i c)
  made_own u l c m = in_map (stop_number i) (stops_of i.found.nodes i.found.order.layers m.job) (record { piece = l; base = c.matrix; x = c.x; y = c.y }) (made_stop config i.number t i.found i.sizes grain (inst config p i grain at) at.valid u m.job m.is c l m)

  -- ---- what a job reads
  pub box_known : (known : Cells) (j : ℕ) (job : JobValue) → slice_get all_jobs j ≡ Some job → IsKnown known j → (s : Spot) → Contains (boxes_by t i.sizes job.rule job.parts) s → (c : ℕ) → SpotCell ms (through i s) c → known c ⊎ ((job.rule ≡ None) × Contains (own_cells i job) c)
  box_known known j job e k s h c cell =
      let d = box_there config p i grain at j job e s h in
      let ends = box_ends config p i grain at j job e s h d.0 d.1 in
      let m = has_matrix ms i lm local s.base d.0 d.1 in
      let back = spot_back ms (seat_in i s.base) m.grid m.placed s.rect (omega (arith, ends.0, m.sides.width, m.placed.width)) (omega (arith, ends.1, m.sides.height, m.placed.height)) c cell in
      let q : Cell = record { matrix = s.base; x = back.0; y = back.1 } in
      let is_cell : IsCell t i.sizes q = record { in_range = at.range; decl = d.0; there = d.1; before_x = below_side (exact_value d.0.w i.sizes) back.0 (omega (arith, back.2.right, ends.0)); before_y = below_side (exact_value d.0.h i.sizes) back.1 (omega (arith, back.2.high, ends.1)) } in
      ⊎_elim
      (λ (low : s.base < t.inputs). inl (subst known (sym back.3) (k.given q is_cell low)))
      (λ (high : t.inputs ≤ s.base).
      let b = box_before config p i grain at j job e s h q (record { cell = is_cell; made = high }) refl back.2 in
      let own = made_own b.0 b.1 q b.2 in
      ⊎_elim
      (λ earlier. inl (subst known (sym back.3) (k.before b.0 b.2.job earlier b.2.is (number_at i q) own)))
      (λ block. (let same : b.2.job ≡ job = some_same b.2.job job (sym b.2.is ∙ ap (slice_get all_jobs) block.0 ∙ e) in inr (block.1, subst (λ n. Contains (own_cells i job) n) (sym back.3) (subst (λ (w : JobValue). Contains (own_cells i w) (number_at i q)) same own))))
      b.3)
      (cases_lt s.base t.inputs)
    where
      some_same : (x y : JobValue) → Some x ≡ Some y → x ≡ y
      some_same x y h = cc

  -- ---- what a job makes
  is_made : (c : Cell) → IsMadeCell t i.sizes c → Contains (made_cells t i.sizes) c
  unfolding made_cells
  is_made c m =
      let place : ℕ = c.matrix - t.inputs in
      let matrix : t.inputs + place ≡ c.matrix = omega (arith, m.made) in
      in_made i.sizes t.inputs (drop t.inputs t.matrices) c (record {
        place = place;
        decl = m.cell.decl;
        there = at_dropped t.matrices t.inputs place m.cell.decl (ap (slice_get t.matrices) matrix ∙ m.cell.there);
        matrix = matrix;
        across = side_below (exact_value m.cell.decl.w i.sizes) c.x m.cell.before_x;
        down = side_below (exact_value m.cell.decl.h i.sizes) c.y m.cell.before_y;
      })

  pub cell_value : (c : Cell) → IsCell t i.sizes c → outcome_of ms (number_at i c) ≡ outcome_in lm c
  cell_value c cell = number_is ms i lm local c cell.decl cell.there cell.before_x cell.before_y

  -- the rule of a made cell
  pub rule_for : (c : Cell) → IsMadeCell t i.sizes c → (r : ProgRule) × (rule_of config plans i.number t i.sizes c ≡ Some r)
  rule_for c made = let law = chosen config i.number t i.found i.sizes grain (inst config p i grain at) at.valid c made in (law.rule, law.there)

  reads_is : (c : Cell) (r : ProgRule) → rule_of config plans i.number t i.sizes c ≡ Some r → cell_reads config plans i.number t i.sizes c ≡ reads t.matrices i.sizes c r
  unfolding cell_reads
  reads_is c r e = ap (λ o. option_map_or (reads t.matrices i.sizes c) o []) e

  reads_plain : (c : Cell) (r : ProgRule) → rule_of config plans i.number t i.sizes c ≡ Some r → cell_reads config no_plans i.number t i.sizes c ≡ reads t.matrices i.sizes c r
  unfolding cell_reads
  reads_plain c r e = ap (λ o. option_map_or (reads t.matrices i.sizes c) o []) e

  pub equation_is : (c : Cell) (r : ProgRule) (seen : List Outcome) → rule_of config plans i.number t i.sizes c ≡ Some r → cell_equation config plans i.number t i.sizes c seen ≡ made_by config plans i.number t i.sizes r.kind r c seen
  unfolding cell_equation
  equation_is c r seen e = ap (λ o. option_map_or (λ (q : ProgRule). made_by config plans i.number t i.sizes q.kind q c seen) o no_outcome) e

  equation_plain : (c : Cell) (r : ProgRule) (seen : List Outcome) → rule_of config plans i.number t i.sizes c ≡ Some r → cell_equation config no_plans i.number t i.sizes c seen ≡ made_by config no_plans i.number t i.sizes r.kind r c seen
  unfolding cell_equation
  equation_plain c r seen e = ap (λ o. option_map_or (λ (q : ProgRule). made_by config no_plans i.number t i.sizes q.kind q c seen) o no_outcome) e

  -- plans play no part in other rules
  same_made : (k : RuleKind) (r : ProgRule) (c : Cell) (seen : List Outcome) → (k ≡ kind.Plan → ⊥) → made_by config plans i.number t i.sizes k r c seen ≡ made_by config no_plans i.number t i.sizes k r c seen
  same_made kind.Cell r c seen other = refl
  same_made kind.Wide r c seen other = refl
  same_made kind.Plan r c seen other = absurd (other refl)

  -- a cell that is read has its number's outcome
  pub read_value : (c : Cell) → IsMadeCell t i.sizes c → (r : ProgRule) → rule_of config plans i.number t i.sizes c ≡ Some r → (d : Cell) → Contains (reads t.matrices i.sizes c r) d → outcome_of ms (number_at i d) ≡ outcome_in lm d
  read_value c made r e d h =
      let law = chosen config i.number t i.found i.sizes grain (inst config p i grain at) at.valid c made in
      let inside = reads_inside p i.number t i.sizes at.well at.sound at.there c (chosen_rule config i.number t i.sizes c) r made.cell (in_lawful t i.sizes c (chosen_rule config i.number t i.sizes c) law) e d ((reads_are t.matrices i.sizes c d r).0 h) in
      cell_value d inside

  module _ (settled : IsSettled config plans i.number t i.sizes lm) where
    -- the outcome of a made cell, by its rule
    pub made_value : (c : Cell) → IsMadeCell t i.sizes c → (r : ProgRule) → rule_of config plans i.number t i.sizes c ≡ Some r → outcome_of ms (number_at i c) ≡ made_by config plans i.number t i.sizes r.kind r c (map (outcome_in lm) (reads t.matrices i.sizes c r))
    made_value c made r e =
        cell_value c made.cell ∙ settled.equation c (is_made c made) ∙ ap (λ l. cell_equation config plans i.number t i.sizes c (map (outcome_in lm) l)) (reads_is c r e) ∙ equation_is c r (map (outcome_in lm) (reads t.matrices i.sizes c r)) e

    -- of a cell whose rule computes
    made_by_rule : (s : Stop) → IsMadeCell t i.sizes (stop_cell s) → (r : ProgRule) → rule_of config plans i.number t i.sizes (stop_cell s) ≡ Some r → (r.kind ≡ kind.Plan → ⊥) → IsMadeByRule config ms i s
    made_by_rule s made r e other =
        let c = stop_cell s in
        let seen : map (outcome_in lm) (reads t.matrices i.sizes c r) ≡ map (λ d. outcome_of ms (number_at i d)) (reads t.matrices i.sizes c r) = map_same (outcome_in lm) (λ d. outcome_of ms (number_at i d)) (reads t.matrices i.sizes c r) (λ d h. sym (read_value c made r e d h)) in
        made_value c made r e ∙ same_made r.kind r c (map (outcome_in lm) (reads t.matrices i.sizes c r)) other ∙ ap (made_by config no_plans i.number t i.sizes r.kind r c) seen
        ∙ sym (equation_plain c r (map (λ d. outcome_of ms (number_at i d)) (reads t.matrices i.sizes c r)) e) ∙ sym (ap (λ l. cell_equation config no_plans i.number t i.sizes c (map (λ d. outcome_of ms (number_at i d)) l)) (reads_plain c r e))

    -- a job whose rules compute
    pub job_made : (known : Cells) (j : ℕ) (job : JobValue) → slice_get all_jobs j ≡ Some job → IsKnown known j
        → ((s : Stop) → Contains (stops_of i.found.nodes i.found.order.layers job) s → (r : ProgRule) → rule_of config plans i.number t i.sizes (stop_cell s) ≡ Some r → r.kind ≡ kind.Plan → ⊥)
        → ((c d : Cell) → IsMadeCell t i.sizes c → IsMadeCell t i.sizes d → number_at i c ≡ number_at i d → c ≡ d) → IsLaid config ms (by_job i job) → IsMade config ms known (by_job i job)
    unfolding cells_of
    job_made known j job e k other once laid = record {
      from = record { program = p; grain = grain; at = at; matrices = lm; local = local; place = j; there = e; once = once; computes = other };
      given = k.given;
      reads = λ b h c cell. (let f = map_in (through i) (boxes_by t i.sizes job.rule job.parts) b h in ⊎_elim (λ there. inl there) (λ own. inr own) (box_known known j job e k f.0 f.1 c (subst (λ q. SpotCell ms q c) (sym f.2) cell)));
      right = λ s h.
          let made = made_cell config i.number t i.found i.sizes grain (inst config p i grain at) (stop_cell s) j s.piece (stop_made config i.number t i.found i.sizes grain (inst config p i grain at) at.valid j job e s h) in
          let r = rule_for (stop_cell s) made in
          made_by_rule s made r.0 r.1 (λ is. other s h r.0 r.1 is);
      laid = laid;
    }
