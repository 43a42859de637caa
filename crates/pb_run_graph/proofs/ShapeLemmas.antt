-- What the copies and the traps of an unrolled run are made of.
use Rattle.std.proofs.Common.{◌≡◌, ◌∙◌, refl, sym, subst, inl, inr, ⊎_elim, ℕ, zero, suc, ◌+◌, Bool, true, false, List, [], ◌∷◌, ◌++◌, length, map, filter, Option, Some, None, slice_get}
use Rattle.std.specs.Prelude.{if◌then◌else◌}
use Rattle.std.specs.List.{Contains, zip}
use Rattle.std.specs.Option.{option_map_or}
use Rattle.std.proofs.lemmas.List.{length-map}
use Rattle.std.proofs.lemmas.List.Elements.{Contains-append_cases}
use Rattle.pb_values.specs.declared.outcome.Kind.TheVariants.{BadShape, DepthEnded}
use Rattle.pb_values.specs.declared.outcome.Outcome.{Outcome}
use Rattle.pb_program.specs.Configs.{ConfigValue}
use Rattle.pb_program.specs.Plans.{PlanCallValue}
use Rattle.pb_program.specs.Trees.{ProgRule, ProgTransform}
use Rattle.pb_program.specs.declared.plan.Slot.TheVariants as slot
use Rattle.pb_program.specs.declared.view.Read.{Read}
use Rattle.pb_base.proofs.ListLemmas.{in_cases, in_head, in_none, in_tail}
use Rattle.pb_check.specs.Orders.{AnalysisValue}
use Rattle.pb_frame.specs.Frames.{JobValue}
use Rattle.pb_frame.specs.declared.part.FramePart.{FramePart}
use Rattle.pb_plan.specs.Made.{jobs_for}
use Rattle.pb_recursion.specs.Counts.{is_plan_kind}
use Rattle.pb_recursion.specs.Depths.{trapped_by}
use Rattle.pb_recursion.specs.Plans.{Names, calls_of_rule, fits_call, named, names_of_reads, sides_of_slot, target_sides}
use Rattle.pb_recursion.specs.Shapes.{Sides, sizes_from}
use Rattle.pb_views.specs.Seats.{no_seat, sides_of_seat}
use Rattle.pb_views.specs.declared.seat.Seat.{Seat}
use Rattle.pb_steps.specs.Handed.{Copied, Failed, Instance, Step, Target, by_copy, by_job, by_trap}
use Rattle.pb_steps.specs.Handed.{Met, Player, Unroll, after_call, after_matrices, copies_of, copy_step, failed, found_for, given_back, job_done, jobs_done, instance_of, no_unrolled, output_parts, output_rect, own_sides, plan_done, plan_played, played, rule_done, seat_has_cells, seats_from, target_of, targets_of, trap_step, unroll, unroll_one, unrolled_by, unrolled_of, view_seat}

module _ (config : ConfigValue) (grain : ℕ) where
  -- a copy of what a job has of an output
  pub record IsCopyOf (i : Instance) (c : Copied) : Type 0 where
    pub job : JobValue
    pub among : Contains (jobs_for config i.number i.transform i.found i.sizes grain) job
    pub output : Read
    pub parts : c.parts ≡ output_parts i job output

  -- a call that can't be made, with a matrix for each target
  pub record IsFailedCall (f : Failed) : Type 0 where
    pub met : Met
    pub wanted : List Sides
    pub first : f.first ≡ met.matrices
    pub seats : f.seats ≡ filter seat_has_cells (seats_from (after_call met) wanted)
    pub count : length f.targets ≡ length wanted

  abbrev pub IsShaped : Step → Type 0
  IsShaped (by_job i job) = Unit {0}
  IsShaped (by_copy i c) = IsCopyOf i c
  IsShaped (by_trap f) = IsFailedCall f

  abbrev pub AreShaped : List Step → Type 0
  AreShaped steps = (s : Step) → Contains steps s → IsShaped s

  none_shaped : AreShaped []
  none_shaped s h = absurd (in_none s h)

  one_shaped : (s : Step) → IsShaped s → AreShaped (s ∷ [])
  one_shaped s is r h = elim (in_cases s r [] h) [
    | inl same ↦ subst IsShaped same is
    | inr none ↦ absurd (in_none r none)
  ]

  both_shaped : (xs ys : List Step) → AreShaped xs → AreShaped ys → AreShaped (xs ++ ys)
  both_shaped xs ys h k s there = ⊎_elim (λ l. h s l) (λ r. k s r) (Contains-append_cases xs ys s there)

  -- ---- calls that can't be made
  traps_shaped : (targets : List Target) (o : Outcome) (wanted : List Sides) (n : Met) → length targets ≡ length wanted → (seats : List Seat) → seats ≡ filter seat_has_cells (seats_from (after_call n) wanted) → AreShaped (trap_step targets n.matrices n.calls o seats)
  traps_shaped targets o wanted n count [] e = none_shaped
  traps_shaped targets o wanted n count (s ∷ rest) e = one_shaped (by_trap (record { call = n.calls; outcome = o; targets = targets; first = n.matrices; seats = s ∷ rest })) (record { met = n; wanted = wanted; first = refl; seats = e; count = count })

  failed_shaped : (targets : List Target) (o : Outcome) (wanted : List Sides) (n : Met) → length targets ≡ length wanted → AreShaped (failed targets o wanted n).steps
  failed_shaped targets o wanted n count = traps_shaped targets o wanted n count (filter seat_has_cells (seats_from (after_call n) wanted)) refl

  -- calls one less deep are
  abbrev AreDeepShaped : Option Unroll → Type 0
  AreDeepShaped deeper = (u : Unroll) → deeper ≡ Some u → (number : ℕ) (given : List Seat) (n : Met) → AreShaped (u number given n).steps

  module _ (p : List ProgTransform) (deeper : Option Unroll) (deep : AreDeepShaped deeper) (i : Instance) where
    call_shaped : (rule : ℕ) (r : ProgRule) (o : Option Unroll) → deeper ≡ o → (c : PlanCallValue) (given : List Seat) (n : Met) → AreShaped (unrolled_by p i rule r o c given n).steps
    call_shaped rule r None e c given n = failed_shaped (targets_of r c) (trapped_by i.number i.transform i.sizes rule r DepthEnded) (target_sides i.transform.matrices i.sizes r c) n (length-map c.targets (target_of r) ∙ sym (length-map c.targets (sides_of_slot i.transform.matrices i.sizes r)))
    call_shaped rule r (Some u) e c given n = by (fits_call i.transform.matrices i.sizes p r c)
      where
        by : (b : Bool) → AreShaped (if b then given_back p c (u c.transform given n) else failed (targets_of r c) (trapped_by i.number i.transform i.sizes rule r BadShape) (target_sides i.transform.matrices i.sizes r c) n).steps
        by true = deep u e c.transform given n
        by false = failed_shaped (targets_of r c) (trapped_by i.number i.transform i.sizes rule r BadShape) (target_sides i.transform.matrices i.sizes r c) n (length-map c.targets (target_of r) ∙ sym (length-map c.targets (sides_of_slot i.transform.matrices i.sizes r)))

    played_shaped : (make : Player) → ((c : PlanCallValue) (given : List Seat) (n : Met) → AreShaped (make c given n).steps) → (calls : List PlanCallValue) (names : Names Seat) (n : Met) → AreShaped (played make calls names n).steps
    played_shaped make each [] names n = none_shaped
    played_shaped make each (c ∷ rest) names n =
        let u = make c (map (named no_seat names) c.arguments) n in
        both_shaped u.steps (played make rest (zip c.targets u.seats ++ names) u.next).steps (each c (map (named no_seat names) c.arguments) n) (played_shaped make each rest (zip c.targets u.seats ++ names) u.next)

    -- ---- jobs
    module _ (job : JobValue) (among : Contains (jobs_for config i.number i.transform i.found i.sizes grain) job) where
      copy_shaped : (o : Read) (source : Seat) (corner : ℕ × ℕ) (parts : List FramePart) → parts ≡ output_parts i job o → AreShaped (copy_step i job source corner parts)
      copy_shaped o source corner [] e = none_shaped
      copy_shaped o source corner (part ∷ rest) e = one_shaped (by_copy i (record { layer = job.layer; rule = job.rule; parts = part ∷ rest; corner = corner; source = source })) (record { job = job; among = among; output = o; parts = e })

      copies_shaped : (names : Names Seat) (k : ℕ) (outs : List Read) → AreShaped (copies_of i job names k outs)
      copies_shaped names k [] = none_shaped
      copies_shaped names k (o ∷ rest) =
          both_shaped (copy_step i job (named no_seat names (slot.Out k)) ((output_rect i o).x0, (output_rect i o).y0) (output_parts i job o)) (copies_of i job names (k + 1) rest)
          (copy_shaped o (named no_seat names (slot.Out k)) ((output_rect i o).x0, (output_rect i o).y0) (output_parts i job o) refl) (copies_shaped names (k + 1) rest)

      rule_shaped : (rule : ℕ) (o : Option ProgRule) (n : Met) → AreShaped (rule_done p deeper i job rule o n).steps
      rule_shaped rule None n = one_shaped (by_job i job) tt
      rule_shaped rule (Some r) n = by (is_plan_kind r.kind)
        where
          by : (b : Bool) → AreShaped (if b then plan_done p deeper i job rule r n else record { steps = by_job i job ∷ []; next = n }).steps
          by true =
              let plan = plan_played p i rule r deeper n in
              both_shaped plan.steps (copies_of i job plan.names 0 r.outs) (played_shaped (unrolled_by p i rule r deeper) (call_shaped rule r deeper refl) (calls_of_rule r) (names_of_reads (map (view_seat i) r.reads)) n) (copies_shaped plan.names 0 r.outs)
          by false = one_shaped (by_job i job) tt

      job_shaped : (o : Option ℕ) (n : Met) → AreShaped (job_done p deeper i o job n).steps
      job_shaped None n = one_shaped (by_job i job) tt
      job_shaped (Some rule) n = rule_shaped rule (slice_get i.transform.rules rule) n

    jobs_shaped : (jobs : List JobValue) → ((job : JobValue) → Contains jobs job → Contains (jobs_for config i.number i.transform i.found i.sizes grain) job) → (n : Met) → AreShaped (jobs_done p deeper i jobs n).steps
    jobs_shaped [] among n = none_shaped
    jobs_shaped (job ∷ rest) among n =
        let here = job_done p deeper i job.rule job n in
        both_shaped here.steps (jobs_done p deeper i rest here.next).steps (job_shaped job (among job (in_head job rest)) job.rule n) (jobs_shaped rest (λ q h. among q (in_tail job q rest h)) here.next)

  -- ---- calls at each depth
  module _ (p : List ProgTransform) (found : List AnalysisValue) where
    one_call : (deeper : Option Unroll) → AreDeepShaped deeper → (number : ℕ) (given : List Seat) (n : Met) → AreShaped (unroll_one p found config grain deeper number given n).steps
    one_call deeper deep number given n = by (slice_get p number)
      where
        with_found : (t : ProgTransform) (o : Option AnalysisValue) → AreShaped (option_map_or (unrolled_of p found config grain deeper number given n t) o (no_unrolled n)).steps
        with_found t None = none_shaped
        with_found t (Some a) =
            let sizes = sizes_from t (map sides_of_seat given) in
            jobs_shaped p deeper deep (instance_of number t a sizes given n) (jobs_for config number t a sizes grain) (λ job h. h) (after_matrices (after_call n) (own_sides t sizes))

        by : (o : Option ProgTransform) → AreShaped (option_map_or (found_for p found config grain deeper number given n) o (no_unrolled n)).steps
        by None = none_shaped
        by (Some t) = with_found t (slice_get found number)

    pub calls_shaped : (d number : ℕ) (given : List Seat) (n : Met) → AreShaped (unroll p found config grain d number given n).steps
    unfolding unroll
    calls_shaped zero number given n = one_call None (λ u e. absurd (let wrong : None ≡ Some u = e in cc)) number given n
    calls_shaped (suc d) number given n = one_call (Some (unroll p found config grain d)) (λ u e. deeper u (let some : Some (unroll p found config grain d) ≡ Some u = e in cc) (calls_shaped d)) number given n
      where
        deeper : (u : Unroll) → unroll p found config grain d ≡ u → ((number : ℕ) (given : List Seat) (n : Met) → AreShaped (unroll p found config grain d number given n).steps) → (number : ℕ) (given : List Seat) (n : Met) → AreShaped (u number given n).steps
        deeper u same h = subst (λ (w : Unroll). (number : ℕ) (given : List Seat) (n : Met) → AreShaped (w number given n).steps) same h
