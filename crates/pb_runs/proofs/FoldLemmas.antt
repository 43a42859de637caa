-- The jobs of an instance, one after another.
use Rattle.std.proofs.Common.{◌≡◌, ◌∙◌, refl, sym, ap, subst, inl, inr, ⊎_elim, ℕ, suc, ◌+◌, ◌<◌, ◌≤◌, Bool, true, false, not, List, [], ◌∷◌, ◌++◌, map, slice_get, Option, Some, None, arith}
use Rattle.std.specs.Prelude.{if◌then◌else◌}
use Rattle.std.specs.List.{Contains, flat_map, range_with_len}
use Rattle.std.specs.Option.{option_map_or}
use Rattle.std.proofs.lemmas.Bool.{cases_lt}
use Rattle.pb_program.specs.Configs.{ConfigValue}
use Rattle.pb_program.specs.Trees.{ProgRule, ProgTransform}
use Rattle.pb_program.specs.declared.rule.RuleKind.{RuleKind}
use Rattle.pb_program.specs.declared.rule.RuleKind.TheVariants as kind
use Rattle.pb_region.specs.Boxes.{is_wide}
use Rattle.pb_base.proofs.ListLemmas.{in_at}
use Rattle.pb_model.specs.Calls.{IsSettled, Outcomes, Plans, rule_of}
use Rattle.pb_model.specs.Cells.{Cell}
use Rattle.pb_model.specs.Chosen.{chosen_rule}
use Rattle.pb_check.specs.Ranked.{IsMadeCell}
use Rattle.pb_frame.specs.Frames.{JobValue}
use Rattle.pb_frame.specs.declared.part.FramePart.{FramePart}
use Rattle.pb_plan.proofs.BeforeLemmas.{parts}
use Rattle.pb_plan.proofs.JobLemmas.{part_of, placed}
use Rattle.pb_plan.proofs.MadeLemmas.{made_rule}
use Rattle.pb_walk.specs.declared.stop.Stop.{Stop}
use Rattle.pb_solution.specs.Solutions.{stop_cell, stops_of}
use Rattle.pb_solution.proofs.OrderLemmas.{stop_made}
use Rattle.pb_recursion.specs.Counts.{Counted, Counter, all_of, is_plan_kind, nothing, plan_count}
use Rattle.pb_runs.proofs.TallyLemmas.{tallies_both, tallies_none}
use Rattle.pb_recursion.specs.Depths.{plans_over}
use Rattle.pb_recursion.specs.Plans.{calls_of_rule, names_of_reads}
use Rattle.pb_runs.specs.Matrices.{Below, call_below, calls_matrices, job_matrices, jobs_matrices, read_matrices, rule_matrices}
use Rattle.pb_runs.specs.Steps.{Instance, by_job, cells_in, cells_of, number_at}
use Rattle.pb_runs.specs.Tallied.{job_tally, rule_tally}
use Rattle.pb_runs.specs.Unrolled.{Done, Met, Unroll, job_done, jobs_done, plan_done, rule_done}
use Rattle.pb_runs.proofs.BaseLemmas.{Stands, reaches_both, stands_left, stands_right, total_append}
use Rattle.pb_runs.proofs.BoxLemmas.{IsSituated, inst, jobs}
use Rattle.pb_runs.proofs.CalledLemmas.{AreDeeper, AreNatural}
use Rattle.pb_runs.proofs.CopyLemmas.{job_laid}
use Rattle.pb_runs.proofs.CountLemmas.{counted, counted_append, counted_in, counted_row, in_counted}
use Rattle.pb_runs.proofs.JobLemmas.{IsKnown, job_made, own_cells}
use Rattle.pb_runs.proofs.PlanLemmas.{IsDone, plan_job}
use Rattle.pb_runs.proofs.SoundLemmas.{Cells, cells_append, sound_append, with_cells}
use Rattle.pb_runs.proofs.ViewLemmas.{IsLocal}
use Rattle.pb_runs.specs.Placed.{total}

append_none : {A : Type 0} (xs : List A) → xs ++ [] ≡ xs
append_none [] = refl
append_none (x ∷ xs) = ap (λ l. x ∷ l) (append_none xs)

not_both : (b : Bool) → not b ≡ true → b ≡ true → ⊥
not_both true h k = let wrong : false ≡ true = h in cc
not_both false h k = let wrong : false ≡ true = k in cc

-- what the calls of a job count
module _ (config : ConfigValue) (ms : List Outcomes) (p : List ProgTransform) (i : Instance) (grain : ℕ) (at : IsSituated config p i) (deeper : Option Unroll) (below : Option Below) (counter : Option Counter) (lm : List Outcomes) (local : IsLocal ms i lm)
    (settled : IsSettled config (plans_over p (call_below below) i.number i.transform i.sizes) i.number i.transform i.sizes lm)
    (once : (c d : Cell) → IsMadeCell i.transform i.sizes c → IsMadeCell i.transform i.sizes d → number_at i c ≡ number_at i d → c ≡ d)
    (are_deeper : AreDeeper config ms p deeper below counter) (naturals : AreNatural config ms p) where
  abbrev t : ProgTransform
  t = i.transform

  abbrev plans : Plans
  plans = plans_over p (call_below below) i.number t i.sizes

  abbrev all_jobs : List JobValue
  all_jobs = jobs config p i grain at

  abbrev all_parts : List FramePart
  all_parts = parts config i.number t i.found i.sizes grain (inst config p i grain at) at.valid

  abbrev Known : Cells → ℕ → Type 0
  Known known j = IsKnown config ms p i grain at plans lm local known j

  module _ (j : ℕ) (job : JobValue) (e : slice_get all_jobs j ≡ Some job) (known : Cells) (k_known : Known known j) (n : Met) where
    -- a job whose rules compute
    computed : ((s : Stop) → Contains (stops_of i.found.nodes i.found.order.layers job) s → (r : ProgRule) → rule_of config plans i.number t i.sizes (stop_cell s) ≡ Some r → r.kind ≡ kind.Plan → ⊥) → IsDone config ms known n (record { steps = by_job i job ∷ []; next = n }) (own_cells i job) [] nothing
    unfolding cells_of
    computed other = record {
      sound = (job_made config ms p i grain at plans lm local settled known j job e k_known other once (job_laid config ms p i grain at (call_below below) lm local settled once j job e), tt);
      counts = λ c. ap (counted c) (append_none (own_cells i job)) ∙ omega arith;
      reaches = record { matrices = omega arith; cells = omega arith };
      tally = tallies_none n;
    }

    -- the part of a stop
    stop_part : (s : Stop) → Contains (stops_of i.found.nodes i.found.order.layers job) s → (part : FramePart) × Contains job.parts part × (chosen_rule config i.number t i.sizes (stop_cell s) ≡ part.rule)
    stop_part s h =
        let m = stop_made config i.number t i.found i.sizes grain (inst config p i grain at) at.valid j job e s h in
        let same : m.job ≡ job = some_same m.job job (sym m.is ∙ e) in
        (m.part, subst (λ (w : JobValue). Contains w.parts m.part) same (in_at m.job.parts s.piece m.part m.has), made_rule config i.number t i.found i.sizes grain (inst config p i grain at) (stop_cell s) j s.piece m)
      where
        some_same : (x y : JobValue) → Some x ≡ Some y → x ≡ y
        some_same x y h = cc

    -- a block's rules are for single cells
    block_other : job.rule ≡ None → (s : Stop) → Contains (stops_of i.found.nodes i.found.order.layers job) s → (r : ProgRule) → rule_of config plans i.number t i.sizes (stop_cell s) ≡ Some r → r.kind ≡ kind.Plan → ⊥
    block_other none s h r rule is =
        let part = stop_part s h in
        let cell = (part_of t i.found.order grain all_parts j job (placed t i.found.order grain all_parts j job e) part.0 part.1).cell none in
        let there : slice_get t.rules part.0.rule ≡ Some r = ap (slice_get t.rules) (sym part.2) ∙ rule in
        let test : not (is_wide r.kind) ≡ true = sym (ap (λ o. option_map_or (λ (q : ProgRule). not (is_wide q.kind)) o false) there) ∙ cell in
        not_both (is_wide r.kind) test (ap is_wide is)

    -- the rule of a job
    rule_other : (k : ℕ) → job.rule ≡ Some k → (o : Option ProgRule) → slice_get t.rules k ≡ o → ((r : ProgRule) → o ≡ Some r → r.kind ≡ kind.Plan → ⊥)
        → (s : Stop) → Contains (stops_of i.found.nodes i.found.order.layers job) s → (r : ProgRule) → rule_of config plans i.number t i.sizes (stop_cell s) ≡ Some r → r.kind ≡ kind.Plan → ⊥
    rule_other k some o at_k other s h r rule is =
        let part = stop_part s h in
        let same = ((part_of t i.found.order grain all_parts j job (placed t i.found.order grain all_parts j job e) part.0 part.1).wide k some).0 in
        other r (sym at_k ∙ ap (slice_get t.rules) (sym same) ∙ ap (slice_get t.rules) (sym part.2) ∙ rule) is

    pub job_is_done : Stands ms n (job_matrices p i.number t i.sizes below lm job.rule) → IsDone config ms known n (job_done p deeper i job.rule job n) (own_cells i job) (job_matrices p i.number t i.sizes below lm job.rule) (job_tally p t i.sizes counter job.rule)
    job_is_done stands = by_rule job.rule refl stands
      where
        by_rule : (o : Option ℕ) → job.rule ≡ o → Stands ms n (job_matrices p i.number t i.sizes below lm o) → IsDone config ms known n (job_done p deeper i o job n) (own_cells i job) (job_matrices p i.number t i.sizes below lm o) (job_tally p t i.sizes counter o)
        by_rule None none stands = computed (block_other none)
        by_rule (Some k) some stands = by_there (slice_get t.rules k) refl stands
          where
            by_there : (o : Option ProgRule) → slice_get t.rules k ≡ o → Stands ms n (rule_matrices p i.number t i.sizes below lm k o) → IsDone config ms known n (rule_done p deeper i job k o n) (own_cells i job) (rule_matrices p i.number t i.sizes below lm k o) (rule_tally p t i.sizes counter k o)
            by_there None there stands = computed (rule_other k some None there (λ r e is. let wrong : None ≡ Some r = e in cc))
            by_there (Some r) there stands = by_kind r.kind refl stands
              where
                other : (r.kind ≡ kind.Plan → ⊥) → (s : Stop) → Contains (stops_of i.found.nodes i.found.order.layers job) s → (q : ProgRule) → rule_of config plans i.number t i.sizes (stop_cell s) ≡ Some q → q.kind ≡ kind.Plan → ⊥
                other never = rule_other k some (Some r) there (λ q same is. never (let some_is : Some r ≡ Some q = same in let is_same : r ≡ q = cc in ap (λ (z : ProgRule). z.kind) is_same ∙ is))

                by_kind : (q : RuleKind) → r.kind ≡ q → Stands ms n (if is_plan_kind q then calls_matrices p i.number t i.sizes k r below (calls_of_rule r) (names_of_reads (read_matrices t i.sizes r lm)) else [])
                    → IsDone config ms known n (if is_plan_kind q then plan_done p deeper i job k r n else record { steps = by_job i job ∷ []; next = n }) (own_cells i job) (if is_plan_kind q then calls_matrices p i.number t i.sizes k r below (calls_of_rule r) (names_of_reads (read_matrices t i.sizes r lm)) else []) (if is_plan_kind q then plan_count p t i.sizes counter (k, r) else nothing)
                by_kind kind.Cell is stands = computed (other (λ plan. let wrong : kind.Cell ≡ kind.Plan = sym is ∙ plan in cc))
                by_kind kind.Wide is stands = computed (other (λ plan. let wrong : kind.Wide ≡ kind.Plan = sym is ∙ plan in cc))
                by_kind kind.Plan is stands = plan_job config ms p i grain at deeper below counter lm local settled once j job e k some r there is known k_known are_deeper naturals n stands

  -- ---- job after job
  abbrev Follows : ℕ → List JobValue → Type 0
  Follows j rest = (k : ℕ) (job : JobValue) → slice_get rest k ≡ Some job → slice_get all_jobs (j + k) ≡ Some job

  next_known : (j : ℕ) (job : JobValue) (known : Cells) (n : Met) (d : Done) (mats : List Outcomes) (tally : Counted) → slice_get all_jobs j ≡ Some job → Known known j → IsDone config ms known n d (own_cells i job) mats tally → Known (with_cells known (cells_in d.steps)) (j + 1)
  next_known j job known n d mats tally e k done = record {
    given = λ c cell low. inl (k.given c cell low);
    before = λ u other less at_u c own. ⊎_elim
        (λ (earlier : u < j). inl (k.before u other earlier at_u c own))
        (λ (last : j ≤ u). (
        let same : u ≡ j = omega (arith, last, less) in
        let jobs_same : other ≡ job = some_same other job (sym at_u ∙ ap (slice_get all_jobs) same ∙ e) in
        let some = in_counted c (own_cells i job) (subst (λ (w : JobValue). Contains (own_cells i w) c) jobs_same own) in
        let counts = done.counts c in
        inr (counted_in c (cells_in d.steps) (omega (arith, some, counts)))))
        (cases_lt u j);
  }
    where
      some_same : (x y : JobValue) → Some x ≡ Some y → x ≡ y
      some_same x y h = cc

  pub jobs_are_done : (rest : List JobValue) (j : ℕ) (known : Cells) (n : Met) → Follows j rest → Known known j → Stands ms n (jobs_matrices p i.number t i.sizes below lm rest)
      → IsDone config ms known n (jobs_done p deeper i rest n) (flat_map (own_cells i) rest) (jobs_matrices p i.number t i.sizes below lm rest) (all_of (map (λ (job : JobValue). job_tally p t i.sizes counter job.rule) rest))
  jobs_are_done [] j known n follows k stands = record { sound = tt; counts = λ c. refl; reaches = record { matrices = omega arith; cells = omega arith }; tally = tallies_none n }
  jobs_are_done (job ∷ rest) j known n follows k stands =
      let number : j + 0 ≡ j = omega arith in
      let e : slice_get all_jobs j ≡ Some job = ap (slice_get all_jobs) (sym number) ∙ follows 0 job refl in
      let first = job_matrices p i.number t i.sizes below lm job.rule in
      let others = jobs_matrices p i.number t i.sizes below lm rest in
      let one = job_done p deeper i job.rule job n in
      let here = job_is_done j job e known k n (stands_left ms n first others stands) in
      let known2 = with_cells known (cells_in one.steps) in
      let later = jobs_are_done rest (j + 1) known2 one.next (λ m q at_m. (let next : j + suc m ≡ (j + 1) + m = omega arith in ap (slice_get all_jobs) (sym next) ∙ follows (suc m) q at_m)) (next_known j job known n one first (job_tally p t i.sizes counter job.rule) e k here) (stands_right ms n one.next first others stands here.reaches) in
      let steps = (jobs_done p deeper i rest one.next).steps in
      record {
        sound = sound_append config ms known one.steps steps here.sound later.sound;
        counts = λ c.
            let a = here.counts c in
            let b = later.counts c in
            let cells : counted c (range_with_len one.next.cells (total others)) ≡ counted c (range_with_len (n.cells + total first) (total others)) = ap (λ m. counted c (range_with_len m (total others))) here.reaches.cells in
            let split = counted_row c n.cells (total first) (total others) in
            let sum = ap (λ m. counted c (range_with_len n.cells m)) (total_append first others) in
            let own = counted_append c (own_cells i job) (flat_map (own_cells i) rest) in
            ap (counted c) (cells_append one.steps steps) ∙ counted_append c (cells_in one.steps) (cells_in steps) ∙ omega (arith, a, b, cells, split, sum, own);
        reaches = reaches_both ms n one.next (jobs_done p deeper i rest one.next).next first others here.reaches later.reaches;
        tally = tallies_both n one.next (jobs_done p deeper i rest one.next).next first others (job_tally p t i.sizes counter job.rule) (all_of (map (λ (q : JobValue). job_tally p t i.sizes counter q.rule) rest)) here.tally later.tally;
      }
