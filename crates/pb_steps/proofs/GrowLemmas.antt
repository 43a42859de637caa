-- A run that grows keeps what stands in it.
use Rattle.std.proofs.Common.{◌≡◌, refl, sym, ap, subst, ℕ, List, [], ◌∷◌, ◌++◌, append_assoc, slice_get, Some}
use Rattle.std.specs.List.{AllZip}
use Rattle.pb_program.specs.Configs.{ConfigValue}
use Rattle.pb_program.specs.Trees.{ProgTransform, bare_prog}
use Rattle.pb_check.specs.Accepting.{AcceptedValue}
use Rattle.pb_check.specs.Orders.{AnalysisValue}
use Rattle.pb_frame.specs.Frames.{JobValue}
use Rattle.pb_counts.specs.Handed.{Instance, Step, by_copy, by_job, by_trap}
use Rattle.pb_counts.specs.Handed.{Met}
use Rattle.pb_steps.specs.Stands.{Appends, AreSteps, Goes, Grows, IsJobAt, IsStep, met_of}
use Rattle.pb_steps.specs.Values.{InstanceValue}
use Rattle.pb_steps.specs.Runs.{UnrolledValue}
use Rattle.pb_steps.specs.declared.met.Met.{Met as MetValue}
use Rattle.pb_steps.specs.declared.step.Step.{Step as StepValue}
use Rattle.pb_steps.specs.declared.step.Step.TheVariants as step
use Rattle.pb_steps.proofs.ListLemmas.{get_left, zip_append, zip_mapped}

abbrev pub Keeps : List InstanceValue → List InstanceValue → Type 0
Keeps old new = (k : ℕ) (v : InstanceValue) → slice_get old k ≡ Some v → slice_get new k ≡ Some v

append_none : {A : Type 0} (xs : List A) → xs ++ [] ≡ xs
append_none [] = refl
append_none (x ∷ xs) = ap (λ l. x ∷ l) (append_none xs)

module _ (p : List ProgTransform) (found : List AnalysisValue) where
  -- ---- steps
  pub job_keeps : (old new : List InstanceValue) → Keeps old new → (k j : ℕ) (i : Instance) (job : JobValue) → IsJobAt p found old k j i job → IsJobAt p found new k j i job
  job_keeps old new keeps k j i job h = record { value = h.value; there = keeps k h.value h.there; is = h.is; has = h.has }

  step_keeps : (old new : List InstanceValue) → Keeps old new → (x : StepValue) (s : Step) → IsStep p found old x s → IsStep p found new x s
  step_keeps old new keeps (step.Job k j) (by_job i job) h = job_keeps old new keeps k j i job h
  step_keeps old new keeps (step.Job k j) (by_copy i c) h = h
  step_keeps old new keeps (step.Job k j) (by_trap f) h = h
  step_keeps old new keeps (step.Copy c) (by_job i job) h = h
  step_keeps old new keeps (step.Copy c) (by_copy i d) h = record { job = h.job; at = job_keeps old new keeps c.instance c.job i h.job h.at; is = h.is }
  step_keeps old new keeps (step.Copy c) (by_trap f) h = h
  step_keeps old new keeps (step.Trap f) (by_job i job) h = h
  step_keeps old new keeps (step.Trap f) (by_copy i c) h = h
  step_keeps old new keeps (step.Trap f) (by_trap g) h = h

  pub steps_keep : (old new : List InstanceValue) → Keeps old new → (xs : List StepValue) (ss : List Step) → AllZip (IsStep p found old) xs ss → AllZip (IsStep p found new) xs ss
  steps_keep old new keeps xs ss h = zip_mapped (IsStep p found old) (IsStep p found new) xs ss (step_keeps old new keeps) h

  -- ---- more of them
  pub appends_none : (instances : List InstanceValue) (xs : List StepValue) → Appends p found instances xs xs []
  appends_none instances xs before h = subst (AllZip (IsStep p found instances) xs) (sym (append_none before)) h

  pub appends_one : (instances : List InstanceValue) (xs : List StepValue) (x : StepValue) (s : Step) → IsStep p found instances x s → Appends p found instances xs (xs ++ x ∷ []) (s ∷ [])
  appends_one instances xs x s is before h = zip_append (IsStep p found instances) xs (x ∷ []) before (s ∷ []) h (is, tt)

  pub appends_both : (instances : List InstanceValue) (xs ys zs : List StepValue) (ss us : List Step) → Appends p found instances xs ys ss → Appends p found instances ys zs us → Appends p found instances xs zs (ss ++ us)
  appends_both instances xs ys zs ss us h k before e = subst (AllZip (IsStep p found instances) zs) (append_assoc before ss us) (k (before ++ ss) (h before e))

  pub grows_both : (a b c : UnrolledValue) (ss us : List Step) → Grows p found a b ss → Grows p found b c us → Grows p found a c (ss ++ us)
  grows_both a b c ss us h k = record {
    keeps = λ n v e. k.keeps n v (h.keeps n v e);
    adds = λ before e. subst (AreSteps p found c) (append_assoc before ss us) (k.adds (before ++ ss) (h.adds before e));
  }

  -- where no instance is added
  pub grows_by : (instances : List InstanceValue) (xs ys : List StepValue) (m n : MetValue) (ss : List Step) → Appends p found instances xs ys ss
      → Grows p found (record { instances = instances; steps = xs; met = m }) (record { instances = instances; steps = ys; met = n }) ss
  grows_by instances xs ys m n ss h = record { keeps = λ k v e. e; adds = h }

  -- where one is
  pub grows_entered : (instances : List InstanceValue) (v : InstanceValue) (xs : List StepValue) (m n : MetValue) → Grows p found (record { instances = instances; steps = xs; met = m }) (record { instances = instances ++ v ∷ []; steps = xs; met = n }) []
  grows_entered instances v xs m n = record {
    keeps = λ k w e. get_left instances (v ∷ []) k w e;
    adds = λ before e. subst (AllZip (IsStep p found (instances ++ v ∷ [])) xs) (sym (append_none before)) (steps_keep instances (instances ++ v ∷ []) (λ k w at. get_left instances (v ∷ []) k w at) xs before e);
  }

module _ (a : AcceptedValue) (config : ConfigValue) (grain : ℕ) where
  pub goes_both : (u v w : UnrolledValue) (ss ts : List Step) (m n : Met) → Goes a config grain u v ss m → Goes a config grain v w ts n → Goes a config grain u w (ss ++ ts) n
  goes_both u v w ss ts m n h k = record { grows = grows_both (bare_prog a.program) a.found u v w ss ts h.grows k.grows; met = k.met }

  pub goes_nowhere : (u : UnrolledValue) → Goes a config grain u u [] (met_of u.met)
  goes_nowhere u = record { grows = record { keeps = λ k v e. e; adds = appends_none (bare_prog a.program) a.found u.instances u.steps }; met = refl }
