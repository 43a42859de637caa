-- Jobs and calls, one after the other.
use Rattle.std.proofs.Common.{◌≡◌, ◌∙◌, refl, sym, ap, ℕ, zero, suc, List, [], ◌∷◌, ◌++◌, append_assoc, map, Option, Some, slice_get}
use Rattle.std.specs.List.{zip}
use Rattle.pb_program.specs.Configs.{ConfigValue}
use Rattle.pb_program.specs.Plans.{PlanCallValue}
use Rattle.pb_program.specs.Trees.{ProgTransform}
use Rattle.pb_check.specs.Orders.{AnalysisValue}
use Rattle.pb_frame.specs.Frames.{JobValue}
use Rattle.pb_recursion.specs.Plans.{Names, named}
use Rattle.pb_recursion.specs.Shapes.{sizes_from}
use Rattle.pb_views.specs.Seats.{no_seat, sides_of_seat}
use Rattle.pb_views.specs.declared.seat.Seat.{Seat}
use Rattle.pb_counts.specs.Handed.{Instance}
use Rattle.pb_counts.specs.Handed.{Done, Met, Played, Player, Unroll, Unrolled, deeper_unroll, job_done, jobs_done, played, unroll, unroll_one, unrolled_at}

-- ---- jobs
module _ (p : List ProgTransform) (deeper : Option Unroll) (i : Instance) where
  abbrev then_jobs : Done → List JobValue → Done
  then_jobs d rest = record { steps = d.steps ++ (jobs_done p deeper i rest d.next).steps; next = (jobs_done p deeper i rest d.next).next }

  jobs_append : (xs ys : List JobValue) (n : Met) → jobs_done p deeper i (xs ++ ys) n ≡ then_jobs (jobs_done p deeper i xs n) ys
  jobs_append [] ys n = refl
  jobs_append (x ∷ xs) ys n =
      let here = job_done p deeper i x.rule x n in
      let rest = jobs_append xs ys here.next in
      let later = jobs_done p deeper i xs here.next in
      (λ k. record { steps = here.steps ++ (rest k).steps; next = (rest k).next })
      ∙ (λ k. record { steps = sym (append_assoc here.steps later.steps (jobs_done p deeper i ys later.next).steps) k; next = (jobs_done p deeper i ys later.next).next })

  one_job : (x : JobValue) (n : Met) → jobs_done p deeper i (x ∷ []) n ≡ job_done p deeper i x.rule x n
  one_job x n = let d = job_done p deeper i x.rule x n in λ k. record { steps = append_none d.steps k; next = d.next }
    where
      append_none : {A : Type 0} (xs : List A) → xs ++ [] ≡ xs
      append_none [] = refl
      append_none (y ∷ ys) = ap (λ l. y ∷ l) (append_none ys)

  pub next_job : (xs : List JobValue) (x : JobValue) (n : Met) → jobs_done p deeper i (xs ++ x ∷ []) n
      ≡ record { steps = (jobs_done p deeper i xs n).steps ++ (job_done p deeper i x.rule x (jobs_done p deeper i xs n).next).steps; next = (job_done p deeper i x.rule x (jobs_done p deeper i xs n).next).next }
  next_job xs x n =
      let d = jobs_done p deeper i xs n in
      jobs_append xs (x ∷ []) n ∙ (λ k. record { steps = d.steps ++ (one_job x d.next k).steps; next = (one_job x d.next k).next })

-- ---- calls of a plan
module _ (make : Player) where
  abbrev given_to : PlanCallValue → Names Seat → Met → Unrolled
  given_to c names n = make c (map (named no_seat names) c.arguments) n

  abbrev then_calls : Played → List PlanCallValue → Played
  then_calls d rest =
      let later = played make rest d.names d.next in
      record { names = later.names; steps = d.steps ++ later.steps; next = later.next }

  played_append : (xs ys : List PlanCallValue) (names : Names Seat) (n : Met) → played make (xs ++ ys) names n ≡ then_calls (played make xs names n) ys
  played_append [] ys names n = refl
  played_append (c ∷ xs) ys names n =
      let u = given_to c names n in
      let names2 = zip c.targets u.seats ++ names in
      let rest = played_append xs ys names2 u.next in
      let later = played make xs names2 u.next in
      let last = played make ys later.names later.next in
      (λ k. record { names = (rest k).names; steps = u.steps ++ (rest k).steps; next = (rest k).next })
      ∙ (λ k. record { names = last.names; steps = sym (append_assoc u.steps later.steps last.steps) k; next = last.next })

  pub next_call : (xs : List PlanCallValue) (c : PlanCallValue) (names : Names Seat) (n : Met) → played make (xs ++ c ∷ []) names n
      ≡ record {
        names = zip c.targets (given_to c (played make xs names n).names (played make xs names n).next).seats ++ (played make xs names n).names;
        steps = (played make xs names n).steps ++ (given_to c (played make xs names n).names (played make xs names n).next).steps;
        next = (given_to c (played make xs names n).names (played make xs names n).next).next;
      }
  next_call xs c names n =
      let d = played make xs names n in
      let u = given_to c d.names d.next in
      played_append xs (c ∷ []) names n ∙ (λ k. record { names = zip c.targets u.seats ++ d.names; steps = d.steps ++ append_none u.steps k; next = u.next })
    where
      append_none : {A : Type 0} (xs : List A) → xs ++ [] ≡ xs
      append_none [] = refl
      append_none (y ∷ ys) = ap (λ l. y ∷ l) (append_none ys)

-- ---- a call
module _ (p : List ProgTransform) (found : List AnalysisValue) (config : ConfigValue) (grain : ℕ) where
  unroll_is : (d number : ℕ) (given : List Seat) (n : Met) → unroll p found config grain d number given n ≡ unroll_one p found config grain (deeper_unroll p found config grain d) number given n
  unfolding unroll
  unroll_is zero number given n = refl
  unroll_is (suc d) number given n = refl

  pub call_is : (d number : ℕ) (given : List Seat) (n : Met) (t : ProgTransform) (a : AnalysisValue) → slice_get p number ≡ Some t → slice_get found number ≡ Some a
      → unroll p found config grain d number given n ≡ unrolled_at p found config grain (deeper_unroll p found config grain d) number t a (sizes_from t (map sides_of_seat given)) given n
  call_is d number given n t a there is_found = unroll_is d number given n ∙ rw (there, is_found) refl
