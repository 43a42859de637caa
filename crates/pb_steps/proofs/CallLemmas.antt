-- Calls, jobs and plans as they are unrolled.
use Rattle.std.proofs.Common.{◌≡◌, ◌∙◌, refl, sym, ap, subst, ℕ, ◌+◌, ◌<◌, List, [], ◌++◌, get_or, length, map, slice_get, take, Option, Some}
use Rattle.std.specs.List.{zip}
use Rattle.pb_linear.specs.Sizes.{sizes_of}
use Rattle.pb_program.specs.Configs.{ConfigValue}
use Rattle.pb_program.specs.Plans.{PlanCallValue}
use Rattle.pb_program.specs.Trees.{ProgTransform, bare_prog}
use Rattle.pb_check.specs.Accepting.{AcceptedValue}
use Rattle.pb_check.specs.Orders.{AnalysisValue}
use Rattle.pb_frame.specs.Frames.{JobValue}
use Rattle.pb_plan.specs.Made.{jobs_for}
use Rattle.pb_recursion.specs.Plans.{Names, named}
use Rattle.pb_recursion.specs.Shapes.{sizes_from}
use Rattle.pb_views.specs.Seats.{no_seat, sides_of_seat}
use Rattle.pb_views.specs.declared.seat.Seat.{Seat}
use Rattle.pb_counts.specs.Handed.{Instance}
use Rattle.pb_counts.specs.Handed.{Met, Played, Player, Unroll, Unrolled, deeper_unroll, instance_of, job_done, jobs_done, played, unroll, unrolled_at}
use Rattle.pb_steps.specs.Runs.{UnrolledValue}
use Rattle.pb_steps.specs.Stands.{Goes, GoesBy, GoesByCall, GoesByPlay, IsEnteredAs, IsInstance, IsSeated, met_of}
use Rattle.pb_steps.specs.Values.{InstanceValue}
use Rattle.pb_steps.proofs.FoldLemmas.{call_is, next_call, next_job}
use Rattle.pb_steps.proofs.GrowLemmas.{goes_both}
use Rattle.pb_steps.proofs.ListLemmas.{take_at, take_next}

-- an instance stands for one of the definition
abbrev pub instance_for : (p : List ProgTransform) (found : List AnalysisValue) (config : ConfigValue) (grain : ℕ) (v : InstanceValue) → IsSeated p found config grain v → Instance
instance_for p found config grain v h = record { call = v.call; number = v.transform; transform = h.transform; found = h.analysis; sizes = sizes_of v.sizes; seats = v.seats }

pub stands : (p : List ProgTransform) (found : List AnalysisValue) (config : ConfigValue) (grain : ℕ) (v : InstanceValue) (h : IsSeated p found config grain v) → IsInstance p found v (instance_for p found config grain v h)
stands p found config grain v h = record { call = refl; number = refl; transform = h.there; analysis = h.is_found; sizes = refl; seats = refl }

module _ (a : AcceptedValue) (config : ConfigValue) (grain : ℕ) where
  abbrev p : List ProgTransform
  p = bare_prog a.program

  -- ---- a call
  module _ (depth t : ℕ) (given : List Seat) (old mid new : UnrolledValue) (number : ℕ) (own : List Seat) (h : IsEnteredAs a config grain t given old mid number own) where
    abbrev unrolled : Unrolled
    unrolled = unroll p a.found config grain depth t given (met_of old.met)

    is : unrolled ≡ unrolled_at p a.found config grain (deeper_unroll p a.found config grain depth) t h.transform h.analysis (sizes_from h.transform (map sides_of_seat given)) given (met_of old.met)
    is = call_is p a.found config grain depth t given (met_of old.met) h.transform h.analysis h.there h.is_found

    pub call_seats : own ≡ unrolled.seats
    call_seats = h.own_is ∙ ap (λ (u : Unrolled). u.seats) (sym is)

    abbrev pub entered_instance : Instance
    entered_instance = instance_of t h.transform h.analysis (sizes_from h.transform (map sides_of_seat given)) given (met_of old.met)

    pub call_goes : GoesBy a config grain mid new (jobs_done p (deeper_unroll p a.found config grain depth) entered_instance h.value.jobs (met_of mid.met)) → Goes a config grain old new unrolled.steps unrolled.next
    call_goes g =
        let deeper = deeper_unroll p a.found config grain depth in
        let done = λ (js : List JobValue) (n : Met). jobs_done p deeper entered_instance js n in
        let all = goes_both a config grain old mid new [] (done h.value.jobs (met_of mid.met)).steps _ _ h.goes g in
        subst (λ (u : Unrolled). Goes a config grain old new u.steps u.next) (sym is)
        (subst (λ n. GoesBy a config grain old new (done (jobs_for config t h.transform h.analysis (sizes_from h.transform (map sides_of_seat given)) grain) n)) h.goes.met
        (subst (λ js. GoesBy a config grain old new (done js (met_of mid.met))) h.jobs all))

  -- ---- jobs
  module _ (deeper : Option Unroll) (i : Instance) (old mid new : UnrolledValue) (jobs : List JobValue) (k : ℕ) (j : JobValue) (at : slice_get jobs k ≡ Some j) where
    pub job_goes : GoesBy a config grain old mid (jobs_done p deeper i (take k jobs) (met_of old.met)) → GoesBy a config grain mid new (job_done p deeper i j.rule j (met_of mid.met))
        → GoesBy a config grain old new (jobs_done p deeper i (take (k + 1) jobs) (met_of old.met))
    job_goes g h =
        let before = jobs_done p deeper i (take k jobs) (met_of old.met) in
        let last = subst (λ n. GoesBy a config grain mid new (job_done p deeper i j.rule j n)) g.met h in
        subst (GoesBy a config grain old new) (sym (ap (λ l. jobs_done p deeper i l (met_of old.met)) (take_next jobs k j at) ∙ next_job p deeper i (take k jobs) j (met_of old.met)))
        (goes_both a config grain old mid new before.steps (job_done p deeper i j.rule j before.next).steps before.next (job_done p deeper i j.rule j before.next).next g last)

  -- ---- calls of a plan
  module _ (make : Player) (calls : List PlanCallValue) (k : ℕ) (d : PlanCallValue) (below : k < length calls) (first : Names Seat) (old mid new : UnrolledValue) where
    abbrev call : PlanCallValue
    call = get_or calls k d

    is_next : played make (take (k + 1) calls) first (met_of old.met)
        ≡ record {
          names = zip call.targets (make call (map (named no_seat (played make (take k calls) first (met_of old.met)).names) call.arguments) (played make (take k calls) first (met_of old.met)).next).seats ++ (played make (take k calls) first (met_of old.met)).names;
          steps = (played make (take k calls) first (met_of old.met)).steps ++ (make call (map (named no_seat (played make (take k calls) first (met_of old.met)).names) call.arguments) (played make (take k calls) first (met_of old.met)).next).steps;
          next = (make call (map (named no_seat (played make (take k calls) first (met_of old.met)).names) call.arguments) (played make (take k calls) first (met_of old.met)).next).next;
        }
    is_next = ap (λ l. played make l first (met_of old.met)) (take_at calls k d below) ∙ next_call make (take k calls) call first (met_of old.met)

    module _ (names : Names Seat) (names_are : names ≡ (played make (take k calls) first (met_of old.met)).names) (g : GoesByPlay a config grain old mid (played make (take k calls) first (met_of old.met)))
        (given made : List Seat) (given_are : given ≡ map (named no_seat names) call.arguments) (made_are : made ≡ (make call given (met_of mid.met)).seats) where
      so : make call given (met_of mid.met) ≡ make call (map (named no_seat (played make (take k calls) first (met_of old.met)).names) call.arguments) (played make (take k calls) first (met_of old.met)).next
      so = λ m. make call ((given_are ∙ ap (λ n. map (named no_seat n) call.arguments) names_are) m) (g.met m)

      pub next_names : (later : Names Seat) → later ≡ zip call.targets made ++ names → later ≡ (played make (take (k + 1) calls) first (met_of old.met)).names
      next_names later is = is ∙ (λ m. zip call.targets ((made_are ∙ ap (λ (u : Unrolled). u.seats) so) m) ++ names_are m) ∙ ap (λ (q : Played). q.names) (sym is_next)

      pub next_goes : GoesByCall a config grain mid new (make call given (met_of mid.met)) → GoesByPlay a config grain old new (played make (take (k + 1) calls) first (met_of old.met))
      next_goes h =
          let before = played make (take k calls) first (met_of old.met) in
          let u = make call (map (named no_seat before.names) call.arguments) before.next in
          let last = subst (GoesByCall a config grain mid new) so h in
          subst (GoesByPlay a config grain old new) (sym is_next) (goes_both a config grain old mid new before.steps u.steps before.next u.next g last)
