-- From the steps of a run to what it writes.
use Rattle.std.proofs.Common.{◌≡◌, ◌∙◌, refl, sym, ap, subst, ℕ, zero, suc, ◌+◌, ◌<◌, Bool, true, false, List, [], ◌∷◌, flat_map, length, get_or, Option, Some, None, slice_get, Result, Ok, Err, Vec, ◌⊎◌, inl, inr, arith}
use Rattle.std.specs.Prelude.{IsSomeAnd}
use Rattle.std.specs.List.{All, range_with_len, zip}
use Rattle.std.specs.declared.alloc.Global.{Global}
use Rattle.std.proofs.lemmas.List.Elements.{All-cons, All-nil}
use Rattle.pb_program.specs.Configs.{ConfigValue}
use Rattle.pb_program.specs.Trees.{ProgTransform, bare_prog}
use Rattle.pb_matrix.specs.Value.{MatrixValue}
use Rattle.pb_model.specs.Calls.{TrappedCell}
use Rattle.pb_check.specs.Accepting.{AcceptedValue}
use Rattle.pb_check.specs.Orders.{AnalysisValue}
use Rattle.pb_entry.specs.Fitting.{AreBound, AreUnfit}
use Rattle.pb_entry.specs.declared.refusal.RunRefusal.{RunRefusal}
use Rattle.pb_entry.specs.declared.refusal.RunRefusal.TheVariants.{BadShape, Memory as NoRoom, SizeOutOfRange, TooLarge, UnknownTransform, WrongCount}
use Rattle.pb_taskgraph.specs.Graphs.{GraphValue}
use Rattle.pb_recursion.specs.Counts.{Counted}
use Rattle.pb_unroll.specs.Handed.{plan_of_run}
use Rattle.pb_unroll.specs.Handed.{Step}
use Rattle.pb_unroll.specs.Handed.{given_as}
use Rattle.pb_unroll.specs.Handed.{IsTooLarge, counted, run_steps}
use Rattle.pb_unroll.specs.Handed.{IsRunning, RunValue, of_sizes, of_transform, run_plan}
use Rattle.pb_unroll.specs.Handed.{IsUnrolled}
use Rattle.pb_unroll.specs.Answers.{matrices_text, results_in, trapped_in, unless_trapped}
use Rattle.pb_taskgraph.specs.Trace.{trace_text}
use Rattle.pb_run_lines.specs.RunLines.{run_line}
use Rattle.pb_summary.specs.Summary.{summary_text}
use Rattle.pb_top.specs.Demos.{Summarizes, summary_reply}
use Rattle.pb_top.specs.Reply.{Reply, done_reply, refusal_reply}
use Rattle.pb_words.specs.declared.ask.Pool.{Pool}
use Rattle.pb_words.specs.declared.ask.Pool.TheVariants.{Locked, Serial, Steal}
use Rattle.pb_taskgraph.specs.Orders.{IsLawful}
use Rattle.pb_top.specs.Runs.{AfterInputs, Fitting, IsTraceOf, RunWrites, TailAfter, orders_of, answer_reply, graph_with, run_answer}
use Rattle.pb_top.specs.Steps.{Then}
use Rattle.pb_top.specs.Working.{CannotRun, Continues, IsTailFor, IsTrapped, Prepares, StopsWith, Writes, fitting_of, refusal_status}
use Rattle.pb_top.specs.declared.prepare.Prepared.{Prepared}
use Rattle.pb_top.specs.declared.reply.Status.{Status}
use Rattle.pb_top.specs.declared.reply.Status.TheVariants as status
use Rattle.pb_top.specs.declared.reply.Stop.{Stop}
use Rattle.pb_top.proofs.LimitLemmas.{Passes, passed}
use Rattle.pb_top.proofs.StepLemmas.{stops_map, writes_map}

-- ---- the trace
below : (a n top : ℕ) → a + n ≡ top → All (λ t. t < top) (range_with_len a n)
below a zero top e = All-nil (λ t. t < top)
below a (suc n) top e = All-cons (λ t. t < top) a (range_with_len (a + 1) n) (omega (arith, e)) (below (a + 1) n top (omega (arith, e)))

are_tasks : (order : List ℕ) (n : ℕ) → order ≡ range_with_len 0 n → All (λ t. t < n) order
are_tasks order n is = subst (All (λ t. t < n)) (sym is) (below 0 n n (omega arith))

-- an order that a pool may have names tasks of the graph alone
same_at : (xs : List ℕ) (k d : ℕ) → k < length xs → get_or xs k (get_or xs k d) ≡ get_or xs k d
same_at [] k d below = absurd (omega (arith, below))
same_at (x ∷ xs) zero d below = refl
same_at (x ∷ xs) (suc k) d below = same_at xs k d (omega (arith, below))

lawful_below : (g : GraphValue) (order : List ℕ) → IsLawful g order → All (λ t. t < length g.tasks) order
lawful_below g order is k d below = is.only (get_or order k d) (k, below, same_at order k d below)

orders_below : (pool : Pool) (g : GraphValue) (order : List ℕ) → orders_of pool g order → All (λ t. t < length g.tasks) order
orders_below Serial g order is = are_tasks order (length g.tasks) is
orders_below Locked g order is = lawful_below g order is
orders_below Steal g order is = lawful_below g order is

-- the graph of what a run stands for
pub run_graph : (r : RunValue) → (run_plan r).graph ≡ graph_with (fitting_of r) r.graph.tasks
unfolding run_plan plan_of_run
run_graph r = refl

pub names_tasks : (pool : Pool) (r : RunValue) (order : List ℕ) → orders_of pool (run_plan r).graph order → All (λ t. t < length r.graph.tasks) order
names_tasks pool r order allowed = orders_below pool (graph_with (fitting_of r) r.graph.tasks) order (subst (λ g. orders_of pool g order) (run_graph r) allowed)

pub is_trace : (pool : Pool) (r : RunValue) → IsRunning r → (order text : List ℕ) → orders_of pool (run_plan r).graph order → text ≡ trace_text r.graph order → IsTraceOf pool (fitting_of r) text
is_trace pool r is order text allowed written = record {
  tasks = r.graph.tasks;
  are_tasks = is.begun.tasks;
  order = order;
  allowed = subst (λ g. orders_of pool g order) (run_graph r) allowed;
  is = written ∙ ap (λ (g : GraphValue). trace_text g order) is.begun.graph;
}

pub is_tail : (r : RunValue) → IsRunning r → (order text : List ℕ) → text ≡ trace_text r.graph order → (pool : Pool) → orders_of pool (run_plan r).graph order → IsTailFor pool r true text
is_tail r is order text written pool allowed = is_trace pool r is order text allowed written

-- ---- the answer
answer_is : (r : RunValue) (o : Option TrappedCell) → trapped_in r ≡ o → run_answer (fitting_of r) ≡ unless_trapped o (results_in r)
answer_is r o is = ap (λ t. unless_trapped t (results_in r)) is

tail_is : (pool : Pool) (r : RunValue) (traced : Bool) (matrices : List MatrixValue) (tail : List ℕ) → IsTailFor pool r traced tail → TailAfter pool (fitting_of r) traced (Ok matrices) tail
tail_is pool r true matrices tail is = is
tail_is pool r false matrices tail is = is

no_tail : (pool : Pool) (r : RunValue) (traced : Bool) (cell : TrappedCell) → TailAfter pool (fitting_of r) traced (Err cell) []
no_tail pool r true cell = refl
no_tail pool r false cell = refl

pub is_done : (pool : Pool) (r : RunValue) (traced : Bool) (out tail : List ℕ) → trapped_in r ≡ None → out ≡ matrices_text (results_in r) → IsTailFor pool r traced tail → RunWrites pool traced tail (fitting_of r) (done_reply out)
is_done pool r traced out tail none written is =
    let answer : run_answer (fitting_of r) ≡ Ok (results_in r) = answer_is r None none in
    (ap done_reply written ∙ sym (ap (answer_reply (fitting_of r)) answer), subst (λ a. TailAfter pool (fitting_of r) traced a tail) (sym answer) (tail_is pool r traced (results_in r) tail is))

pub is_trapped : (pool : Pool) (r : RunValue) (traced : Bool) (cell : TrappedCell) (reply : Reply) → trapped_in r ≡ Some cell → IsTrapped r cell reply → RunWrites pool traced [] (fitting_of r) reply
is_trapped pool r traced cell reply some is =
    let answer : run_answer (fitting_of r) ≡ Err cell = answer_is r (Some cell) some in
    (is ∙ sym (ap (answer_reply (fitting_of r)) answer), subst (λ a. TailAfter pool (fitting_of r) traced a []) (sym answer) (no_tail pool r traced cell))

pub trapped_stops : (pool : Pool) (r : RunValue) (traced : Bool) (cell : TrappedCell) (stop : Stop) → trapped_in r ≡ Some cell → StopsWith (IsTrapped r cell) stop → StopsWith (RunWrites pool traced [] (fitting_of r)) stop
trapped_stops pool r traced cell stop some = stops_map (IsTrapped r cell) (RunWrites pool traced [] (fitting_of r)) (λ reply. is_trapped pool r traced cell reply some) stop

-- the answer of a run whose matrices are summarized
pub is_summarized : (name : List ℕ) (r : RunValue) (text : List ℕ) → trapped_in r ≡ None → text ≡ flat_map (summary_text name) (results_in r) → Summarizes name (fitting_of r) (done_reply text)
is_summarized name r text none written = ap done_reply written ∙ sym (ap (summary_reply name (fitting_of r)) (answer_is r None none))

pub summary_stops : (name : List ℕ) (r : RunValue) (cell : TrappedCell) (stop : Stop) → trapped_in r ≡ Some cell → StopsWith (IsTrapped r cell) stop → StopsWith (Summarizes name (fitting_of r)) stop
summary_stops name r cell stop some =
    stops_map (IsTrapped r cell) (Summarizes name (fitting_of r)) (λ reply is. is ∙ sym (ap (summary_reply name (fitting_of r)) (answer_is r (Some cell) some))) stop

-- ---- a run that can't be begun
some_of : {A : Type 0} (o : Option A) (P : A → Type 0) → IsSomeAnd o P → (x : A) × (o ≡ Some x) × P x
some_of None P h = absurd h
some_of (Some x) P h = (x, refl, h)

unfit_status : (t : ProgTransform) (inputs : List MatrixValue) (e : RunRefusal) → AreUnfit t inputs e → refusal_status e ≡ status.Input
unfit_status t inputs UnknownTransform unfit = refl
unfit_status t inputs (WrongCount wanted given) unfit = refl
unfit_status t inputs (BadShape matrix axis wanted found) unfit = refl
unfit_status t inputs (SizeOutOfRange size value) unfit = refl
unfit_status t inputs NoRoom unfit = refl
unfit_status t inputs (TooLarge what) (inl dims) = absurd dims.fails
unfit_status t inputs (TooLarge what) (inr (dims, later)) = elim later.why [ inl out ↦ absurd out | inr sides ↦ elim sides.1.fails [ inl wide ↦ absurd wide | inr tall ↦ absurd tall.1 ] ]

large_status : (c : Counted) (steps : List Step) (e : RunRefusal) → Passes c steps e → refusal_status e ≡ status.TooLarge
large_status c steps e passes = let a = passed c steps e passes in ap refusal_status a.1

module _ (a : AcceptedValue) (config : ConfigValue) (number : ℕ) (name : List ℕ) (inputs : List MatrixValue) (depth grain : ℕ) (End : Fitting → Reply → Type 0) where
  abbrev p : List ProgTransform
  p = bare_prog a.program

  abbrev line : Status → RunRefusal → Reply
  line s e = refusal_reply s (run_line p number name e)

  abbrev Large : RunRefusal → Type 0
  Large = IsTooLarge p a.found config grain depth number (given_as inputs)

  pub cannot_run : (reply : Reply) → CannotRun a config number name inputs depth grain reply → AfterInputs name depth grain End p a.found config number inputs reply
  cannot_run reply c = by (some_of (slice_get p number) _ c.refused)
    where
      why : RunRefusal
      why = c.why

      told : (s : Status) → refusal_status why ≡ s → reply ≡ line s why
      told s is = c.is ∙ ap (λ x. line x why) is

      Refused : ProgTransform → AnalysisValue → Type 0
      Refused t found = AreUnfit t inputs why ⊎ ((sizes : List ℕ) × AreBound t inputs sizes × Large why)

      ends : (t : ProgTransform) (found : AnalysisValue) → slice_get p number ≡ Some t → Refused t found → AfterInputs name depth grain End p a.found config number inputs reply
      ends t found at (inl unfit) = (t, at, inr (why, unfit, told status.Input (unfit_status t inputs why unfit)))
      ends t found at (inr (sizes, bound, large)) =
          (t, at, inl (sizes, bound, inr (why, large, told status.TooLarge (large_status (counted p a.found config grain depth number (given_as inputs)) (run_steps p a.found config grain depth number (given_as inputs)) why large))))

      by : (t : ProgTransform) × (slice_get p number ≡ Some t) × IsSomeAnd (slice_get a.found number) (Refused t) → AfterInputs name depth grain End p a.found config number inputs reply
      by (t, at, some) = let f = some_of (slice_get a.found number) (Refused t) some in ends t f.0 at f.2

  -- one that is begun
  pub has_run : (r : RunValue) → IsUnrolled a config number inputs depth grain r → (reply : Reply) → End (fitting_of r) reply → AfterInputs name depth grain End p a.found config number inputs reply
  has_run r u reply end = (of_transform r, u.there, inl (of_sizes r, u.bound, inl (tt, u.within, subst (λ f. End f reply) fit_is end)))
    where
      fit_is : fitting_of r ≡ record { program = p; found = a.found; config = config; number = number; transform = of_transform r; inputs = inputs; sizes = of_sizes r; depth = depth; grain = grain }
      fit_is i = record {
        program = bare_prog (u.of_accepted i).program;
        found = (u.of_accepted i).found;
        config = u.of_config i;
        number = u.of_number i;
        transform = of_transform r;
        inputs = u.of_inputs i;
        sizes = of_sizes r;
        depth = u.of_depth i;
        grain = u.of_grain i;
      }

-- ---- the steps before a run, one after another
module _ (name : List ℕ) (depth grain : ℕ) (traced : Bool) where
  pub prepares_map : (P Q : Pool → List ℕ → Reply → Type 0) → ((pool : Pool) (tail : List ℕ) (reply : Reply) → P pool tail reply → Q pool tail reply) → (found : Result Prepared Stop)
      → Prepares name depth grain traced P found → Prepares name depth grain traced Q found
  prepares_map P Q each (Ok b) says = λ pool tail reply more. each pool tail reply (says pool tail reply more)
  prepares_map P Q each (Err stop) stops = λ pool. stops_map (P pool []) (Q pool []) (each pool []) stop (stops pool)

  pub after_step : {A : Type 0} (Step : Result A Reply → Type 0) (next : Pool → List ℕ → A → Reply → Type 0) (x : A) → Step (Ok x) → (found : Result Prepared Stop)
      → Prepares name depth grain traced (λ pool tail. next pool tail x) found → Prepares name depth grain traced (λ pool tail. Then Step (next pool tail)) found
  after_step Step next x step = prepares_map (λ pool tail. next pool tail x) (λ pool tail. Then Step (next pool tail)) (λ pool tail reply more. inl (x, step, more))

  pub step_stops : {A : Type 0} (Step : Result A Reply → Type 0) (next : Pool → List ℕ → A → Reply → Type 0) (stop : Stop) → StopsWith (λ reply. Step (Err reply)) stop
      → Prepares name depth grain traced (λ pool tail. Then Step (next pool tail)) (Err stop)
  step_stops Step next stop stops pool = stops_map (λ reply. Step (Err reply)) (Then Step (next pool [])) (λ reply s. inr s) stop stops

  -- what a prepared run comes to is what the steps before it say
  pub prepared_writes : (P : Pool → List ℕ → Reply → Type 0) (b : Prepared) (pool : Pool) (found : Result (Vec ℕ Global) Stop) → Prepares name depth grain traced P (Ok b)
      → Writes (Continues name depth grain traced b pool) found → Writes (P pool) found
  prepared_writes P b pool found says = writes_map (Continues name depth grain traced b pool) (P pool) (λ tail reply more. says pool tail reply more) found

-- ---- inputs
pub zip_length : {A B : Type 0} (xs : List A) (ys : List B) → length xs ≡ length ys → length (zip xs ys) ≡ length xs
zip_length [] ys e = refl
zip_length (x ∷ xs) [] e = absurd (omega (arith, e))
zip_length (x ∷ xs) (y ∷ ys) e = ap suc (zip_length xs ys (omega (arith, e)))
