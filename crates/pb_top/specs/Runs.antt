-- What a run answers to a program, a configuration and inputs, and what it writes after that.
use Rattle.std.specs.Prelude.{◌≡◌, ℕ, Bool, true, List, [], ◌++◌, length, Option, Some, None, Result, Ok, Err, slice_get}
use Rattle.std.specs.List.{range_with_len}
use Rattle.pb_values.specs.declared.outcome.Kind.{Kind}
use Rattle.pb_values.specs.declared.outcome.Kind.TheVariants as trap
use Rattle.pb_program.specs.Configs.{ConfigValue}
use Rattle.pb_program.specs.Trees.{ProgTransform}
use Rattle.pb_matrix.specs.Reading.{matrix_read}
use Rattle.pb_matrix.specs.Value.{MatrixValue}
use Rattle.pb_matrix.specs.declared.matrix.MatrixRefusal.{MatrixRefusal}
use Rattle.pb_model.specs.Calls.{Outcomes, TrappedCell}
use Rattle.pb_config.specs.Reading.{config_read}
use Rattle.pb_config.specs.declared.refusal.ConfigRefusal.{ConfigRefusal}
use Rattle.pb_check.specs.Orders.{AnalysisValue}
use Rattle.pb_entry.specs.Entering.{CannotEnter, Enters}
use Rattle.pb_entry.specs.Fitting.{AreBound, AreUnfit}
use Rattle.pb_entry.specs.declared.refusal.RunRefusal.{RunRefusal}
use Rattle.pb_taskgraph.specs.Graphs.{GraphValue, TaskValue}
use Rattle.pb_taskgraph.specs.Orders.{IsLawful}
use Rattle.pb_words.specs.declared.ask.Pool.{Pool}
use Rattle.pb_words.specs.declared.ask.Pool.TheVariants as pools
use Rattle.pb_recursion.specs.Depths.{call_at}
use Rattle.pb_unroll.specs.Handed.{run_matrices}
use Rattle.pb_unroll.specs.Handed.{Step}
use Rattle.pb_unroll.specs.Handed.{AreTasksOf, run_graph}
use Rattle.pb_unroll.specs.Handed.{given_as}
use Rattle.pb_unroll.specs.Handed.{IsTooLarge, IsWithin as HasFewCounts, run_steps}
use Rattle.pb_unroll.specs.Answers.{answer_of, matrices_text}
use Rattle.pb_taskgraph.specs.Trace.{trace_text}
use Rattle.pb_run_lines.specs.RunLines.{config_line, run_line, trap_line}
use Rattle.pb_top.specs.Reply.{Reply, IsFaultyInput, done_reply, refusal_reply}
use Rattle.pb_top.specs.Steps.{AfterProgram, Each, Then}
use Rattle.pb_top.specs.declared.reply.Status.{Status}
use Rattle.pb_top.specs.declared.reply.Status.TheVariants as status

-- ---- the steps after the program
-- the configuration that a text says for the program, the empty one where there is no text; or the line of its refusal
abbrev pub config_said : List ProgTransform → Option (List ℕ) → Result ConfigValue ConfigRefusal
config_said p None = Ok (record { entries = [] })
config_said p (Some text) = config_read p text

abbrev pub Configures : List ProgTransform → Option (List ℕ) → Result ConfigValue Reply → Type 0
Configures p text (Ok config) = config_said p text ≡ Ok config
Configures p text (Err reply) = (why : ConfigRefusal) × (config_said p text ≡ Err why) × (reply ≡ refusal_reply status.Config (config_line why))

-- the number of the transform of this name, which takes so many matrices; or the line that there is none
abbrev pub FindsTransform : List ProgTransform → List ℕ → ℕ → Result ℕ Reply → Type 0
FindsTransform p name given (Ok t) = Enters p name given t
FindsTransform p name given (Err reply) = (why : RunRefusal) × CannotEnter p name given why × (reply ≡ refusal_reply status.Input (run_line p 0 name why))

-- the matrix that an input is, by its word and its text; or the line of its first fault
abbrev pub ReadsInput : List ℕ × List ℕ → Result MatrixValue Reply → Type 0
ReadsInput file (Ok matrix) = matrix_read file.1 ≡ Ok matrix
ReadsInput file (Err reply) = (why : MatrixRefusal) × (matrix_read file.1 ≡ Err why) × IsFaultyInput file.0 why reply

-- the sizes that matrices bind of the transform with a number; or the line that they don't fit it
abbrev pub Fits : List ProgTransform → List ℕ → ℕ → ProgTransform → List MatrixValue → Result (List ℕ) Reply → Type 0
Fits p name number t inputs (Ok sizes) = AreBound t inputs sizes
Fits p name number t inputs (Err reply) = (why : RunRefusal) × AreUnfit t inputs why × (reply ≡ refusal_reply status.Input (run_line p number name why))

-- a run whose inputs fit: of a program and what is found of its transforms, with a configuration, of a transform with its number, with
-- matrices at the sizes that they bind, where plans may call so many deep, in blocks of this side at least
pub record Fitting : Type 0 where
  pub program : List ProgTransform
  pub found : List AnalysisValue
  pub config : ConfigValue
  pub number : ℕ
  pub transform : ProgTransform
  pub inputs : List MatrixValue
  pub sizes : List ℕ
  pub depth : ℕ
  pub grain : ℕ

-- its counts are within their limits; or the line of the first that isn't
abbrev pub IsWithin : Fitting → List ℕ → Result (Unit {0}) Reply → Type 0
IsWithin r name (Ok u) = HasFewCounts r.program r.found r.config r.grain r.depth r.number (given_as r.inputs)
IsWithin r name (Err reply) =
    (why : RunRefusal) × IsTooLarge r.program r.found r.config r.grain r.depth r.number (given_as r.inputs) why × (reply ≡ refusal_reply status.TooLarge (run_line r.program r.number name why))

-- ---- the answer
-- the matrices of its first call, with all their outcomes: those that are given, and those that it makes
abbrev pub call_matrices : Fitting → List Outcomes
call_matrices r = given_as r.inputs ++ call_at r.program r.config r.depth r.number (given_as r.inputs)

abbrev pub run_answer : Fitting → Result (List MatrixValue) TrappedCell
run_answer r = answer_of r.transform r.sizes (call_matrices r)

abbrev pub trap_status : Kind → Status
trap_status trap.DepthEnded = status.DepthEnded
trap_status _ = status.Trapped

-- the texts of its matrices, or the line of its first trapped cell
abbrev pub answer_reply : Fitting → Result (List MatrixValue) TrappedCell → Reply
answer_reply r (Ok matrices) = done_reply (matrices_text matrices)
answer_reply r (Err cell) = refusal_reply (trap_status cell.trap.kind) (trap_line r.program r.number cell)

abbrev pub RunReplies : Fitting → Reply → Type 0
RunReplies r reply = reply ≡ answer_reply r (run_answer r)

-- the steps of all its calls, and the graph of their tasks
abbrev pub call_steps : Fitting → List Step
call_steps r = run_steps r.program r.found r.config r.grain r.depth r.number (given_as r.inputs)

abbrev pub graph_with : Fitting → List TaskValue → GraphValue
graph_with r tasks = run_graph (given_as r.inputs) (run_matrices r.program r.found r.config r.grain r.depth r.number (given_as r.inputs)) (call_steps r) tasks

-- the orders in which a pool may finish the tasks of a graph: by number on one thread, in any lawful order on several
abbrev pub orders_of : Pool → GraphValue → List ℕ → Type 0
orders_of pools.Serial graph order = order ≡ range_with_len 0 (length graph.tasks)
orders_of pools.Locked graph order = IsLawful graph order
orders_of pools.Steal graph order = IsLawful graph order

-- the trace of its tasks, in an order in which the pool may finish them
pub record IsTraceOf (pool : Pool) (r : Fitting) (text : List ℕ) : Type 0 where
  pub tasks : List TaskValue
  pub are_tasks : AreTasksOf (call_steps r) tasks
  pub order : List ℕ
  pub allowed : orders_of pool (graph_with r tasks) order
  pub is : text ≡ trace_text (graph_with r tasks) order

-- what stands after the matrices on `out`, if a trace is asked for; after nothing else
abbrev pub TailAfter : Pool → Fitting → Bool → Result (List MatrixValue) TrappedCell → List ℕ → Type 0
TailAfter pool r true (Ok matrices) tail = IsTraceOf pool r tail
TailAfter pool r traced answer tail = tail ≡ []

abbrev pub RunWrites : Pool → Bool → List ℕ → Fitting → Reply → Type 0
RunWrites pool traced tail r reply = RunReplies r reply × TailAfter pool r traced (run_answer r) tail

-- ---- all steps of a run, over what is asked of it where its counts are within their limits
-- of the transform of this name
module _ (name : List ℕ) (depth grain : ℕ) (End : Fitting → Reply → Type 0) where
  -- where the inputs fit
  abbrev pub AfterFit : Fitting → Reply → Type 0
  AfterFit r = Then (IsWithin r name) (λ _. End r)

  module _ (p : List ProgTransform) (found : List AnalysisValue) (config : ConfigValue) (number : ℕ) where
    abbrev pub AfterTransform : ProgTransform → List MatrixValue → Reply → Type 0
    AfterTransform t inputs = Then (Fits p name number t inputs) (λ sizes. AfterFit (record {
      program = p;
      found = found;
      config = config;
      number = number;
      transform = t;
      inputs = inputs;
      sizes = sizes;
      depth = depth;
      grain = grain;
    }))

    -- where the inputs are matrices
    abbrev pub AfterInputs : List MatrixValue → Reply → Type 0
    AfterInputs inputs reply = (t : ProgTransform) × (slice_get p number ≡ Some t) × AfterTransform t inputs reply

    -- where the transform is there
    abbrev pub AfterName : List (List ℕ × List ℕ) → Reply → Type 0
    AfterName files = Then (Each ReadsInput files) AfterInputs

  module _ (p : List ProgTransform) (found : List AnalysisValue) where
    -- where the configuration is valid
    abbrev pub AfterConfig : List (List ℕ × List ℕ) → ConfigValue → Reply → Type 0
    AfterConfig files config = Then (FindsTransform p name (length files)) (λ number. AfterName p found config number files)

    -- where the program is accepted
    abbrev pub AfterAccept : Option (List ℕ) → List (List ℕ × List ℕ) → Reply → Type 0
    AfterAccept text files = Then (Configures p text) (AfterConfig files)

    -- the same with matrices in the place of files
    abbrev pub AfterConfigWith : List MatrixValue → ConfigValue → Reply → Type 0
    AfterConfigWith inputs config = Then (FindsTransform p name (length inputs)) (λ number. AfterInputs p found config number inputs)

    abbrev pub AfterAcceptWith : Option (List ℕ) → List MatrixValue → Reply → Type 0
    AfterAcceptWith text inputs = Then (Configures p text) (AfterConfigWith inputs)

  -- the program's text, that of the configuration, and the inputs by their words and texts
  abbrev pub RunsProgram : List ℕ → Option (List ℕ) → List (List ℕ × List ℕ) → Reply → Type 0
  RunsProgram program text files = AfterProgram (λ tree p found. AfterAccept p found text files) program

  -- the same with matrices in the place of files
  abbrev pub RunsWith : List ℕ → Option (List ℕ) → List MatrixValue → Reply → Type 0
  RunsWith program text inputs = AfterProgram (λ tree p found. AfterAcceptWith p found text inputs) program
