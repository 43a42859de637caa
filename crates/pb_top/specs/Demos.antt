-- What `demo` answers to a seed and a size: two runs of programs that are always the same, over matrices that are drawn from the seed.
use Rattle.std.specs.Prelude.{◌≡◌, ◌≢◌, ℕ, zero, suc, List, ◌++◌, flat_map, codes, Some, Result, Ok, Err}
use Rattle.pb_matrix.specs.Value.{MatrixValue}
use Rattle.pb_model.specs.Calls.{TrappedCell}
use Rattle.pb_demo.specs.Demonstrations.{demo_config, demo_transform}
use Rattle.pb_gen.specs.Examples.{example_of}
use Rattle.pb_gen.specs.Texts.{text_of}
use Rattle.pb_summary.specs.Summary.{summary_text}
use Rattle.pb_top.specs.Reply.{Reply, done_reply}
use Rattle.pb_top.specs.Runs.{Fitting, RunsWith, answer_reply, run_answer}
use Rattle.pb_top.specs.Steps.{Then}

-- ---- the runs: 0 multiplies two matrices, 1 makes a rolling sum
-- the name that a run's summary begins with
abbrev pub demo_name : ℕ → List ℕ
demo_name zero = codes "MatrixMultiply AB"
demo_name (suc _) = codes "RollingSum B"

-- the summaries of the run's matrices (each transform has one after `to`), or the line of its first trapped cell
abbrev pub summary_reply : List ℕ → Fitting → Result (List MatrixValue) TrappedCell → Reply
summary_reply name r (Ok matrices) = done_reply (flat_map (summary_text name) matrices)
summary_reply name r (Err cell) = answer_reply r (Err cell)

abbrev pub Summarizes : List ℕ → Fitting → Reply → Type 0
Summarizes name r reply = reply ≡ summary_reply name r (run_answer r)

-- a run, where plans may call 64 deep, in blocks of side 16 at least
abbrev pub DemoRun : ℕ → ℕ → ℕ → Reply → Type 0
DemoRun which seed size = RunsWith (demo_transform which) 64 16 (Summarizes (demo_name which)) (text_of which) (Some (demo_config which)) (example_of which seed size)

-- ---- one after the other
-- the text that a reply of status 0 has for `out`; another reply ends the work
abbrev pub HasText : (Reply → Type 0) → Result (List ℕ) Reply → Type 0
HasText Says (Ok text) = (reply : Reply) × Says reply × (reply.status ≡ 0) × (text ≡ reply.out)
HasText Says (Err reply) = Says reply × (reply.status ≢ 0)

-- the summaries of both
abbrev pub DemoAnswers : ℕ → ℕ → Reply → Type 0
DemoAnswers seed size = Then (HasText (DemoRun 0 seed size)) (λ first. Then (HasText (DemoRun 1 seed size)) (λ second reply. reply ≡ done_reply (first ++ second)))
