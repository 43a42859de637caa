-- What `check` and `choices` answer to a program.
use Rattle.std.specs.Prelude.{◌≡◌, ℕ, List}
use Rattle.pb_prog.specs.Canonical.{canonical}
use Rattle.pb_program.specs.Trees.{ProgTransform}
use Rattle.pb_syntax.specs.Trees.{TransformTree}
use Rattle.pb_check.specs.Orders.{AnalysisValue}
use Rattle.pb_report.specs.Report.{report_text}
use Rattle.pb_top.specs.Reply.{Reply, done_reply}
use Rattle.pb_top.specs.Steps.{AfterProgram, OfProgram}

-- a text that a program has, by its tree, by the program with its names resolved, and by what is found of its transforms
abbrev pub Text : Type 0
Text = List TransformTree → List ProgTransform → List AnalysisValue → List ℕ

-- it is written for a program that is accepted
abbrev pub Printed : Text → OfProgram
Printed text tree p found reply = reply ≡ done_reply (text tree p found)

-- the canonical text of the program's tree
abbrev pub its_canonical : Text
its_canonical tree p found = canonical tree

abbrev pub CheckAnswers : List ℕ → Reply → Type 0
CheckAnswers = AfterProgram (Printed its_canonical)

-- the report of its segments
abbrev pub its_report : Text
its_report tree p found = report_text p found

abbrev pub ChoicesAnswers : List ℕ → Reply → Type 0
ChoicesAnswers = AfterProgram (Printed its_report)
