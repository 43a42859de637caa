-- Words and files have some answer.
use Rattle.std.proofs.Common.{ℕ, List, drop, Some, ◌⊎◌, inl, inr, refl}
use Rattle.pb_outside.specs.Shelf.{Files}
use Rattle.pb_words.specs.declared.ask.Ask.{Ask}
use Rattle.pb_words.specs.declared.ask.Ask.TheVariants.{Check, Choices, Run, Tune, Demo}
use Rattle.pb_words.specs.Line.{IsInside}
use Rattle.pb_words.proofs.LineLemmas.{inside_or_not}
use Rattle.pb_top.specs.Reply.{Reply, usage}
use Rattle.pb_top.specs.Steps.{Takes}
use Rattle.pb_top.specs.Check.{its_canonical, its_report}
use Rattle.pb_top.specs.Runs.{RunReplies}
use Rattle.pb_words.specs.Files.{file_words}
use Rattle.pb_top.specs.Answer.{RunLine, Runs, config_text, content_at, input_files, run_line, tuned_name, limited, WorkAnswers, Answers}
use Rattle.pb_top.proofs.StepLemmas.{then_some, takes_some}
use Rattle.pb_top.proofs.AcceptLemmas.{prints_some}
use Rattle.pb_top.proofs.RunLemmas.{run_some}
use Rattle.pb_top.proofs.TuneLemmas.{tunes_some}
use Rattle.pb_top.proofs.DemoLemmas.{demo_some}

line_some : (depth grain : ℕ) (line : RunLine) (contents : List (List ℕ)) → (reply : Reply) × Runs depth grain RunReplies line contents reply
line_some depth grain line contents = run_some line.transform depth grain (config_text line contents) (input_files line contents) (content_at contents 0)

work_some : (ask : Ask) (others contents : List (List ℕ)) → (reply : Reply) × WorkAnswers ask others contents reply
work_some Check others contents = prints_some its_canonical (content_at contents 0)
work_some Choices others contents = prints_some its_report (content_at contents 0)
work_some (Run workers depth grain pool trace) others contents = line_some depth grain (run_line others) contents
work_some (Tune up_to) others contents = tunes_some (tuned_name others) up_to (content_at contents 0)
work_some (Demo seed size workers) others contents = demo_some seed size

answer_by : (words : List (List ℕ)) (files : Files) → IsInside words ⊎ (IsInside words → ⊥) → (reply : Reply) × Answers words (Some files) reply
answer_by words files (inl (ask, place, line)) =
    let others = drop place words in
    let some = then_some (Takes (Some files) (limited (file_words ask others))) (WorkAnswers ask others) (takes_some files (limited (file_words ask others)))
    (work_some ask others) in
    (some.0, inl (ask, place, line, some.1))
answer_by words files (inr outside) = (usage, inr (outside, refl))

-- words and files have an answer
pub some_reply : (words : List (List ℕ)) (files : Files) → (reply : Reply) × Answers words (Some files) reply
some_reply words files = answer_by words files (inside_or_not words)
