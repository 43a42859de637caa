-- Words and files have one answer.
use Rattle.std.proofs.Common.{◌≡◌, ℕ, arith, List, drop, Some, ◌⊎◌, inl, inr, sym, subst, ◌∙◌, refl}
use Rattle.std.proofs.lemmas.Bool.{cases_lt}
use Rattle.pb_outside.specs.Shelf.{Files}
use Rattle.pb_words.specs.declared.ask.Ask.{Ask}
use Rattle.pb_words.specs.declared.ask.Ask.TheVariants.{Check, Choices, Run, Tune, Demo}
use Rattle.pb_words.proofs.LineLemmas.{one_reading}
use Rattle.pb_top.specs.Reply.{Reply}
use Rattle.pb_top.specs.Steps.{Takes}
use Rattle.pb_top.specs.Check.{its_canonical, its_report}
use Rattle.pb_words.specs.Files.{file_words}
use Rattle.pb_top.specs.Answer.{RunLine, Runs, config_text, input_files, run_line, tuned_name, limited, content_at, WorkAnswers, AskAnswers, Answers}
use Rattle.pb_top.specs.Runs.{RunReplies}
use Rattle.pb_top.specs.Sinks.{ShelfChange, SinkChange}
use Rattle.pb_top.specs.Ends.{Shows, IsAnswered, IsAnswerStatus, OutBreaks, ErrBreaks, Ends, IsFaultless, IsComplete}
use Rattle.pb_top.proofs.StepLemmas.{then_one, takes_one}
use Rattle.pb_top.proofs.AcceptLemmas.{prints_one}
use Rattle.pb_top.proofs.EndLemmas.{other_status}
use Rattle.pb_top.proofs.RunLemmas.{run_one}
use Rattle.pb_top.proofs.TuneLemmas.{tunes_one}
use Rattle.pb_top.proofs.DemoLemmas.{demo_one}

one_line : (depth grain : ℕ) (line : RunLine) (contents : List (List ℕ)) (first second : Reply) → Runs depth grain RunReplies line contents first → Runs depth grain RunReplies line contents second → first ≡ second
one_line depth grain line contents = run_one line.transform depth grain (config_text line contents) (input_files line contents) (content_at contents 0)

one_work : (ask : Ask) (others contents : List (List ℕ)) (first second : Reply) → WorkAnswers ask others contents first → WorkAnswers ask others contents second → first ≡ second
one_work Check others contents first second left right = prints_one its_canonical (content_at contents 0) first second left right
one_work Choices others contents first second left right = prints_one its_report (content_at contents 0) first second left right
one_work (Run workers depth grain pool trace) others contents first second left right = one_line depth grain (run_line others) contents first second left right
one_work (Tune up_to) others contents first second left right = tunes_one (tuned_name others) up_to (content_at contents 0) first second left right
one_work (Demo seed size workers) others contents first second left right = demo_one seed size first second left right

one_asked : (ask : Ask) (others : List (List ℕ)) (files : Files) (first second : Reply) → AskAnswers ask others (Some files) first → AskAnswers ask others (Some files) second
    → first ≡ second
one_asked ask others files =
    then_one (Takes (Some files) (limited (file_words ask others))) (WorkAnswers ask others) (takes_one files (limited (file_words ask others)))
    (one_work ask others)

pub one_reply_lem : (words : List (List ℕ)) (files : Files) (first second : Reply) → Answers words (Some files) first → Answers words (Some files) second → first ≡ second
one_reply_lem words files first second (inl (ask, place, line, left)) (inl (other, there, again, right)) =
    let same = one_reading words other ask there place again line in
    let moved = subst (λ p. AskAnswers ask (drop p words) (Some files) second) same.1 (subst (λ a. AskAnswers a (drop there words) (Some files) second) same.0 right) in
    one_asked ask (drop place words) files first second left moved
one_reply_lem words files first second (inl (ask, place, line, left)) (inr (outside, is)) = absurd (outside (ask, place, line))
one_reply_lem words files first second (inr (outside, is)) (inl (ask, place, line, right)) = absurd (outside (ask, place, line))
one_reply_lem words files first second (inr (outside, is)) (inr (outside_too, other_is)) = is ∙ sym other_is

-- a call ends with an answer or with one of three faults
pub fault_or_not : (status : ℕ) → IsAnswerStatus status ⊎ (status ≡ 9) ⊎ (status ≡ 10) ⊎ (status ≡ 11)
fault_or_not status =
    elim (cases_lt status 9) [
      | inl few ↦ inl (other_status status status refl (inl few))
      | inr nine ↦ elim (cases_lt 11 status) [
        | inl many ↦ inl (other_status status status refl (inr many))
        | inr eleven ↦ elim (cases_lt status 10) [
          | inl less ↦ inr (inl (omega arith))
          | inr ten ↦ elim (cases_lt 10 status) [ inl more ↦ inr (inr (inr (omega arith))) | inr only ↦ inr (inr (inl (omega arith))) ]
        ]
      ]
    ]

broken : {P : Type 0} (words : List (List ℕ)) (shelf : ShelfChange) (out err : SinkChange) → IsFaultless shelf out err → OutBreaks words shelf out err ⊎ ErrBreaks words shelf out err → P
broken words shelf out err faultless (inl breaks) = absurd (faultless.of_out breaks.breaks.cause)
broken words shelf out err faultless (inr breaks) = absurd (faultless.of_err breaks.breaks.cause)

-- where no device fails, the call shows the reply, or memory ran out
pub completes : (words : List (List ℕ)) (files : Files) (shelf : ShelfChange) (out err : SinkChange) (status : ℕ) (reply : Reply) → Ends words shelf out err status
    → shelf.before ≡ Some files → IsFaultless shelf out err → Answers words (Some files) reply → IsComplete words files out err status reply
completes words files shelf out err status reply ends told faultless answers =
    elim (fault_or_not status) [
      | inl is ↦ (let a = subst (λ t. IsAnswered words t out err status) told (ends.answered is) in
          inl (subst (Shows words (Some files) out err status) (one_reply_lem words files a.reply reply a.answers answers) a.shows))
      | inr (inl nine) ↦ absurd (faultless.of_shelf (ends.read_fault nine).fault.cause)
      | inr (inr (inl ten)) ↦ broken words shelf out err faultless (ends.write_fault ten)
      | inr (inr (inr eleven)) ↦ inr eleven
    ]
