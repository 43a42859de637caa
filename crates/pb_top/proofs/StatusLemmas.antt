-- Each command has its statuses alone.
use Rattle.std.proofs.Common.{◌≡◌, ◌∙◌, refl, sym, ap, subst, ℕ, length, slice_get, ◌&&◌, nat_le, None, List, [], ◌∷◌, drop, Option, Some, Result, Ok, Err, inl, inr, Contains, arith}
use Rattle.std.specs.Str.Parse.{digits_value}
use Rattle.std.proofs.lemmas.Bool.Decides.{nat_tests}
use Rattle.std.proofs.lemmas.Option.{none-some, same_Some}
use Rattle.pb_syntax.proofs.TestLemmas.{and_parts, if_parts}
use Rattle.pb_check.specs.Orders.{AnalysisValue, AreFound}
use Rattle.pb_front.specs.Reading.{IsRefused}
use Rattle.pb_check.specs.Accepting.{IsTextAccepted}
use Rattle.pb_demo.specs.Demonstrations.{Takes, demo_config, demo_transform}
use Rattle.pb_config.specs.Reading.{config_read}
use Rattle.pb_demo.proofs.Found.{accepted, formed, takes, valid}
use Rattle.pb_demo_answers.proofs.Found.{untrapped, within}
use Rattle.pb_entry.specs.Entering.{Enters}
use Rattle.pb_entry.specs.Fitting.{AreUnfit}
use Rattle.pb_entry.proofs.LawLemmas.{not_both as unfit_apart}
use Rattle.pb_entry.proofs.NamedLemmas.{enters_or_not, one_number}
use Rattle.pb_gen.specs.Examples.{example_of}
use Rattle.pb_gen.specs.Texts.{text_of}
use Rattle.pb_matrix.specs.Value.{MatrixValue}
use Rattle.pb_matrix.specs.declared.matrix.MatrixRefusal.{MatrixRefusal}
use Rattle.pb_matrix.specs.declared.matrix.MatrixRefusal.TheVariants as fault
use Rattle.pb_model.specs.Calls.{TrappedCell, made_cells}
use Rattle.pb_names.specs.Transforms.{IsRefused as HasBadNames}
use Rattle.pb_outside.specs.Shelf.{Files}
use Rattle.pb_program.specs.Configs.{ConfigValue}
use Rattle.pb_program.specs.Trees.{ProgTransform}
use Rattle.pb_run_lines.specs.RunLines.{trap_line}
use Rattle.pb_syntax.specs.Trees.{TransformTree}
use Rattle.pb_syntax.specs.declared.refusal.Refusal.{Refusal}
use Rattle.pb_values.specs.declared.outcome.Kind.{Kind}
use Rattle.pb_values.specs.declared.outcome.Kind.TheVariants as trap
use Rattle.pb_unroll.specs.Answers.{results_of, unless_trapped}
use Rattle.pb_unroll.specs.Handed.{given_as}
use Rattle.pb_words.specs.Files.{file_words}
use Rattle.pb_words.specs.Line.{Asks, IsInside, Line, demo}
use Rattle.pb_words.specs.Ranges.{IsWithin}
use Rattle.pb_words.specs.Values.{is_number, number_within}
use Rattle.pb_words.specs.declared.ask.Ask.{Ask}
use Rattle.pb_words.specs.declared.ask.Ask.TheVariants.{Check, Choices, Run, Tune, Demo}
use Rattle.pb_words.proofs.LineLemmas.{one_reading}
use Rattle.pb_top.specs.Answer.{Answers, AskAnswers, Runs, RunLine, WorkAnswers, config_text, content_at, input_files, limited, run_line, tuned_name}
use Rattle.pb_top.specs.Check.{Printed, Text, its_canonical, its_report}
use Rattle.pb_top.specs.Demos.{DemoAnswers, DemoRun, HasText, Summarizes, demo_name, summary_reply}
use Rattle.pb_top.specs.Ends.{Ends, IsAnswered}
use Rattle.pb_top.specs.Reply.{IsFaultyInput, Reply, refusal_reply}
use Rattle.pb_top.specs.Runs.{AfterAccept, AfterAcceptWith, AfterConfigWith, AfterFit, AfterInputs, Configures, FindsTransform, Fits, Fitting, IsWithin as HasFew, ReadsInput, RunReplies, RunsProgram, answer_reply, call_matrices, run_answer, trap_status}
use Rattle.pb_top.specs.Sinks.{ShelfChange, SinkChange}
use Rattle.pb_top.specs.Statuses.{check_statuses, demo_statuses, run_statuses, statuses, tune_statuses, usage_statuses}
use Rattle.pb_top.specs.Steps.{Accepts, AfterProgram, Each, OfProgram, Reads, Refuses, RefusesProgram, Resolves, Takes as TakesFiles, TakesFile, Then}
use Rattle.pb_top.specs.Tunes.{FindsNamed, Tunes, TunesProgram}
use Rattle.pb_top.specs.declared.reply.Status.TheVariants.{File, Program}
use Rattle.pb_top.proofs.LawLemmas.{fault_or_not}
use Rattle.pb_top.proofs.UnrefusedLemmas.{accepted_has, never_both, not_too_large, some_same}

abbrev HasOne : List ℕ → Reply → Type 0
HasOne ns reply = Contains ns reply.status

-- ---- what a step's replies have, and those after it
module _ (Has : Reply → Type 0) where
  then_has : {A : Type 0} (Step : Result A Reply → Type 0) (next : A → Reply → Type 0) → ((reply : Reply) → Step (Err reply) → Has reply)
      → ((a : A) (reply : Reply) → next a reply → Has reply) → (reply : Reply) → Then Step next reply → Has reply
  then_has Step next stops more reply (inl (a, step, rest)) = more a reply rest
  then_has Step next stops more reply (inr stop) = stops reply stop

  each_has : {A B : Type 0} (Step : A → Result B Reply → Type 0) → ((x : A) (reply : Reply) → Step x (Err reply) → Has reply)
      → (xs : List A) (reply : Reply) → Each Step xs (Err reply) → Has reply
  each_has Step stops [] reply none = absurd none
  each_has Step stops (x ∷ xs) reply (inl stop) = stops x reply stop
  each_has Step stops (x ∷ xs) reply (inr (y, here, stop)) = each_has Step stops xs reply stop

  -- the files of a command
  module _ (of_file : (line : List ℕ) → Has (refusal_reply File line)) (told : Option Files) where
    file_has : (word : List ℕ) (limit : ℕ) (reply : Reply) → TakesFile told word limit (Err reply) → Has reply
    file_has word limit reply (inl (none, is)) = subst Has (sym is) (of_file _)
    file_has word limit reply (inr (long, is)) = subst Has (sym is) (of_file _)

    takes_has : (wanted : List (List ℕ × ℕ)) (reply : Reply) → TakesFiles told wanted (Err reply) → Has reply
    takes_has = each_has (λ file. TakesFile told file.0 file.1) (λ file. file_has file.0 file.1)

  -- a program
  module _ (of_program : (line : List ℕ) → Has (refusal_reply Program line)) where
    why_has : (IsWhy : Refusal → Type 0) (reply : Reply) → Refuses IsWhy reply → Has reply
    why_has IsWhy reply (why, is_why, is) = subst Has (sym is) (of_program _)

    refused_has : (p : List ProgTransform) (reply : Reply) → RefusesProgram p reply → Has reply
    refused_has p reply (why, nodes, unsound, named, is) = subst Has (sym is) (of_program _)

    program_has : (Next : OfProgram) → ((tree : List TransformTree) (p : List ProgTransform) (found : List AnalysisValue) (reply : Reply) → Next tree p found reply → Has reply)
        → (text : List ℕ) (reply : Reply) → AfterProgram Next text reply → Has reply
    program_has Next more text =
        then_has (Reads text) _ (why_has (IsRefused text))
        (λ tree. then_has (Resolves tree) _ (why_has (HasBadNames tree)) (λ p. then_has (Accepts p) (Next tree p) (refused_has p) (more tree p)))

-- ---- `check` and `choices`
prints_has : (text : Text) (program : List ℕ) (reply : Reply) → AfterProgram (Printed text) program reply → HasOne check_statuses reply
prints_has text = program_has (HasOne check_statuses) (λ line. (1, omega arith, refl)) (Printed text) (λ tree p found reply is. subst (HasOne check_statuses) (sym is) (0, omega arith, refl))

-- ---- `run`
abbrev RunHas : Reply → Type 0
RunHas = HasOne run_statuses

trap_has : (kind : Kind) (line : List ℕ) → RunHas (refusal_reply (trap_status kind) line)
trap_has trap.Overflow line = (5, omega arith, refl)
trap_has trap.DivideByZero line = (5, omega arith, refl)
trap_has trap.OutOfView line = (5, omega arith, refl)
trap_has trap.LoopLimit line = (5, omega arith, refl)
trap_has trap.BadShape line = (5, omega arith, refl)
trap_has trap.DepthEnded line = (6, omega arith, refl)

answer_has : (r : Fitting) (answer : Result (List MatrixValue) TrappedCell) → RunHas (answer_reply r answer)
answer_has r (Ok matrices) = (0, omega arith, refl)
answer_has r (Err cell) = trap_has cell.trap.kind (trap_line r.program r.number cell)

replies_has : (r : Fitting) (reply : Reply) → RunReplies r reply → RunHas reply
replies_has r reply is = subst RunHas (sym is) (answer_has r (run_answer r))

fault_has : (file : List ℕ) (why : MatrixRefusal) (reply : Reply) → IsFaultyInput file why reply → RunHas reply
fault_has file fault.BadHeader reply is = subst RunHas (sym is) (3, omega arith, refl)
fault_has file (fault.BadNumber word) reply is = subst RunHas (sym is) (3, omega arith, refl)
fault_has file (fault.TooFew wanted found) reply is = subst RunHas (sym is) (3, omega arith, refl)
fault_has file (fault.TooMany wanted) reply is = subst RunHas (sym is) (3, omega arith, refl)
fault_has file fault.Memory reply is = absurd is

input_has : (file : List ℕ × List ℕ) (reply : Reply) → ReadsInput file (Err reply) → RunHas reply
input_has file reply (why, none, is) = fault_has file.0 why reply is

configures_has : (p : List ProgTransform) (text : Option (List ℕ)) (reply : Reply) → Configures p text (Err reply) → RunHas reply
configures_has p text reply (why, none, is) = subst RunHas (sym is) (2, omega arith, refl)

module _ (name : List ℕ) (depth grain : ℕ) where
  finds_has : (p : List ProgTransform) (given : ℕ) (reply : Reply) → FindsTransform p name given (Err reply) → RunHas reply
  finds_has p given reply (why, none, is) = subst RunHas (sym is) (3, omega arith, refl)

  fits_has : (p : List ProgTransform) (number : ℕ) (t : ProgTransform) (inputs : List MatrixValue) (reply : Reply) → Fits p name number t inputs (Err reply) → RunHas reply
  fits_has p number t inputs reply (why, none, is) = subst RunHas (sym is) (3, omega arith, refl)

  within_has : (r : Fitting) (reply : Reply) → HasFew r name (Err reply) → RunHas reply
  within_has r reply (why, large, is) = subst RunHas (sym is) (4, omega arith, refl)

  fitting_has : (r : Fitting) (reply : Reply) → AfterFit name depth grain RunReplies r reply → RunHas reply
  fitting_has r = then_has RunHas (HasFew r name) (λ u. RunReplies r) (within_has r) (λ u. replies_has r)

  inputs_has : (p : List ProgTransform) (found : List AnalysisValue) (config : ConfigValue) (number : ℕ) (inputs : List MatrixValue) (reply : Reply)
      → AfterInputs name depth grain RunReplies p found config number inputs reply → RunHas reply
  inputs_has p found config number inputs reply (t, at, after) =
      then_has RunHas (Fits p name number t inputs) _ (fits_has p number t inputs) (λ sizes. fitting_has _) reply after

  accept_has : (p : List ProgTransform) (found : List AnalysisValue) (text : Option (List ℕ)) (files : List (List ℕ × List ℕ)) (reply : Reply)
      → AfterAccept name depth grain RunReplies p found text files reply → RunHas reply
  accept_has p found text files =
      then_has RunHas (Configures p text) _ (configures_has p text)
      (λ config. then_has RunHas (FindsTransform p name _) _ (finds_has p _)
      (λ number. then_has RunHas (Each ReadsInput files) _ (each_has RunHas ReadsInput input_has files) (inputs_has p found config number)))

  runs_has : (text : Option (List ℕ)) (files : List (List ℕ × List ℕ)) (program : List ℕ) (reply : Reply) → RunsProgram name depth grain RunReplies program text files reply → RunHas reply
  runs_has text files = program_has RunHas (λ line. (1, omega arith, refl)) _ (λ tree p found. accept_has p found text files)

line_has : (depth grain : ℕ) (line : RunLine) (contents : List (List ℕ)) (reply : Reply) → Runs depth grain RunReplies line contents reply → RunHas reply
line_has depth grain line contents = runs_has line.transform depth grain (config_text line contents) (input_files line contents) (content_at contents 0)

-- ---- `tune`
named_has : (p : List ProgTransform) (name : List ℕ) (reply : Reply) → FindsNamed p name (Err reply) → HasOne tune_statuses reply
named_has p name reply (none, is) = subst (HasOne tune_statuses) (sym is) (2, omega arith, refl)

tunes_has : (name : List ℕ) (up_to : ℕ) (program : List ℕ) (reply : Reply) → TunesProgram name up_to program reply → HasOne tune_statuses reply
tunes_has name up_to =
    program_has (HasOne tune_statuses) (λ line. (1, omega arith, refl)) (Tunes name up_to)
    (λ tree p found. then_has (HasOne tune_statuses) (FindsNamed p name) _ (named_has p name) (λ number reply printed. subst (HasOne tune_statuses) (sym printed.2) (0, omega arith, refl)))

-- ---- `demo`
abbrev DemoHas : Reply → Type 0
DemoHas = HasOne demo_statuses

-- a size that can be asked for
abbrev CanBeDrawn : ℕ → Type 0
CanBeDrawn size = IsWithin 1 256 size

module _ (which seed size : ℕ) where
  abbrev called : List ℕ
  called = demo_transform which

  module _ (p : List ProgTransform) (a : IsTextAccepted (text_of which) p) (drawn : CanBeDrawn size) where
    abbrev inputs : List MatrixValue
    inputs = example_of which seed size

    taken : Takes p called inputs
    taken = takes which seed size p a drawn.0 (omega (arith, drawn.1))

    demo_fits : (number : ℕ) → Enters p called (length inputs) number → (t : ProgTransform) → slice_get p number ≡ Some t → (reply : Reply) → Fits p called number t inputs (Err reply) → ⊥
    demo_fits number enters t at reply (why, unfit, is) =
        let same = one_number p called (formed (text_of which) p a) (length inputs) taken.number number taken.enters enters in
        let it : t ≡ taken.transform = some_same t taken.transform (sym at ∙ ap (slice_get p) (sym same) ∙ taken.there) in
        unfit_apart taken.transform inputs taken.sizes why taken.bound (subst (λ x. AreUnfit x inputs why) it unfit)

    -- where the configuration is the stated one
    module _ (found : List AnalysisValue) (are : AreFound p found) (config : ConfigValue) (said : config_read p (demo_config which) ≡ Ok config) where
      demo_summary : (r : Fitting) (answer : Result (List MatrixValue) TrappedCell) → (results : List MatrixValue) → answer ≡ Ok results → DemoHas (summary_reply (demo_name which) r answer)
      demo_summary r answer results e = subst (λ o. DemoHas (summary_reply (demo_name which) r o)) (sym e) (0, omega arith, refl)

      module _ (number : ℕ) (enters : Enters p called (length inputs) number) (t : ProgTransform) (sizes : List ℕ) where
        abbrev fitting : Fitting
        fitting = record { program = p; found = found; config = config; number = number; transform = t; inputs = inputs; sizes = sizes; depth = 64; grain = 16 }

        answered : run_answer fitting ≡ Ok (results_of t (call_matrices fitting))
        answered = ap (λ (o : Option TrappedCell). unless_trapped o (results_of t (call_matrices fitting))) (untrapped which seed size p a drawn.0 drawn.1 config number said enters (made_cells t sizes))

        demo_fitting : (reply : Reply) → AfterFit called 64 16 (Summarizes (demo_name which)) fitting reply → DemoHas reply
        demo_fitting reply (inl (u, few, is)) = subst DemoHas (sym is) (demo_summary fitting (run_answer fitting) (results_of t (call_matrices fitting)) answered)
        demo_fitting reply (inr (why, large, is)) =
            absurd (not_too_large p found config 16 64 number (given_as inputs) (within which seed size p a drawn.0 drawn.1 found config number are said enters) why large)

      demo_inputs : (number : ℕ) → Enters p called (length inputs) number → (reply : Reply) → AfterInputs called 64 16 (Summarizes (demo_name which)) p found config number inputs reply → DemoHas reply
      demo_inputs number enters reply (t, at, inl (sizes, bound, after)) = demo_fitting number enters t sizes reply after
      demo_inputs number enters reply (t, at, inr stop) = absurd (demo_fits number enters t at reply stop)

      demo_named : (reply : Reply) → AfterConfigWith called 64 16 (Summarizes (demo_name which)) p found inputs config reply → DemoHas reply
      demo_named reply (inl (number, enters, after)) = demo_inputs number enters reply after
      demo_named reply (inr (why, cannot, is)) = absurd (enters_or_not p called (formed (text_of which) p a) (length inputs) taken.number why taken.enters cannot)

    demo_accept : (found : List AnalysisValue) → AreFound p found → (reply : Reply) → AfterAcceptWith called 64 16 (Summarizes (demo_name which)) p found (Some (demo_config which)) inputs reply → DemoHas reply
    demo_accept found are reply (inl (config, said, after)) = demo_named found are config said reply after
    demo_accept found are reply (inr (why, bad, is)) = absurd (let said = (valid which p a).1 in never_both said bad)

    demo_accepted : (tree : List TransformTree) (found : List AnalysisValue) → AreFound p found → (reply : Reply) → AfterAcceptWith called 64 16 (Summarizes (demo_name which)) p found (Some (demo_config which)) inputs reply → DemoHas reply
    demo_accepted tree found = demo_accept found

  demo_run_has : CanBeDrawn size → (reply : Reply) → DemoRun which seed size reply → DemoHas reply
  demo_run_has drawn =
      let p = accepted which in
      accepted_has (text_of which) p.0 p.1 DemoHas (λ tree q found. AfterAcceptWith called 64 16 (Summarizes (demo_name which)) q found (Some (demo_config which)) (example_of which seed size)) (demo_accepted p.0 p.1 drawn)

demo_has : (seed size : ℕ) → CanBeDrawn size → (reply : Reply) → DemoAnswers seed size reply → DemoHas reply
demo_has seed size drawn =
    then_has DemoHas (HasText (DemoRun 0 seed size)) _ (λ reply stop. demo_run_has 0 seed size drawn reply stop.0)
    (λ first. then_has DemoHas (HasText (DemoRun 1 seed size)) _ (λ reply stop. demo_run_has 1 seed size drawn reply stop.0)
    (λ second reply is. subst DemoHas (sym is) (0, omega arith, refl)))

-- ---- all commands
-- the size of a demonstration can be drawn
abbrev SizeIsDrawn : Ask → Type 0
SizeIsDrawn (Demo seed size workers) = CanBeDrawn size
SizeIsDrawn _ = Unit {0}

within_range : (word : List ℕ) (size : ℕ) → number_within 1 256 word ≡ Some size → IsWithin 1 256 size
within_range word size e =
    elim (if_parts (is_number word && (nat_le 1 (digits_value 10 word) && nat_le (digits_value 10 word) 256)) (Some (digits_value 10 word)) None (Some size) e) [
      | inl p ↦ (let both = and_parts (is_number word) (nat_le 1 (digits_value 10 word) && nat_le (digits_value 10 word) 256) p.0 in
          let ends = and_parts (nat_le 1 (digits_value 10 word)) (nat_le (digits_value 10 word) 256) both.1 in
          subst (IsWithin 1 256) (same_Some _ _ p.1) (grind (arith, nat_tests, ends.0), grind (arith, nat_tests, ends.1)))
      | inr p ↦ absurd (none-some size p.1)
    ]

asks_within : (command : List ℕ) (settings : _) (others : List (List ℕ)) (ask : Ask) → Asks command settings others ask → SizeIsDrawn ask
asks_within command settings others Check a = tt
asks_within command settings others Choices a = tt
asks_within command settings others (Run workers depth grain pool trace) a = tt
asks_within command settings others (Tune up_to) a = tt
asks_within command settings others (Demo seed size workers) (demo {second} none first is third) = within_range second size is

work_has : (ask : Ask) → SizeIsDrawn ask → (others contents : List (List ℕ)) (reply : Reply) → WorkAnswers ask others contents reply → HasOne (statuses ask) reply
work_has Check drawn others contents = prints_has its_canonical (content_at contents 0)
work_has Choices drawn others contents = prints_has its_report (content_at contents 0)
work_has (Run workers depth grain pool trace) drawn others contents = line_has depth grain (run_line others) contents
work_has (Tune up_to) drawn others contents = tunes_has (tuned_name others) up_to (content_at contents 0)
work_has (Demo seed size workers) drawn others contents = demo_has seed size drawn

files_has : (ask : Ask) (others : List (List ℕ)) (told : Option Files) (reply : Reply) → TakesFiles told (limited (file_words ask others)) (Err reply) → HasOne (statuses ask) reply
files_has Check others told = takes_has (HasOne check_statuses) (λ line. (5, omega arith, refl)) told (limited (file_words Check others))
files_has Choices others told = takes_has (HasOne check_statuses) (λ line. (5, omega arith, refl)) told (limited (file_words Choices others))
files_has (Run workers depth grain pool trace) others told =
    takes_has (HasOne run_statuses) (λ line. (10, omega arith, refl)) told (limited (file_words (Run workers depth grain pool trace) others))
files_has (Tune up_to) others told = takes_has (HasOne tune_statuses) (λ line. (6, omega arith, refl)) told (limited (file_words (Tune up_to) others))
files_has (Demo seed size workers) others told = λ reply stop. absurd stop

asked_has : (ask : Ask) → SizeIsDrawn ask → (others : List (List ℕ)) (told : Option Files) (reply : Reply) → AskAnswers ask others told reply → HasOne (statuses ask) reply
asked_has ask drawn others told = then_has (HasOne (statuses ask)) (TakesFiles told (limited (file_words ask others))) (WorkAnswers ask others) (files_has ask others told) (work_has ask drawn others)

-- a fault of a device, and no memory
has_read_fault : (ask : Ask) (others : List (List ℕ)) (word : List ℕ) → Contains (file_words ask others) word → Contains (statuses ask) 9
has_read_fault Check others word file = (2, omega arith, refl)
has_read_fault Choices others word file = (2, omega arith, refl)
has_read_fault (Run workers depth grain pool trace) others word file = (7, omega arith, refl)
has_read_fault (Tune up_to) others word file = (3, omega arith, refl)
has_read_fault (Demo seed size workers) others word file = absurd (omega (arith, file.1))

has_write_fault : (ask : Ask) → Contains (statuses ask) 10
has_write_fault Check = (3, omega arith, refl)
has_write_fault Choices = (3, omega arith, refl)
has_write_fault (Run workers depth grain pool trace) = (8, omega arith, refl)
has_write_fault (Tune up_to) = (4, omega arith, refl)
has_write_fault (Demo seed size workers) = (1, omega arith, refl)

has_no_memory : (ask : Ask) → Contains (statuses ask) 11
has_no_memory Check = (4, omega arith, refl)
has_no_memory Choices = (4, omega arith, refl)
has_no_memory (Run workers depth grain pool trace) = (9, omega arith, refl)
has_no_memory (Tune up_to) = (5, omega arith, refl)
has_no_memory (Demo seed size workers) = (2, omega arith, refl)

module _ (words : List (List ℕ)) (shelf : ShelfChange) (out err : SinkChange) (status : ℕ) (ends : Ends words shelf out err status) where
  module _ (ask : Ask) (place : ℕ) (line : Line words ask place) where
    answers_has : (reply : Reply) → Answers words shelf.before reply → HasOne (statuses ask) reply
    answers_has reply (inl (other, there, again, answers)) =
        subst (λ a. HasOne (statuses a) reply) (one_reading words other ask there place again line).0 (asked_has other (asks_within again.command again.settings again.others other again.asks) (drop there words) shelf.before reply answers)
    answers_has reply (inr (outside, is)) = absurd (outside (ask, place, line))

    answered_has : IsAnswered words shelf.before out err status → Contains (statuses ask) status
    answered_has a = subst (Contains (statuses ask)) (sym a.shows.status_is) (answers_has a.reply a.answers)

    pub inside_has : Contains (statuses ask) status
    inside_has =
        elim (fault_or_not status) [
          | inl plain ↦ answered_has (ends.answered plain)
          | inr (inl nine) ↦ (let of_line = (ends.read_fault nine).fault.of_line in
              subst (λ s. Contains (statuses ask) s) (sym nine) (subst (λ a. Contains (statuses a) 9) (one_reading words of_line.0 ask of_line.1 place of_line.2 line).0 (has_read_fault of_line.0 _ _ of_line.3)))
          | inr (inr (inl ten)) ↦ subst (λ s. Contains (statuses ask) s) (sym ten) (has_write_fault ask)
          | inr (inr (inr eleven)) ↦ subst (λ s. Contains (statuses ask) s) (sym eleven) (has_no_memory ask)
        ]

  module _ (outside : IsInside words → ⊥) where
    usage_has : (reply : Reply) → Answers words shelf.before reply → HasOne usage_statuses reply
    usage_has reply (inl (ask, place, line, answers)) = absurd (outside (ask, place, line))
    usage_has reply (inr (out_of_it, is)) = subst (HasOne usage_statuses) (sym is) (0, omega arith, refl)

    usage_answered : IsAnswered words shelf.before out err status → Contains usage_statuses status
    usage_answered a = subst (Contains usage_statuses) (sym a.shows.status_is) (usage_has a.reply a.answers)

    pub outside_has : Contains usage_statuses status
    outside_has =
        elim (fault_or_not status) [
          | inl plain ↦ usage_answered (ends.answered plain)
          | inr (inl nine) ↦ (let of_line = (ends.read_fault nine).fault.of_line in absurd (outside (of_line.0, of_line.1, of_line.2)))
          | inr (inr (inl ten)) ↦ subst (Contains usage_statuses) (sym ten) (1, omega arith, refl)
          | inr (inr (inr eleven)) ↦ subst (Contains usage_statuses) (sym eleven) (2, omega arith, refl)
        ]
