-- From the files of a command to its answer, and to what stands after it.
use Rattle.std.proofs.Common.{◌≡◌, refl, ℕ, Bool, false, List, [], length, Option, Result, Ok, Err, Vec, inl, inr, arith, append-nil, sym}
use Rattle.std.specs.declared.alloc.Global.{Global}
use Rattle.pb_outside.specs.Shelf.{Files}
use Rattle.pb_program.specs.Trees.{ProgTransform}
use Rattle.pb_check.specs.Orders.{AnalysisValue}
use Rattle.pb_program.specs.Configs.{ConfigValue}
use Rattle.pb_matrix.specs.Value.{MatrixValue}
use Rattle.pb_words.specs.declared.ask.Ask.{Ask}
use Rattle.pb_words.specs.declared.ask.Pool.{Pool}
use Rattle.pb_words.specs.declared.ask.Pool.TheVariants.{Serial, Locked, Steal}
use Rattle.pb_words.specs.declared.ask.Ask.TheVariants.{Check, Choices, Run, Tune, Demo}
use Rattle.pb_top.specs.Sinks.{ShelfChange, IsSound}
use Rattle.pb_top.specs.Reply.{Reply, done_reply, refusal_reply}
use Rattle.pb_top.specs.Runs.{AfterAccept, AfterConfig, AfterFit, AfterInputs, AfterName, Configures, FindsTransform, Fits, Fitting, IsWithin, ReadsInput, RunReplies, RunWrites, RunsProgram}
use Rattle.pb_top.specs.Steps.{Accepts, AfterAccepted, AfterResolved, Each, Reads, Resolves, Takes}
use Rattle.pb_words.specs.Files.{file_words}
use Rattle.pb_top.specs.Answer.{AskAnswers, IsTail, RunLine, Runs, WorkAnswers, WorkWrites, config_text, content_at, input_files, limited, needs_threads, run_line}
use Rattle.pb_top.specs.Working.{Replies, ShelfStops, ShelfWrites, Writes}
use Rattle.pb_top.specs.declared.reply.Stop.{Stop}
use Rattle.pb_top.specs.declared.reply.Stop.TheVariants.{Memory, Refused, Unread}
use Rattle.pb_top.proofs.StepLemmas.{then_map}

-- a run that needs no threads is serial
pub serial_alone : (workers depth grain : ℕ) (pool : Pool) (trace : Bool) → needs_threads (Run workers depth grain pool trace) ≡ false → pool ≡ Serial
serial_alone workers depth grain Serial trace alone = refl
serial_alone workers depth grain Locked trace alone = absurd (cc)
serial_alone workers depth grain Steal trace alone = absurd (cc)

-- a text that is printed has nothing after it
pub writes_alone : (Says : Reply → Type 0) (found : Result (Vec ℕ Global) Stop) → Replies Says found → Writes (λ tail reply. Says reply × (tail ≡ [])) found
writes_alone Says (Ok text) says = (text.items, [], (says, refl), sym (append-nil text.items))
writes_alone Says (Err Memory) says = tt
writes_alone Says (Err (Refused status line)) says = (says.0, (says.1, refl))
writes_alone Says (Err (Unread line)) says = absurd says

-- what is asked of a run at its end, through all its steps
module _ (name : List ℕ) (depth grain : ℕ) (End More : Fitting → Reply → Type 0) (each : (r : Fitting) (reply : Reply) → End r reply → More r reply) where
  inputs_map : (p : List ProgTransform) (found : List AnalysisValue) (config : ConfigValue) (number : ℕ) (inputs : List MatrixValue) (reply : Reply)
      → AfterInputs name depth grain End p found config number inputs reply → AfterInputs name depth grain More p found config number inputs reply
  inputs_map p found config number inputs reply (t, at, rest) =
      let fit : List ℕ → Fitting = λ sizes. record { program = p; found = found; config = config; number = number; transform = t; inputs = inputs; sizes = sizes; depth = depth; grain = grain } in (
        t,
        at,
        then_map (Fits p name number t inputs) (λ sizes. AfterFit name depth grain End (fit sizes)) (λ sizes. AfterFit name depth grain More (fit sizes))
            (λ sizes. then_map (IsWithin (fit sizes) name) (λ u. End (fit sizes)) (λ u. More (fit sizes)) (λ u. each (fit sizes))) reply rest,
      )

  accept_map : (text : Option (List ℕ)) (files : List (List ℕ × List ℕ)) (p : List ProgTransform) (found : List AnalysisValue) (reply : Reply)
      → AfterAccept name depth grain End p found text files reply → AfterAccept name depth grain More p found text files reply
  accept_map text files p found =
      then_map (Configures p text) (AfterConfig name depth grain End p found files) (AfterConfig name depth grain More p found files)
      (λ config. then_map (FindsTransform p name (length files)) (λ number. AfterName name depth grain End p found config number files) (λ number. AfterName name depth grain More p found config number files)
      (λ number. then_map (Each ReadsInput files) (AfterInputs name depth grain End p found config number) (AfterInputs name depth grain More p found config number) (inputs_map p found config number)))

  pub run_map : (program : List ℕ) (text : Option (List ℕ)) (files : List (List ℕ × List ℕ)) (reply : Reply) → RunsProgram name depth grain End program text files reply → RunsProgram name depth grain More program text files reply
  run_map program text files =
      then_map (Reads program) (AfterResolved (λ tree p found. AfterAccept name depth grain End p found text files)) (AfterResolved (λ tree p found. AfterAccept name depth grain More p found text files))
      (λ tree. then_map (Resolves tree) (AfterAccepted (λ tree p found. AfterAccept name depth grain End p found text files) tree) (AfterAccepted (λ tree p found. AfterAccept name depth grain More p found text files) tree)
      (λ p. then_map (Accepts p) (λ found. AfterAccept name depth grain End p found text files) (λ found. AfterAccept name depth grain More p found text files) (accept_map text files p)))

line_map : (depth grain : ℕ) (End More : Fitting → Reply → Type 0) → ((r : Fitting) (reply : Reply) → End r reply → More r reply) → (line : RunLine) (contents : List (List ℕ)) (reply : Reply)
    → Runs depth grain End line contents reply → Runs depth grain More line contents reply
line_map depth grain End More each line contents = run_map line.transform depth grain End More each (content_at contents 0) (config_text line contents) (input_files line contents)

-- what is written begins with the answer
answered : (ask : Ask) (others : List (List ℕ)) (tail : List ℕ) (contents : List (List ℕ)) (reply : Reply) → WorkWrites ask others tail contents reply → WorkAnswers ask others contents reply
answered Check others tail contents reply writes = writes.0
answered Choices others tail contents reply writes = writes.0
answered (Run workers depth grain pool trace) others tail contents reply writes = line_map depth grain (RunWrites pool trace tail) RunReplies (λ r reply w. w.0) (run_line others) contents reply writes
answered (Tune up_to) others tail contents reply writes = writes.0
answered (Demo seed size workers) others tail contents reply writes = writes.0

module _ (ask : Ask) (others contents : List (List ℕ)) (shelf : ShelfChange) (takes : Takes shelf.before (limited (file_words ask others)) (Ok contents)) where
  abbrev Asked : Option Files → List ℕ → Reply → Type 0
  Asked told tail reply = AskAnswers ask others told reply × IsTail ask others told reply tail

  asked_done : (text tail : List ℕ) → WorkWrites ask others tail contents (done_reply text) → Asked shelf.before tail (done_reply text)
  asked_done text tail writes = (inl (contents, takes, answered ask others tail contents (done_reply text) writes), inr (refl, inl (contents, takes, writes)))

  -- with the bytes of its files a command writes its answer, and what stands after it
  pub files_write : (found : Result (Vec ℕ Global) Stop) → IsSound shelf → Writes (λ tail. WorkWrites ask others tail contents) found → ShelfWrites (file_words ask others) Asked shelf found
  files_write (Ok text) sound says = (sound, (says.0, says.1, asked_done says.0 says.1 says.2, says.3))
  files_write (Err Memory) sound says = tt
  files_write (Err (Refused status line)) sound says =
      let reply = refusal_reply status line.items in
      (sound, says.0, (inl (contents, takes, answered ask others [] contents reply says.1), inl ((λ e. omega (arith, says.0.0, e)), refl)))
  files_write (Err (Unread line)) sound says = absurd says

-- a file that can't be taken is the answer, and nothing stands after it
pub stops_write : (ask : Ask) (others : List (List ℕ)) (shelf : ShelfChange) (stop : Stop) → ShelfStops (file_words ask others) (λ told reply. Takes told (limited (file_words ask others)) (Err reply)) shelf stop
    → ShelfStops (file_words ask others) (λ told reply. AskAnswers ask others told reply × IsTail ask others told reply []) shelf stop
stops_write ask others shelf Memory stops = tt
stops_write ask others shelf (Refused status line) stops = (stops.0, stops.1, (inr stops.2, inl ((λ e. omega (arith, stops.1.0, e)), refl)))
stops_write ask others shelf (Unread line) stops = stops
