-- What the words of a command line and the files of a shelf have for an answer.
use Rattle.std.specs.Prelude.{◌≡◌, ◌≢◌, ℕ, Bool, true, false, List, [], ◌∷◌, ◌++◌, map, drop, slice_index_or, Option, Some, None, Contains, codes, bytes_eq, ◌⊎◌, if◌then◌else◌}
use Rattle.std.specs.List.{zip}
use Rattle.pb_outside.specs.Shelf.{Files}
use Rattle.pb_outside.specs.declared.shelf.TheConstants.{FILE_LIMIT}
use Rattle.pb_words.specs.Line.{Line, IsInside}
use Rattle.pb_words.specs.Files.{file_words}
use Rattle.pb_words.specs.declared.ask.Pool.TheVariants.{Serial, Locked, Steal}
use Rattle.pb_words.specs.declared.ask.Ask.{Ask}
use Rattle.pb_words.specs.declared.ask.Ask.TheVariants.{Check, Choices, Run, Tune, Demo}
use Rattle.pb_top.specs.Reply.{Reply, usage}
use Rattle.pb_top.specs.Steps.{Then, Takes}
use Rattle.pb_top.specs.Check.{CheckAnswers, ChoicesAnswers}
use Rattle.pb_top.specs.Runs.{Fitting, RunReplies, RunWrites, RunsProgram}
use Rattle.pb_top.specs.Tunes.{TunesProgram}
use Rattle.pb_top.specs.Demos.{DemoAnswers}

-- the words of a run
pub record RunLine : Type 0 where
  pub config : List ℕ
  pub transform : List ℕ
  pub inputs : List (List ℕ)

-- the grammar has at least three of them
abbrev pub run_line : List (List ℕ) → RunLine
run_line (program ∷ config ∷ transform ∷ inputs) = record { config = config; transform = transform; inputs = inputs }
run_line others = record { config = []; transform = []; inputs = [] }

-- what is asked takes threads
abbrev pub needs_threads : Ask → Bool
needs_threads Check = false
needs_threads Choices = false
needs_threads (Run workers depth grain Serial trace) = false
needs_threads (Run workers depth grain Locked trace) = true
needs_threads (Run workers depth grain Steal trace) = true
needs_threads (Tune up_to) = false
needs_threads (Demo seed size workers) = true

-- the words are a line that asks for that
abbrev pub NeedThreads : List (List ℕ) → Type 0
NeedThreads words = (ask : Ask) × (place : ℕ) × Line words ask place × (needs_threads ask ≡ true)

-- files with the limit that each file has
abbrev pub limited : List (List ℕ) → List (List ℕ × ℕ)
limited words = map (λ word. (word, FILE_LIMIT)) words

-- the bytes of the file at a place among those that were taken
abbrev pub content_at : List (List ℕ) → ℕ → List ℕ
content_at contents place = slice_index_or contents place []

-- `-` stands for no configuration and names no file
abbrev pub is_dash : List ℕ → Bool
is_dash word = bytes_eq word (codes "-")

-- of the bytes of a run's files: those of the configuration, and the inputs by their words
abbrev pub config_text : RunLine → List (List ℕ) → Option (List ℕ)
config_text line contents = if is_dash line.config then None else Some (content_at contents 1)

abbrev pub input_files : RunLine → List (List ℕ) → List (List ℕ × List ℕ)
input_files line contents = zip line.inputs (drop (if is_dash line.config then 1 else 2) contents)

-- a run over the bytes of its files, with what is asked of it where its counts are within their limits
abbrev pub Runs : ℕ → ℕ → (Fitting → Reply → Type 0) → RunLine → List (List ℕ) → Reply → Type 0
Runs depth grain End line contents = RunsProgram line.transform depth grain End (content_at contents 0) (config_text line contents) (input_files line contents)

-- the name of the transform that is tuned, after the program
abbrev pub tuned_name : List (List ℕ) → List ℕ
tuned_name others = slice_index_or others 1 []

-- the answer to what is asked, over the words after the options and the bytes of the files that it takes
abbrev pub WorkAnswers : Ask → List (List ℕ) → List (List ℕ) → Reply → Type 0
WorkAnswers Check others contents reply = CheckAnswers (content_at contents 0) reply
WorkAnswers Choices others contents reply = ChoicesAnswers (content_at contents 0) reply
WorkAnswers (Run workers depth grain pool trace) others contents reply = Runs depth grain RunReplies (run_line others) contents reply
WorkAnswers (Tune up_to) others contents reply = TunesProgram (tuned_name others) up_to (content_at contents 0) reply
WorkAnswers (Demo seed size workers) others contents reply = DemoAnswers seed size reply

-- all files of a command are taken before any is looked at
abbrev pub AskAnswers : Ask → List (List ℕ) → Option Files → Reply → Type 0
AskAnswers ask others told = Then (Takes told (limited (file_words ask others))) (WorkAnswers ask others)

-- the answer to words, over what is told of the shelf's files
abbrev pub Answers : List (List ℕ) → Option Files → Reply → Type 0
Answers words told reply =
    ((ask : Ask) × (place : ℕ) × Line words ask place × AskAnswers ask (drop place words) told reply)
    ⊎ ((IsInside words → ⊥) × (reply ≡ usage))

-- what stands after a reply's text on `out`, of a command that has answered with status 0: after the matrices of a run its
-- trace, if that is asked for
abbrev pub WorkWrites : Ask → List (List ℕ) → List ℕ → List (List ℕ) → Reply → Type 0
WorkWrites (Run workers depth grain pool trace) others tail contents reply = Runs depth grain (RunWrites pool trace tail) (run_line others) contents reply
WorkWrites ask others tail contents reply = WorkAnswers ask others contents reply × (tail ≡ [])

-- and nothing after another status
abbrev pub IsTail : Ask → List (List ℕ) → Option Files → Reply → List ℕ → Type 0
IsTail ask others told reply tail =
    ((reply.status ≢ 0) × (tail ≡ []))
    ⊎ ((reply.status ≡ 0) × Then (Takes told (limited (file_words ask others))) (WorkWrites ask others tail) reply)

-- what stands after the text of the reply to words
abbrev pub IsTailOf : List (List ℕ) → Option Files → Reply → List ℕ → Type 0
IsTailOf words told reply tail =
    ((ask : Ask) × (place : ℕ) × Line words ask place × IsTail ask (drop place words) told reply tail)
    ⊎ ((IsInside words → ⊥) × (tail ≡ []))

-- all that `out` gains with a reply to words
abbrev pub IsOut : List (List ℕ) → Option Files → Reply → List ℕ → Type 0
IsOut words told reply text = (tail : List ℕ) × IsTailOf words told reply tail × (text ≡ reply.out ++ tail)

-- a word that names a file which the command takes
abbrev pub IsFileWord : List (List ℕ) → Option Files → List ℕ → Type 0
IsFileWord words told word = (ask : Ask) × (place : ℕ) × Line words ask place × Contains (file_words ask (drop place words)) word

-- the words that name the files which the command takes, in order; words outside the grammar name none
abbrev pub AreFileWords : List (List ℕ) → Option Files → List (List ℕ) → Type 0
AreFileWords words told names =
    ((ask : Ask) × (place : ℕ) × Line words ask place × (names ≡ file_words ask (drop place words)))
    ⊎ ((IsInside words → ⊥) × (names ≡ []))
