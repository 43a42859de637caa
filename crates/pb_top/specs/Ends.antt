-- How a call of the top ends: the clause that every command has.
use Rattle.std.specs.Prelude.{◌≡◌, ◌≢◌, ℕ, List, [], Option, Some, ◌⊎◌}
use Rattle.pb_outside.specs.Count.{RoseBy}
use Rattle.pb_outside.specs.Shelf.{Files}
use Rattle.pb_top.specs.Sinks.{SinkChange, ShelfChange, IsSound, AsksFront, AsksLast, Gains, Stays, IsSteady, IsIdle, Breaks}
use Rattle.pb_top.specs.Texts.{read_fault_line}
use Rattle.pb_top.specs.Reply.{Reply}
use Rattle.pb_top.specs.Answer.{Answers, IsOut, IsFileWord, AreFileWords}

-- the line that names a file word of a command line, the last that was asked, where the shelf's faults rose
pub record IsReadFault (words : List (List ℕ)) (shelf : ShelfChange) (line : List ℕ) : Type 0 where
  pub cause : RoseBy 1 shelf.faults_before shelf.faults_now
  pub word : List ℕ
  pub of_line : IsFileWord words shelf.before word
  pub last : AsksLast word shelf.asked_before shelf.asked_now
  pub text : line ≡ read_fault_line word

-- the text that `out` would gain
abbrev pub IsOutText : List (List ℕ) → Option Files → List ℕ → Type 0
IsOutText words told text = (reply : Reply) × Answers words told reply × IsOut words told reply text

-- the text that `err` would gain
abbrev pub IsErrText : List (List ℕ) → ShelfChange → List ℕ → Type 0
IsErrText words shelf text = ((reply : Reply) × Answers words shelf.before reply × (text ≡ reply.err)) ⊎ IsReadFault words shelf text

-- the status of a reply, and its bytes on the sinks
pub record Shows (words : List (List ℕ)) (told : Option Files) (out err : SinkChange) (status : ℕ) (reply : Reply) : Type 0 where
  pub status_is : status ≡ reply.status
  pub text : List ℕ
  pub is_text : IsOut words told reply text
  pub gains_out : Gains text out
  pub gains_err : Gains reply.err err

-- the call shows the answer
pub record IsAnswered (words : List (List ℕ)) (told : Option Files) (out err : SinkChange) (status : ℕ) : Type 0 where
  pub reply : Reply
  pub answers : Answers words told reply
  pub shows : Shows words told out err status reply

-- a file couldn't be read, and `err` says which
pub record ReadFails (words : List (List ℕ)) (shelf : ShelfChange) (out err : SinkChange) : Type 0 where
  pub line : List ℕ
  pub fault : IsReadFault words shelf line
  pub gains_err : Gains line err
  pub stays_out : Stays out

-- a sink refused a put of the text that it would have gained, and nothing was put on the other
pub record OutBreaks (words : List (List ℕ)) (shelf : ShelfChange) (out err : SinkChange) : Type 0 where
  pub text : List ℕ
  pub is_text : IsOutText words shelf.before text
  pub breaks : Breaks text out
  pub idle : IsIdle err

pub record ErrBreaks (words : List (List ℕ)) (shelf : ShelfChange) (out err : SinkChange) : Type 0 where
  pub text : List ℕ
  pub is_text : IsErrText words shelf text
  pub breaks : Breaks text err
  pub idle : IsIdle out

-- the names that were asked are the first of the command's file words, in their order
pub record AsksInOrder (words : List (List ℕ)) (shelf : ShelfChange) : Type 0 where
  pub names : List (List ℕ)
  pub are : AreFileWords words shelf.before names
  pub front : AsksFront names shelf.asked_before shelf.asked_now

-- no sink met a fault
pub record AreSteady (out err : SinkChange) : Type 0 where
  pub of_out : IsSteady out
  pub of_err : IsSteady err

-- a status that an answer has: neither a failed read, a failed write nor out of memory
pub record IsAnswerStatus (status : ℕ) : Type 0 where
  pub no_read_fault : status ≢ 9
  pub no_write_fault : status ≢ 10
  pub in_memory : status ≢ 11

-- status 9 is a file that couldn't be read, 10 a sink that refused, 11 that memory ran out, and any other the answer's
pub record Ends (words : List (List ℕ)) (shelf : ShelfChange) (out err : SinkChange) (status : ℕ) : Type 0 where
  pub answered : IsAnswerStatus status → IsAnswered words shelf.before out err status
  pub read_fault : status ≡ 9 → ReadFails words shelf out err
  pub write_fault : status ≡ 10 → OutBreaks words shelf out err ⊎ ErrBreaks words shelf out err
  pub memory : status ≡ 11 → Stays out × Stays err
  -- the files are as they were; they are taken in the order of the words, and none by words that name none
  pub files : shelf.now ≡ shelf.before
  pub asked : AsksInOrder words shelf
  pub untaken : AreFileWords words shelf.before [] → shelf.bytes_now ≡ shelf.bytes_before
  -- whatever is told: what no device's fault explains has none, and only the sink that the status says gains something
  pub sound : IsAnswerStatus status → IsSound shelf
  pub steady : status ≢ 10 → AreSteady out err
  pub untouched : status ≢ 0 → status ≢ 10 → Stays out
  pub silent : status ≡ 0 → Stays err

-- no device failed: no count of faults rose, as one that failed would
pub record IsFaultless (shelf : ShelfChange) (out err : SinkChange) : Type 0 where
  pub of_shelf : RoseBy 1 shelf.faults_before shelf.faults_now → ⊥
  pub of_out : RoseBy 1 out.faults_before out.faults_now → ⊥
  pub of_err : RoseBy 1 err.faults_before err.faults_now → ⊥

-- the call shows the reply, or memory ran out
abbrev pub IsComplete : List (List ℕ) → Files → SinkChange → SinkChange → ℕ → Reply → Type 0
IsComplete words files out err status reply = Shows words (Some files) out err status reply ⊎ (status ≡ 11)
