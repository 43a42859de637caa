-- For proofs alone: what the private steps of a command give, before anything is written.
use Rattle.std.specs.Prelude.{◌≡◌, ℕ, ◌<◌, Bool, true, false, List, [], ◌∷◌, ◌++◌, length, map, Option, Result, Ok, Err, Vec, ◌⊎◌, string_bytes, if◌then◌else◌}
use Rattle.std.specs.declared.alloc.Global.{Global}
use Rattle.std.specs.declared.alloc.AllocError.{AllocError}
use Rattle.std.specs.List.{zip}
use Rattle.std.specs.Option.{option_map}
use Rattle.std.specs.Borrow.{Bor}
use Rattle.std.specs.declared.string.String.{String}
use Rattle.pb_outside.specs.Count.{RoseBy}
use Rattle.pb_outside.specs.Shelf.{Files, asked_after}
use Rattle.pb_program.specs.Configs.{ConfigValue}
use Rattle.pb_program.specs.Trees.{ProgTransform, bare_prog}
use Rattle.pb_matrix.specs.Value.{MatrixValue}
use Rattle.pb_model.specs.Calls.{TrappedCell}
use Rattle.pb_config.specs.Reading.{config_read}
use Rattle.pb_config.specs.declared.refusal.ConfigRefusal.{ConfigRefusal}
use Rattle.pb_check.specs.Accepting.{AcceptedValue}
use Rattle.pb_entry.specs.declared.refusal.RunRefusal.{RunRefusal}
use Rattle.pb_entry.specs.declared.refusal.RunRefusal.TheVariants.{TooLarge}
use Rattle.pb_run_lines.specs.RunLines.{config_line, run_line, trap_line}
use Rattle.pb_unroll.specs.Handed.{RunValue, of_sizes, of_transform, prog_of}
use Rattle.pb_unroll.specs.Handed.{IsRefused}
use Rattle.pb_top.specs.Sinks.{ShelfChange, SinkChange, IsSound, Gains, IsSteady, IsIdle, Breaks}
use Rattle.pb_top.specs.Texts.{read_fault_line}
use Rattle.pb_top.specs.Reply.{Reply, status_code, done_reply, refusal_reply}
use Rattle.pb_top.specs.Steps.{Takes}
use Rattle.pb_words.specs.declared.ask.Pool.{Pool}
use Rattle.pb_top.specs.Answer.{RunLine, is_dash, limited}
use Rattle.pb_top.specs.Runs.{AfterInputs, Fitting, IsTraceOf, RunWrites, trap_status}
use Rattle.pb_top.specs.declared.prepare.Prepared.{Prepared}
use Rattle.pb_program.specs.Configs.{IsValid}
use Rattle.pb_region.specs.Dims.{HasTransform}
use Rattle.pb_unroll.specs.Handed.{IsWhole}
use Rattle.std.specs.List.{All}
use Rattle.pb_top.specs.declared.reply.Status.{Status}
use Rattle.pb_top.specs.declared.reply.Status.TheVariants.{Config, Input, TooLarge as TooMuch}
use Rattle.pb_top.specs.declared.reply.Stop.{Stop}
use Rattle.pb_top.specs.declared.reply.Stop.TheVariants.{Memory, Refused, Unread}

-- a status with a line on `err` that no device's fault gives
abbrev pub IsRefusal : Status → Type 0
IsRefusal status = (0 < status_code status) × ((status_code status < 9) ⊎ (11 < status_code status))

-- the work stops with a reply that the relation says, or out of memory
abbrev pub StopsWith : (Reply → Type 0) → Stop → Type 0
StopsWith Says Memory = Unit {0}
StopsWith Says (Refused status line) = IsRefusal status × Says (refusal_reply status line.items)
StopsWith Says (Unread line) = ⊥

-- the line of a file that couldn't be read
abbrev pub IsUnread : List ℕ → Stop → Type 0
IsUnread text Memory = ⊥
IsUnread text (Refused status line) = ⊥
IsUnread text (Unread line) = string_bytes line ≡ text

-- a step gives what its relation says, or stops
abbrev pub Gives : {T A : Type 0} → (T → A) → (Result A Reply → Type 0) → Result T Stop → Type 0
Gives view Step (Ok x) = Step (Ok (view x))
Gives view Step (Err stop) = StopsWith (λ reply. Step (Err reply)) stop

-- the work ends with a text for `out` that the relation says, or stops
abbrev pub Replies : (Reply → Type 0) → Result (Vec ℕ Global) Stop → Type 0
Replies Says (Ok text) = Says (done_reply text.items)
Replies Says (Err stop) = StopsWith Says stop

-- the work ends with a text for `out`, that of a reply and what stands after it, as the relation says, or stops
abbrev pub Writes : (List ℕ → Reply → Type 0) → Result (Vec ℕ Global) Stop → Type 0
Writes Says (Ok text) = (out : List ℕ) × (tail : List ℕ) × Says tail (done_reply out) × (text.items ≡ out ++ tail)
Writes Says (Err stop) = StopsWith (Says []) stop

-- ---- the steps of a run
-- the text that a slice refers to, if there is one
abbrev pub text_in : Option (Bor (List ℕ)) → Option (List ℕ)
text_in = option_map (λ text. text.now)

-- the configuration that a text says
abbrev pub ReadsConfig : List ProgTransform → List ℕ → Result ConfigValue Reply → Type 0
ReadsConfig p text (Ok config) = config_read p text ≡ Ok config
ReadsConfig p text (Err reply) = (why : ConfigRefusal) × (config_read p text ≡ Err why) × (reply ≡ refusal_reply Config (config_line why))

-- how a run that can't be begun ends
abbrev pub refusal_status : RunRefusal → Status
refusal_status (TooLarge what) = TooMuch
refusal_status _ = Input

-- and its line
pub record CannotRun (a : AcceptedValue) (config : ConfigValue) (number : ℕ) (name : List ℕ) (inputs : List MatrixValue) (depth grain : ℕ) (reply : Reply) : Type 0 where
  pub why : RunRefusal
  pub refused : IsRefused a config number inputs depth grain why
  pub is : reply ≡ refusal_reply (refusal_status why) (run_line (bare_prog a.program) number name why)

-- what a run is of
abbrev pub fitting_of : RunValue → Fitting
fitting_of r = record {
  program = prog_of r;
  found = r.accepted.found;
  config = r.config;
  number = r.number;
  transform = of_transform r;
  inputs = r.inputs;
  sizes = of_sizes r;
  depth = r.depth;
  grain = r.grain;
}

-- what stands after its matrices
abbrev pub IsTailFor : Pool → RunValue → Bool → List ℕ → Type 0
IsTailFor pool r true tail = IsTraceOf pool (fitting_of r) tail
IsTailFor pool r false tail = tail ≡ []

-- the line of a run's trapped cell
abbrev pub IsTrapped : RunValue → TrappedCell → Reply → Type 0
IsTrapped r cell reply = reply ≡ refusal_reply (trap_status cell.trap.kind) (trap_line (prog_of r) r.number cell)

-- what a run begins with fits together
pub record IsReady (b : Prepared) : Type 0 where
  pub valid : IsValid (bare_prog b.accepted.program) b.config
  pub count : HasTransform (bare_prog b.accepted.program) b.transform (λ t. length b.inputs.items ≡ t.inputs)
  pub whole : All IsWhole b.inputs.items

-- what it comes to on a pool, with what stands after the matrices
abbrev pub Continues : List ℕ → ℕ → ℕ → Bool → Prepared → Pool → List ℕ → Reply → Type 0
Continues name depth grain traced b pool tail = AfterInputs name depth grain (RunWrites pool traced tail) (bare_prog b.accepted.program) b.accepted.found b.config b.transform b.inputs.items

-- the steps before a run give what it begins with, so that what this comes to is what the relation says; or they stop
abbrev pub Prepares : List ℕ → ℕ → ℕ → Bool → (Pool → List ℕ → Reply → Type 0) → Result Prepared Stop → Type 0
Prepares name depth grain traced Says (Ok b) = (pool : Pool) (tail : List ℕ) (reply : Reply) → Continues name depth grain traced b pool tail reply → Says pool tail reply
Prepares name depth grain traced Says (Err stop) = (pool : Pool) → StopsWith (Says pool []) stop

-- the texts that slices refer to
abbrev pub texts_of : List (Bor (List ℕ)) → List (List ℕ)
texts_of slices = map (λ slice. slice.now) slices

-- ---- the files of a command
-- the bytes of files
abbrev pub contents_of : List (Vec ℕ Global) → List (List ℕ)
contents_of contents = map (λ bytes. bytes.items) contents

-- inputs by their words and their texts
abbrev pub files_of : List (String Global) → List (Vec ℕ Global) → List (List ℕ × List ℕ)
files_of words texts = zip (map string_bytes words) (contents_of texts)

-- a name among these, the last that was asked, in the line of a file that couldn't be read
pub record NamesFault (names : List (List ℕ)) (shelf : ShelfChange) (line : List ℕ) : Type 0 where
  pub cause : RoseBy 1 shelf.faults_before shelf.faults_now
  pub front : List (List ℕ)
  pub word : List ℕ
  pub others : List (List ℕ)
  pub parts : names ≡ front ++ (word ∷ others)
  pub last : shelf.asked_now ≡ asked_after (front ++ (word ∷ [])) shelf.asked_before
  pub text : line ≡ read_fault_line word

-- the work stops over the files with these names
abbrev pub ShelfStops : List (List ℕ) → (Option Files → Reply → Type 0) → ShelfChange → Stop → Type 0
ShelfStops names Says shelf Memory = Unit {0}
ShelfStops names Says shelf (Refused status line) = IsSound shelf × IsRefusal status × Says shelf.before (refusal_reply status line.items)
ShelfStops names Says shelf (Unread line) = NamesFault names shelf (string_bytes line)

-- the bytes of the files with these names, or the work stops
abbrev pub AreTaken : List (List ℕ) → ShelfChange → Result (Vec (Vec ℕ Global) Global) Stop → Type 0
AreTaken names shelf (Ok contents) = IsSound shelf × Takes shelf.before (limited names) (Ok (contents_of contents.items))
AreTaken names shelf (Err stop) = ShelfStops names (λ told reply. Takes told (limited names) (Err reply)) shelf stop

-- the bytes of a file, or the work stops
abbrev pub IsTaken : List ℕ → ShelfChange → Result (Vec ℕ Global) Stop → Type 0
IsTaken name shelf (Ok bytes) =
    IsSound shelf × Takes shelf.before (limited (name ∷ [])) (Ok (bytes.items ∷ [])) × (shelf.asked_now ≡ asked_after (name ∷ []) shelf.asked_before)
IsTaken name shelf (Err stop) = ShelfStops (name ∷ []) (λ told reply. Takes told (limited (name ∷ [])) (Err reply)) shelf stop

-- the work over the files with these names ends with a text for `out`, that of a reply and what stands after it, as the relation
-- says, or stops
abbrev pub ShelfWrites : List (List ℕ) → (Option Files → List ℕ → Reply → Type 0) → ShelfChange → Result (Vec ℕ Global) Stop → Type 0
ShelfWrites names Says shelf (Ok text) = IsSound shelf × ((out : List ℕ) × (tail : List ℕ) × Says shelf.before tail (done_reply out) × (text.items ≡ out ++ tail))
ShelfWrites names Says shelf (Err stop) = ShelfStops names (λ told. Says told []) shelf stop

-- the files of a run, as many as they are
abbrev pub line_files : RunLine → List (List ℕ)
line_files line = [] ∷ (if is_dash line.config then line.inputs else line.config ∷ line.inputs)

-- the text went to one sink, whole or up to a put that was refused, and nothing to the other
abbrev pub WritesTo : List ℕ → SinkChange → SinkChange → ℕ → ℕ → Type 0
WritesTo text sink other good status =
    ((status ≡ good) × Gains text sink × IsSteady sink × IsIdle other)
    ⊎ ((status ≡ 10) × Breaks text sink × IsIdle other)

-- how what stops the work is written
abbrev pub StopIsWritten : Stop → SinkChange → SinkChange → ℕ → Type 0
StopIsWritten Memory out err status = (status ≡ 11) × IsIdle out × IsIdle err
StopIsWritten (Refused code line) out err status = WritesTo line.items err out (status_code code) status
StopIsWritten (Unread line) out err status = WritesTo (string_bytes line) err out 9 status

-- how what the work ended with is written
abbrev pub IsWritten : Result (Vec ℕ Global) Stop → SinkChange → SinkChange → ℕ → Type 0
IsWritten (Ok text) out err status = WritesTo text.items out err 0 status
IsWritten (Err stop) out err status = StopIsWritten stop out err status

-- how a line of what stops the work is written, if there was memory for it
abbrev pub LineIsWritten : Result Stop AllocError → SinkChange → SinkChange → ℕ → Type 0
LineIsWritten (Ok stop) out err status = StopIsWritten stop out err status
LineIsWritten (Err e) out err status = (status ≡ 11) × IsIdle out × IsIdle err
