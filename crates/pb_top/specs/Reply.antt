-- What a command answers: its status, and the bytes for each sink.
use Rattle.std.specs.Prelude.{◌≡◌, ℕ, List, []}
use Rattle.pb_matrix.specs.declared.matrix.MatrixRefusal.{MatrixRefusal}
use Rattle.pb_matrix.specs.declared.matrix.MatrixRefusal.TheVariants.{BadHeader, BadNumber, TooFew, TooMany, Memory}
use Rattle.pb_top.specs.declared.reply.Status.{Status}
use Rattle.pb_top.specs.declared.reply.Status.TheVariants.{Done, Usage, Program, Config, Input, TooLarge, Trapped, DepthEnded, ReadFault, WriteFault, NoMemory, File}
use Rattle.pb_top.specs.Texts.{no_file_line, file_too_long_line, usage_text, bad_header_line, bad_number_line, too_few_line, too_many_line}

pub record Reply : Type 0 where
  pub status : ℕ
  pub out : List ℕ
  pub err : List ℕ

-- the number of a status
abbrev pub status_code : Status → ℕ
status_code Done = 0
status_code Usage = 2
status_code Program = 3
status_code Config = 4
status_code Input = 5
status_code TooLarge = 6
status_code Trapped = 7
status_code DepthEnded = 8
status_code ReadFault = 9
status_code WriteFault = 10
status_code NoMemory = 11
status_code File = 14

-- a text for `out`
abbrev pub done_reply : List ℕ → Reply
done_reply text = record { status = status_code Done; out = text; err = [] }

-- another status with a line for `err`
abbrev pub refusal_reply : Status → List ℕ → Reply
refusal_reply status line = record { status = status_code status; out = []; err = line }

abbrev pub no_file : List ℕ → Reply
no_file word = refusal_reply File (no_file_line word)

abbrev pub file_too_long : List ℕ → Reply
file_too_long word = refusal_reply File (file_too_long_line word)

-- the words are no command line
abbrev pub usage : Reply
usage = refusal_reply Usage usage_text

-- the answer to an input that is no matrix
abbrev pub IsFaultyInput : List ℕ → MatrixRefusal → Reply → Type 0
IsFaultyInput file BadHeader reply = reply ≡ refusal_reply Input (bad_header_line file)
IsFaultyInput file (BadNumber word) reply = reply ≡ refusal_reply Input (bad_number_line file word)
IsFaultyInput file (TooFew wanted found) reply = reply ≡ refusal_reply Input (too_few_line file wanted found)
IsFaultyInput file (TooMany wanted) reply = reply ≡ refusal_reply Input (too_many_line file wanted)
IsFaultyInput file Memory reply = ⊥
