-- The bytes that go on with blanks, a name or a number.
use Rattle.std.specs.Prelude.{ℕ, Bool}
use Rattle.std.specs.Char.{is_ascii_digit}
use Rattle.pb_syntax.specs.Bytes.{is_in_name}
use Rattle.pb_config.specs.Parts.{is_blank}
use Rattle.pb_config.specs.declared.parts.Run.{Run}
use Rattle.pb_config.specs.declared.parts.Run.TheVariants.{Blanks, Name, Digits}

abbrev pub in_run : Run → ℕ → Bool
in_run Blanks = is_blank
in_run Name = is_in_name
in_run Digits = is_ascii_digit
