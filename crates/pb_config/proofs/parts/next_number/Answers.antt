use Rattle.std.proofs.Common.{arith}
use Rattle.std.specs.Char.{is_ascii_digit}
use Rattle.pb_config.proofs.DigitLemmas.{taken_pass, short_value}
use Rattle.pb_config.proofs.parts.next_number.Goals as goal

pub value_of-requires-clause-digits : goal.value_of-requires-clause-digits
value_of-requires-clause-digits c = taken_pass is_ascii_digit _ _ c.split_at.ensures.front c.run_length-size.ensures.size

pub value_of-requires-clause-few : goal.value_of-requires-clause-few
value_of-requires-clause-few c =
    short_value c.split_at.result.0.now (taken_pass is_ascii_digit _ _ c.split_at.ensures.front c.run_length-size.ensures.size) (omega (arith, c.split_at.ensures.front_len))
