use Rattle.std.proofs.Common.{drop, arith}
use Rattle.pb_config.proofs.DigitLemmas.{value_grows}
use Rattle.pb_config.proofs.parts.value_of.Goals as goal

pub overflow_mul-value : goal.overflow_mul-value
overflow_mul-value c = omega (arith, value_grows c.loop-byte.value (drop c.loop-byte.byte-index c.args.digits.now), c.loop-byte.invariant.0)

pub overflow_add-value : goal.overflow_add-value
overflow_add-value c =
    omega (arith, value_grows c.loop-byte.value (drop c.loop-byte.byte-index c.args.digits.now), c.loop-byte.invariant.0, c.type_inv.digits c.loop-byte.byte-index)
