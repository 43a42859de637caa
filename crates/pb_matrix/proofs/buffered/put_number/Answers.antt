use Rattle.std.proofs.Common.{◌≡◌, ◌+◌, ◌-◌, ◌++◌, ap, drop, arith, rules, to_z-of_z}
use Rattle.std.proofs.lemmas.Fmt.{length-decimal-le}
use Rattle.std.proofs.lemmas.List.{drop-set, drop-set-lt}
use Rattle.pb_matrix.proofs.BufferLemmas.{sign_left, sign_put}
use Rattle.pb_matrix.proofs.buffered.put_number.Goals as goal

pub write_digits-start-requires : goal.write_digits-start-requires
write_digits-start-requires c = (omega (arith, c.requires.room, length-decimal-le 19 c.unsigned_abs.result (omega arith) (omega arith) (omega arith)), search rules)

pub overflow_sub-buffer : goal.overflow_sub-buffer
overflow_sub-buffer c = omega (arith, c.requires.room, c.write_digits-start.ensures.start, length-decimal-le 19 c.unsigned_abs.result (omega arith) (omega arith) (omega arith))

pub overflow_sub-result : goal.overflow_sub-result
overflow_sub-result c = omega (arith, c.requires.room, c.write_digits-start.ensures.start, length-decimal-le 19 c.unsigned_abs.result (omega arith) (omega arith) (omega arith))

pub returns-then-number-lt0-clause-short : goal.returns-then-number-lt0-clause-short
returns-then-number-lt0-clause-short c = omega (arith, c.requires.room, c.write_digits-start.ensures.start, length-decimal-le 19 c.unsigned_abs.result (omega arith) (omega arith) (omega arith))

pub returns-then-number-lt0-clause-written : goal.returns-then-number-lt0-clause-written
returns-then-number-lt0-clause-written c =
    let w = c.write_digits-start in
    let long = length-decimal-le 19 c.unsigned_abs.result (omega arith) (omega arith) (omega arith) in
    let e : w.result - 1 + 1 ≡ w.result = omega (arith, c.requires.room, w.ensures.start, long) in
    let back = to_z-of_z c.ranges.number in
    rw (drop-set w.new.buf (w.result - 1) 45 (omega (arith, c.requires.room, w.ensures.start, long)), e, w.ensures.written, c.unsigned_abs.ensures.value, back)
    (ap (λ digits. digits ++ drop c.args.end c.args.buffer.now) (sign_put c.args.number (rw back at c.if-number-lt0.true)))

pub returns-clause-short : goal.returns-clause-short
returns-clause-short c = omega (arith, c.write_digits-start.ensures.start, length-decimal-le 19 c.unsigned_abs.result (omega arith) (omega arith) (omega arith))

pub returns-clause-written : goal.returns-clause-written
returns-clause-written c =
    let w = c.write_digits-start in
    let long = length-decimal-le 19 c.unsigned_abs.result (omega arith) (omega arith) (omega arith) in
    let back = to_z-of_z c.ranges.number in
    rw (drop-set-lt w.result w.new.buf (w.result - 1) 45 (omega (arith, c.requires.room, w.ensures.start, long)), w.ensures.written, c.unsigned_abs.ensures.value, back)
    (ap (λ digits. digits ++ drop c.args.end c.args.buffer.now) (sign_left c.args.number (rw back at c.if-number-lt0.false)))
