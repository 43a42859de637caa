use Rattle.std.proofs.Common.{◌-◌, get_or, length, pos, arith}
use Rattle.std.specs.Int.{w64}
use Rattle.std.specs.Prelude.{FitsSigned}
use Rattle.std.proofs.lemmas.Int.{to_z-of_z}
use Rattle.std.proofs.lemmas.Grind.{common_steps}
use Rattle.pb_matrix.proofs.BufferLemmas.{none_fit, none_put, one_fits, one_put}
use Rattle.pb_matrix.proofs.TextLemmas.{in_range}
use Rattle.pb_matrix.proofs.buffered.put_numbers.Goals as goal

pub loop-k-init : goal.loop-k-init
loop-k-init c = record {
  within = omega arith;
  room = omega arith;
  written = none_put c.args.numbers.now c.args.buffer.now 1008 (omega arith);
  fits = none_fit c.args.numbers.now;
}

pub loop-k-preserved : goal.loop-k-preserved
loop-k-preserved c =
    let ns = c.args.numbers.now in
    let put = c.put_number-at in
    let fits : FitsSigned w64 (get_or ns (length ns - 1 - c.loop-k.k) (pos 0)) = grind (arith, common_steps) in
    record {
      within = omega (arith, put.ensures.begins, c.loop-k.invariant.within);
      room = omega (arith, put.ensures.short, c.loop-k.invariant.room);
      written = one_put ns c.loop-k.k c.loop-k.at put.result _ c.loop-k.buffer put.new.buffer c.loop-k-test.true (to_z-of_z w64 _ fits) (omega arith) (omega arith) put.ensures.written c.loop-k.invariant.written;
      fits = one_fits ns c.loop-k.k c.loop-k-test.true (in_range _ fits) c.loop-k.invariant.fits;
    }
