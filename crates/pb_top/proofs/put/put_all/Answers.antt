use Rattle.std.proofs.Common.{arith, ◌∙◌}
use Rattle.pb_top.proofs.SinkLemmas.{gains_more}
use Rattle.pb_top.proofs.put.put_all.Goals as goal

pub puts-preserved : goal.puts-preserved
puts-preserved g c = record {
  few = omega (arith, c.in_ok-done.ensures.written);
  gained = gains_more c.args.text.now c.puts.done c.in_ok-done.field-0 _ _ _ c.puts.invariant.gained c.in_ok-done.ensures.written.2;
  faults = c.in_ok-done.ensures.faults ∙ c.puts.invariant.faults;
}
