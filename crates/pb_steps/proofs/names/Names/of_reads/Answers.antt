use Rattle.pb_steps.proofs.NameLemmas.{next_read, next_small}
use Rattle.pb_steps.proofs.names.Names.of_reads.Goals as goal

pub loop-k-preserved : goal.loop-k-preserved
loop-k-preserved c = record {
  names = next_read c.args.reads.now c.loop-k.k _ c.loop-k-test.true c.loop-k.list.items _ c.loop-k.invariant.names c.in_ok-push_back.ensures.items;
  small = λ h. next_small c.args.reads.now c.loop-k.k _ _ c.loop-k-test.true h c.loop-k.list.items _ (c.loop-k.invariant.small h) c.in_ok-push_back.ensures.items;
}
