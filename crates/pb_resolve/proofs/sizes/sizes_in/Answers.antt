use Rattle.pb_syntax.specs.declared.limits.TheConstants.{MOST_SIZES}
use Rattle.pb_resolve.proofs.SizeLemmas.{in_few}
use Rattle.pb_resolve.proofs.sizes.sizes_in.Goals as goal

pub put_size-requires-clause-few : goal.put_size-requires-clause-few
put_size-requires-clause-few c = in_few c.args.found.now.items c.loop-next.found.items c.args.forms.now c.loop-next.next-index c.loop-next.invariant.0 MOST_SIZES c.requires.few
