use Rattle.std.proofs.Common.{rules}
use Rattle.pb_syntax.specs.declared.limits.TheConstants.{MOST_SIZES}
use Rattle.pb_resolve.proofs.SizeLemmas.{of_few}
use Rattle.pb_resolve.proofs.sizes.sizes.Goals as goal

pub sizes_in-requires-clause-few : goal.sizes_in-requires-clause-few
sizes_in-requires-clause-few c =
    let h = of_few c.args.found.now.items c.loop-next.found.items c.args.decls.now c.loop-next.next-index c.loop-next.invariant.0 c.next-item.result c.loop-next-test.true c.next-item.is MOST_SIZES c.requires.few in
    search (rules, h)
