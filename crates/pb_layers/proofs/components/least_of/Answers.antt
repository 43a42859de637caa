use Rattle.pb_layers.proofs.ListLemmas.{contains-all}
use Rattle.pb_layers.proofs.NamedLemmas.{least-more}
use Rattle.pb_layers.proofs.components.least_of.Goals as goal

pub loop-member-preserved : goal.loop-member-preserved
loop-member-preserved c =
    let next = least-more c.args.members.now c.loop-member.member-index c.loop-member.least c.min-least.result c.loop-member-test.true c.min-least.ensures c.loop-member.invariant.is_member c.loop-member.invariant.is_least in
    record { is_member = next.0; is_least = next.1 }

pub returns-clause-least : goal.returns-clause-least
returns-clause-least c = λ v m. c.loop-member.invariant.is_least v (contains-all c.args.members.now v c.loop-member.member-index c.loop-member-test.false m)
