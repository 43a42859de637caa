use Rattle.std.proofs.Common.{◌∙◌, [], get_or}
use Rattle.std.proofs.lemmas.List.{get_or_read}
use Rattle.pb_layers.proofs.NamedLemmas.{height-next}
use Rattle.pb_layers.proofs.ReachedLemmas.{out-read}
use Rattle.pb_layers.proofs.components.height.Goals as goal

pub height_of-height-requires-clause-least : goal.height_of-height-requires-clause-least
height_of-height-requires-clause-least c = λ k d below.
    c.requires.least (get_or c.args.members.now c.loop-member.member-index 0) (get_or c.nodes.result.now k d) (out-read c.args.targets.now _ c.nodes.result.now k d (c.requires.members c.loop-member.member-index 0 c.loop-member-test.true) c.index-targets-member.result c.index-targets-member.is c.nodes.ensures below)

pub height_of-height-requires-clause-depth : goal.height_of-height-requires-clause-depth
height_of-height-requires-clause-depth c = λ k d below.
    c.requires.depth (get_or c.args.members.now c.loop-member.member-index 0) (get_or c.nodes.result.now k d) (out-read c.args.targets.now _ c.nodes.result.now k d (c.requires.members c.loop-member.member-index 0 c.loop-member-test.true) c.index-targets-member.result c.index-targets-member.is c.nodes.ensures below)

pub loop-member-preserved : goal.loop-member-preserved
loop-member-preserved c =
    height-next c.args.least.now c.args.depth.now c.args.root 0 c.args.targets.now c.args.members.now c.loop-member.member-index c.loop-member.height c.height_of-height.result c.nodes.result.now c.loop-member-test.true
    (c.nodes.ensures ∙ get_or_read c.args.targets.now (get_or c.args.members.now c.loop-member.member-index 0) c.index-targets-member.result (c.requires.members c.loop-member.member-index 0 c.loop-member-test.true) c.index-targets-member.is [])
    c.loop-member.invariant c.height_of-height.ensures
