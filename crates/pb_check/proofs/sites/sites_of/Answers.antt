use Rattle.std.proofs.Common.{◌≡◌, ◌∙◌, ap, arith, length}
use Rattle.pb_graph.specs.Nodes.{NodeValue}
use Rattle.pb_program.specs.Trees.{bare_transform}
use Rattle.pb_check.specs.Sites.{least_of}
use Rattle.pb_check.proofs.SiteLemmas.{few_choices, known_site, listed_by, new_site, no_choice}
use Rattle.pb_check.proofs.sites.sites_of.Goals as goal
use Rattle.pb_check.proofs.sites.sites_of.Goals.{then-len-lt2-via-then-len-lt2, then-len-lt2-via-else-len-lt2+then-is_listed}

pub loop-node-preserved-then-len-lt2 : goal.loop-node-preserved-then-len-lt2
loop-node-preserved-then-len-lt2 c =
    let t = bare_transform c.args.transform.now in
    let node = c.node-item.result in
    let set : c.in_ok-set.set.items ≡ least_of t node.rules = c.in_ok-set.ensures ∙ ap (least_of t) (c.deref.ensures.value ∙ ap (λ (n : NodeValue). n.rules) c.node.view_is) in
    elim c.then-len-lt2.branch [
      | then-len-lt2-via-then-len-lt2 w ↦
          no_choice c.args.t t c.args.nodes.now c.loop-node.node-index node c.loop-node-test.true c.node-item.is c.loop-node.sites.items c.loop-node.invariant (few_choices t node c.in_ok-set.set.items set (omega (arith, w.if-len-lt2.true, c.len.ensures, c.in_ok-set.set.ok)))
      | then-len-lt2-via-else-len-lt2+then-is_listed w ↦
          known_site c.args.t t c.args.nodes.now c.loop-node.node-index node c.loop-node-test.true c.node-item.is c.loop-node.sites.items w.deref-else-len-lt2.result.now c.node.inside.matrix w.deref-else-len-lt2-2.result.now w.deref-else-len-lt2.ensures.value (ap (λ (n : NodeValue). n.matrix) c.node.view_is) (w.deref-else-len-lt2-2.ensures.value ∙ set)
          c.loop-node.invariant (omega (arith, w.if-len-lt2.false, c.len.ensures, c.in_ok-set.set.ok, ap length w.deref-else-len-lt2-2.ensures.value)) w.is_listed.result w.is_listed.ensures w.if-is_listed.true
    ]

pub loop-node-preserved : goal.loop-node-preserved
loop-node-preserved c =
    let t = bare_transform c.args.transform.now in
    let node = c.node-item.result in
    let set : c.in_ok-set.set.items ≡ least_of t node.rules = c.in_ok-set.ensures ∙ ap (least_of t) (c.deref.ensures.value ∙ ap (λ (n : NodeValue). n.rules) c.node.view_is) in
    new_site c.args.t t c.args.nodes.now c.loop-node.node-index node c.loop-node-test.true c.node-item.is c.loop-node.sites.items c.deref-else-len-lt2.result.now c.node.inside.matrix c.in_ok-set.set.items c.deref-else-len-lt2.ensures.value (ap (λ (n : NodeValue). n.matrix) c.node.view_is) set
    c.loop-node.invariant (omega (arith, c.if-len-lt2.false, c.len.ensures, c.in_ok-set.set.ok)) c.is_listed.result (c.is_listed.ensures ∙ ap (λ s. listed_by c.args.t c.node.inside.matrix s c.deref-else-len-lt2.result.now) c.deref-else-len-lt2-2.ensures.value) c.push.new.self.items c.if-is_listed.false c.in_ok-push.ensures.items
