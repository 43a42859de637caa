use Rattle.std.proofs.Common.{◌≡◌, ◌∙◌, ◌<◌, ap, length, subst, sym}
use Rattle.std.specs.Prelude.{filter}
use Rattle.pb_linear.specs.Sizes.{sizes_of}
use Rattle.pb_graph.specs.Nodes.{NodeValue}
use Rattle.pb_program.specs.Configs.{chosen, is_in}
use Rattle.pb_program.specs.Trees.{bare_transform}
use Rattle.pb_check.specs.Sites.{least_of}
use Rattle.pb_frame.proofs.PartLemmas.{chosen_by, some_lawful}
use Rattle.pb_frame.proofs.parts.rule_of.Goals as goal

pub choose-requires : goal.choose-requires
choose-requires c =
    let t = bare_transform c.args.transform.now in
    let rules : c.deref.result.now ≡ c.args.node.now.rules = c.deref.ensures.value ∙ ap (λ (n : NodeValue). n.rules) c.node.view_is in
    let is : c.in_ok-set.set.items ≡ least_of t (filter (is_in c.args.node.now.rules) c.args.met.now) = c.in_ok-set.ensures ∙ ap (λ r. least_of t (filter (is_in r) c.args.met.now)) rules in
    record { some = subst (λ l. 0 < length l) (sym c.deref-2.ensures.value) (some_lawful c.args.t t c.args.found.now (sizes_of c.args.s.now) c.requires.instance c.args.k c.args.node.now c.requires.node c.requires.cell c.args.met.now c.in_ok-set.set.items c.requires.met is) }

pub returns : goal.returns
returns c =
    let t = bare_transform c.args.transform.now in
    let rules : c.deref.result.now ≡ c.args.node.now.rules = c.deref.ensures.value ∙ ap (λ (n : NodeValue). n.rules) c.node.view_is in
    let is : c.in_ok-set.set.items ≡ least_of t (filter (is_in c.args.node.now.rules) c.args.met.now) = c.in_ok-set.ensures ∙ ap (λ r. least_of t (filter (is_in r) c.args.met.now)) rules in
    c.choose.ensures.chosen
    ∙ ap (λ l. chosen c.args.c.now (record { transform = c.args.t; matrix = c.node.inside.matrix; set = l }) c.instance_size.result) c.deref-2.ensures.value
    ∙ ap (λ (n : NodeValue). chosen c.args.c.now (record { transform = c.args.t; matrix = n.matrix; set = c.in_ok-set.set.items }) c.instance_size.result) c.node.view_is
    ∙ chosen_by c.args.t t c.args.found.now (sizes_of c.args.s.now) c.requires.instance c.args.k c.args.node.now c.requires.node c.requires.cell c.args.met.now c.in_ok-set.set.items c.requires.met is c.args.c.now c.instance_size.result c.instance_size.ensures
