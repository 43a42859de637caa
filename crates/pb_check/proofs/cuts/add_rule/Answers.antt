use Rattle.std.proofs.Common.{◌∙◌, ◌++◌, ap, map, sym}
use Rattle.pb_program.specs.Rules.{RuleValue}
use Rattle.pb_program.specs.Trees.{bare_rule, bare_transform}
use Rattle.pb_region.specs.Boxes.{box_of}
use Rattle.pb_check.specs.Cuts.{kept}
use Rattle.pb_check.proofs.CutLemmas.{kept_added, kept_small, no_boxes, on_ok}
use Rattle.pb_check.proofs.cuts.add_rule.Goals as goal

pub returns-then-not-writes-clause-found : goal.returns-then-not-writes-clause-found
returns-then-not-writes-clause-found c = no_boxes (bare_transform c.args.transform.now) c.args.matrix c.args.r (bare_rule c.args.rule.now) (map box_of c.args.boxes.now.items) (sym c.writes.ensures ∙ c.if-not-writes.true)

pub returns-clause-found : goal.returns-clause-found
returns-clause-found c =
    on_ok c.keep_on.result _ _
    (λ is. kept_added c.args.matrix c.args.r (bare_transform c.args.transform.now) (bare_rule c.args.rule.now) c.args.boxes.now.items c.keep_on.new.boxes.items c.in_ok-of_rule.of_rule.items
    (is ∙ ap (λ outs. c.args.boxes.now.items ++ kept c.args.matrix outs c.in_ok-of_rule.of_rule.items) (c.deref.ensures.value ∙ ap (λ (r : RuleValue). r.outs) c.rule.view_is)) c.in_ok-of_rule.ensures.found) c.keep_on.ensures.found

pub returns-clause-small : goal.returns-clause-small
returns-clause-small c = on_ok c.keep_on.result _ _ (λ is. kept_small _ _ _ _ _ is c.requires.small c.in_ok-of_rule.ensures.small) c.keep_on.ensures.found
