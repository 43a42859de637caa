use Rattle.pb_program.specs.Trees.{bare_prog, bare_rule, bare_transform}
use Rattle.pb_check.proofs.CutLemmas.{has_boxes, never_refused, small_boxes}
use Rattle.pb_check.proofs.cuts.boxes_of.Goals as goal

pub returns-clause-found : goal.returns-clause-found
returns-clause-found c =
    has_boxes (bare_prog c.args.p.now) c.args.t (bare_transform c.args.transform.now) c.args.r (bare_rule c.args.rule.now) c.requires.there c.requires.rule _ (λ bs. bs.items) _ c.conditions.ensures.found

pub returns-clause-small : goal.returns-clause-small
returns-clause-small c =
    small_boxes (bare_prog c.args.p.now) c.args.t (bare_transform c.args.transform.now) c.args.r (bare_rule c.args.rule.now) c.requires.well_formed c.requires.there c.requires.rule _ (λ bs. bs.items) _
    (has_boxes (bare_prog c.args.p.now) c.args.t (bare_transform c.args.transform.now) c.args.r (bare_rule c.args.rule.now) c.requires.there c.requires.rule _ (λ bs. bs.items) _ c.conditions.ensures.found)

pub returns-clause-refused : goal.returns-clause-refused
returns-clause-refused c =
    never_refused (bare_prog c.args.p.now) c.args.t (bare_transform c.args.transform.now) c.args.r (bare_rule c.args.rule.now) c.requires.there c.requires.rule _ c.requires.bounded c.conditions.ensures.refused
