use Rattle.std.proofs.Common.{sym, ◌∙◌}
use Rattle.pb_config.proofs.ExtensionLemmas.{said, stays_valid}
use Rattle.pb_config.proofs.extension.extend.Goals as goal

pub returns-clause-found : goal.returns-clause-found
returns-clause-found c =
    said c.args.c.now c.args.site.now c.args.size c.args.rule c.selector.inside.first c.selector.inside.levels.items c.push.new.self.items c.in_ok-selector.selector c.in_ok-with_selector.field-0
    c.selector.view_is c.in_ok-selector.ensures (sym c.is_nothing_new.ensures ∙ c.if-is_nothing_new.false) c.in_ok-push.ensures.items c.in_ok-with_selector.ensures

pub returns-clause-valid : goal.returns-clause-valid
returns-clause-valid c =
    stays_valid c.args.c.now c.args.site.now c.args.size c.args.rule c.selector.inside.first c.selector.inside.levels.items c.push.new.self.items c.in_ok-selector.selector c.in_ok-with_selector.field-0
    c.selector.view_is c.in_ok-selector.ensures (sym c.is_nothing_new.ensures ∙ c.if-is_nothing_new.false) c.in_ok-push.ensures.items c.in_ok-with_selector.ensures c.requires.rule c.requires.size
