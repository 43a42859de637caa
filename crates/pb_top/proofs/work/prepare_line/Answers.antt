use Rattle.std.proofs.Common.{◌∙◌, ◌-◌, ap, drop, length, refl, sym, take}
use Rattle.pb_top.specs.Answer.{RunLine, is_dash}
use Rattle.pb_top.proofs.CommandLemmas.{with_config, without_config}
use Rattle.pb_top.proofs.work.prepare_line.Goals as goal

pub returns-then-is_dash-clause-prepares : goal.returns-then-is_dash-clause-prepares
returns-then-is_dash-clause-prepares c =
    let contents = c.args.contents.now in
    without_config c.args.depth c.args.grain c.args.traced c.args.line.now contents c.requires.all c.index-contents-0.result c.index-contents-0.is c.deref.result.now c.deref.ensures.value (take (length contents - 1) (drop 1 contents)) c.prepare_texts.result
    (ap (λ (l : RunLine). is_dash l.config) (sym c.line.view_is) ∙ sym c.if-is_dash.ensures) refl c.prepare_texts.ensures.prepares

pub returns-clause-prepares : goal.returns-clause-prepares
returns-clause-prepares c =
    let contents = c.args.contents.now in
    with_config c.args.depth c.args.grain c.args.traced c.args.line.now contents c.requires.all c.index-contents-0.result c.index-contents-0.is c.deref-2.result.now c.deref-2.ensures.value (take (length contents - 2) (drop 2 contents)) c.prepare_texts-2.result
    (ap (λ (l : RunLine). is_dash l.config) (sym c.line.view_is) ∙ sym c.if-is_dash.ensures) c.index-contents-1.result c.index-contents-1.is c.as_slice.result.now c.as_slice.ensures.value refl c.prepare_texts-2.ensures.prepares
