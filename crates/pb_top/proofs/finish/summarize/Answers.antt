use Rattle.std.proofs.Common.{◌∙◌, ap, flat_map, sym}
use Rattle.pb_summary.specs.Summary.{summary_text}
use Rattle.pb_top.proofs.FinishLemmas.{is_summarized}
use Rattle.pb_top.proofs.finish.summarize.Goals as goal

pub returns : goal.returns
returns c =
    is_summarized c.args.name.now c.args.run.now c.in_ok-summaries.field-0.items (sym c.first_trapped.ensures ∙ c.in_default.is)
    (c.in_ok-summaries.ensures ∙ ap (flat_map (summary_text c.args.name.now)) (c.deref.ensures.value ∙ c.in_ok-matrices.ensures))
