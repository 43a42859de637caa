use Rattle.pb_region.proofs.FormLemmas.{no_refusal_of_negative}
use Rattle.pb_region.proofs.forms.negative.Goals as goal

pub unreachable-requires : goal.unreachable-requires
unreachable-requires c = let none = no_refusal_of_negative c.args.form.now in cc (c.in-Err.ensures.over_limit)
