use Rattle.pb_region.proofs.FormLemmas.{no_refusal}
use Rattle.pb_region.proofs.forms.difference.Goals as goal

pub unreachable-requires : goal.unreachable-requires
unreachable-requires c = let none = no_refusal _ _ c.requires.left c.requires.right in cc (c.in-Err.ensures.over_limit)
