use Rattle.std.proofs.Common.{subst, sym, arith}
use Rattle.std.specs.List.{All}
use Rattle.pb_grid.specs.Cuts.{AreSmall, IsSmallBox}
use Rattle.pb_grid.proofs.CutLemmas.{small_lower, small_upper}
use Rattle.pb_grid.proofs.ListLemmas.{all_item}
use Rattle.pb_grid.proofs.cuts.listed.Goals as goal

pub push_inner-requires-clause-bounds : goal.push_inner-requires-clause-bounds
push_inner-requires-clause-bounds c =
    subst (All AreSmall) (sym c.lower.ensures) (small_lower c.args.axis c.rule_box-item.result (all_item IsSmallBox c.args.boxes.now c.loop-rule_box.rule_box-index c.rule_box-item.result c.requires.boxes (omega arith) c.rule_box-item.is))

pub push_inner-requires-in-loop-rule_box-clause-bounds : goal.push_inner-requires-in-loop-rule_box-clause-bounds
push_inner-requires-in-loop-rule_box-clause-bounds c =
    subst (All AreSmall) (sym c.upper.ensures) (small_upper c.args.axis c.rule_box-item.result (all_item IsSmallBox c.args.boxes.now c.loop-rule_box.rule_box-index c.rule_box-item.result c.requires.boxes (omega arith) c.rule_box-item.is))
