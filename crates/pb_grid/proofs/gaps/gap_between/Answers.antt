use Rattle.std.proofs.Common.{arith}
use Rattle.pb_grid.specs.Cuts.{IsSmallBox}
use Rattle.pb_grid.proofs.ListLemmas.{all_item}
use Rattle.pb_grid.proofs.gaps.gap_between.Goals as goal

pub holds_on-requires-clause-rule_box : goal.holds_on-requires-clause-rule_box
holds_on-requires-clause-rule_box c = all_item IsSmallBox c.args.boxes.now c.loop-rule_box.rule_box-index c.rule_box-item.result c.requires.boxes (omega arith) c.rule_box-item.is
