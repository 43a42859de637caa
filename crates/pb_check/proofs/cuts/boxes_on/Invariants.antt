use Rattle.std.proofs.Common.{◌≡◌, map, take}
use Rattle.std.specs.List.{All, enumerate_from, flat_map}
use Rattle.pb_grid.specs.Cuts.{IsSmallBox}
use Rattle.pb_program.specs.Trees.{bare_transform}
use Rattle.pb_region.specs.Boxes.{box_of}
use Rattle.pb_check.specs.Cuts.{rule_boxes}
use Rattle.pb_check.proofs.cuts.boxes_on.Given as goal

abbrev pub invariant-loop-r : goal.invariant-loop-r
invariant-loop-r l = record {
  found : map box_of l.boxes.items ≡ flat_map (rule_boxes (bare_transform l.transform) l.matrix) (enumerate_from 0 (take l.r (bare_transform l.transform).rules));
  small : All IsSmallBox l.boxes.items;
}
