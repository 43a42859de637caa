use Rattle.std.proofs.Common.{◌≡◌, flat_map, take}
use Rattle.pb_unroll.specs.ShownCells.{text_in}
use Rattle.pb_unroll.proofs.texts.texts_in.Given as goal

abbrev pub invariant-loop-view : goal.invariant-loop-view
invariant-loop-view l = l.text.items ≡ flat_map (text_in l.outcomes) (take l.view-index l.views)
