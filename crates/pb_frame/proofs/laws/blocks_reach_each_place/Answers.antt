use Rattle.pb_linear.specs.declared.boxes.Sign.TheVariants.{Minus, Plus}
use Rattle.std.specs.Prelude.{Some}
use Rattle.pb_frame.proofs.SpanLemmas.{Ahead, ordered_at, side_least, side_serves, spans_few, spans_ordered, spans_reach, spans_sized, spans_whole}
use Rattle.pb_frame.proofs.laws.blocks_reach_each_place.Goals as goal
use Rattle.pb_frame.specs.Frames.{spans}

pub returns-clause-side : goal.returns-clause-side
returns-clause-side c = λ grain top. side_serves grain top

pub returns-clause-least : goal.returns-clause-least
returns-clause-least c = λ grain top side. side_least grain top side

pub returns-clause-few : goal.returns-clause-few
returns-clause-few c = λ cut grain top. spans_few cut grain top

pub returns-clause-sized : goal.returns-clause-sized
returns-clause-sized c = λ sign grain top s. spans_sized sign grain top s

pub returns-clause-whole : goal.returns-clause-whole
returns-clause-whole c = λ grain top. spans_whole grain top

pub returns-clause-reached : goal.returns-clause-reached
returns-clause-reached c = λ cut grain top x. spans_reach cut grain top x

pub returns-clause-rising : goal.returns-clause-rising
returns-clause-rising c = λ grain top. ordered_at (Ahead (Some Plus)) (spans (Some Plus) grain top) (spans_ordered (Some Plus) grain top)

pub returns-clause-falling : goal.returns-clause-falling
returns-clause-falling c = λ grain top. ordered_at (Ahead (Some Minus)) (spans (Some Minus) grain top) (spans_ordered (Some Minus) grain top)
