use Rattle.std.proofs.Common.{pos}
use Rattle.pb_linear.specs.Sizes.{sizes_of}
use Rattle.pb_check.proofs.PlacedLemmas.{in_area}
use Rattle.pb_check.proofs.segments.is_in_area.Goals as goal

pub returns-then-is_between : goal.returns-then-is_between
returns-then-is_between c =
    in_area c.args.area.now (sizes_of c.args.s.now) (pos c.args.x) (pos c.args.y) c.is_between-then-is_between.result (c.is_between.ensures.0 c.if-is_between.true) c.is_between-then-is_between.ensures
