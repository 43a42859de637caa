use Rattle.pb_program.specs.Trees.{bare_prog}
use Rattle.pb_region.proofs.SmallLemmas.{small_transform}
use Rattle.pb_region.proofs.dims.check_dims.Goals as goal

pub check_sides-requires : goal.check_sides-requires
check_sides-requires c = small_transform (bare_prog c.args.p.now) c.requires c.args.t _ c.in-Some.ensures.found
