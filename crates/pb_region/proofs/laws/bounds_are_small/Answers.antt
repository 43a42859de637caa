use Rattle.pb_region.proofs.LimitLemmas.{small_limits}
use Rattle.pb_region.proofs.laws.bounds_are_small.Goals as goal

pub returns : goal.returns
returns c = λ sizes inputs count transforms matrices r h fit. small_limits sizes matrices fit inputs count transforms r h
