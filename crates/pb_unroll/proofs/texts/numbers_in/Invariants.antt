use Rattle.std.proofs.Common.{◌≡◌, map, take, drop}
use Rattle.pb_model.specs.Equations.{number_in}
use Rattle.pb_unroll.proofs.texts.numbers_in.Given as goal

abbrev pub invariant-loop-k : goal.invariant-loop-k
invariant-loop-k l = record { numbers : l.numbers.items ≡ map number_in (take l.k (drop l.view.first l.outcomes)) }
