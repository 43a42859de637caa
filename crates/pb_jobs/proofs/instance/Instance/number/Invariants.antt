use Rattle.std.proofs.Common.{◌≡◌, Some, slice_get}
use Rattle.pb_program.specs.Trees.{ProgRule}
use Rattle.pb_jobs.specs.Instances.{of_sizes, of_transform}
use Rattle.pb_jobs.specs.Jobs.{stop_cell}
use Rattle.pb_jobs.proofs.PickLemmas.{IsPast}
use Rattle.pb_jobs.proofs.instance.Instance.number.Given as goal

abbrev pub invariant-loop-k : goal.invariant-loop-k
invariant-loop-k l = (r : ProgRule) → slice_get (of_transform l.self).rules l.rule ≡ Some r → IsPast (of_transform l.self).matrices (of_sizes l.self) (stop_cell l.stop) r l.k l.first
