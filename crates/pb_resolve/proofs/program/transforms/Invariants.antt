use Rattle.std.proofs.Common.{[], map, drop}
use Rattle.std.specs.List.{AllByRecursion}
use Rattle.pb_program.specs.Trees.{bare_transform}
use Rattle.pb_resolve.specs.Programs.{IsTransformWithin, named_faults_in, next_in, transform_in}
use Rattle.pb_resolve.proofs.TurnLemmas.{Turned}
use Rattle.pb_resolve.proofs.program.transforms.Given as goal

abbrev pub invariant-loop-next : goal.invariant-loop-next
invariant-loop-next l = Turned next_in (λ _ t. transform_in l.all t) (named_faults_in l.all) [] l.known (map bare_transform l.found.items) l.ts l.next-index
    × AllByRecursion IsTransformWithin (drop l.next-index l.ts)
