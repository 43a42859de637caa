use Rattle.std.proofs.Common.{drop}
use Rattle.std.specs.List.{AllByRecursion}
use Rattle.pb_syntax.specs.WithinLimits.{UseWithin}
use Rattle.pb_names.specs.Views.{after_read, read_at, read_faults_at, start}
use Rattle.pb_resolve.proofs.TurnLemmas.{Turned}
use Rattle.pb_resolve.proofs.scope.Scope.reads.Given as goal

abbrev pub invariant-loop-k : goal.invariant-loop-k
invariant-loop-k l = Turned after_read (read_at l.matrices) (read_faults_at l.matrices) (start l.initial.self) (record { visible = l.self; number = l.k }) l.found.items l.uses l.k
    × AllByRecursion UseWithin (drop l.k l.uses)
