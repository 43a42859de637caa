use Rattle.std.proofs.Common.{drop}
use Rattle.std.specs.List.{AllByRecursion}
use Rattle.pb_syntax.specs.WithinLimits.{UseWithin}
use Rattle.pb_names.specs.Views.{after_out, out_at, out_faults_at, start}
use Rattle.pb_resolve.proofs.TurnLemmas.{Turned}
use Rattle.pb_resolve.proofs.scope.Scope.outputs.Given as goal

abbrev pub invariant-loop-k : goal.invariant-loop-k
invariant-loop-k l = Turned after_out (out_at l.matrices) (out_faults_at l.matrices l.single) (start l.initial.self) (record { visible = l.self; number = l.k }) l.found.items l.uses l.k
    × AllByRecursion UseWithin (drop l.k l.uses)
