use Rattle.std.proofs.Common.{take}
use Rattle.std.specs.List.{All}
use Rattle.pb_eval.specs.FirstCells.{IsOfCell}
use Rattle.pb_eval.proofs.terms.Terms.are_of_cells.Given as goal

abbrev pub invariant-loop-next : goal.invariant-loop-next
invariant-loop-next l = All (λ s. IsOfCell l.reads s.1) (take l.next-index l.self.rest)
