use Rattle.std.proofs.Common.{◌≡◌, ◌+◌, ◌*◌, ◌^◌, ◌≤◌, List, drop, unsigned_abs}
use Rattle.pb_model.specs.Bodies.{Bindings, Store}
use Rattle.pb_eval.specs.FirstCells.{TellsFirst}
use Rattle.pb_eval.specs.Moving.{cells_at}
use Rattle.pb_eval.specs.Sums.{IsSumOf}
use Rattle.pb_eval.specs.Terms.{TermsValue, steps_value, terms_value}
use Rattle.pb_eval.specs.declared.moving.Moving.{Moving}
use Rattle.pb_eval.proofs.sum.small_sum.Given as goal

abbrev pub invariant-loop-next : goal.invariant-loop-next
invariant-loop-next g l = record {
  small : unsigned_abs l.total ≤ (l.next-index + 1) * 2 ^ 58;
  value : (ms : List Moving) (t : TermsValue) (b : Bindings) (st : Store) → IsSumOf ms t l.sum → TellsFirst g.N.NamesTurn.turn (cells_at ms l.place) b → steps_value b st l.total (drop l.next-index t.rest) ≡ terms_value b st t;
  same_reference : l.port.reader.ghost_name ≡ l.initial.port.reader.ghost_name;
}
