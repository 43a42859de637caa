use Rattle.std.proofs.Common.{◌≡◌, map, take}
use Rattle.pb_views.specs.declared.seat.Seat.{Seat}
use Rattle.pb_run_graph.proofs.places.trap_step.Given as goal

abbrev pub invariant-loop-seat : goal.invariant-loop-seat
invariant-loop-seat l = l.parts.items ≡ map (λ (s : Seat). record { base = s.base; rect = s.rect }) (take l.seat-index l.failed.seats)
