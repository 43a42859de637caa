use Rattle.std.proofs.Common.{◌≡◌, ◌∙◌, List, ap, arith, get_or, length, subst}
use Rattle.pb_taskgraph.specs.declared.task.Part.{Part}
use Rattle.pb_views.specs.Seats.{no_seat}
use Rattle.pb_views.specs.declared.seat.Seat.{Seat}
use Rattle.pb_plan.proofs.TaskLemmas.{zip_next}
use Rattle.pb_run_plan.specs.RunTasks.{IsPartOf, trapped_piece}
use Rattle.pb_steps.specs.Values.{FailedValue}
use Rattle.pb_run_graph.specs.Ready.{failed_of}
use Rattle.pb_run_graph.proofs.parts.trapped_parts.Goals as goal

pub loop-seat-preserved : goal.loop-seat-preserved
loop-seat-preserved c =
    let f = c.args.failed.now in
    let seats : c.deref-seat-items.result.now ≡ f.seats = c.deref-seat-items.ensures.value ∙ ap (λ (q : FailedValue). q.seats) c.failed.view_is in
    zip_next (λ (s : Seat) (part : Part). IsPartOf (trapped_piece (failed_of f) s) part) f.seats c.loop-seat.seat-index no_seat c.loop-seat.found.items c.push.new.self.items c.in_ok-trapped_part.field-0 (omega (arith, c.loop-seat-test.true, ap length seats)) c.loop-seat.invariant
    (subst (λ (l : List Seat). IsPartOf (trapped_piece (failed_of f) (get_or l c.loop-seat.seat-index no_seat)) c.in_ok-trapped_part.field-0) seats c.in_ok-trapped_part.ensures) c.in_ok-push.ensures.items
