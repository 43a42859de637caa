use Rattle.std.proofs.Common.{◌≡◌, take}
use Rattle.std.specs.List.{AllZip}
use Rattle.pb_program.specs.Trees.{bare_prog}
use Rattle.pb_steps.specs.Handed.{places_of}
use Rattle.pb_run_graph.specs.Ready.{IsMadeFor}
use Rattle.pb_run_graph.proofs.places.all_places.Given as goal

abbrev pub invariant-loop-step : goal.invariant-loop-step
invariant-loop-step l = AllZip (IsMadeFor (bare_prog l.a.program) l.a.found l.run.instances (λ s q. q ≡ places_of s)) (take l.step-index l.run.steps) l.found.items
