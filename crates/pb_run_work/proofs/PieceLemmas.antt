-- The rectangles and the room of a step, as the code finds them.
use Rattle.std.proofs.Common.{◌≡◌, ◌∙◌, ap, subst, ℕ, ◌≤◌, List, [], length, map, get_or, slice_get, Some}
use Rattle.std.specs.List.{All}
use Rattle.pb_linear.specs.Sizes.{sizes_of}
use Rattle.pb_program.specs.Trees.{bare_prog}
use Rattle.pb_graph.specs.Nodes.{NodeValue}
use Rattle.pb_links.specs.declared.places.Spot.{Spot}
use Rattle.pb_check.specs.Accepting.{AcceptedValue}
use Rattle.pb_check.specs.Orders.{AnalysisValue}
use Rattle.pb_frame.specs.Frames.{JobValue}
use Rattle.pb_plan.specs.Boxes.{spot_of}
use Rattle.pb_steps.specs.Values.{CopiedValue, InstanceValue}
use Rattle.pb_steps.specs.declared.step.Step.TheVariants as step
use Rattle.pb_run_graph.proofs.MadeLemmas.{same_item}
use Rattle.pb_jobs.specs.Rooms.{HasRoomFor, HasRoomForJob, rules_by}
use Rattle.pb_jobs.specs.declared.room.Rooms.{Rooms}
use Rattle.pb_run_work.specs.Holding.{CanBeCut}
use Rattle.pb_run_work.specs.Running.{AreJobPieces, ArePieces, HasRoomForStep}
use Rattle.pb_run_work.specs.Seen.{PiecesValue}

module _ (a : AcceptedValue) (instances : List InstanceValue) where
  -- those of a job of the instance that the code finds
  pub pieces_of_job : (m j : ℕ) → CanBeCut a instances (step.Job m j) → (v : InstanceValue) → v ≡ get_or instances m v → (nodes : List NodeValue) → ((found : AnalysisValue) → slice_get a.found v.transform ≡ Some found → nodes ≡ found.nodes)
      → (job : JobValue) → job ≡ get_or v.jobs j job → (q : PiecesValue) → AreJobPieces nodes job q → ArePieces a instances (step.Job m j) q
  pieces_of_job m j can v at nodes are job at_job q is =
      let same : v ≡ can.value = same_item instances m can.value v can.there at in
      let some = can.is.1 in
      let same_job : job ≡ some.job = same_item v.jobs j some.job job (ap (λ (x : InstanceValue). slice_get x.jobs j) same ∙ some.there) at_job in
      let nodes_are : nodes ≡ can.found.nodes = are can.found (ap (λ (x : InstanceValue). slice_get a.found x.transform) same ∙ can.is_found) in
      record {
        value = can.value;
        there = can.there;
        found = can.found;
        is_found = can.is_found;
        is = record { job = some.job; there = some.there; is = subst (λ (z : List NodeValue × JobValue). AreJobPieces z.0 z.1 q) (λ i. (nodes_are i, same_job i)) is };
      }

  pub pieces_of_copy : (x : CopiedValue) → CanBeCut a instances (step.Copy x) → (v : InstanceValue) → v ≡ get_or instances x.instance v → (nodes : List NodeValue) → ((found : AnalysisValue) → slice_get a.found v.transform ≡ Some found → nodes ≡ found.nodes)
      → (q : PiecesValue) → q.parts ≡ map (spot_of nodes) x.parts → ArePieces a instances (step.Copy x) q
  pieces_of_copy x can v at nodes are q is =
      let same : v ≡ can.value = same_item instances x.instance can.value v can.there at in
      let nodes_are : nodes ≡ can.found.nodes = are can.found (ap (λ (z : InstanceValue). slice_get a.found z.transform) same ∙ can.is_found) in
      record {
        value = can.value;
        there = can.there;
        found = can.found;
        is_found = can.is_found;
        is = is ∙ ap (λ (ns : List NodeValue). map (spot_of ns) x.parts) nodes_are;
      }

  -- its room, for its rectangles
  pub room_of_job : (m j : ℕ) (q : PiecesValue) → ArePieces a instances (step.Job m j) q → (v : InstanceValue) → v ≡ get_or instances m v → (job : JobValue) → job ≡ get_or v.jobs j job → (rooms : Rooms)
      → HasRoomForJob (bare_prog a.program) v.transform (sizes_of v.sizes) rooms (record { parts = q.parts; rule = job.rule; rules = q.rules; steps = [] }) → HasRoomForStep a instances rooms (step.Job m j)
  room_of_job m j q are v at job at_job rooms room =
      let same : v ≡ are.value = same_item instances m are.value v are.there at in
      let some = are.is in
      let same_job : job ≡ some.job = same_item v.jobs j some.job job (ap (λ (x : InstanceValue). slice_get x.jobs j) same ∙ some.there) at_job in
      record {
        value = are.value;
        there = are.there;
        found = are.found;
        is_found = are.is_found;
        is = record {
          job = some.job;
          there = some.there;
          is = record {
            rules = subst (λ (z : InstanceValue × JobValue × List ℕ). All (HasRoomFor (bare_prog a.program) z.0.transform (sizes_of z.0.sizes) rooms) (rules_by z.1.rule z.2)) (λ i. (same i, same_job i, some.is.rules i)) room.rules;
            pieces = subst (λ (z : List Spot). length z ≤ rooms.pieces) some.is.parts room.pieces;
          };
        };
      }
