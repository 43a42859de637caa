-- The place of a stop among the views of an instance's matrices.
use Rattle.std.proofs.Common.{◌≡◌, ◌∙◌, sym, ap, subst, ◌<◌, List, map, slice_get, Option, Some, None, refl, arith}
use Rattle.std.specs.Prelude.{IsSomeAnd}
use Rattle.std.specs.List.{All, Contains}
use Rattle.std.specs.Option.{option_map_or}
use Rattle.std.proofs.lemmas.Option.{get_or_from_slice_get, slice_get_within}
use Rattle.pb_graph.specs.Nodes.{NodeValue}
use Rattle.pb_linear.specs.declared.boxes.Step.{Step}
use Rattle.pb_links.specs.declared.places.Spot.{Spot}
use Rattle.pb_values.specs.Views.{HasPlace, IsInside, cell_of}
use Rattle.pb_values.specs.declared.shape.Shape.{Shape}
use Rattle.pb_values.specs.declared.view.View.{View}
use Rattle.pb_frame.specs.declared.part.FramePart.{FramePart}
use Rattle.pb_plan.specs.Boxes.{spot_of}
use Rattle.pb_plan.proofs.JobLemmas.{map_at}
use Rattle.pb_views.specs.Seats.{across, cell_at, down, no_seat}
use Rattle.pb_walk.specs.Walks.{IsIn, walk_of}
use Rattle.pb_walk.specs.declared.stop.Stop.{Stop}
use Rattle.pb_walk.proofs.WalkLemmas.{walk_in}
use Rattle.pb_steps.specs.Handed.{Instance, seat_in, stop_number}
use Rattle.pb_steps.specs.Stands.{AreViewsOf}
use Rattle.pb_run_graph.specs.Ready.{IsSeatedPart}
use Rattle.pb_jobs.proofs.ListLemmas.{all_at, some_at}

there_from : {A : Type 0} (o : Option A) (P : A → Type 0) → IsSomeAnd o P → (x : A) × (o ≡ Some x) × P x
there_from None P h = absurd h
there_from (Some x) P h = (x, refl, h)

-- a stop has its place among views, where a cell of the run stands
pub record IsShownAt (i : Instance) (views : List View) (s : Stop) : Type 0 where
  pub view : View
  pub at : slice_get views s.base ≡ Some view
  pub inside : IsInside view.shape s.x s.y
  pub cell : cell_of view s.x s.y ≡ stop_number i s

module _ (i : Instance) (views : List View) (laid : AreViewsOf i.transform.matrices i.seats views) (parts : List FramePart) (seated : All (IsSeatedPart i.transform.matrices i.found.nodes i.seats) parts) where
  pub shown_at : (steps : List Step) (s : Stop) → Contains (walk_of steps (map (spot_of i.found.nodes) parts)) s → IsShownAt i views s
  shown_at steps s there =
      let piece = there_from (slice_get (map (spot_of i.found.nodes) parts) s.piece) (λ p. IsIn p s) (walk_in steps (map (spot_of i.found.nodes) parts) s there) in
      let part = map_at (spot_of i.found.nodes) parts s.piece piece.0 piece.1 in
      let q : IsSeatedPart i.transform.matrices i.found.nodes i.seats part.0 = all_at (IsSeatedPart i.transform.matrices i.found.nodes i.seats) parts s.piece part.0 seated part.1 in
      let base : s.base ≡ q.node.matrix = piece.2.0 ∙ ap (λ (p : Spot). p.base) (sym part.2) ∙ ap (λ o. option_map_or (λ (n : NodeValue). n.matrix) o 0) q.is in
      let seat = ap (slice_get i.seats) base ∙ q.there in
      let declared = ap (slice_get i.transform.matrices) base ∙ q.declared in
      let view = some_at views s.base (omega (arith, laid.count, slice_get_within i.seats s.base q.seat seat)) in
      let shows = laid.each s.base q.decl q.seat view.0 declared seat view.1 in
      let place : HasPlace part.0.rect s.x s.y = subst (λ (p : Spot). HasPlace p.rect s.x s.y) (sym part.2) piece.2.1 in
      let on_x : s.x < across q.seat = omega (arith, place.right, q.lies.right) in
      let on_y : s.y < down q.seat = omega (arith, place.high, q.lies.high) in
      record {
        view = view.0;
        at = view.1;
        inside = (subst (λ (z : Shape). s.x < z.w) (sym shows.shape) on_x, subst (λ (z : Shape). s.y < z.h) (sym shows.shape) on_y);
        cell = shows.cells s.x s.y on_x on_y ∙ ap (λ z. cell_at z s.x s.y) (sym {a = seat_in i s.base} (get_or_from_slice_get i.seats s.base q.seat no_seat seat));
      }
