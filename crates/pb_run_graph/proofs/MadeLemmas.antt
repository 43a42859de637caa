-- What is made for a step is what its definition says.
use Rattle.std.proofs.Common.{◌≡◌, ◌∙◌, refl, sym, ap, subst, ℕ, ℤ, pos, negsuc, ◌≤ℤ◌, List, [], ◌∷◌, get_or, length, map, slice_get, Some, arith}
use Rattle.std.specs.List.{All, AllZip}
use Rattle.std.proofs.lemmas.Int.{ints}
use Rattle.std.proofs.lemmas.Option.{get_or_from_slice_get, slice_get_within}
use Rattle.pb_linear.specs.Numbers.{exact_value}
use Rattle.pb_linear.specs.Sizes.{sizes_of}
use Rattle.pb_values.specs.declared.shape.Shape.{Shape}
use Rattle.pb_values.specs.declared.view.View.{View}
use Rattle.pb_program.specs.Forms.{DeclValue}
use Rattle.pb_program.specs.Trees.{ProgTransform}
use Rattle.pb_model.specs.Cells.{natural}
use Rattle.pb_check.specs.Orders.{AnalysisValue}
use Rattle.pb_check.proofs.FirstLemmas.{some_same}
use Rattle.pb_frame.specs.Frames.{JobValue}
use Rattle.pb_frame.specs.declared.part.FramePart.{FramePart}
use Rattle.pb_graph.specs.Nodes.{NodeValue}
use Rattle.pb_links.specs.Spots.{PlacesValue}
use Rattle.pb_plan.specs.Boxes.{places_of as job_places, spot_of}
use Rattle.pb_plan.proofs.LinkedLemmas.{at_zip, some_at}
use Rattle.pb_taskgraph.specs.declared.task.Part.{Part}
use Rattle.pb_views.specs.Windows.{AreLaid}
use Rattle.pb_views.specs.declared.seat.Seat.{Seat}
use Rattle.pb_steps.specs.Handed.{Copied, Failed, Instance, Step, by_copy, by_job, by_trap, places_of, through}
use Rattle.pb_run_plan.specs.RunTasks.{IsPartOf, piece_of, pieces_of, trapped_piece}
use Rattle.pb_steps.proofs.ListLemmas.{zip_length}
use Rattle.pb_steps.specs.Stands.{AreViewsOf, IsInstance, IsSeatFor, IsStep}
use Rattle.pb_steps.specs.Values.{CopiedValue, FailedValue, InstanceValue}
use Rattle.pb_steps.specs.declared.step.Step.TheVariants as step
use Rattle.pb_run_graph.specs.Ready.{AreStanding, HasSeat, IsPartIn, IsSeatedPart, copied_places, failed_of, seated_places}
use Rattle.pb_run_graph.proofs.ListLemmas.{mapped_zip}

-- ---- items by their index
pub same_item : {A : Type 0} (xs : List A) (k : ℕ) (x y : A) → slice_get xs k ≡ Some x → y ≡ get_or xs k y → y ≡ x
same_item xs k x y there is = is ∙ get_or_from_slice_get xs k x y there

map_map : {A B C : Type 0} (f : A → B) (g : B → C) (xs : List A) → map g (map f xs) ≡ map (λ x. g (f x)) xs
map_map f g [] = refl
map_map f g (x ∷ xs) = ap (λ l. g (f x) ∷ l) (map_map f g xs)

-- ---- matrices that stand with their sides
natural_is : (z : ℤ) → pos 0 ≤ℤ z → pos (natural z) ≡ z
natural_is (pos n) h = refl
natural_is (negsuc n) h = absurd (omega (arith, ints, h))

module _ (matrices : List DeclValue) (seats : List Seat) (sizes : List ℕ) (h : AreStanding matrices seats sizes) where
  pub as_many : length seats ≡ length matrices
  as_many = sym (zip_length (IsSeatFor sizes) matrices seats h.sides)

  pub are_laid : (views : List View) → AreViewsOf matrices seats views → AreLaid matrices sizes views
  are_laid views are = record {
    some = λ m d declared. (let v = some_at views m (omega (arith, slice_get_within matrices m d declared, as_many, are.count)) in (v.0, v.1));
    width = λ m d v declared at.
        let seat = at_zip (IsSeatFor sizes) matrices seats h.sides m d declared in
        ap pos (ap (λ (s : Shape). s.w) (are.each m d seat.0 v declared seat.1 at).shape ∙ seat.2.width) ∙ natural_is (exact_value d.w sizes) (h.natural m d declared).0;
    height = λ m d v declared at.
        let seat = at_zip (IsSeatFor sizes) matrices seats h.sides m d declared in
        ap pos (ap (λ (s : Shape). s.h) (are.each m d seat.0 v declared seat.1 at).shape ∙ seat.2.height) ∙ natural_is (exact_value d.h sizes) (h.natural m d declared).1;
  }

pub has_seats : (matrices : List DeclValue) (nodes : List NodeValue) (seats : List Seat) (parts : List FramePart) → All (IsSeatedPart matrices nodes seats) parts → All (HasSeat nodes seats) parts
has_seats matrices nodes seats parts h k d below = let s = h k d below in record { node = s.node; is = s.is; there = slice_get_within seats s.node.matrix s.seat s.there }

-- ---- of an instance
module _ (p : List ProgTransform) (found : List AnalysisValue) (v : InstanceValue) (i : Instance) (is : IsInstance p found v i) where
  module _ (n : ℕ) (own : n ≡ v.transform) (nodes : List NodeValue) (of : (y : AnalysisValue) → slice_get found n ≡ Some y → nodes ≡ y.nodes) where
    pub nodes_same : nodes ≡ i.found.nodes
    nodes_same = of i.found (ap (slice_get found) own ∙ is.analysis)

    pub copied_same : (seats : List Seat) → seats ≡ v.seats → (x : CopiedValue) → copied_places nodes seats x ≡ copied_places i.found.nodes i.seats x
    copied_same seats same x = λ z. copied_places (nodes_same z) ((same ∙ sym is.seats) z) x

    module _ (x : ProgTransform) (there : slice_get p n ≡ Some x) where
      transform_same : x ≡ i.transform
      transform_same = some_same x i.transform (sym there ∙ ap (slice_get p) own ∙ is.transform)

      pub job_same : (seats : List Seat) → seats ≡ v.seats → (sizes : List ℕ) → sizes ≡ sizes_of v.sizes → (job : JobValue) → seated_places seats (job_places x nodes sizes job) ≡ places_of (by_job i job)
      job_same seats seated_there sizes at_sizes job =
          (λ z. seated_places ((seated_there ∙ sym is.seats) z) (job_places (transform_same z) (nodes_same z) ((at_sizes ∙ sym is.sizes) z) job))
          ∙ ap (λ l. record { parts = l; boxes = (places_of (by_job i job)).boxes }) (map_map (spot_of i.found.nodes) (through i) job.parts)

      pub parts_same : (ds : List DeclValue) → ds ≡ x.matrices → (seats : List Seat) → seats ≡ v.seats → (parts : List FramePart) (made : List Part) → AllZip (IsPartIn ds nodes seats) parts made → AllZip IsPartOf (map (piece_of i) parts) made
      parts_same ds declared seats same parts made h =
          mapped_zip (piece_of i) IsPartOf parts made
          (subst (λ d. AllZip (IsPartIn d i.found.nodes i.seats) parts made) (declared ∙ ap (λ (t : ProgTransform). t.matrices) transform_same)
          (subst (λ s. AllZip (IsPartIn ds i.found.nodes s) parts made) (same ∙ sym is.seats) (subst (λ l. AllZip (IsPartIn ds l seats) parts made) nodes_same h)))

-- ---- of a step
module _ (p : List ProgTransform) (found : List AnalysisValue) (instances : List InstanceValue) (v : InstanceValue) where
  pub job_made : (k j : ℕ) → v ≡ get_or instances k v → (places : PlacesValue) → ((i : Instance) (job : JobValue) → IsInstance p found v i → slice_get v.jobs j ≡ Some job → places ≡ places_of (by_job i job))
      → (s : Step) → IsStep p found instances (step.Job k j) s → places ≡ places_of s
  job_made k j at places made (by_job i job) h =
      let same = same_item instances k h.value v h.there at in
      made i job (subst (λ q. IsInstance p found q i) (sym same) h.is) (ap (λ (q : InstanceValue). slice_get q.jobs j) same ∙ h.has)
  job_made k j at places made (by_copy i d) h = absurd h
  job_made k j at places made (by_trap g) h = absurd h

  pub copy_made : (x : CopiedValue) → v ≡ get_or instances x.instance v → (places : PlacesValue) → ((i : Instance) → IsInstance p found v i → places ≡ copied_places i.found.nodes i.seats x)
      → (s : Step) → IsStep p found instances (step.Copy x) s → places ≡ places_of s
  copy_made x at places made (by_job i job) h = absurd h
  copy_made x at places made (by_copy i d) h =
      let same = same_item instances x.instance h.at.value v h.at.there at in
      made i (subst (λ q. IsInstance p found q i) (sym same) h.at.is) ∙ ap (λ (q : Copied). places_of (by_copy i q)) (sym h.is)
  copy_made x at places made (by_trap g) h = absurd h

pub trap_made : (p : List ProgTransform) (found : List AnalysisValue) (instances : List InstanceValue) (f : FailedValue) (made : List Part) → AllZip (λ (s : Seat) (part : Part). IsPartOf (trapped_piece (failed_of f) s) part) f.seats made
    → (s : Step) → IsStep p found instances (step.Trap f) s → AllZip IsPartOf (pieces_of s) made
trap_made p found instances f made are (by_job i job) h = absurd h
trap_made p found instances f made are (by_copy i d) h = absurd h
trap_made p found instances f made are (by_trap g) h = subst (λ (q : Failed). AllZip IsPartOf (map (trapped_piece q) q.seats) made) (sym h) (mapped_zip (trapped_piece (failed_of f)) IsPartOf f.seats made are)
