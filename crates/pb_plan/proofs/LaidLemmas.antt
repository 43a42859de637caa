-- The matrices of an instance that stand in a row have the sides of their declarations.
use Rattle.std.proofs.Common.{◌≡◌, ◌∙◌, refl, sym, ap, subst, ℕ, ℤ, pos, negsuc, ◌≤ℤ◌, ◌*ℤ◌, Bool, true, false, List, length, map, get_or, slice_get, Some, arith}
use Rattle.std.specs.Prelude.{◌==◌}
use Rattle.std.specs.List.{All, enumerate_from, flat_map}
use Rattle.std.proofs.Math.IntN.{zero-*ℤ}
use Rattle.std.proofs.lemmas.Bool.{eqb-true}
use Rattle.std.proofs.lemmas.Int.{ints}
use Rattle.std.proofs.lemmas.List.{length-map}
use Rattle.pb_linear.specs.Numbers.{exact_value}
use Rattle.pb_linear.specs.Sizes.{InRange, leasts_of, sizes_of}
use Rattle.pb_linear.specs.declared.sizes.Sizes.{Sizes}
use Rattle.pb_linear.proofs.Values.{exact_value-multiple, exact_value-with_constant}
use Rattle.pb_graph.proofs.NumberedLemmas.{at_index}
use Rattle.pb_values.specs.declared.shape.Shape.{Shape}
use Rattle.pb_values.specs.declared.view.View.{View}
use Rattle.pb_program.specs.Configs.{ConfigValue, IsValid}
use Rattle.pb_program.specs.Forms.{DeclValue, constant_numbers}
use Rattle.pb_program.specs.Transforms.{TransformValue}
use Rattle.pb_program.specs.Trees.{ProgTransform, bare_prog, bare_transform}
use Rattle.pb_program.specs.WellFormed.{IsDecl, IsTransform}
use Rattle.pb_region.specs.Dims.{HasNoNegative, IsNeverNegative, sides}
use Rattle.pb_region.proofs.RuleLemmas.{held_at}
use Rattle.pb_region.proofs.SmallLemmas.{at_place}
use Rattle.pb_model.specs.Cells.{natural}
use Rattle.pb_check.specs.Accepting.{AcceptedValue, IsAccepted}
use Rattle.pb_check.specs.Orders.{AnalysisValue}
use Rattle.pb_check.specs.Phases.{IsBounded}
use Rattle.pb_check.specs.Ranked.{OfTransform}
use Rattle.pb_check.proofs.FirstLemmas.{all_at}
use Rattle.pb_frame.specs.Choices.{IsInstance}
use Rattle.pb_frame.specs.Frames.{FrameValue, IsFrame, JobValue, in_layer, layer_jobs}
use Rattle.pb_frame.specs.declared.part.FramePart.{FramePart}
use Rattle.pb_frame.proofs.FoundLemmas.{instance, numbers_of, said_of}
use Rattle.pb_plan.specs.Boxes.{HasNodes, IsJob}
use Rattle.pb_plan.proofs.ReadableLemmas.{are_jobs, have_nodes}
use Rattle.pb_plan.specs.Made.{jobs_for}
use Rattle.pb_views.specs.Layouts.{AreInARow}
use Rattle.pb_views.specs.Windows.{AreLaid}
use Rattle.pb_plan.specs.Laid.{HasRoom}
use Rattle.pb_plan.proofs.NumberLemmas.{view_at, whole_at}

one_is : (sizes : List ℕ) → exact_value (constant_numbers (pos 1)) sizes ≡ pos 1
one_is sizes =
    let n = constant_numbers (pos 0) in
    let none : exact_value n sizes ≡ pos 0 *ℤ exact_value n sizes = exact_value-multiple (pos 0) n sizes in
    omega (arith, ints, exact_value-with_constant (pos 1) n sizes, none, zero-*ℤ (exact_value n sizes))

natural_is : (z : ℤ) → pos 0 ≤ℤ z → pos (natural z) ≡ z
natural_is (pos n) h = refl
natural_is (negsuc n) h = absurd (omega (arith, ints, h))

tall : (n : ℕ) (d : DeclValue) (leasts sizes : List ℕ) (flat : Bool) → (d.dims == 1) ≡ flat → IsDecl n d → HasNoNegative leasts d → InRange leasts sizes → pos 0 ≤ℤ exact_value d.h sizes
tall n d leasts sizes true e h none range = omega (arith, ints, ap (λ k. exact_value k sizes) (h.flat (eqb-true d.dims 1 e)), one_is sizes)
tall n d leasts sizes false e h none range = let there : slice_get (sides d) 1 ≡ Some d.h = rw e refl in all_at (IsNeverNegative leasts) (sides d) 1 d.h none.sides there sizes range

module _ (number : ℕ) (t : ProgTransform) (a : AnalysisValue) (sizes : List ℕ) (i : IsInstance number t a sizes) where
  -- sides are never negative
  none_at : (m : ℕ) (d : DeclValue) → slice_get t.matrices m ≡ Some d → HasNoNegative (leasts_of t.ranges) d
  none_at m d decl = all_at (HasNoNegative (leasts_of t.ranges)) t.matrices m d (all_at IsBounded i.program number t i.sound.bounded i.there).sides.each decl

  pub wide_at : (m : ℕ) (d : DeclValue) → slice_get t.matrices m ≡ Some d → pos 0 ≤ℤ exact_value d.w sizes
  wide_at m d decl = all_at (IsNeverNegative (leasts_of t.ranges)) (sides d) 0 d.w (none_at m d decl).sides refl sizes i.in_range

  pub tall_at : (m : ℕ) (d : DeclValue) → slice_get t.matrices m ≡ Some d → pos 0 ≤ℤ exact_value d.h sizes
  tall_at m d decl = tall (length t.sizes) d (leasts_of t.ranges) sizes (d.dims == 1) refl (at_place (IsDecl (length t.sizes)) t.matrices m d (at_place (IsTransform (length i.program)) i.program number t i.well_formed.transforms i.there).matrices decl) (none_at m d decl) i.in_range

  pub laid : (views : List View) → AreInARow 0 sizes t.matrices views → AreLaid t.matrices sizes views
  laid views row = record {
    some = λ m d there. view_at sizes 0 t.matrices views row m d there;
    width = λ m d v there at. ap (λ (s : Shape). pos s.w) (whole_at sizes 0 t.matrices views row m d v there at).shape ∙ natural_is (exact_value d.w sizes) (wide_at m d there);
    height = λ m d v there at. ap (λ (s : Shape). pos s.h) (whole_at sizes 0 t.matrices views row m d v there at).shape ∙ natural_is (exact_value d.h sizes) (tall_at m d there);
  }

-- the jobs of a frame
pub jobs_are : (config : ConfigValue) (number : ℕ) (t : ProgTransform) (a : AnalysisValue) (s : Sizes) (grain : ℕ) (f : FrameValue) → f.sizes ≡ s → IsFrame config number t a grain f → f.jobs ≡ jobs_for config number t a (sizes_of s) grain
jobs_are config number t a s grain f same is =
    is.jobs ∙ ap (λ (ps : List FramePart). flat_map (λ l. layer_jobs t grain (in_layer a.order ps l.0) l) (enumerate_from 0 a.order.layers)) is.parts ∙ ap (λ z. jobs_for config number t a (sizes_of z) grain) same

-- they can be boxed
module _ (config : ConfigValue) (number : ℕ) (t : ProgTransform) (a : AnalysisValue) (s : Sizes) (grain : ℕ) (i : IsInstance number t a (sizes_of s)) (valid : IsValid i.program config) (room : HasRoom (sizes_of s) t) (f : FrameValue) (same : f.sizes ≡ s) (is : IsFrame config number t a grain f) where
  own_jobs : f.jobs ≡ jobs_for config number t a (sizes_of s) grain
  own_jobs = jobs_are config number t a s grain f same is

  pub can_be_boxed : All (λ (job : JobValue). IsJob t (sizes_of s) job.rule job.parts) f.jobs
  can_be_boxed = subst (λ (jobs : List JobValue). All (λ (job : JobValue). IsJob t (sizes_of s) job.rule job.parts) jobs) (sym own_jobs) (are_jobs config number t a (sizes_of s) grain i valid room.sides)

  pub have_their_nodes : All (λ (job : JobValue). HasNodes a.nodes job.parts) f.jobs
  have_their_nodes = subst (λ (jobs : List JobValue). All (λ (job : JobValue). HasNodes a.nodes job.parts) jobs) (sym own_jobs) (have_nodes config number t a (sizes_of s) grain i valid room.sides)

-- what is known of the transform with this number, and of what is found of it
pub record Known (v : AcceptedValue) (config : ConfigValue) (t : ℕ) (s : Sizes) (x : TransformValue) (a : AnalysisValue) : Type 0 where
  pub there : slice_get (bare_prog v.program) t ≡ Some (bare_transform x)
  pub found : slice_get v.found t ≡ Some a
  pub instance : IsInstance t (bare_transform x) a (sizes_of s)
  pub valid : IsValid instance.program config
  pub room : HasRoom (sizes_of s) (bare_transform x)

pub known : (v : AcceptedValue) → IsAccepted v → (config : ConfigValue) (t : ℕ) (s : Sizes) → IsValid (bare_prog v.program) config
    → OfTransform v t (λ transform found. InRange (leasts_of transform.ranges) (sizes_of s)) → OfTransform v t (λ transform found. HasRoom (sizes_of s) transform)
    → (xs : List TransformValue) → xs ≡ v.program.transforms → (x : TransformValue) → x ≡ get_or xs t x
    → (found : List AnalysisValue) → found ≡ v.found → (a : AnalysisValue) → a ≡ get_or found t a
    → Known v config t s x a
known v accepted config t s valid range room xs held x is found same a at =
    let Range = λ (transform : ProgTransform) (found : AnalysisValue). InRange (leasts_of transform.ranges) (sizes_of s) in
    let Room = λ (transform : ProgTransform) (found : AnalysisValue). HasRoom (sizes_of s) transform in
    let below = numbers_of v t Range range in
    let there : slice_get (bare_prog v.program) t ≡ Some (bare_transform x) = subst (λ (ts : List TransformValue). slice_get (map bare_transform ts) t ≡ Some (bare_transform x)) held (held_at bare_transform xs t x (omega (arith, below.0, ap length held, length-map v.program.transforms bare_transform)) is) in
    let here : slice_get v.found t ≡ Some a = subst (λ (l : List AnalysisValue). slice_get l t ≡ Some a) same (at_index found t a (omega (arith, below.1, ap length same)) at) in
    let i = instance v accepted t (bare_transform x) a there here (sizes_of s) (said_of v accepted t (bare_transform x) a there here Range range) in
    record {
      there = there;
      found = here;
      instance = record { program = bare_prog v.program; well_formed = accepted.well_formed; sound = accepted.sound; there = there; found = i.found; in_range = i.in_range };
      valid = valid;
      room = said_of v accepted t (bare_transform x) a there here Room room;
    }
