-- What a plan of an instance reads and writes lies within the matrices of the instance.
use Rattle.std.proofs.Common.{◌≡◌, ◌∙◌, sym, subst, ℕ, ◌-◌, ◌<◌, ◌≤◌, pos, Bool, true, false, List, get_or, length, map, slice_get, Some, arith}
use Rattle.std.specs.Prelude.{if◌then◌else◌}
use Rattle.std.specs.List.{All, AllByRecursion, AllZip}
use Rattle.pb_linear.specs.Sizes.{InRange, leasts_of, sizes_of}
use Rattle.pb_linear.specs.declared.sizes.TheConstants.{SIZE_TOP}
use Rattle.pb_values.specs.declared.rect.Rect.{Rect}
use Rattle.pb_values.specs.declared.shape.TheConstants.{MOST_SIDE}
use Rattle.pb_program.specs.Conditions.{Applies}
use Rattle.pb_program.specs.Configs.{ConfigValue, IsValid}
use Rattle.pb_program.specs.Rules.{RuleValue}
use Rattle.pb_program.specs.Transforms.{TransformValue}
use Rattle.pb_program.specs.Trees.{ProgTransform, bare_prog, bare_rule, bare_transform}
use Rattle.pb_program.specs.WellFormed.{IsRule, IsTransform, IsView, variables}
use Rattle.pb_program.specs.declared.view.Read.{Read}
use Rattle.pb_region.proofs.SmallLemmas.{at_place, small_rule}
use Rattle.pb_syntax.specs.declared.limits.TheConstants.{MOST_VIEWS}
use Rattle.pb_frame.proofs.Handed.{output_within, view_within}
use Rattle.pb_check.specs.Accepting.{AcceptedValue, IsAccepted}
use Rattle.pb_check.specs.Orders.{IsAnalysis}
use Rattle.pb_check.proofs.FirstLemmas.{all_at, some_same}
use Rattle.pb_frame.specs.Choices.{IsInstance as IsInstanceOf}
use Rattle.pb_frame.specs.Frames.{JobValue}
use Rattle.pb_frame.proofs.PartLemmas.{top_of}
use Rattle.pb_plan.specs.Boxes.{HasNodes}
use Rattle.pb_plan.specs.Made.{jobs_for}
use Rattle.pb_plan.proofs.LaidLemmas.{tall_at, wide_at}
use Rattle.pb_plan.proofs.JobLemmas.{at_map}
use Rattle.pb_plan.proofs.LinkedLemmas.{at_zip}
use Rattle.pb_plan.proofs.ReadableLemmas.{have_nodes}
use Rattle.pb_views.specs.Seats.{IsSmall, across, down}
use Rattle.pb_views.specs.Layouts.{HasShortSides}
use Rattle.pb_views.specs.declared.seat.Seat.{Seat}
use Rattle.pb_counts.proofs.Handed.{IsSituated, whole_applies}
use Rattle.pb_steps.specs.Stands.{CanShow, IsSeated, IsSeatFor, IsShowing}
use Rattle.pb_steps.specs.Values.{InstanceValue}
use Rattle.pb_steps.proofs.CallLemmas.{instance_for}
use Rattle.pb_steps.proofs.ListLemmas.{get_at}

module _ (v : AcceptedValue) (accepted : IsAccepted v) (config : ConfigValue) (valid : IsValid (bare_prog v.program) config) (grain : ℕ) (n : InstanceValue) (h : IsSeated (bare_prog v.program) v.found config grain n) where
  abbrev p : List ProgTransform
  p = bare_prog v.program

  analysed : IsAnalysis h.transform h.analysis
  analysed =
      let z = at_zip IsAnalysis p v.found accepted.found n.transform h.transform h.there in
      subst (IsAnalysis h.transform) (some_same z.0 h.analysis (sym z.1 ∙ h.is_found)) z.2

  abbrev inst : IsInstanceOf n.transform h.transform h.analysis (sizes_of n.sizes)
  inst = record { program = p; well_formed = accepted.well_formed; sound = accepted.sound; there = h.there; found = analysed; in_range = h.in_range }

  pub situated : IsSituated config p (instance_for p v.found config grain n h)
  situated = record { well = accepted.well_formed; sound = accepted.sound; valid = valid; there = h.there; found = analysed; range = h.in_range }

  short : All (HasShortSides (sizes_of n.sizes)) h.transform.matrices
  short k d below =
      let s = at_zip (IsSeatFor (sizes_of n.sizes)) h.transform.matrices n.seats h.seats k (get_or h.transform.matrices k d) (get_at h.transform.matrices k d below) in
      let small = seat_small k s.0 s.1 in
      record { width = omega (arith, s.2.width, small.0); height = omega (arith, s.2.height, small.1) }
    where
      seat_small : (k : ℕ) (s : Seat) → slice_get n.seats k ≡ Some s → (across s ≤ MOST_SIDE) × (down s ≤ MOST_SIDE)
      seat_small k s at =
          let is = all_at IsSmall n.seats k s h.small at in
          by_turn s is
        where
          by_turn : (s : Seat) → IsSmall s → (across s ≤ MOST_SIDE) × (down s ≤ MOST_SIDE)
          by_turn s is = by s.turned s.rect is.right is.high
            where
              by : (b : Bool) (r : Rect) → r.x1 ≤ MOST_SIDE → r.y1 ≤ MOST_SIDE → ((if b then r.y1 - r.y0 else r.x1 - r.x0) ≤ MOST_SIDE) × ((if b then r.x1 - r.x0 else r.y1 - r.y0) ≤ MOST_SIDE)
              by true r right high = (omega (arith, high), omega (arith, right))
              by false r right high = (omega (arith, right), omega (arith, high))

  -- the parts of a job lie in segments that are there
  pub nodes_of : (j : ℕ) (job : JobValue) → slice_get n.jobs j ≡ Some job → HasNodes h.analysis.nodes job.parts
  nodes_of j job at =
      all_at (λ (q : JobValue). HasNodes h.analysis.nodes q.parts) (jobs_for config n.transform h.transform h.analysis (sizes_of n.sizes) grain) j job
      (have_nodes config n.transform h.transform h.analysis (sizes_of n.sizes) grain inst valid short) (subst (λ l. slice_get l j ≡ Some job) h.jobs at)

  -- ---- a rule that is the plan of a job
  module _ (x : TransformValue) (is_x : slice_get p n.transform ≡ Some (bare_transform x)) (j : ℕ) (job : JobValue) (at_job : slice_get n.jobs j ≡ Some job) (k : ℕ) (of : job.rule ≡ Some k) (r : RuleValue) (there : slice_get x.rules k ≡ Some r) where
    same : h.transform ≡ bare_transform x
    same = some_same h.transform (bare_transform x) (sym h.there ∙ is_x)

    rule : slice_get (bare_transform x).rules k ≡ Some (bare_rule r)
    rule = map_there x.rules k r there
      where
        map_there : (rs : List RuleValue) (k : ℕ) (r : RuleValue) → slice_get rs k ≡ Some r → slice_get (map bare_rule rs) k ≡ Some (bare_rule r)
        map_there rs k r e = at_map bare_rule rs k r e

    well : IsTransform (length p) (bare_transform x)
    well = at_place (IsTransform (length p)) p n.transform (bare_transform x) accepted.well_formed.transforms is_x

    well_rule : IsRule (length x.sizes) x.inputs (length x.matrices) (length p) (bare_rule r)
    well_rule = at_place (IsRule (length x.sizes) x.inputs (length x.matrices) (length p)) (bare_transform x).rules k (bare_rule r) well.rules rule

    pub few_outs : length r.outs ≤ MOST_VIEWS
    few_outs = well_rule.some_output.1

    pub few_reads : length r.reads ≤ MOST_VIEWS
    few_reads = well_rule.few_reads

    range : InRange (leasts_of (bare_transform x).ranges) (sizes_of n.sizes)
    range = subst (λ (t : ProgTransform). InRange (leasts_of t.ranges) (sizes_of n.sizes)) same h.in_range

    applies : Applies x.matrices (bare_rule r) (sizes_of n.sizes) (pos 0) (pos 0)
    applies =
        let whole = whole_applies config p (instance_for p v.found config grain n h) grain situated j job (subst (λ l. slice_get l j ≡ Some job) h.jobs at_job) k of (bare_rule r) (subst (λ (t : ProgTransform). slice_get t.rules k ≡ Some (bare_rule r)) (sym same) rule) in
        subst (λ (t : ProgTransform). Applies t.matrices (bare_rule r) (sizes_of n.sizes) (pos 0) (pos 0)) same whole

    showing : (views : List Read) → CanShow x.matrices (sizes_of n.sizes) views → IsShowing x.matrices n views
    showing views can = record {
      sizes = top_of n.transform h.transform h.analysis n.sizes inst;
      small = h.small;
      seats = subst (λ (t : ProgTransform). AllZip (IsSeatFor (sizes_of n.sizes)) t.matrices n.seats) same h.seats;
      natural = λ m d at.
          let here : slice_get h.transform.matrices m ≡ Some d = subst (λ (t : ProgTransform). slice_get t.matrices m ≡ Some d) (sym same) at in
          (wide_at n.transform h.transform h.analysis (sizes_of n.sizes) inst m d here, tall_at n.transform h.transform h.analysis (sizes_of n.sizes) inst m d here);
      can = can;
    }

    views_there : (views : List Read) → AllByRecursion (IsView (length x.sizes) (variables r.outs) (length x.matrices)) views → All (λ (q : Read). q.matrix < length x.matrices) views
    views_there views are m d below = (at_place (IsView (length x.sizes) (variables r.outs) (length x.matrices)) views m (get_or views m d) are (get_at views m d below)).matrix

    pub shows_reads : IsShowing x.matrices n r.reads
    shows_reads = showing r.reads (record {
      small = (small_rule p accepted.well_formed n.transform (bare_transform x) is_x k (bare_rule r) rule).reads;
      there = views_there r.reads well_rule.reads;
      readable = λ m q d at decl. view_within p n.transform (bare_transform x) (sizes_of n.sizes) accepted.well_formed accepted.sound is_x k (bare_rule r) rule m q d at decl range (pos 0) (pos 0) applies;
    })

    pub shows_outs : IsShowing x.matrices n r.outs
    shows_outs = showing r.outs (record {
      small = (small_rule p accepted.well_formed n.transform (bare_transform x) is_x k (bare_rule r) rule).outs;
      there = views_there r.outs well_rule.outs;
      readable = λ m q d at decl. output_within p n.transform (bare_transform x) (sizes_of n.sizes) accepted.well_formed accepted.sound is_x k (bare_rule r) rule m q d at decl range (pos 0) (pos 0) applies;
    })

    pub top : All (λ size. size ≤ SIZE_TOP) n.sizes.of
    top = top_of n.transform h.transform h.analysis n.sizes inst
