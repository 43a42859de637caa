-- What is known of an instance whose matrices stand with their sides: its jobs can be placed, and their parts lie in its matrices.
use Rattle.std.proofs.Common.{◌≡◌, ◌∙◌, refl, sym, ap, subst, ℕ, ◌-◌, ◌<◌, ◌≤◌, Bool, true, false, List, get_or, map, slice_get, Some, arith}
use Rattle.std.specs.Prelude.{if◌then◌else◌}
use Rattle.std.specs.List.{All, Contains}
use Rattle.std.specs.Option.{option_map_or}
use Rattle.std.proofs.lemmas.Option.{slice_get-get_or, slice_get_within}
use Rattle.pb_linear.specs.Form.{value}
use Rattle.pb_linear.specs.Numbers.{exact_value}
use Rattle.pb_linear.specs.Sizes.{sizes_of}
use Rattle.pb_values.specs.declared.shape.TheConstants.{MOST_SIDE}
use Rattle.pb_program.specs.Configs.{ConfigValue, IsValid}
use Rattle.pb_program.specs.Trees.{ProgTransform}
use Rattle.pb_program.specs.WellFormed.{IsWellFormed}
use Rattle.pb_base.proofs.ListLemmas.{in_at, map_in}
use Rattle.pb_model.specs.Cells.{Cell}
use Rattle.pb_check.specs.Orders.{AnalysisValue, AreFound, IsAnalysis}
use Rattle.pb_check.specs.Phases.{IsSound}
use Rattle.pb_check.proofs.FirstLemmas.{all_at, some_same}
use Rattle.pb_calls.proofs.SideLemmas.{segment_below}
use Rattle.pb_frame.specs.Choices.{IsInstance}
use Rattle.pb_frame.specs.Frames.{JobValue}
use Rattle.pb_frame.specs.declared.part.FramePart.{FramePart}
use Rattle.pb_frame.proofs.PartLemmas.{held_made, of_part, top_of}
use Rattle.pb_graph.specs.Nodes.{NodeValue}
use Rattle.pb_links.specs.declared.places.Spot.{Spot}
use Rattle.pb_plan.specs.Boxes.{HasNodes, IsJob, boxes_by, spot_of}
use Rattle.pb_plan.specs.Made.{jobs_for}
use Rattle.pb_plan.proofs.BeforeLemmas.{home, some_places}
use Rattle.pb_plan.proofs.LaidLemmas.{tall_at, wide_at}
use Rattle.pb_plan.proofs.LinkedLemmas.{at_zip, zip_at}
use Rattle.pb_plan.proofs.ReadableLemmas.{are_jobs, have_nodes}
use Rattle.pb_views.specs.Layouts.{HasShortSides}
use Rattle.pb_views.specs.Seats.{IsSmall, across, down}
use Rattle.pb_views.specs.declared.seat.Seat.{Seat}
use Rattle.pb_steps.specs.Handed.{Instance}
use Rattle.pb_steps.proofs.Handed.{IsSituated, box_there, natural_le}
use Rattle.pb_steps.specs.Stands.{IsSeatFor, IsSeated}
use Rattle.pb_steps.specs.Values.{InstanceValue}
use Rattle.pb_run_graph.specs.Ready.{CanPlace, IsAmong, IsSeatedPart}

pub each_of : {A : Type 0} (P : A → Type 0) (xs : List A) → ((x : A) → Contains xs x → P x) → All P xs
each_of P xs f k d below = f (get_or xs k d) (in_at xs k (get_or xs k d) (slice_get-get_or xs k d below))

short_sides : (s : Seat) → IsSmall s → (across s ≤ MOST_SIDE) × (down s ≤ MOST_SIDE)
short_sides s small = by s.turned
  where
    by : (b : Bool) → ((if b then s.rect.y1 - s.rect.y0 else s.rect.x1 - s.rect.x0) ≤ MOST_SIDE) × ((if b then s.rect.x1 - s.rect.x0 else s.rect.y1 - s.rect.y0) ≤ MOST_SIDE)
    by true = (omega (arith, small.high), omega (arith, small.right))
    by false = (omega (arith, small.right), omega (arith, small.high))

module _ (p : List ProgTransform) (found : List AnalysisValue) (config : ConfigValue) (grain : ℕ) (well : IsWellFormed p) (sound : IsSound p) (valid : IsValid p config) (are : AreFound p found) (v : InstanceValue) (s : IsSeated p found config grain v) where
  abbrev t : ProgTransform
  t = s.transform

  abbrev a : AnalysisValue
  a = s.analysis

  abbrev sizes : List ℕ
  sizes = sizes_of v.sizes

  abbrev jobs : List JobValue
  jobs = jobs_for config v.transform t a sizes grain

  analysis : IsAnalysis t a
  analysis = let x = zip_at IsAnalysis p found are v.transform a s.is_found in subst (λ q. IsAnalysis q a) (some_same x.0 t (sym x.1 ∙ s.there)) x.2

  abbrev i : IsInstance v.transform t a sizes
  i = record { program = p; well_formed = well; sound = sound; there = s.there; found = analysis; in_range = s.in_range }

  abbrev here : Instance
  here = record { call = v.call; number = v.transform; transform = t; found = a; sizes = sizes; seats = v.seats }

  abbrev at : IsSituated config p here
  at = record { well = well; sound = sound; valid = valid; there = s.there; found = analysis; range = s.in_range }

  short : All (HasShortSides sizes) t.matrices
  short k d below =
      let declared = slice_get-get_or t.matrices k d below in
      let seat = at_zip (IsSeatFor sizes) t.matrices v.seats s.seats k (get_or t.matrices k d) declared in
      let sides = short_sides seat.0 (all_at IsSmall v.seats k seat.0 s.small seat.1) in
      record { width = omega (arith, sides.0, seat.2.width); height = omega (arith, sides.1, seat.2.height) }

  module _ (j : ℕ) (job : JobValue) (there : slice_get jobs j ≡ Some job) where
    pub part_places : (part : FramePart) → Contains job.parts part → (part.rect.x0 < part.rect.x1) × (part.rect.y0 < part.rect.y1)
    part_places part h = some_places config v.transform t a sizes grain i valid part (home config v.transform t a sizes grain i valid j job there part h)

    pub part_seated : (part : FramePart) → Contains job.parts part → IsSeatedPart t.matrices a.nodes v.seats part
    part_seated part h =
        let own = home config v.transform t a sizes grain i valid j job there part h in
        let f = of_part v.transform t a sizes i config own.whole own.among in
        let some = part_places part h in
        let last = own.inside (part.rect.x1 - 1) (part.rect.y1 - 1) (record { left = omega (arith, some.0); right = omega (arith, some.0); low = omega (arith, some.1); high = omega (arith, some.1) }) in
        let c : Cell = record { matrix = f.0.matrix; x = part.rect.x1 - 1; y = part.rect.y1 - 1 } in
        let made = held_made config v.transform t a sizes i own.whole c own.among (record { node = f.0; there = f.1; matrix = refl; place = last }) in
        let d = made.cell.decl in
        let below = segment_below p v.transform t a sizes well sound s.there analysis s.in_range own.whole.node f.0 d f.1 made.cell.there in
        let seat = at_zip (IsSeatFor sizes) t.matrices v.seats s.seats f.0.matrix d made.cell.there in
        record {
          node = f.0;
          is = ap (slice_get a.nodes) (sym own.node) ∙ f.1;
          decl = d;
          declared = made.cell.there;
          seat = seat.0;
          there = seat.1;
          small = all_at IsSmall v.seats f.0.matrix seat.0 s.small seat.1;
          lies = record {
            order_x = omega (arith, some.0);
            order_y = omega (arith, some.1);
            right = omega (arith, last.right, ap (λ (q : FramePart). q.rect.x1) f.3, natural_le (value f.0.area.x1 sizes) (exact_value d.w sizes) below.across, seat.2.width);
            high = omega (arith, last.high, ap (λ (q : FramePart). q.rect.y1) f.3, natural_le (value f.0.area.y1 sizes) (exact_value d.h sizes) below.down, seat.2.height);
          };
        }

    box_among : (b : Spot) → Contains (boxes_by t sizes job.rule job.parts) b → IsAmong v.seats b
    box_among b h =
        let d = box_there config p here grain at j job there b h in
        let seat = at_zip (IsSeatFor sizes) t.matrices v.seats s.seats b.base d.0 d.1 in
        slice_get_within v.seats b.base seat.0 seat.1

    spot_among : (b : Spot) → Contains (map (spot_of a.nodes) job.parts) b → IsAmong v.seats b
    spot_among b h =
        let part = map_in (spot_of a.nodes) job.parts b h in
        let seated = part_seated part.0 part.1 in
        omega (arith, slice_get_within v.seats seated.node.matrix seated.seat seated.there, ap (λ o. option_map_or (λ (n : NodeValue). n.matrix) o 0) seated.is, ap (λ (q : Spot). q.base) part.2)

    pub can_place : CanPlace t a.nodes v.seats v.sizes job
    can_place = record {
      top = top_of v.transform t a v.sizes i;
      standing = record { small = s.small; sides = s.seats; natural = λ m d declared. (wide_at v.transform t a sizes i m d declared, tall_at v.transform t a sizes i m d declared) };
      is_job = all_at (λ (q : JobValue). IsJob t sizes q.rule q.parts) jobs j job (are_jobs config v.transform t a sizes grain i valid short) there;
      has_nodes = all_at (λ (q : JobValue). HasNodes a.nodes q.parts) jobs j job (have_nodes config v.transform t a sizes grain i valid short) there;
      parts = each_of (IsSeatedPart t.matrices a.nodes v.seats) job.parts part_seated;
      spots = each_of (IsAmong v.seats) (map (spot_of a.nodes) job.parts) spot_among;
      boxes = each_of (IsAmong v.seats) (boxes_by t sizes job.rule job.parts) box_among;
    }
