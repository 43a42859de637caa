-- Each step of an unrolled run can be made, and its parts are of matrices of the run.
use Rattle.std.proofs.Common.{◌≡◌, ◌∙◌, sym, ap, subst, inl, inr, ℕ, zero, suc, ◌+◌, ◌-◌, ◌<◌, ◌≤◌, true, List, [], ◌∷◌, length, map, slice_get, Some, None, arith}
use Rattle.std.specs.Prelude.{◌==◌, filter, nat_lt}
use Rattle.std.specs.List.{All, Contains, range_with_len}
use Rattle.std.proofs.lemmas.Bool.{and_parts}
use Rattle.std.proofs.lemmas.Bool.Decides.{nat_tests}
use Rattle.std.proofs.lemmas.Option.{slice_get_within}
use Rattle.pb_linear.specs.Sizes.{sizes_of}
use Rattle.pb_values.specs.Views.{HasPlace}
use Rattle.pb_values.specs.declared.rect.Rect.{Rect}
use Rattle.pb_program.specs.Trees.{ProgTransform, bare_prog}
use Rattle.pb_base.proofs.ListLemmas.{at_in, filter_in, in_at, in_cases, in_flat, in_map, in_none, in_range, map_in}
use Rattle.pb_model.specs.Calls.{Outcomes}
use Rattle.pb_check.specs.Accepting.{AcceptedValue}
use Rattle.pb_check.proofs.FirstLemmas.{all_at, some_same}
use Rattle.pb_frame.specs.Frames.{JobValue, cut_by, has_place, within}
use Rattle.pb_frame.specs.declared.part.FramePart.{FramePart}
use Rattle.pb_links.specs.Spots.{AllWithin, IsWithin}
use Rattle.pb_links.specs.declared.places.Spot.{Spot}
use Rattle.pb_plan.specs.Boxes.{spot_of}
use Rattle.pb_plan.specs.Made.{jobs_for}
use Rattle.pb_plan.proofs.BeforeLemmas.{home, some_places}
use Rattle.pb_plan.proofs.LinkedLemmas.{at_zip}
use Rattle.pb_recursion.specs.Depths.{sides_of_matrix}
use Rattle.pb_recursion.specs.Shapes.{Sides}
use Rattle.pb_views.specs.Seats.{IsSmall, across, base_x, base_y, cell_at, down, seat_cells}
use Rattle.pb_views.specs.declared.seat.Seat.{Seat}
use Rattle.pb_steps.specs.Handed.{run_matrices}
use Rattle.pb_steps.specs.Handed.{greatest_side, total}
use Rattle.pb_steps.specs.Handed.{Copied, Failed, Instance, Step, by_copy, by_job, by_trap, cells_of, parts_of, places_of, seat_in, through}
use Rattle.pb_steps.specs.Handed.{Met, after_call, after_matrices, after_matrix, is_part_of, nothing_met, output_rect, seat_has_cells, seats_from, unrolled_run, whole_seat}
use Rattle.pb_steps.proofs.Handed.{inst}
use Rattle.pb_steps.proofs.Handed.{in_steps}
use Rattle.pb_steps.proofs.Handed.{run_laid, run_made, run_only}
use Rattle.pb_steps.proofs.Handed.{IsLaid}
use Rattle.pb_steps.proofs.Handed.{spot_place}
use Rattle.pb_steps.specs.Runs.{UnrolledValue}
use Rattle.pb_steps.specs.Stands.{IsSeated, IsStep}
use Rattle.pb_steps.specs.Values.{CopiedValue, FailedValue, InstanceValue}
use Rattle.pb_steps.specs.declared.step.Step.{Step as StepValue}
use Rattle.pb_steps.specs.declared.step.Step.TheVariants as step
use Rattle.pb_run_graph.specs.Linking.{CanBeLinked}
use Rattle.pb_run_graph.specs.Ready.{CanMake, IsSeatedPart, IsTarget, failed_of}
use Rattle.pb_run_graph.proofs.EndLemmas.{met_matrices}
use Rattle.pb_run_graph.proofs.SeatedLemmas.{can_place, each_of, part_seated}
use Rattle.pb_run_graph.proofs.ShapeLemmas.{IsCopyOf, IsFailedCall, IsShaped, calls_shaped}

-- ---- rectangles with a place
has_places : (r : Rect) → has_place r ≡ true → HasPlace r r.x0 r.y0 × HasPlace r (r.x1 - 1) (r.y1 - 1)
has_places r h =
    let tests = and_parts (nat_lt r.x0 r.x1) (nat_lt r.y0 r.y1) h in
    let wide : r.x0 < r.x1 = below r.x0 r.x1 tests.0 in
    let tall : r.y0 < r.y1 = below r.y0 r.y1 tests.1 in (
      record { left = omega arith; right = omega (arith, wide); low = omega arith; high = omega (arith, tall) },
      record { left = omega (arith, wide); right = omega (arith, wide); low = omega (arith, tall); high = omega (arith, tall) },
    )
  where
    below : (x y : ℕ) → nat_lt x y ≡ true → x < y
    below x y e = grind (arith, nat_tests, e)

-- ---- a matrix of a run
greatest_of : (ms : List Outcomes) (k : ℕ) (m : Outcomes) → slice_get ms k ≡ Some m → (m.width ≤ greatest_side ms) × (m.height ≤ greatest_side ms)
greatest_of [] k m at = absurd (let wrong : None ≡ Some m = at in cc)
greatest_of (g ∷ ms) zero m at = let same = some_same g m at in (omega (arith, ap (λ (q : Outcomes). q.width) same), omega (arith, ap (λ (q : Outcomes). q.height) same))
greatest_of (g ∷ ms) (suc k) m at = let rest = greatest_of ms k m at in (omega (arith, rest.0), omega (arith, rest.1))

-- a matrix that is met has cells of its own
record IsMetAs (n : Met) (ss : List Sides) (s : Seat) : Type 0 where
  before : Met
  place : ℕ
  sides : Sides
  below : place < length ss
  number : before.matrices ≡ n.matrices + place
  is : s ≡ whole_seat before sides

met_as : (n : Met) (ss : List Sides) (s : Seat) → Contains (seats_from n ss) s → IsMetAs n ss s
met_as n [] s h = absurd (in_none s h)
met_as n (z ∷ ss) s h = elim (in_cases (whole_seat n z) s (seats_from (after_matrix n z) ss) h) [
  | inl same ↦ record { before = n; place = 0; sides = z; below = omega arith; number = omega arith; is = sym same }
  | inr later ↦ let rest = met_as (after_matrix n z) ss s later in record { before = rest.before; place = suc rest.place; sides = rest.sides; below = omega (arith, rest.below); number = omega (arith, rest.number); is = rest.is }
]

module _ (a : AcceptedValue) (u : UnrolledValue) (inputs : ℕ) (c : CanBeLinked a u inputs) where
  abbrev p : List ProgTransform
  p = bare_prog a.program

  abbrev ms : List Outcomes
  ms = run_matrices p a.found c.config c.grain c.depth c.number c.ins

  abbrev steps : List Step
  steps = (unrolled_run p a.found c.config c.grain c.depth c.number (map sides_of_matrix c.ins)).steps

  shaped : (k : ℕ) (s : Step) → slice_get steps k ≡ Some s → IsShaped c.config c.grain s
  shaped k s e = calls_shaped c.config c.grain p a.found c.depth c.number (seats_from nothing_met (map sides_of_matrix c.ins)) (after_matrices nothing_met (map sides_of_matrix c.ins)) s (in_at steps k s e)

  laid : (k : ℕ) (s : Step) → slice_get steps k ≡ Some s → IsLaid c.config ms s
  laid k s e = run_laid p a.found c.config c.grain c.depth c.number c.ins c.entered k s e

  -- ---- jobs
  seated : (k : ℕ) (v : InstanceValue) → slice_get u.instances k ≡ Some v → IsSeated p a.found c.config c.grain v
  seated k v there = all_at (IsSeated p a.found c.config c.grain) u.instances k v c.seated there

  can_make_job : (k j : ℕ) (i : Instance) (job : JobValue) → IsStep p a.found u.instances (step.Job k j) (by_job i job) → CanMake p a.found u.instances (step.Job k j)
  can_make_job k j i job h =
      let v = h.value in
      let s = seated k v h.there in
      let at = sym (ap (λ (l : List JobValue). slice_get l j) s.jobs) ∙ h.has in
      record {
        value = v;
        there = h.there;
        is = (job, h.has, record { transform = s.transform; there = s.there; analysis = s.analysis; is_found = s.is_found; is = can_place p a.found c.config c.grain c.entered.well c.entered.sound c.entered.valid c.entered.are_found v s j job at });
      }

  -- ---- copies
  -- a part that is copied, in the part of a job
  record IsCut (i : Instance) (d : Copied) (part : FramePart) : Type 0 where
    job : JobValue
    among : Contains (jobs_for c.config i.number i.transform i.found i.sizes c.grain) job
    whole : FramePart
    of : Contains job.parts whole
    output : Rect
    some : has_place (cut_by output whole.rect) ≡ true
    is : part ≡ within output whole

  cut_of : (i : Instance) (d : Copied) → IsCopyOf c.config c.grain i d → (part : FramePart) → Contains d.parts part → IsCut i d part
  cut_of i d h part there =
      let r = output_rect i h.output in
      let q = map_in (within r) (filter (is_part_of i h.output) h.job.parts) part (subst (λ ps. Contains ps part) h.parts there) in
      let among = filter_in (is_part_of i h.output) h.job.parts q.0 q.1 in
      record { job = h.job; among = h.among; whole = q.0; of = among.0; output = r; some = (and_parts ((spot_of i.found.nodes q.0).base == h.output.matrix) (has_place (cut_by r q.0.rect)) among.1).1; is = sym q.2 }

  can_make_copy : (x : CopiedValue) (i : Instance) (d : Copied) → IsStep p a.found u.instances (step.Copy x) (by_copy i d) → IsCopyOf c.config c.grain i d → CanMake p a.found u.instances (step.Copy x)
  can_make_copy x i d h of =
      let v = h.at.value in
      let s = seated x.instance v h.at.there in
      let is = h.at.is in
      let transform : i.transform ≡ s.transform = some_same i.transform s.transform (sym is.transform ∙ s.there) in
      let found : i.found ≡ s.analysis = some_same i.found s.analysis (sym is.analysis ∙ s.is_found) in
      let jobs : jobs_for c.config i.number i.transform i.found i.sizes c.grain ≡ jobs_for c.config v.transform s.transform s.analysis (sizes_of v.sizes) c.grain = (λ z. jobs_for c.config (is.number z) (transform z) (found z) (is.sizes z) c.grain) in
      record {
        value = v;
        there = h.at.there;
        is = record {
          transform = s.transform;
          there = s.there;
          analysis = s.analysis;
          is_found = s.is_found;
          is = each_of (IsSeatedPart s.transform.matrices s.analysis.nodes v.seats) x.parts (λ part own.
              let cut = cut_of i d of part (subst (λ (q : Copied). Contains q.parts part) (sym h.is) own) in
              let j = at_in (jobs_for c.config v.transform s.transform s.analysis (sizes_of v.sizes) c.grain) cut.job (subst (λ l. Contains l cut.job) jobs cut.among) in
              let whole = part_seated p a.found c.config c.grain c.entered.well c.entered.sound c.entered.valid c.entered.are_found v s j.0 cut.job j.1 cut.whole cut.of in
              let places = has_places (cut_by cut.output cut.whole.rect) cut.some in
              subst (IsSeatedPart s.transform.matrices s.analysis.nodes v.seats) (sym cut.is) (record {
                node = whole.node;
                is = whole.is;
                decl = whole.decl;
                declared = whole.declared;
                seat = whole.seat;
                there = whole.there;
                small = whole.small;
                lies = record {
                  order_x = omega (arith, places.0.left, places.0.right);
                  order_y = omega (arith, places.0.low, places.0.high);
                  right = omega (arith, whole.lies.right);
                  high = omega (arith, whole.lies.high);
                };
              }));
        };
      }

  -- ---- calls that can't be made
  module _ (k : ℕ) (g : Failed) (e : slice_get steps k ≡ Some (by_trap g)) (s : Seat) (own : Contains g.seats s) where
    abbrev failed : IsFailedCall c.config c.grain g
    failed = shaped k (by_trap g) e

    kept : Contains (seats_from (after_call failed.met) failed.wanted) s × (seat_has_cells s ≡ true)
    kept = filter_in seat_has_cells (seats_from (after_call failed.met) failed.wanted) s (subst (λ l. Contains l s) failed.seats own)

    trap_places : HasPlace s.rect s.rect.x0 s.rect.y0 × HasPlace s.rect (s.rect.x1 - 1) (s.rect.y1 - 1)
    trap_places = has_places s.rect kept.1

    -- its first cell is one of the run
    first_cell : cell_at s 0 0 < total ms
    unfolding cells_of
    first_cell =
        let wide : 0 < across s = (let q = met_as (after_call failed.met) failed.wanted s kept.0 in let e = ap across q.is in let x = ap (λ (z : Seat). z.rect.x0) q.is in let y = ap (λ (z : Seat). z.rect.x1) q.is in omega (arith, e, x, y, trap_places.0.left, trap_places.0.right)) in
        let tall : 0 < down s = (let q = met_as (after_call failed.met) failed.wanted s kept.0 in let e = ap down q.is in let x = ap (λ (z : Seat). z.rect.y0) q.is in let y = ap (λ (z : Seat). z.rect.y1) q.is in omega (arith, e, x, y, trap_places.0.low, trap_places.0.high)) in
        (run_only p a.found c.config c.grain c.depth c.number c.ins c.entered (cell_at s 0 0) (in_steps steps k (by_trap g) e (cell_at s 0 0) (in_trap wide tall))).1
      where
        in_trap : 0 < across s → 0 < down s → Contains (cells_of (by_trap g)) (cell_at s 0 0)
        in_trap wide tall = in_flat seat_cells g.seats s (cell_at s 0 0) own (in_flat (λ y. map (λ x. cell_at s x y) (range_with_len 0 (across s))) (range_with_len 0 (down s)) 0 (cell_at s 0 0) (in_range (down s) 0 tall) (in_map (λ x. cell_at s x 0) (range_with_len 0 (across s)) 0 (in_range (across s) 0 wide)))

    before_cell : s.first ≤ cell_at s 0 0
    unfolding cell_at
    before_cell = omega arith

    small : IsSmall s
    small =
        let q = met_as (after_call failed.met) failed.wanted s kept.0 in
        let cell = ((laid k (by_trap g) e).parts (record { base = s.base; rect = s.rect }) (in_map (λ (z : Seat). record { base = z.base; rect = z.rect }) g.seats s own) (s.rect.x1 - 1) (s.rect.y1 - 1) trap_places.1).1 in
        let sides = greatest_of ms s.base cell.grid cell.there in
        let right : s.rect.x1 ≤ greatest_side ms = omega (arith, cell.inside_x, sides.0) in
        let high : s.rect.y1 ≤ greatest_side ms = omega (arith, cell.inside_y, sides.1) in
        record {
          first = omega (arith, before_cell, first_cell, c.cells);
          row = omega (arith, ap (λ (z : Seat). z.row) q.is, ap (λ (z : Seat). z.rect.x1) q.is, right, c.side);
          order_x = omega (arith, trap_places.0.left, trap_places.0.right);
          order_y = omega (arith, trap_places.0.low, trap_places.0.high);
          right = omega (arith, right, c.side);
          high = omega (arith, high, c.side);
        }

    target : (f : FailedValue) → g ≡ failed_of f → IsTarget f s
    target f is =
        let q = met_as (after_call failed.met) failed.wanted s kept.0 in
        let base : s.base ≡ failed.met.matrices + q.place = ap (λ (z : Seat). z.base) q.is ∙ q.number in
        let first = ap (λ (z : Failed). z.first) is in
        let count = ap (λ (z : Failed). length z.targets) is in
        record { small = small; first = omega (arith, base, first, failed.first); below = omega (arith, base, first, failed.first, count, failed.count, q.below) }

  can_make : (k : ℕ) (x : StepValue) (s : Step) → slice_get steps k ≡ Some s → IsStep p a.found u.instances x s → CanMake p a.found u.instances x
  can_make k (step.Job m j) (by_job i job) e h = can_make_job m j i job h
  can_make k (step.Job m j) (by_copy i d) e h = absurd h
  can_make k (step.Job m j) (by_trap g) e h = absurd h
  can_make k (step.Copy x) (by_job i job) e h = absurd h
  can_make k (step.Copy x) (by_copy i d) e h = can_make_copy x i d h (shaped k (by_copy i d) e)
  can_make k (step.Copy x) (by_trap g) e h = absurd h
  can_make k (step.Trap f) (by_job i job) e h = absurd h
  can_make k (step.Trap f) (by_copy i d) e h = absurd h
  can_make k (step.Trap f) (by_trap g) e h = each_of (IsTarget f) f.seats (λ s own. target k g e s (subst (λ (z : Failed). Contains z.seats s) (sym h) own) f h)

  pub all_can : All (CanMake p a.found u.instances) u.steps
  all_can = each_of (CanMake p a.found u.instances) u.steps (λ x there.
      let k = at_in u.steps x there in
      let s = at_zip (IsStep p a.found u.instances) u.steps steps c.steps k.0 x k.1 in
      can_make k.0 x s.0 s.1 s.2)

  -- ---- parts are of matrices of the run
  part_place : (k : ℕ) (s : Step) → slice_get steps k ≡ Some s → (b : Spot) → Contains (parts_of s) b → (x : ℕ) × (y : ℕ) × HasPlace b.rect x y
  part_place k (by_job i job) e b h =
      let f = map_in (λ part. through i (spot_of i.found.nodes part)) job.parts b h in
      let of = (run_made p a.found c.config c.grain c.depth c.number c.ins c.entered k (by_job i job) e).from in
      let inst = inst c.config of.program i of.grain of.at in
      let some = some_places c.config i.number i.transform i.found i.sizes of.grain inst of.at.valid f.0 (home c.config i.number i.transform i.found i.sizes of.grain inst of.at.valid of.place job of.there f.0 f.1) in
      let seat = seat_in i (spot_of i.found.nodes f.0).base in
      let x = f.0.rect.x0 in
      let y = f.0.rect.y0 in
      (base_x seat x y, base_y seat x y, subst (λ (z : Spot). HasPlace z.rect (base_x seat x y) (base_y seat x y)) f.2 (spot_place seat f.0.rect x y (record { left = omega arith; right = omega (arith, some.0); low = omega arith; high = omega (arith, some.1) })))
  part_place k (by_copy i d) e b h =
      let f = map_in (λ part. through i (spot_of i.found.nodes part)) d.parts b h in
      let cut = cut_of i d (shaped k (by_copy i d) e) f.0 f.1 in
      let places = has_places (cut_by cut.output cut.whole.rect) cut.some in
      let seat = seat_in i (spot_of i.found.nodes f.0).base in
      let x = f.0.rect.x0 in
      let y = f.0.rect.y0 in
      (base_x seat x y, base_y seat x y, subst (λ (z : Spot). HasPlace z.rect (base_x seat x y) (base_y seat x y)) f.2 (spot_place seat f.0.rect x y (subst (λ (q : FramePart). HasPlace q.rect q.rect.x0 q.rect.y0) (sym cut.is) places.0)))
  part_place k (by_trap g) e b h =
      let f = map_in (λ (s : Seat). record { base = s.base; rect = s.rect }) g.seats b h in
      (f.0.rect.x0, f.0.rect.y0, subst (λ (z : Spot). HasPlace z.rect f.0.rect.x0 f.0.rect.y0) f.2 (trap_places k g e f.0 f.1).0)

  pub all_within : All (AllWithin u.met.matrices) (map places_of steps)
  all_within = each_of (AllWithin u.met.matrices) (map places_of steps) (λ q there.
      let s = map_in places_of steps q there in
      let k = at_in steps s.0 s.1 in
      subst (AllWithin u.met.matrices) s.2 (each_of (IsWithin u.met.matrices) (parts_of s.0) (λ b own.
      let place = part_place k.0 s.0 k.1 b own in
      let cell = ((laid k.0 s.0 k.1).parts b own place.0 place.1 place.2).1 in
      omega (arith, slice_get_within ms b.base cell.grid cell.there, met_matrices p a.found c.config c.grain c.depth c.number c.ins c.entered, ap (λ (m : Met). m.matrices) c.met))))
