-- The copies after the calls of a plan: each cell of its job, once, from the matrix that was made for its output.
use Rattle.std.proofs.Common.{◌≡◌, ◌∙◌, refl, sym, ap, subst, inl, ℕ, suc, ◌+◌, ◌-◌, ◌<◌, ◌≤◌, pos, Bool, true, false, ◌&&◌, List, [], ◌∷◌, ◌++◌, length, map, slice_get, Option, Some, None, arith}
use Rattle.std.specs.Prelude.{◌==◌, nat_lt, IsSomeAnd, filter, unwrap_or}
use Rattle.std.specs.List.{Contains, enumerate_from, flat_map, list_any}
use Rattle.std.specs.Option.{option_map_or}
use Rattle.std.proofs.lemmas.Bool.{and_parts, eq-eqb, eqb-true}
use Rattle.std.proofs.lemmas.Bool.Decides.{nat_tests}
use Rattle.pb_linear.specs.Numbers.{exact_value}
use Rattle.pb_linear.specs.Sizes.{leasts_of}
use Rattle.pb_values.specs.Views.{HasPlace}
use Rattle.pb_values.specs.declared.rect.Rect.{Rect}
use Rattle.pb_graph.specs.Nodes.{NodeValue}
use Rattle.pb_program.specs.Areas.{Area, area_of}
use Rattle.pb_program.specs.Conditions.{Applies}
use Rattle.pb_program.specs.Configs.{ConfigValue}
use Rattle.pb_program.specs.Forms.{DeclValue}
use Rattle.pb_program.specs.Trees.{ProgRule, ProgTransform}
use Rattle.pb_program.specs.WellFormed.{IsOutput, IsRule, IsTransform}
use Rattle.pb_program.specs.declared.plan.Slot.{Slot}
use Rattle.pb_program.specs.declared.plan.Slot.TheVariants as slot
use Rattle.pb_program.specs.declared.rule.RuleKind.{RuleKind}
use Rattle.pb_program.specs.declared.rule.RuleKind.TheVariants as kind
use Rattle.pb_program.specs.declared.view.Read.{Read}
use Rattle.pb_program.specs.declared.view.ReadView.{ReadView}
use Rattle.pb_program.specs.declared.view.ReadView.TheVariants as view
use Rattle.pb_region.specs.Boxes.{is_wide}
use Rattle.pb_region.specs.Overlaps.{HasNoOverlap}
use Rattle.pb_region.specs.Rules.{IsAccepted}
use Rattle.pb_region.specs.Within.{IsWithin}
use Rattle.pb_region.proofs.SmallLemmas.{at_place}
use Rattle.pb_base.proofs.ListLemmas.{at_in, filter_in, flat_in, in_at, in_filter, in_flat, in_head, in_map, in_tail, map_in}
use Rattle.pb_model.specs.Calls.{IsSettled, Outcomes, Plans, made_by, no_outcome, outcome_in, rule_of}
use Rattle.pb_model.specs.Cells.{Cell, cells_of as area_cells, cells_of_view, natural, reads}
use Rattle.pb_model.specs.Chosen.{chosen_rule}
use Rattle.pb_model.specs.Equations.{shown_area}
use Rattle.pb_model.specs.Grids.{at_place as in_grid, no_grid}
use Rattle.pb_model.specs.Lawful.{WritesBy, output_holds}
use Rattle.pb_check.specs.Ranked.{IsMadeCell}
use Rattle.pb_check.specs.Phases.{IsBounded}
use Rattle.pb_check.proofs.FirstLemmas.{all_at}
use Rattle.pb_calls.proofs.InsideLemmas.{output_within}
use Rattle.pb_frame.specs.Frames.{HoldsCell, JobValue, cut_by, has_cell, has_place, part_of as frame_part, within}
use Rattle.pb_frame.specs.declared.part.FramePart.{FramePart}
use Rattle.pb_frame.proofs.PartLemmas.{one_part}
use Rattle.pb_links.specs.declared.places.Spot.{Spot}
use Rattle.pb_plan.specs.Boxes.{boxes_by, spot_of}
use Rattle.pb_plan.specs.Made.{IsMadeBy}
use Rattle.pb_plan.proofs.BeforeLemmas.{home, node_of, parts}
use Rattle.pb_plan.proofs.JobLemmas.{at_map, map_at, part_of, placed, rising_parts}
use Rattle.pb_plan.proofs.MadeLemmas.{chosen, held_whole, made_cell, made_rule}
use Rattle.pb_plan.proofs.PieceLemmas.{IsPiece}
use Rattle.pb_plan.proofs.RiseLemmas.{Rises, rises_filter, rises_map, rises_numbered, rises_one}
use Rattle.pb_plan.proofs.SpreadLemmas.{in_rect, rect_in}
use Rattle.pb_plan.proofs.WideLemmas.{applies_same, shown_same}
use Rattle.pb_walk.specs.Walks.{walk_of}
use Rattle.pb_walk.specs.declared.stop.Stop.{Stop}
use Rattle.pb_walk.proofs.WalkLemmas.{in_walk, walk_in, walked_once}
use Rattle.pb_plan.proofs.OnceLemmas.{Once, once_flat, once_map}
use Rattle.pb_solution.specs.Solutions.{steps_by, stop_cell, stops_of}
use Rattle.pb_solution.proofs.OrderLemmas.{one_piece, stop_made}
use Rattle.pb_recursion.specs.Depths.{Call, in_outputs_of, plan_names, plans_over}
use Rattle.pb_recursion.specs.Plans.{Names, named, no_cell, sides_of_slot, sides_of_view}
use Rattle.pb_recursion.specs.Shapes.{Sides, sides_of_area, span_length}
use Rattle.pb_runs.specs.Matrices.{read_matrices}
use Rattle.pb_views.specs.declared.seat.Seat.{Seat}
use Rattle.pb_views.specs.Seats.{across, base_x, base_y, cell_at, down, no_seat, spot_at}
use Rattle.pb_runs.specs.Steps.{Copied, Instance, by_copy, by_job, cells_in, cells_of, from_corner, number_at, seat_in, stop_number, through}
use Rattle.pb_runs.specs.Unrolled.{copies_of, copy_step, is_part_of, output_parts, output_rect}
use Rattle.pb_runs.proofs.BoxLemmas.{IsSituated, box_ends, box_there, inst, jobs}
use Rattle.pb_runs.proofs.CountLemmas.{counted, counted_same}
use Rattle.pb_runs.proofs.JobLemmas.{made_own, made_value, own_cells}
use Rattle.pb_runs.proofs.NameLemmas.{IsNamed}
use Rattle.pb_runs.proofs.OutputLemmas.{Holds, holds_is, in_output, one_output, some_output}
use Rattle.pb_runs.proofs.SoundLemmas.{Cells, IsLaid, IsMade, Sound, cells_append, sound_append, sound_more, with_cells}
use Rattle.pb_runs.proofs.ReadLemmas.{cell_there, job_reads}
use Rattle.pb_runs.proofs.SpotLemmas.{IsCellAt, cell_has, cell_moved, place_of_spot, spot_back, spot_place}
use Rattle.pb_runs.proofs.ViewLemmas.{IsLocal, has_matrix, span_is}
use Rattle.pb_runs.specs.Placed.{SpotCell, outcome_of}
use Rattle.pb_recursion.proofs.ShapeLemmas.{get_below}

-- ---- rectangles that are cut
cut_place : (a b : Rect) (x y : ℕ) → HasPlace (cut_by a b) x y → HasPlace a x y × HasPlace b x y
cut_place a b x y h = (
  record { left = omega (arith, h.left); right = omega (arith, h.right); low = omega (arith, h.low); high = omega (arith, h.high) },
  record { left = omega (arith, h.left); right = omega (arith, h.right); low = omega (arith, h.low); high = omega (arith, h.high) },
)

place_cut : (a b : Rect) (x y : ℕ) → HasPlace a x y → HasPlace b x y → HasPlace (cut_by a b) x y
place_cut a b x y h k = record { left = omega (arith, h.left, k.left); right = omega (arith, h.right, k.right); low = omega (arith, h.low, k.low); high = omega (arith, h.high, k.high) }

some_place : (r : Rect) (x y : ℕ) → HasPlace r x y → has_place r ≡ true
some_place r x y h =
    let wide : r.x0 < r.x1 = omega (arith, h.left, h.right) in
    let tall : r.y0 < r.y1 = omega (arith, h.low, h.high) in
    grind (arith, nat_tests)

both_true : (a b : Bool) → a ≡ true → b ≡ true → (a && b) ≡ true
both_true true b h k = k
both_true false b h k = h

test_below : (a b : ℕ) → nat_lt a b ≡ true → a < b
test_below a b h = grind (arith, nat_tests, h)

below_test : (a b : ℕ) → a < b → nat_lt a b ≡ true
below_test a b h = grind (arith, nat_tests, h)

flat_same : {A B : Type 0} (f g : A → List B) (xs : List A) → ((x : A) → Contains xs x → f x ≡ g x) → flat_map f xs ≡ flat_map g xs
flat_same f g [] same = refl
flat_same f g (x ∷ xs) same = λ k. same x (in_head x xs) k ++ flat_same f g xs (λ y h. same y (in_tail x y xs h)) k

module _ (config : ConfigValue) (ms : List Outcomes) (p : List ProgTransform) (i : Instance) (grain : ℕ) (at : IsSituated config p i) (deeper : Option Call) (lm : List Outcomes) (local : IsLocal ms i lm) (settled : IsSettled config (plans_over p deeper i.number i.transform i.sizes) i.number i.transform i.sizes lm)
    (once : (c d : Cell) → IsMadeCell i.transform i.sizes c → IsMadeCell i.transform i.sizes d → number_at i c ≡ number_at i d → c ≡ d) where
  abbrev t : ProgTransform
  t = i.transform

  abbrev plans : Plans
  plans = plans_over p deeper i.number t i.sizes

  abbrev all_jobs : List JobValue
  all_jobs = jobs config p i grain at

  abbrev all_parts : List FramePart
  all_parts = parts config i.number t i.found i.sizes grain (inst config p i grain at) at.valid

  parts_rise : Rises (λ (part : FramePart). part.node) all_parts
  parts_rise = rises_map (λ (e : ℕ × NodeValue). e.0) (λ (part : FramePart). part.node) (frame_part config i.number t i.sizes) (λ e. refl) (filter (has_cell i.sizes) (enumerate_from 0 i.found.nodes))
      (rises_filter (λ (e : ℕ × NodeValue). e.0) (has_cell i.sizes) (enumerate_from 0 i.found.nodes) (rises_numbered 0 i.found.nodes))

  module _ (j : ℕ) (job : JobValue) (e : slice_get all_jobs j ≡ Some job) where
    abbrev stops : List Stop
    stops = stops_of i.found.nodes i.found.order.layers job

    stop_is : (s : Stop) → Contains stops s → IsMadeCell t i.sizes (stop_cell s)
    stop_is s h = made_cell config i.number t i.found i.sizes grain (inst config p i grain at) (stop_cell s) j s.piece (stop_made config i.number t i.found i.sizes grain (inst config p i grain at) at.valid j job e s h)

    -- a job makes each of its cells once
    pub own_once : Once (own_cells i job)
    own_once = once_map (stop_number i) stops (λ k l s at_k at_l. walked_once (steps_by i.found.order.layers job.layer job.rule) (map (spot_of i.found.nodes) job.parts) k l s at_k at_l)
        (λ s r hs hr same. one_piece config i.number t i.found i.sizes grain (inst config p i grain at) at.valid j job e s r hs hr (once (stop_cell s) (stop_cell r) (stop_is s hs) (stop_is r hr) same))

    -- a part of the job that holds a cell
    pub record IsHeld (c : Cell) : Type 0 where
      pub part : FramePart
      pub of : Contains job.parts part
      pub holds : HoldsCell i.found.nodes part c

    abbrev held_is : (c : Cell) → IsHeld c → (l : ℕ) × IsMadeBy all_jobs i.found.nodes c j l
    held_is c h = let l = at_in job.parts h.part h.of in (l.0, record { job = job; is = e; part = h.part; has = l.1; holds = h.holds })

    pub held_own : (c : Cell) → IsHeld c → Contains (own_cells i job) (number_at i c)
    held_own c h = let m = held_is c h in made_own config ms p i grain at plans lm local j m.0 c m.1

    pub held_cell : (c : Cell) → IsHeld c → IsMadeCell t i.sizes c
    held_cell c h = let m = held_is c h in made_cell config i.number t i.found i.sizes grain (inst config p i grain at) c j m.0 m.1

    own_held : (n : ℕ) → Contains (own_cells i job) n → (c : Cell) × IsHeld c × (number_at i c ≡ n)
    own_held n h =
        let s = map_in (stop_number i) stops n h in
        let m = stop_made config i.number t i.found i.sizes grain (inst config p i grain at) at.valid j job e s.0 s.1 in
        let same : m.job ≡ job = some_same m.job job (sym m.is ∙ e) in
        (stop_cell s.0, record { part = m.part; of = subst (λ (w : JobValue). Contains w.parts m.part) same (in_at m.job.parts s.0.piece m.part m.has); holds = m.holds }, s.2)
      where
        some_same : (x y : JobValue) → Some x ≡ Some y → x ≡ y
        some_same x y h = cc

    base_is : (part : FramePart) (n : NodeValue) → slice_get i.found.nodes part.node ≡ Some n → (spot_of i.found.nodes part).base ≡ n.matrix
    base_is part n there = ap (λ o. option_map_or (λ (q : NodeValue). q.matrix) o 0) there

    -- ---- where its cells stand
    -- a place of a part holds a cell
    part_holds : (part : FramePart) → Contains job.parts part → (x y : ℕ) → HasPlace part.rect x y → IsHeld (record { matrix = (spot_of i.found.nodes part).base; x = x; y = y })
    part_holds part of x y place =
        let n = node_of config i.number t i.found i.sizes grain (inst config p i grain at) at.valid part (home config i.number t i.found i.sizes grain (inst config p i grain at) at.valid j job e part of) in
        record { part = part; of = of; holds = record { node = n.0; there = n.1; matrix = sym (base_is part n.0 n.1); place = place } }

    -- a held cell, by the spot of its part
    held_there : (c : Cell) (h : IsHeld c) → IsCellAt ms (seat_in i (spot_of i.found.nodes h.part).base).base (base_x (seat_in i (spot_of i.found.nodes h.part).base) c.x c.y) (base_y (seat_in i (spot_of i.found.nodes h.part).base) c.x c.y) (number_at i c)
    held_there c h =
        let base : (spot_of i.found.nodes h.part).base ≡ c.matrix = base_is h.part h.holds.node h.holds.there ∙ h.holds.matrix in
        subst (λ m. IsCellAt ms (seat_in i m).base (base_x (seat_in i m) c.x c.y) (base_y (seat_in i m) c.x c.y) (number_at i c)) (sym base) (cell_there config ms p i grain at lm local c (held_cell c h).cell)

    pub job_laid : IsLaid config ms (by_job i job)
    unfolding cells_of
    job_laid = record {
      shown = λ b h u v has.
          let f = map_in (through i) (boxes_by t i.sizes job.rule job.parts) b h in
          let d = box_there config p i grain at j job e f.0 f.1 in
          let ends = box_ends config p i grain at j job e f.0 f.1 d.0 d.1 in
          let m = has_matrix ms i lm local f.0.base d.0 d.1 in
          let seat = seat_in i f.0.base in
          let q = place_of_spot seat f.0.rect u v (subst (λ (z : Spot). HasPlace z.rect u v) (sym f.2) has) in
          let cell = cell_has ms seat m.grid m.placed q.0 q.1 (omega (arith, q.2.right, ends.0, m.sides.width, m.placed.width)) (omega (arith, q.2.high, ends.1, m.sides.height, m.placed.height)) in
          (cell_at seat q.0 q.1, cell_moved ms seat.base b.base (base_x seat q.0 q.1) (base_y seat q.0 q.1) u v (cell_at seat q.0 q.1) (ap (λ (z : Spot). z.base) f.2) q.3 q.4 cell);
      parts = λ b h u v has.
          let f = map_in (λ part. through i (spot_of i.found.nodes part)) job.parts b h in
          let seat = seat_in i (spot_of i.found.nodes f.0).base in
          let q = place_of_spot seat f.0.rect u v (subst (λ (z : Spot). HasPlace z.rect u v) (sym f.2) has) in
          let c : Cell = record { matrix = (spot_of i.found.nodes f.0).base; x = q.0; y = q.1 } in
          let held = part_holds f.0 f.1 q.0 q.1 q.2 in
          (number_at i c, cell_moved ms seat.base b.base (base_x seat q.0 q.1) (base_y seat q.0 q.1) u v (number_at i c) (ap (λ (z : Spot). z.base) f.2) q.3 q.4 (cell_there config ms p i grain at lm local c (held_cell c held).cell), held_own c held);
      reads = λ n h.
          let b = job_reads config ms p i grain at lm local j job e h.0 h.1 h.2 h.3 in
          (b.0, b.1, b.2, b.3, b.4, subst (IsCellAt ms b.0.base b.2 b.3) h.4 b.5);
      held = λ n h.
          let c = own_held n h in
          let spot = spot_of i.found.nodes c.1.part in
          let seat = seat_in i spot.base in (
            through i spot,
            in_map (λ part. through i (spot_of i.found.nodes part)) job.parts c.1.part c.1.of,
            base_x seat c.0.x c.0.y,
            base_y seat c.0.x c.0.y,
            spot_place seat c.1.part.rect c.0.x c.0.y c.1.holds.place,
            subst (IsCellAt ms seat.base (base_x seat c.0.x c.0.y) (base_y seat c.0.x c.0.y)) c.2 (held_there c.0 c.1),
          );
    }

    -- ---- the cells that are copied from an output
    abbrev out_rect : Read → Rect
    out_rect o = output_rect i o

    abbrev pieces : Read → List Spot
    pieces o = map (spot_of i.found.nodes) (output_parts i job o)

    abbrev copy_cells : Read → List ℕ
    copy_cells o = map (stop_number i) (walk_of [] (pieces o))

    -- a stop of a copy
    pub record IsCopied (o : Read) (s : Stop) : Type 0 where
      pub held : IsHeld (stop_cell s)
      pub matrix : o.matrix ≡ s.base
      pub place : HasPlace (out_rect o) s.x s.y
      pub index : slice_get (filter (is_part_of i o) job.parts) s.piece ≡ Some held.part

    pub copied_is : (o : Read) (s : Stop) → Contains (walk_of [] (pieces o)) s → IsCopied o s
    copied_is o s h = by (slice_get (pieces o) s.piece) refl (walk_in [] (pieces o) s h)
      where
        by : (q : Option Spot) → slice_get (pieces o) s.piece ≡ q → IsSomeAnd q (λ (z : Spot). (s.base ≡ z.base) × HasPlace z.rect s.x s.y) → IsCopied o s
        by None none is = absurd is
        by (Some z) some is =
            let cut = map_at (spot_of i.found.nodes) (output_parts i job o) s.piece z some in
            let whole = map_at (within (out_rect o)) (filter (is_part_of i o) job.parts) s.piece cut.0 cut.1 in
            let part = whole.0 in
            let among = filter_in (is_part_of i o) job.parts part (in_at (filter (is_part_of i o) job.parts) s.piece part whole.1) in
            let node = node_of config i.number t i.found i.sizes grain (inst config p i grain at) at.valid part (home config i.number t i.found i.sizes grain (inst config p i grain at) at.valid j job e part among.0) in
            let spot : spot_of i.found.nodes (within (out_rect o) part) ≡ z = ap (spot_of i.found.nodes) whole.2 ∙ cut.2 in
            let places = cut_place (out_rect o) part.rect s.x s.y (subst (λ (q : Spot). HasPlace q.rect s.x s.y) (sym spot) is.1) in
            let base : (spot_of i.found.nodes part).base ≡ s.base = ap (λ (q : Spot). q.base) spot ∙ sym is.0 in
            let on = and_parts ((spot_of i.found.nodes part).base == o.matrix) (has_place (cut_by (out_rect o) part.rect)) among.1 in
            record {
              held = record { part = part; of = among.0; holds = record { node = node.0; there = node.1; matrix = sym (base_is part node.0 node.1) ∙ base; place = places.1 } };
              matrix = sym (eqb-true (spot_of i.found.nodes part).base o.matrix on.0) ∙ base;
              place = places.0;
              index = whole.1;
            }

    pub in_copy : (o : Read) (c : Cell) → IsHeld c → o.matrix ≡ c.matrix → HasPlace (out_rect o) c.x c.y → Contains (copy_cells o) (number_at i c)
    in_copy o c h matrix place =
        let base : (spot_of i.found.nodes h.part).base ≡ c.matrix = base_is h.part h.holds.node h.holds.there ∙ h.holds.matrix in
        let cut = place_cut (out_rect o) h.part.rect c.x c.y place h.holds.place in
        let test : is_part_of i o h.part ≡ true = both_true _ _ (eq-eqb (spot_of i.found.nodes h.part).base o.matrix (base ∙ sym matrix)) (some_place (cut_by (out_rect o) h.part.rect) c.x c.y cut) in
        let k = at_in (filter (is_part_of i o) job.parts) h.part (in_filter (is_part_of i o) job.parts h.part h.of test) in
        let s : Stop = record { piece = k.0; base = c.matrix; x = c.x; y = c.y } in
        in_map (stop_number i) (walk_of [] (pieces o)) s (in_walk [] (pieces o) s
        (subst (λ q. IsSomeAnd q (λ (z : Spot). (c.matrix ≡ z.base) × HasPlace z.rect c.x c.y)) (sym (at_map (spot_of i.found.nodes) (output_parts i job o) k.0 (within (out_rect o) h.part) (at_map (within (out_rect o)) (filter (is_part_of i o) job.parts) k.0 h.part k.1))) (sym base, cut)))

    -- each once
    own_piece : (c : Cell) (h : IsHeld c) → IsPiece all_parts h.part
    own_piece c h = home config i.number t i.found i.sizes grain (inst config p i grain at) at.valid j job e h.part h.of

    whole_held : (c : Cell) (h : IsHeld c) → HoldsCell i.found.nodes (own_piece c h).whole c
    whole_held c h = held_whole config i.number t i.found i.sizes grain (inst config p i grain at) h.part (own_piece c h) c h.holds

    same_node : (c d : Cell) → c ≡ d → (h : IsHeld c) (k : IsHeld d) → h.part.node ≡ k.part.node
    same_node c d same h k =
        sym (own_piece c h).node ∙ ap (λ (q : FramePart). q.node) (one_part config i.number t i.found i.sizes (inst config p i grain at) d (own_piece c h).whole (own_piece d k).whole (own_piece c h).among (own_piece d k).among
        (subst (HoldsCell i.found.nodes (own_piece c h).whole) same (whole_held c h)) (whole_held d k)) ∙ (own_piece d k).node

    copy_once : (o : Read) → Once (copy_cells o)
    copy_once o = once_map (stop_number i) (walk_of [] (pieces o)) (λ k l s at_k at_l. walked_once [] (pieces o) k l s at_k at_l) (λ s r hs hr same. one s r (copied_is o s hs) (copied_is o r hr) same)
      where
        rise : Rises (λ (part : FramePart). part.node) (filter (is_part_of i o) job.parts)
        rise = rises_filter (λ (part : FramePart). part.node) (is_part_of i o) job.parts (rising_parts t i.found.order grain all_parts parts_rise j job e)

        one : (s r : Stop) → IsCopied o s → IsCopied o r → stop_number i s ≡ stop_number i r → s ≡ r
        one s r ks kr same =
            let cells = once (stop_cell s) (stop_cell r) (held_cell (stop_cell s) ks.held) (held_cell (stop_cell r) kr.held) same in
            let node : ks.held.part.node ≡ kr.held.part.node = same_node (stop_cell s) (stop_cell r) cells ks.held kr.held in
            let piece = rises_one (λ (q : FramePart). q.node) (filter (is_part_of i o) job.parts) rise s.piece r.piece ks.held.part kr.held.part ks.index kr.index node in
            λ k. record { piece = piece k; base = (cells k).matrix; x = (cells k).x; y = (cells k).y }

    -- ---- a plan
    module _ (k : ℕ) (some : job.rule ≡ Some k) (r : ProgRule) (rule : slice_get t.rules k ≡ Some r) (is : r.kind ≡ kind.Plan) where
      part_rule : (part : FramePart) → Contains job.parts part → (part.rule ≡ k)
      part_rule part of = ((part_of t i.found.order grain all_parts j job (placed t i.found.order grain all_parts j job e) part of).wide k some).0

      wide : is_wide r.kind ≡ true
      wide = ap is_wide is

      -- the plan makes each cell of the job
      chosen_is : (c : Cell) → IsHeld c → chosen_rule config i.number t i.sizes c ≡ k
      chosen_is c h = let m = held_is c h in made_rule config i.number t i.found i.sizes grain (inst config p i grain at) c j m.0 m.1 ∙ part_rule h.part h.of

      pub rule_is : (c : Cell) → IsHeld c → rule_of config plans i.number t i.sizes c ≡ Some r
      rule_is c h = ap (slice_get t.rules) (chosen_is c h) ∙ rule

      law_of : (c : Cell) (h : IsHeld c) → WritesBy t.matrices i.sizes c r.kind r × Applies t.matrices r i.sizes (pos c.x) (pos c.y)
      law_of c h =
          let law = chosen config i.number t i.found i.sizes grain (inst config p i grain at) at.valid c (held_cell c h) in
          let same : law.rule ≡ r = some_same law.rule r (sym law.there ∙ rule_is c h) in
          (subst (λ (q : ProgRule). WritesBy t.matrices i.sizes c q.kind q) same law.can.writes, subst (λ (q : ProgRule). Applies t.matrices q i.sizes (pos c.x) (pos c.y)) same law.can.applies)
        where
          some_same : (x y : ProgRule) → Some x ≡ Some y → x ≡ y
          some_same x y h = cc

      -- some output holds it
      output_of : (c : Cell) → IsHeld c → (m : ℕ) × (o : Read) × (slice_get r.outs m ≡ Some o) × (output_holds t.matrices i.sizes c o ≡ true)
      output_of c h = some_output t.matrices i.sizes c r.outs (by r.kind is (law_of c h).0)
        where
          by : (q : RuleKind) → q ≡ kind.Plan → WritesBy t.matrices i.sizes c q r → list_any (output_holds t.matrices i.sizes c) r.outs ≡ true
          by kind.Cell e w = absurd (cc)
          by kind.Wide e w = w
          by kind.Plan e w = w

      no_overlap : HasNoOverlap (leasts_of t.ranges) t.matrices r.outs
      no_overlap = (all_at (IsAccepted t) t.rules k r (all_at IsBounded p i.number t at.sound.bounded at.there).rules rule).outputs

      -- an output lies within its matrix
      out_within : (c : Cell) → IsHeld c → (m : ℕ) (o : Read) (d : DeclValue) → slice_get r.outs m ≡ Some o → slice_get t.matrices o.matrix ≡ Some d → IsWithin (shown_area t.matrices i.sizes no_cell o) (exact_value d.w i.sizes) (exact_value d.h i.sizes)
      out_within c h m o d at_m decl =
          let applies = applies_same p i.number t at.well at.sound at.there k r rule wide i.sizes (pos c.x) (pos c.y) (pos 0) (pos 0) (law_of c h).1 in
          let w = output_within p i.number t i.sizes at.well at.sound at.there k r rule m o d at_m decl at.range (pos 0) (pos 0) applies in
          let area : area_of i.sizes (pos 0) (pos 0) o d ≡ shown_area t.matrices i.sizes no_cell o = sym (rw decl refl) in
          subst (λ (a : Area). IsWithin a (exact_value d.w i.sizes) (exact_value d.h i.sizes)) area w

      -- it is no column
      out_plain : (m : ℕ) (o : Read) → slice_get r.outs m ≡ Some o → (a : Area) → sides_of_area o.view a ≡ (span_length a.x, span_length a.y)
      out_plain m o at_m a = by o.view refl
        where
          fits : IsOutput t.inputs (length r.outs) o
          fits = at_place (IsOutput t.inputs (length r.outs)) r.outs m o (at_place (IsRule (length t.sizes) t.inputs (length t.matrices) (length p)) t.rules k r (at_place (IsTransform (length p)) p i.number t at.well.transforms at.there).rules rule).outputs at_m

          by : (v : ReadView) → o.view ≡ v → sides_of_area v a ≡ (span_length a.x, span_length a.y)
          by view.Column e = absurd (fits.no_column e)
          by view.Cell e = refl
          by view.Row e = refl
          by view.Region e = refl
          by view.Whole e = refl

      -- ---- the matrices of the plan
      abbrev mm : Names Outcomes
      mm = plan_names p i.number t i.sizes k r deeper (read_matrices t i.sizes r lm)

      abbrev sides : Slot → Sides
      sides = sides_of_slot t.matrices i.sizes r

      -- what it reads doesn't depend on the cell
      reads_same : (c : Cell) → reads t.matrices i.sizes c r ≡ reads t.matrices i.sizes no_cell r
      unfolding reads
      reads_same c = flat_same (cells_of_view t.matrices i.sizes c) (cells_of_view t.matrices i.sizes no_cell) r.reads (λ q h. same q h (slice_get t.matrices q.matrix))
        where
          same : (q : Read) → Contains r.reads q → (o : Option DeclValue) → option_map_or (λ d. area_cells q.matrix (area_of i.sizes (pos c.x) (pos c.y) q d)) o [] ≡ option_map_or (λ d. area_cells q.matrix (area_of i.sizes (pos 0) (pos 0) q d)) o []
          same q h None = refl
          same q h (Some d) = ap (area_cells q.matrix) (shown_same p i.number t at.well at.sound at.there k r rule wide q d h i.sizes (pos c.x) (pos c.y) (pos 0) (pos 0))

      plan_value : (c : Cell) → IsHeld c → outcome_of ms (number_at i c) ≡ unwrap_or (in_outputs_of t i.sizes (named no_grid mm) c 0 r.outs) no_outcome
      unfolding plans_over
      plan_value c h =
          made_value config ms p i grain at plans lm local settled c (held_cell c h) r (rule_is c h)
          ∙ by r.kind is
          ∙ (λ z. plans (chosen_is c h z) r c (map (outcome_in lm) (reads_same c z)))
        where
          by : (q : RuleKind) → q ≡ kind.Plan → made_by config plans i.number t i.sizes q r c (map (outcome_in lm) (reads t.matrices i.sizes c r)) ≡ plans (chosen_rule config i.number t i.sizes c) r c (map (outcome_in lm) (reads t.matrices i.sizes c r))
          by kind.Cell e = absurd (cc)
          by kind.Wide e = absurd (cc)
          by kind.Plan e = refl

      -- where an output's matrix stands
      module _ (known : Cells) (m : ℕ) (o : Read) (at_m : slice_get r.outs m ≡ Some o) (source : Seat) (named_is : IsNamed ms sides known (slot.Out m) source (named no_grid mm (slot.Out m))) where
        abbrev a : Area
        a = shown_area t.matrices i.sizes no_cell o

        sides_are : sides (slot.Out m) ≡ (span_length a.x, span_length a.y)
        sides_are = ap (λ q. option_map_or (sides_of_view t.matrices i.sizes) q (pos 0, pos 0)) at_m ∙ out_plain m o at_m a

        -- how far it goes
        source_sides : (c : Cell) → IsHeld c → (d : DeclValue) → slice_get t.matrices o.matrix ≡ Some d → (across source ≡ natural a.x.high - natural a.x.low) × (down source ≡ natural a.y.high - natural a.y.low)
        source_sides c h d decl =
            let w = out_within c h m o d at_m decl in
            (sym named_is.placed.width ∙ named_is.width ∙ ap (λ (s : Sides). natural s.0) sides_are ∙ span_is a.x (exact_value d.w i.sizes) w.x, sym named_is.placed.height ∙ named_is.height ∙ ap (λ (s : Sides). natural s.1) sides_are ∙ span_is a.y (exact_value d.h i.sizes) w.y)

        -- a held cell of the output
        copy_value : (c : Cell) → IsHeld c → o.matrix ≡ c.matrix → HasPlace (out_rect o) c.x c.y → outcome_of ms (number_at i c) ≡ outcome_of ms (cell_at source (c.x - (out_rect o).x0) (c.y - (out_rect o).y0))
        copy_value c h matrix place =
            let made = held_cell c h in
            let decl : slice_get t.matrices o.matrix ≡ Some made.cell.decl = ap (slice_get t.matrices) matrix ∙ made.cell.there in
            let here : Holds t.matrices i.sizes c o = record { matrix = matrix; decl = made.cell.decl; there = decl; inside = rect_in a c.x c.y place } in
            let first = output_of c h in
            let out = holds_is t.matrices i.sizes c first.1 first.3 in
            let same : first.0 ≡ m = one_output t.matrices i.sizes c (leasts_of t.ranges) at.range r.outs no_overlap first.0 m first.1 o first.2 at_m out here in
            let holds : output_holds t.matrices i.sizes c o ≡ true = (let e = some_same first.1 o (sym first.2 ∙ ap (slice_get r.outs) same ∙ at_m) in subst (λ (q : Read). output_holds t.matrices i.sizes c q ≡ true) e first.3) in
            let value = in_output t i.sizes (named no_grid mm) c r.outs 0 m o at_m holds (λ l q at_l h_l. one_output t.matrices i.sizes c (leasts_of t.ranges) at.range r.outs no_overlap l m q o at_l at_m (holds_is t.matrices i.sizes c q h_l) here) in
            let ends = source_sides c h made.cell.decl decl in
            let x = c.x - natural a.x.low in
            let y = c.y - natural a.y.low in
            let on_x : x < across source = omega (arith, place.left, place.right, ends.0) in
            let on_y : y < down source = omega (arith, place.low, place.high, ends.1) in
            let grid = named no_grid mm (slot.Out m) in
            let cell = named_is.placed.cells x y on_x on_y in
            let test_x = below_test x grid.width (omega (arith, on_x, named_is.placed.width)) in
            let test_y = below_test y grid.height (omega (arith, on_y, named_is.placed.height)) in
            let there : in_grid grid x y ≡ Some cell.0 = rw (test_x, test_y) cell.1 in
            let number : 0 + m ≡ m = omega arith in
            plan_value c h ∙ ap (λ q. unwrap_or q no_outcome) (value ∙ ap (λ n. in_grid (named no_grid mm (slot.Out n)) x y) number ∙ there) ∙ sym cell.2.is
          where
            some_same : (x y : Read) → Some x ≡ Some y → x ≡ y
            some_same x y h = cc

        abbrev copied : Copied
        copied = record { layer = job.layer; rule = job.rule; parts = output_parts i job o; corner = ((out_rect o).x0, (out_rect o).y0); source = source }

        -- a part of what is copied holds a cell
        part_held : (part : FramePart) → Contains (output_parts i job o) part → (c : Cell) × IsHeld c × (o.matrix ≡ c.matrix) × (part.rect.x1 ≤ (out_rect o).x1) × (part.rect.y1 ≤ (out_rect o).y1)
        part_held part h =
            let q = map_in (within (out_rect o)) (filter (is_part_of i o) job.parts) part h in
            let among = filter_in (is_part_of i o) job.parts q.0 q.1 in
            let on = and_parts ((spot_of i.found.nodes q.0).base == o.matrix) (has_place (cut_by (out_rect o) q.0.rect)) among.1 in
            let cut = cut_by (out_rect o) q.0.rect in
            let tests = and_parts (nat_lt cut.x0 cut.x1) (nat_lt cut.y0 cut.y1) on.1 in
            let places = cut_place (out_rect o) q.0.rect cut.x0 cut.y0 (record { left = omega arith; right = test_below cut.x0 cut.x1 tests.0; low = omega arith; high = test_below cut.y0 cut.y1 tests.1 }) in
            let node = node_of config i.number t i.found i.sizes grain (inst config p i grain at) at.valid q.0 (home config i.number t i.found i.sizes grain (inst config p i grain at) at.valid j job e q.0 among.0) in
            let right : cut.x1 ≤ (out_rect o).x1 = omega arith in
            let high : cut.y1 ≤ (out_rect o).y1 = omega arith in (
              record { matrix = node.0.matrix; x = cut.x0; y = cut.y0 },
              record { part = q.0; of = among.0; holds = record { node = node.0; there = node.1; matrix = refl; place = places.1 } },
              sym (eqb-true (spot_of i.found.nodes q.0).base o.matrix on.0) ∙ base_is q.0 node.0 node.1,
              subst (λ (z : FramePart). z.rect.x1 ≤ (out_rect o).x1) q.2 right,
              subst (λ (z : FramePart). z.rect.y1 ≤ (out_rect o).y1) q.2 high,
            )

        copy_laid : IsLaid config ms (by_copy i copied)
        unfolding cells_of
        copy_laid = record {
          shown = λ b h u v has.
              let part = map_in (λ (q : FramePart). spot_at source (from_corner copied.corner q.rect)) (output_parts i job o) b h in
              let held = part_held part.0 part.1 in
              let made = held_cell held.0 held.1 in
              let ends = source_sides held.0 held.1 made.cell.decl (ap (slice_get t.matrices) held.2 ∙ made.cell.there) in
              let q = place_of_spot source (from_corner copied.corner part.0.rect) u v (subst (λ (z : Spot). HasPlace z.rect u v) (sym part.2) has) in
              let cell = cell_has ms source (named no_grid mm (slot.Out m)) named_is.placed q.0 q.1 (omega (arith, q.2.right, ends.0, held.3)) (omega (arith, q.2.high, ends.1, held.4)) in
              (cell_at source q.0 q.1, cell_moved ms source.base b.base (base_x source q.0 q.1) (base_y source q.0 q.1) u v (cell_at source q.0 q.1) (ap (λ (z : Spot). z.base) part.2) q.3 q.4 cell);
          parts = λ b h u v has.
              let f = map_in (λ part. through i (spot_of i.found.nodes part)) (output_parts i job o) b h in
              let whole = map_in (within (out_rect o)) (filter (is_part_of i o) job.parts) f.0 f.1 in
              let among = filter_in (is_part_of i o) job.parts whole.0 whole.1 in
              let on = and_parts ((spot_of i.found.nodes whole.0).base == o.matrix) (has_place (cut_by (out_rect o) whole.0.rect)) among.1 in
              let spot = spot_of i.found.nodes (within (out_rect o) whole.0) in
              let seat = seat_in i spot.base in
              let is : through i spot ≡ b = ap (λ part. through i (spot_of i.found.nodes part)) whole.2 ∙ f.2 in
              let q = place_of_spot seat spot.rect u v (subst (λ (z : Spot). HasPlace z.rect u v) (sym is) has) in
              let places = cut_place (out_rect o) whole.0.rect q.0 q.1 q.2 in
              let c : Cell = record { matrix = (spot_of i.found.nodes whole.0).base; x = q.0; y = q.1 } in
              let held = part_holds whole.0 among.0 q.0 q.1 places.1 in (
                number_at i c,
                cell_moved ms seat.base b.base (base_x seat q.0 q.1) (base_y seat q.0 q.1) u v (number_at i c) (ap (λ (z : Spot). z.base) is) q.3 q.4 (cell_there config ms p i grain at lm local c (held_cell c held).cell),
                in_copy o c held (sym (eqb-true (spot_of i.found.nodes whole.0).base o.matrix on.0)) places.0,
              );
          reads = λ n h.
              let s = h.0 in
              let k = copied_is o s h.1 in
              let made = held_cell (stop_cell s) k.held in
              let ends = source_sides (stop_cell s) k.held made.cell.decl (ap (slice_get t.matrices) k.matrix ∙ made.cell.there) in
              let part = within (out_rect o) k.held.part in
              let cut = place_cut (out_rect o) k.held.part.rect s.x s.y k.place k.held.holds.place in
              let x = s.x - (out_rect o).x0 in
              let y = s.y - (out_rect o).y0 in
              let on_x : x < across source = omega (arith, k.place.left, k.place.right, ends.0) in
              let on_y : y < down source = omega (arith, k.place.low, k.place.high, ends.1) in
              let place : HasPlace (from_corner copied.corner part.rect) x y = record { left = omega (arith, cut.left); right = omega (arith, cut.right, k.place.left); low = omega (arith, cut.low); high = omega (arith, cut.high, k.place.low) } in (
                spot_at source (from_corner copied.corner part.rect),
                in_map (λ (q : FramePart). spot_at source (from_corner copied.corner q.rect)) (output_parts i job o) part (in_map (within (out_rect o)) (filter (is_part_of i o) job.parts) k.held.part (in_at (filter (is_part_of i o) job.parts) s.piece k.held.part k.index)),
                base_x source x y,
                base_y source x y,
                spot_place source (from_corner copied.corner part.rect) x y place,
                subst (IsCellAt ms source.base (base_x source x y) (base_y source x y)) h.2 (cell_has ms source (named no_grid mm (slot.Out m)) named_is.placed x y on_x on_y),
              );
          held = λ n h.
              let s = map_in (stop_number i) (walk_of [] (pieces o)) n h in
              let k = copied_is o s.0 s.1 in
              let c = stop_cell s.0 in
              let part = within (out_rect o) k.held.part in
              let spot = spot_of i.found.nodes part in
              let seat = seat_in i spot.base in (
                through i spot,
                in_map (λ z. through i (spot_of i.found.nodes z)) (output_parts i job o) part (in_map (within (out_rect o)) (filter (is_part_of i o) job.parts) k.held.part (in_at (filter (is_part_of i o) job.parts) s.0.piece k.held.part k.index)),
                base_x seat c.x c.y,
                base_y seat c.x c.y,
                spot_place seat part.rect c.x c.y (place_cut (out_rect o) k.held.part.rect c.x c.y k.place k.held.holds.place),
                subst (IsCellAt ms seat.base (base_x seat c.x c.y) (base_y seat c.x c.y)) s.2 (held_there c k.held),
              );
        }

        copy_made : IsMade config ms known (by_copy i copied)
        copy_made = record {
          from = tt;
          given = tt;
          reads = λ b h c cell.
              let part = map_in (λ (q : FramePart). spot_at source (from_corner copied.corner q.rect)) (output_parts i job o) b h in
              let held = part_held part.0 part.1 in
              let made = held_cell held.0 held.1 in
              let ends = source_sides held.0 held.1 made.cell.decl (ap (slice_get t.matrices) held.2 ∙ made.cell.there) in
              let back = spot_back ms source (named no_grid mm (slot.Out m)) named_is.placed (from_corner copied.corner part.0.rect) (omega (arith, ends.0, held.3)) (omega (arith, ends.1, held.4)) c (subst (λ q. SpotCell ms q c) (sym part.2) cell) in
              inl (named_is.cells c (back.0, back.1, omega (arith, back.2.right, ends.0, held.3), omega (arith, back.2.high, ends.1, held.4), back.3));
          right = λ s h. (let is_copied = copied_is o s h in copy_value (stop_cell s) is_copied.held is_copied.matrix is_copied.place);
          laid = copy_laid;
        }

      -- ---- all copies
      copy_steps : (known : Cells) (m : ℕ) (o : Read) (at_m : slice_get r.outs m ≡ Some o) (source : Seat) → IsNamed ms sides known (slot.Out m) source (named no_grid mm (slot.Out m)) → (all : List FramePart) → output_parts i job o ≡ all
          → Sound config ms known (copy_step i job source ((out_rect o).x0, (out_rect o).y0) all)
      copy_steps known m o at_m source named_is [] e = tt
      copy_steps known m o at_m source named_is (part ∷ rest) e =
          (subst (λ l. IsMade config ms known (by_copy i (record { layer = job.layer; rule = job.rule; parts = l; corner = ((out_rect o).x0, (out_rect o).y0); source = source }))) e (copy_made known m o at_m source named_is), tt)

      pub copies_sound : (known : Cells) (names : Names Seat) → ((m : ℕ) → m < length r.outs → IsNamed ms sides known (slot.Out m) (named no_seat names (slot.Out m)) (named no_grid mm (slot.Out m)))
          → (n : ℕ) (outs : List Read) → ((m : ℕ) (o : Read) → slice_get outs m ≡ Some o → slice_get r.outs (n + m) ≡ Some o) → Sound config ms known (copies_of i job names n outs)
      copies_sound known names are n [] there = tt
      copies_sound known names are n (o ∷ outs) there =
          let number : n + 0 ≡ n = omega arith in
          let at_n : slice_get r.outs n ≡ Some o = ap (slice_get r.outs) (sym number) ∙ there 0 o refl in
          let source = named no_seat names (slot.Out n) in
          let step = copy_step i job source ((out_rect o).x0, (out_rect o).y0) (output_parts i job o) in
          let rest = copies_of i job names (n + 1) outs in
          sound_append config ms known step rest (copy_steps known n o at_n source (are n (get_below r.outs n o at_n)) (output_parts i job o) refl)
          (sound_more config ms known (with_cells known (cells_in step)) rest (λ c k. inl k) (copies_sound known names are (n + 1) outs (λ m q at_m. (let next : n + suc m ≡ (n + 1) + m = omega arith in ap (slice_get r.outs) (sym next) ∙ there (suc m) q at_m))))

      -- their cells
      step_cells : (source : Seat) (corner : ℕ × ℕ) (all : List FramePart) → cells_in (copy_step i job source corner all) ≡ map (stop_number i) (walk_of [] (map (spot_of i.found.nodes) all))
      unfolding cells_of walk_of
      step_cells source corner [] = refl
      step_cells source corner (part ∷ rest) = append_none (map (stop_number i) (walk_of [] (map (spot_of i.found.nodes) (part ∷ rest))))
        where
          append_none : (xs : List ℕ) → xs ++ [] ≡ xs
          append_none [] = refl
          append_none (x ∷ xs) = ap (λ l. x ∷ l) (append_none xs)

      copies_cells : (names : Names Seat) (n : ℕ) (outs : List Read) → cells_in (copies_of i job names n outs) ≡ flat_map copy_cells outs
      copies_cells names n [] = refl
      copies_cells names n (o ∷ outs) =
          let step = copy_step i job (named no_seat names (slot.Out n)) ((out_rect o).x0, (out_rect o).y0) (output_parts i job o) in
          cells_append step (copies_of i job names (n + 1) outs) ∙ (λ z. step_cells (named no_seat names (slot.Out n)) ((out_rect o).x0, (out_rect o).y0) (output_parts i job o) z ++ copies_cells names (n + 1) outs z)

      -- what is copied from an output holds its place
      holds_of : (o : Read) (s : Stop) → IsCopied o s → Holds t.matrices i.sizes (stop_cell s) o
      holds_of o s h =
          let made = held_cell (stop_cell s) h.held in
          record { matrix = h.matrix; decl = made.cell.decl; there = ap (slice_get t.matrices) h.matrix ∙ made.cell.there; inside = rect_in (shown_area t.matrices i.sizes no_cell o) s.x s.y h.place }

      all_once : Once (flat_map copy_cells r.outs)
      all_once = once_flat copy_cells r.outs (λ n o at_n. copy_once o) (λ l m o q b at_l at_m in_o in_q.
          let s = map_in (stop_number i) (walk_of [] (pieces o)) b in_o in
          let z = map_in (stop_number i) (walk_of [] (pieces q)) b in_q in
          let ks = copied_is o s.0 s.1 in
          let kz = copied_is q z.0 z.1 in
          let cells = once (stop_cell s.0) (stop_cell z.0) (held_cell (stop_cell s.0) ks.held) (held_cell (stop_cell z.0) kz.held) (s.2 ∙ sym z.2) in
          one_output t.matrices i.sizes (stop_cell z.0) (leasts_of t.ranges) at.range r.outs no_overlap l m o q at_l at_m (subst (λ c. Holds t.matrices i.sizes c o) cells (holds_of o s.0 ks)) (holds_of q z.0 kz))

      pub copies_count : (names : Names Seat) (n : ℕ) → counted n (cells_in (copies_of i job names 0 r.outs)) ≡ counted n (own_cells i job)
      copies_count names n = ap (counted n) (copies_cells names 0 r.outs) ∙ counted_same n (flat_map copy_cells r.outs) (own_cells i job) all_once own_once
          (λ h.
          let o = flat_in copy_cells r.outs n h in
          let s = map_in (stop_number i) (walk_of [] (pieces o.0)) n o.2 in
          subst (Contains (own_cells i job)) s.2 (held_own (stop_cell s.0) (copied_is o.0 s.0 s.1).held))
          (λ h.
          let c = own_held n h in
          let out = output_of c.0 c.1 in
          let holds = holds_is t.matrices i.sizes c.0 out.1 out.3 in
          in_flat copy_cells r.outs out.1 n (in_at r.outs out.0 out.1 out.2) (subst (Contains (copy_cells out.1)) c.2 (in_copy out.1 c.0 c.1 holds.matrix (in_rect (shown_area t.matrices i.sizes no_cell out.1) c.0.x c.0.y holds.inside))))
