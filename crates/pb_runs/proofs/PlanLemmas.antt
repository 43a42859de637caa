-- A job of a plan: its calls over what it reads, and its copies.
use Rattle.std.proofs.Common.{◌≡◌, ◌∙◌, refl, sym, ap, subst, ⊎_elim, ℕ, zero, suc, ◌+◌, ◌-◌, ◌<◌, ◌≤◌, ◌^◌, pos, Bool, true, false, List, [], ◌∷◌, ◌++◌, length, map, slice_get, Option, Some, None, arith}
use Rattle.std.specs.Prelude.{slice_index_or, if◌then◌else◌}
use Rattle.std.specs.List.{Contains, range_with_len}
use Rattle.std.specs.Option.{option_map_or}
use Rattle.std.proofs.lemmas.Bool.{cases_lt}
use Rattle.std.proofs.lemmas.Int.{ints}
use Rattle.std.proofs.lemmas.Option.{slice_get_within}
use Rattle.pb_linear.specs.Numbers.{exact_value}
use Rattle.pb_values.specs.Views.{HasPlace}
use Rattle.pb_values.specs.declared.rect.Rect.{Rect}
use Rattle.pb_values.specs.declared.outcome.Kind.{Kind}
use Rattle.pb_values.specs.declared.shape.TheConstants.{MOST_SIDE}
use Rattle.pb_program.specs.Areas.{Area, area_of, from_start}
use Rattle.pb_program.specs.Configs.{ConfigValue}
use Rattle.pb_program.specs.Forms.{DeclValue}
use Rattle.pb_program.specs.Plans.{PlanCallValue}
use Rattle.pb_program.specs.Trees.{ProgRule, ProgTransform}
use Rattle.pb_program.specs.WellFormed.{IsRule, IsTransform, IsView, variables}
use Rattle.pb_program.specs.declared.plan.Slot.{Slot}
use Rattle.pb_program.specs.declared.plan.Slot.TheVariants as slot
use Rattle.pb_program.specs.declared.rule.RuleKind.{RuleKind}
use Rattle.pb_program.specs.declared.rule.RuleKind.TheVariants as kind
use Rattle.pb_program.specs.declared.view.Read.{Read}
use Rattle.pb_program.specs.declared.view.ReadView.{ReadView}
use Rattle.pb_region.specs.Within.{IsWithin}
use Rattle.pb_region.proofs.SmallLemmas.{at_place}
use Rattle.pb_base.proofs.ListLemmas.{at_in, in_at, in_map, in_none}
use Rattle.pb_calls.proofs.InsideLemmas.{output_within}
use Rattle.pb_model.specs.Calls.{IsSettled, Outcomes, outcome_in}
use Rattle.pb_model.specs.Cells.{Cell, cells_of_view, natural, reads}
use Rattle.pb_model.specs.Equations.{corner, trap_place}
use Rattle.pb_model.specs.Grids.{no_grid}
use Rattle.pb_check.specs.Ranked.{IsMadeCell}
use Rattle.pb_check.proofs.FirstLemmas.{some_at}
use Rattle.pb_frame.specs.Frames.{JobValue}
use Rattle.pb_plan.specs.Boxes.{boxes_by, shown_at, whole_box}
use Rattle.pb_solution.proofs.OutcomeLemmas.{index_at}
use Rattle.pb_recursion.specs.Depths.{made_by_call, plan_names, plans_over, trapped_by}
use Rattle.pb_recursion.specs.Plans.{Names, after_call, calls_of_rule, named, names_of_reads, no_cell, no_sides, sides_of_slot, sides_of_view}
use Rattle.pb_recursion.specs.Shapes.{Sides}
use Rattle.pb_recursion.proofs.OrderedLemmas.{plan_ordered}
use Rattle.pb_runs.specs.Matrices.{Below, call_below, call_matrices, calls_matrices, read_matrices}
use Rattle.pb_views.specs.declared.seat.Seat.{Seat}
use Rattle.pb_views.specs.Seats.{across, cell_at, down, is_turning, no_seat, part_seat}
use Rattle.pb_runs.specs.Steps.{Instance, cells_in, number_at, seat_in, through}
use Rattle.pb_runs.specs.Unrolled.{Done, Met, Played, Unroll, copies_of, plan_done, plan_played, unrolled_by, view_seat}
use Rattle.pb_runs.proofs.BaseLemmas.{Reaches, Stands}
use Rattle.pb_runs.proofs.BoxLemmas.{IsSituated, jobs, natural_le, whole_applies, whole_within}
use Rattle.pb_runs.proofs.CalledLemmas.{AreDeeper, AreNatural, calls_called}
use Rattle.pb_runs.proofs.CopyLemmas.{copies_count, copies_sound}
use Rattle.pb_runs.proofs.CountLemmas.{counted, counted_append}
use Rattle.pb_runs.proofs.JobLemmas.{IsKnown, box_known, own_cells}
use Rattle.pb_runs.proofs.OriginLemmas.{IsSmallTrap}
use Rattle.pb_runs.proofs.NameLemmas.{AreNamed, IsNamed, name_of_read}
use Rattle.pb_runs.proofs.PlayedLemmas.{IsPlayed, all_played, of_calls}
use Rattle.pb_runs.proofs.SeatLemmas.{HasCell, part_across, part_cell, part_down, part_x, part_y}
use Rattle.pb_recursion.specs.Counts.{Counted, Counter, call_count, plan_count}
use Rattle.pb_runs.proofs.TallyLemmas.{Tallies}
use Rattle.pb_runs.proofs.SoundLemmas.{Cells, Sound, cells_append, sound_append, with_cells}
use Rattle.pb_runs.proofs.SpotLemmas.{spot_cell}
use Rattle.pb_runs.proofs.ViewLemmas.{IsLocal, cut_is, has_matrix, natural_end, one_cut, view_count, view_placed}
use Rattle.pb_runs.specs.Placed.{SpotCell, greatest_side, total}

-- a cell of what a view shows lies in its rectangle
part_place : (v : ReadView) (s : Seat) (r : Rect) (c : ℕ) → HasCell (part_seat v s r) c → (x : ℕ) × (y : ℕ) × HasPlace r x y × (c ≡ cell_at s x y)
part_place v s r c h = (part_x v s r h.0 h.1, part_y v s r h.0 h.1, by (is_turning v) (subst (λ n. h.0 < n) (part_across v s r) h.2) (subst (λ n. h.1 < n) (part_down v s r) h.3), h.4 ∙ part_cell v s r h.0 h.1)
  where
    by : (b : Bool) → h.0 < (if b then r.y1 - r.y0 else r.x1 - r.x0) → h.1 < (if b then r.x1 - r.x0 else r.y1 - r.y0) → HasPlace r (r.x0 + (if b then h.1 else h.0)) (r.y0 + (if b then h.0 else h.1))
    by true on_x on_y = record { left = omega arith; right = omega (arith, on_y); low = omega arith; high = omega (arith, on_x) }
    by false on_x on_y = record { left = omega arith; right = omega (arith, on_x); low = omega arith; high = omega (arith, on_y) }

index_past : {A : Type 0} (xs : List A) (k : ℕ) (d : A) → length xs ≤ k → slice_index_or xs k d ≡ d
index_past [] k d h = refl
index_past (x ∷ xs) zero d h = absurd (omega (arith, h))
index_past (x ∷ xs) (suc k) d h = index_past xs k d (omega (arith, h))

get_past : {A : Type 0} (xs : List A) (k : ℕ) → length xs ≤ k → slice_get xs k ≡ None
get_past [] k h = refl
get_past (x ∷ xs) zero h = absurd (omega (arith, h))
get_past (x ∷ xs) (suc k) h = get_past xs k (omega (arith, h))

map_get : {A B : Type 0} (f : A → B) (xs : List A) (k : ℕ) (x : A) → slice_get xs k ≡ Some x → slice_get (map f xs) k ≡ Some (f x)
map_get f [] k x e = absurd (let wrong : None ≡ Some x = e in cc)
map_get f (y ∷ xs) zero x e = let some : Some y ≡ Some x = e in let same : y ≡ x = cc in ap (λ z. Some (f z)) same
map_get f (y ∷ xs) (suc k) x e = map_get f xs k x e

map_length : {A B : Type 0} (f : A → B) (xs : List A) → length (map f xs) ≡ length xs
map_length f [] = refl
map_length f (x ∷ xs) = ap suc (map_length f xs)

-- what is left of a job: its steps over what is known, its own cells and those of the calls below it, and what is met
pub record IsDone (config : ConfigValue) (ms : List Outcomes) (known : Cells) (n : Met) (d : Done) (own : List ℕ) (mats : List Outcomes) (k : Counted) : Type 0 where
  pub sound : Sound config ms known d.steps
  pub counts : (c : ℕ) → counted c (cells_in d.steps) ≡ counted c own + counted c (range_with_len n.cells (total mats))
  pub reaches : Reaches ms n mats d.next
  pub tally : Tallies n d.next mats k

module _ (config : ConfigValue) (ms : List Outcomes) (p : List ProgTransform) (i : Instance) (grain : ℕ) (at : IsSituated config p i) (deeper : Option Unroll) (below : Option Below) (counter : Option Counter) (lm : List Outcomes) (local : IsLocal ms i lm)
    (settled : IsSettled config (plans_over p (call_below below) i.number i.transform i.sizes) i.number i.transform i.sizes lm)
    (once : (c d : Cell) → IsMadeCell i.transform i.sizes c → IsMadeCell i.transform i.sizes d → number_at i c ≡ number_at i d → c ≡ d) where
  abbrev t : ProgTransform
  t = i.transform

  module _ (j : ℕ) (job : JobValue) (e : slice_get (jobs config p i grain at) j ≡ Some job) (k : ℕ) (some : job.rule ≡ Some k) (r : ProgRule) (rule : slice_get t.rules k ≡ Some r) (is : r.kind ≡ kind.Plan) (known : Cells) (k_known : IsKnown config ms p i grain at (plans_over p (call_below below) i.number t i.sizes) lm local known j) where
    abbrev sides : Slot → Sides
    sides = sides_of_slot t.matrices i.sizes r

    abbrev cell_list : Read → List Cell
    cell_list v = cells_of_view t.matrices i.sizes no_cell v

    read_there : (m : ℕ) (v : Read) → slice_get r.reads m ≡ Some v → (d : DeclValue) × (slice_get t.matrices v.matrix ≡ Some d)
    read_there m v at_m =
        let fits = at_place (IsTransform (length p)) p i.number t at.well.transforms at.there in
        let rule_is = at_place (IsRule (length t.sizes) t.inputs (length t.matrices) (length p)) t.rules k r fits.rules rule in
        some_at t.matrices v.matrix (at_place (IsView (length t.sizes) (variables r.outs) (length t.matrices)) r.reads m v rule_is.reads at_m).matrix

    -- what the reads show
    matrices_are : read_matrices t i.sizes r lm ≡ map (λ v. one_cut (sides_of_view t.matrices i.sizes v) (map (outcome_in lm) (cell_list v))) r.reads
    unfolding reads
    matrices_are = cut_is (sides_of_view t.matrices i.sizes) cell_list (outcome_in lm) r.reads (λ m v at_m.
        let d = read_there m v at_m in
        view_count ms i lm local v d.0 d.1 (whole_within config p i grain at j job e k some r rule v d.0 (in_at r.reads m v at_m) d.1))

    -- its cells are known
    view_known : (m : ℕ) (v : Read) → slice_get r.reads m ≡ Some v → (c : ℕ) → HasCell (view_seat i v) c → known c
    view_known m v at_m c has =
        let d = read_there m v at_m in
        let within = whole_within config p i grain at j job e k some r rule v d.0 (in_at r.reads m v at_m) d.1 in
        let h = has_matrix ms i lm local v.matrix d.0 d.1 in
        let box = whole_box t.matrices i.sizes v in
        let place = part_place v.view (seat_in i v.matrix) box.rect c has in
        let right : box.rect.x1 ≤ across (seat_in i v.matrix) = (let end = span_end (shown_at t.matrices i.sizes v 0 0) d.0 within in omega (arith, end.0, h.sides.width, h.placed.width)) in
        let high : box.rect.y1 ≤ down (seat_in i v.matrix) = (let end = span_end (shown_at t.matrices i.sizes v 0 0) d.0 within in omega (arith, end.1, h.sides.height, h.placed.height)) in
        let cell : SpotCell ms (through i box) c = subst (SpotCell ms (through i box)) (sym place.3) (spot_cell ms (seat_in i v.matrix) h.grid h.placed box.rect right high place.0 place.1 place.2) in
        let listed : Contains (boxes_by t i.sizes (Some k) job.parts) box = subst (λ o. Contains (option_map_or (λ (q : ProgRule). map (whole_box t.matrices i.sizes) q.reads) o []) box) (sym rule) (in_map (whole_box t.matrices i.sizes) r.reads v (in_at r.reads m v at_m)) in
        ⊎_elim (λ yes_known. yes_known) (λ block. absurd (let wrong : Some k ≡ None = sym some ∙ block.0 in cc))
        (box_known config ms p i grain at (plans_over p (call_below below) i.number t i.sizes) lm local known j job e k_known box (subst (λ o. Contains (boxes_by t i.sizes o job.parts) box) (sym some) listed) c cell)
      where
        span_end : (a : Area) (d : DeclValue) → IsWithin a (exact_value d.w i.sizes) (exact_value d.h i.sizes) → (natural a.x.high ≤ natural (exact_value d.w i.sizes)) × (natural a.y.high ≤ natural (exact_value d.h i.sizes))
        span_end a d w = (natural_end a.x (exact_value d.w i.sizes) w.x (natural (exact_value d.w i.sizes)) refl, natural_end a.y (exact_value d.h i.sizes) w.y (natural (exact_value d.h i.sizes)) refl)

    -- the reads have their names
    reads_named : AreNamed ms sides known [] (names_of_reads (map (view_seat i) r.reads)) (names_of_reads (read_matrices t i.sizes r lm))
    reads_named (slot.Out m) given = absurd (in_none (slot.Out m) given)
    reads_named (slot.Local m) given = absurd (in_none (slot.Local m) given)
    reads_named (slot.Read m) given = ⊎_elim here past (cases_lt m (length r.reads))
      where
        seat_is : named no_seat (names_of_reads (map (view_seat i) r.reads)) (slot.Read m) ≡ slice_index_or (map (view_seat i) r.reads) m no_seat
        seat_is = name_of_read no_seat (map (view_seat i) r.reads) m

        grid_is : named no_grid (names_of_reads (read_matrices t i.sizes r lm)) (slot.Read m) ≡ slice_index_or (read_matrices t i.sizes r lm) m no_grid
        grid_is = name_of_read no_grid (read_matrices t i.sizes r lm) m

        Named : Seat → Outcomes → Type 0
        Named s g = IsNamed ms sides known (slot.Read m) s g

        here : m < length r.reads → IsNamed ms sides known (slot.Read m) (named no_seat (names_of_reads (map (view_seat i) r.reads)) (slot.Read m)) (named no_grid (names_of_reads (read_matrices t i.sizes r lm)) (slot.Read m))
        here low =
            let v = some_at r.reads m low in
            let d = read_there m v.0 v.1 in
            let within = whole_within config p i grain at j job e k some r rule v.0 d.0 (in_at r.reads m v.0 v.1) d.1 in
            let grid = one_cut (sides_of_view t.matrices i.sizes v.0) (map (outcome_in lm) (cell_list v.0)) in
            let seat = index_at (map (view_seat i) r.reads) m (view_seat i v.0) no_seat (map_get (view_seat i) r.reads m v.0 v.1) in
            let shown = ap (λ l. slice_index_or l m no_grid) matrices_are ∙ index_at (map (λ w. one_cut (sides_of_view t.matrices i.sizes w) (map (outcome_in lm) (cell_list w))) r.reads) m grid no_grid (map_get (λ w. one_cut (sides_of_view t.matrices i.sizes w) (map (outcome_in lm) (cell_list w))) r.reads m v.0 v.1) in
            let its_sides : sides (slot.Read m) ≡ sides_of_view t.matrices i.sizes v.0 = ap (λ o. option_map_or (sides_of_view t.matrices i.sizes) o no_sides) v.1 in
            let made : IsNamed ms sides known (slot.Read m) (view_seat i v.0) grid = record {
              placed = view_placed ms i lm local v.0 d.0 d.1 within (has_matrix ms i lm local v.0.matrix d.0 d.1);
              width = ap (λ (s : Sides). natural s.0) (sym its_sides);
              height = ap (λ (s : Sides). natural s.1) (sym its_sides);
              cells = view_known m v.0 v.1;
            } in
            subst (λ s. IsNamed ms sides known (slot.Read m) s (named no_grid (names_of_reads (read_matrices t i.sizes r lm)) (slot.Read m))) (sym (seat_is ∙ seat)) (subst (λ g. IsNamed ms sides known (slot.Read m) (view_seat i v.0) g) (sym (grid_is ∙ shown)) made)

        past : length r.reads ≤ m → IsNamed ms sides known (slot.Read m) (named no_seat (names_of_reads (map (view_seat i) r.reads)) (slot.Read m)) (named no_grid (names_of_reads (read_matrices t i.sizes r lm)) (slot.Read m))
        past high =
            let count = map_length (view_seat i) r.reads in
            let seat = index_past (map (view_seat i) r.reads) m no_seat (omega (arith, high, count)) in
            let count_shown = map_length (λ w. one_cut (sides_of_view t.matrices i.sizes w) (map (outcome_in lm) (cell_list w))) r.reads in
            let shown = ap (λ l. slice_index_or l m no_grid) matrices_are ∙ index_past (map (λ w. one_cut (sides_of_view t.matrices i.sizes w) (map (outcome_in lm) (cell_list w))) r.reads) m no_grid (omega (arith, high, count_shown)) in
            let its_sides : sides (slot.Read m) ≡ no_sides = ap (λ o. option_map_or (sides_of_view t.matrices i.sizes) o no_sides) (get_past r.reads m high) in
            let made : IsNamed ms sides known (slot.Read m) no_seat no_grid = record {
              placed = record { width = refl; height = refl; whole = refl; wide = omega arith; tall = omega arith; cells = λ x y on_x on_y. absurd (omega (arith, on_x)) };
              width = ap (λ (s : Sides). natural s.0) (sym its_sides);
              height = ap (λ (s : Sides). natural s.1) (sym its_sides);
              cells = λ c has. absurd (let low = has.2 in omega (arith, low));
            } in
            subst (λ s. IsNamed ms sides known (slot.Read m) s (named no_grid (names_of_reads (read_matrices t i.sizes r lm)) (slot.Read m))) (sym (seat_is ∙ seat)) (subst (λ g. IsNamed ms sides known (slot.Read m) no_seat g) (sym (grid_is ∙ shown)) made)

    -- ---- its calls
    calls_same : (calls : List PlanCallValue) (names : Names Outcomes) → calls_matrices p i.number t i.sizes k r below calls names ≡ of_calls config ms sides (unrolled_by p i k r deeper) (made_by_call p i.number t i.sizes k r (call_below below)) (call_matrices p i.number t i.sizes k r below) (call_count p t i.sizes counter r) calls names
    calls_same [] names = refl
    calls_same (c ∷ calls) names = ap (λ l. call_matrices p i.number t i.sizes k r below c (map (named no_grid names) c.arguments) ++ l) (calls_same calls (after_call no_grid (made_by_call p i.number t i.sizes k r (call_below below)) c names))

    abbrev mats : List Outcomes
    mats = calls_matrices p i.number t i.sizes k r below (calls_of_rule r) (names_of_reads (read_matrices t i.sizes r lm))

    abbrev played : Met → Played
    played n = plan_played p i k r deeper n

    -- where a trap of the plan stands
    corner_short : greatest_side ms ≤ MOST_SIDE → (outs : List Read) → ((m : ℕ) (o : Read) → slice_get outs m ≡ Some o → Contains r.outs o) → ((corner t.matrices i.sizes no_cell outs).0 < 2 ^ 23) × ((corner t.matrices i.sizes no_cell outs).1 < 2 ^ 23)
    corner_short short [] same = (omega arith, omega arith)
    corner_short short (o ∷ rest) same = by (slice_get t.matrices o.matrix) refl
      where
        by : (q : Option DeclValue) → slice_get t.matrices o.matrix ≡ q → (natural (option_map_or (area_of i.sizes (pos 0) (pos 0) o) q (record { x = from_start (pos 0); y = from_start (pos 0) })).x.low < 2 ^ 23) × (natural (option_map_or (area_of i.sizes (pos 0) (pos 0) o) q (record { x = from_start (pos 0); y = from_start (pos 0) })).y.low < 2 ^ 23)
        by None there = (omega arith, omega arith)
        by (Some d) there =
            let n = at_in r.outs o (same 0 o refl) in
            let w = output_within p i.number t i.sizes at.well at.sound at.there k r rule n.0 o d n.1 there at.range (pos 0) (pos 0) (whole_applies config p i grain at j job e k some r rule) in
            let h = has_matrix ms i lm local o.matrix d there in
            let left = natural_le (area_of i.sizes (pos 0) (pos 0) o d).x.low (exact_value d.w i.sizes) (omega (arith, ints, w.x.order, w.x.end)) in
            let low = natural_le (area_of i.sizes (pos 0) (pos 0) o d).y.low (exact_value d.h i.sizes) (omega (arith, ints, w.y.order, w.y.end)) in
            (omega (arith, left, h.sides.width, h.placed.wide, short), omega (arith, low, h.sides.height, h.placed.tall, short))

    traps : (q : Kind) → IsSmallTrap config ms (trapped_by i.number t i.sizes k r q)
    traps q short =
        let fits = at_place (IsTransform (length p)) p i.number t at.well.transforms at.there in
        let corner_is = corner_short short r.outs (λ m o at_m. in_at r.outs m o at_m) in
        let place : ((trap_place t.matrices i.sizes no_cell r.kind r.outs).0 < 2 ^ 23) × ((trap_place t.matrices i.sizes no_cell r.kind r.outs).1 < 2 ^ 23) = subst (λ (g : RuleKind). ((trap_place t.matrices i.sizes no_cell g r.outs).0 < 2 ^ 23) × ((trap_place t.matrices i.sizes no_cell g r.outs).1 < 2 ^ 23)) (sym is) corner_is in
        (omega (arith, at.well.few, slice_get_within p i.number t at.there), omega (arith, fits.few_rules, slice_get_within t.rules k r rule), place.0, place.1)

    plan_is_played : AreDeeper config ms p deeper below counter → AreNatural config ms p → (n : Met) → Stands ms n mats
        → IsPlayed config ms sides (unrolled_by p i k r deeper) (made_by_call p i.number t i.sizes k r (call_below below)) (call_matrices p i.number t i.sizes k r below) (call_count p t i.sizes counter r) (length r.outs) known n (played n) (of_calls config ms sides (unrolled_by p i k r deeper) (made_by_call p i.number t i.sizes k r (call_below below)) (call_matrices p i.number t i.sizes k r below) (call_count p t i.sizes counter r) (calls_of_rule r) (names_of_reads (read_matrices t i.sizes r lm))) (plan_names p i.number t i.sizes k r (call_below below) (read_matrices t i.sizes r lm)) (plan_count p t i.sizes counter (k, r))
    plan_is_played are_deeper naturals n stands =
        all_played config ms sides (unrolled_by p i k r deeper) (made_by_call p i.number t i.sizes k r (call_below below)) (call_matrices p i.number t i.sizes k r below) (call_count p t i.sizes counter r) (calls_called config ms p i k r traps deeper below counter are_deeper naturals) (length r.outs) (calls_of_rule r) known n []
        (names_of_reads (map (view_seat i) r.reads)) (names_of_reads (read_matrices t i.sizes r lm)) (plan_ordered p i.number t k r at.well at.sound at.there rule is) reads_named (subst (Stands ms n) (calls_same (calls_of_rule r) (names_of_reads (read_matrices t i.sizes r lm))) stands)

    -- ---- the job
    pub plan_job : AreDeeper config ms p deeper below counter → AreNatural config ms p → (n : Met) → Stands ms n mats → IsDone config ms known n (plan_done p deeper i job k r n) (own_cells i job) mats (plan_count p t i.sizes counter (k, r))
    plan_job are_deeper naturals n stands =
        let is_played = plan_is_played are_deeper naturals n stands in
        let pl = played n in
        let known2 = with_cells known (cells_in pl.steps) in
        let copies = copies_of i job pl.names 0 r.outs in
        let same = calls_same (calls_of_rule r) (names_of_reads (read_matrices t i.sizes r lm)) in
        let number : (m : ℕ) → 0 + m ≡ m = λ m. omega arith in
        record {
          sound = sound_append config ms known pl.steps copies is_played.sound
              (copies_sound config ms p i grain at (call_below below) lm local settled once j job e k some r rule is known2 pl.names (λ m low. is_played.named (slot.Out m) (is_played.outs m low)) 0 r.outs (λ m o at_m. ap (slice_get r.outs) (number m) ∙ at_m));
          counts = λ c.
              let first = is_played.counts c in
              let second = copies_count config ms p i grain at (call_below below) lm local settled once j job e k some r rule is pl.names c in
              let total_same = ap (λ l. counted c (range_with_len n.cells (total l))) same in
              let joined = ap (counted c) (cells_append pl.steps copies) ∙ counted_append c (cells_in pl.steps) (cells_in copies) in
              joined ∙ omega (arith, first, second, total_same);
          reaches = subst (λ l. Reaches ms n l pl.next) (sym same) is_played.reaches;
          tally = subst (λ l. Tallies n pl.next l (plan_count p t i.sizes counter (k, r))) (sym same) is_played.tally;
        }
