-- The steps of a call of the product, at sizes (n, h, n): how many there are, and what they make and read.
use Rattle.std.proofs.Common.{◌≡◌, ◌∙◌, refl, sym, ap, ap₂, subst, ℕ, zero, suc, ◌+◌, ◌-◌, ◌*◌, ◌/◌, ◌≤◌, ◌<◌, pos, Bool, true, false, List, [], ◌∷◌, ◌++◌, length, map, filter, slice_get, Option, Some, None, Ok, arith}
use Rattle.std.specs.Prelude.{if◌then◌else◌}
use Rattle.std.specs.List.{AllByRecursion, flat_map, zip}
use Rattle.std.specs.Option.{option_map_or}
use Rattle.std.proofs.lemmas.List.{length-append, map-append}
use Rattle.std.proofs.lemmas.List.Elements.{filter-append}
use Rattle.pb_linear.specs.Numbers.{value_before}
use Rattle.pb_linear.specs.declared.boxes.Sign.{Sign}
use Rattle.pb_links.specs.declared.places.Spot.{Spot}
use Rattle.pb_values.specs.declared.rect.Rect.{Rect}
use Rattle.pb_config.specs.Reading.{config_read}
use Rattle.pb_program.specs.declared.plan.Slot.TheVariants as slot
use Rattle.pb_program.specs.declared.view.ReadView.{ReadView}
use Rattle.pb_program.specs.declared.view.ReadView.TheVariants as view
use Rattle.pb_program.specs.declared.view.Read.{Read}
use Rattle.pb_program.specs.Configs.{ConfigValue}
use Rattle.pb_program.specs.Plans.{PlanCallValue}
use Rattle.pb_program.specs.Trees.{ProgTransform}
use Rattle.pb_model.specs.Equations.{shown_area}
use Rattle.pb_check.specs.Orders.{AnalysisValue, IsAnalysis}
use Rattle.pb_frame.specs.Frames.{JobValue, spans, within}
use Rattle.pb_frame.specs.declared.part.FramePart.{FramePart}
use Rattle.pb_plan.specs.Boxes.{boxes_by, part_box, part_boxes, rect_from, spot_of}
use Rattle.pb_recursion.specs.Plans.{Names, named, names_of_reads, no_cell}
use Rattle.pb_recursion.specs.Shapes.{Sides, sizes_from}
use Rattle.pb_views.specs.declared.seat.Seat.{Seat}
use Rattle.pb_views.specs.Seats.{is_turning, no_seat, part_seat, sides_of_seat}
use Rattle.pb_runs.specs.Steps.{Instance, Step, boxes_of, by_job, parts_of, seat_in, through}
use Rattle.pb_runs.specs.Unrolled.{Done, Met, Played, Unroll, Unrolled, after_call, after_matrices, copies_of, copy_step, deeper_unroll, found_for, given_back, instance_of, is_part_of, job_done, jobs_done, no_unrolled, output_parts, output_rect, own_sides, plan_done, played, unroll, unroll_one, unrolled_at, unrolled_by, unrolled_of, view_seat}
use Rattle.pb_runs.proofs.SeatLemmas.{part_across, part_down}
use Rattle.pb_demo.specs.Demonstrations.{demo_config}
use Rattle.pb_demo.proofs.Product.{written}
use Rattle.pb_demo.proofs.Trees.{program}
use Rattle.pb_demo_runs.proofs.Choice.{picks}
use Rattle.pb_demo_runs.proofs.Lists.{each_joined, each_weaker, if_true}
use Rattle.pb_demo_runs.proofs.Roll.{nth_out, nth_read}
use Rattle.pb_demo_runs.proofs.Halves.{calls_are, halving, lower, lower_fits, sizes_are, upper, upper_fits, written_there}
use Rattle.pb_demo_answers.proofs.Jobs.{IsHalving, IsLeaf, IsPiece, halving_count, halving_jobs, jobs, leaf_count, leaf_jobs}

-- ---- steps that read inputs alone, and others
abbrev pub is_linked : Step → Bool
is_linked (by_job i job) = false
is_linked _ = true

abbrev pub AreHigh : List Spot → Type 0
AreHigh spots = AllByRecursion (λ (s : Spot). 2 ≤ s.base) spots

abbrev pub AreLow : List Spot → Type 0
AreLow spots = AllByRecursion (λ (s : Spot). s.base < 2) spots

abbrev pub OfInputs : Step → Type 0
OfInputs (by_job i job) = AreLow (boxes_of (by_job i job))
OfInputs _ = Unit {0}

-- at most so many jobs, and so many others; all make cells of matrices after the two inputs, and jobs read the inputs alone
pub record AreFew (own linked : ℕ) (steps : List Step) : Type 0 where
  pub all : length steps ≤ own + linked
  pub others : length (filter is_linked steps) ≤ linked
  pub made : AllByRecursion (λ s. AreHigh (parts_of s)) steps
  pub read : AllByRecursion OfInputs steps

few_append : (a b c d : ℕ) (xs ys : List Step) → AreFew a b xs → AreFew c d ys → AreFew (a + c) (b + d) (xs ++ ys)
few_append a b c d xs ys f g = record {
  all = omega (arith, length-append xs ys, f.all, g.all);
  others = omega (arith, ap length (filter-append is_linked xs ys), length-append (filter is_linked xs) (filter is_linked ys), f.others, g.others);
  made = each_joined (λ s. AreHigh (parts_of s)) xs ys f.made g.made;
  read = each_joined OfInputs xs ys f.read g.read;
}

pub few_more : (a b c d : ℕ) (xs : List Step) → AreFew a b xs → a ≤ c → b ≤ d → AreFew c d xs
few_more a b c d xs f p q = record { all = omega (arith, f.all, p, q); others = omega (arith, f.others, q); made = f.made; read = f.read }

few_none : AreFew 0 0 []
few_none = record { all = omega arith; others = omega arith; made = tt; read = tt }

-- ---- seats of views
seat_sides : (v : ReadView) (s : Seat) (r : Rect) → is_turning v ≡ false → sides_of_seat (part_seat v s r) ≡ (let p : Sides = (pos (r.x1 - r.x0), pos (r.y1 - r.y0)) in p)
seat_sides v s r e =
    ap₂ (λ (x y : ℕ). (let p : Sides = (pos x, pos y) in p)) (part_across v s r ∙ ap (λ (b : Bool). if b then r.y1 - r.y0 else r.x1 - r.x0) e)
    (part_down v s r ∙ ap (λ (b : Bool). if b then r.x1 - r.x0 else r.y1 - r.y0) e)

all_mapped : {A B C : Type 0} (P : C → Type 0) (f : B → C) (g : A → List B) (xs : List A) → AllByRecursion (λ x. AllByRecursion P (map f (g x))) xs → AllByRecursion P (map f (flat_map g xs))
all_mapped P f g [] h = tt
all_mapped P f g (x ∷ xs) h = subst (AllByRecursion P) (sym (map-append f (g x) (flat_map g xs))) (each_joined P (map f (g x)) (map f (flat_map g xs)) h.0 (all_mapped P f g xs h.1))

all_over : {A B : Type 0} (P : A → Type 0) (Q : B → Type 0) (f : A → B) → ((x : A) → P x → Q (f x)) → (xs : List A) → AllByRecursion P xs → AllByRecursion Q (map f xs)
all_over P Q f each [] h = tt
all_over P Q f each (x ∷ xs) h = (each x h.0, all_over P Q f each xs h.1)

all_kept : {A : Type 0} (P : A → Type 0) (p : A → Bool) (xs : List A) → AllByRecursion P xs → AllByRecursion P (filter p xs)
all_kept P p [] h = tt
all_kept P p (x ∷ xs) h = by (p x) refl (all_kept P p xs h.1)
  where
    by : (b : Bool) → p x ≡ b → AllByRecursion P (filter p xs) → AllByRecursion P (filter p (x ∷ xs))
    by true e rest = rw e (h.0, rest)
    by false e rest = rw e rest

pub same_sides : {a b c d : ℕ} → a ≡ c → b ≡ d → (let p : Sides = (pos a, pos b) in p) ≡ (let p : Sides = (pos c, pos d) in p)
same_sides e f = cc

module _ (found : List AnalysisValue) (a : AnalysisValue) (found_there : slice_get found 1 ≡ Some a) (is : IsAnalysis written a) (config : ConfigValue) (said : config_read (program 0) (demo_config 0) ≡ Ok config) (n : ℕ) (some : 1 ≤ n) (few : n ≤ 256) where
  abbrev unrolled : ℕ → List Seat → Met → Unrolled
  unrolled d given m = unroll (program 0) found config 16 d 1 given m

  module _ (h : ℕ) (tall : 1 ≤ h) (low : h ≤ n) (left right : Seat) (of_left : sides_of_seat left ≡ (let p : Sides = (pos n, pos h) in p)) (of_right : sides_of_seat right ≡ (let p : Sides = (pos n, pos n) in p))
      (left_low : left.base < 2) (right_low : right.base < 2) (m : Met) (high : 2 ≤ m.matrices) where
    abbrev sizes : List ℕ
    sizes = n ∷ h ∷ n ∷ []

    abbrev given : List Seat
    given = left ∷ right ∷ []

    abbrev i : Instance
    i = instance_of 1 written a sizes given m

    abbrev after_own : Met
    after_own = after_matrices (after_call m) (own_sides written sizes)

    abbrev the_jobs : List JobValue
    the_jobs = jobs a is config said n h some few tall low

    abbrev IsOne : FramePart → Type 0
    IsOne = IsPiece a is config said n h some few tall low

    sizes_bound : sizes_from written (map sides_of_seat given) ≡ sizes
    sizes_bound = ap₂ (λ (x y : Sides). sizes_from written (x ∷ y ∷ [])) of_left of_right ∙ sizes_are n h

    one_is : (deeper : Option Unroll) → unroll_one (program 0) found config 16 deeper 1 given m ≡ unrolled_at (program 0) found config 16 deeper 1 written a sizes given m
    one_is deeper =
        ap (λ (o : Option ProgTransform). option_map_or (found_for (program 0) found config 16 deeper 1 given m) o (no_unrolled m)) written_there
        ∙ ap (λ (o : Option AnalysisValue). option_map_or (unrolled_of (program 0) found config 16 deeper 1 given m written) o (no_unrolled m)) found_there
        ∙ ap (λ (ks : List ℕ). unrolled_at (program 0) found config 16 deeper 1 written a ks given m) sizes_bound

    unroll_is : (d : ℕ) → unrolled d given m ≡ unrolled_at (program 0) found config 16 (deeper_unroll (program 0) found config 16 d) 1 written a sizes given m
    unfolding unroll
    unroll_is zero = one_is None
    unroll_is (suc d) = one_is (Some (unroll (program 0) found config 16 d))

    -- what a part makes stands in the matrix of the call
    high_part : (part : FramePart) → IsOne part → 2 ≤ (through i (spot_of a.nodes part)).base
    high_part part p =
        let base : (spot_of a.nodes part).base ≡ 2 = ap (λ (o : Option _). option_map_or (λ q. q.matrix) o 0) p.1 ∙ p.2 in
        subst (λ (k : ℕ). 2 ≤ (seat_in i k).base) (sym base) high

    low_part : (part : FramePart) → part.rule ≡ 0 → AreLow (map (through i) (part_boxes written sizes part))
    low_part part e = subst (λ (k : ℕ). AreLow (map (through i) (option_map_or (λ rule. map (part_box written.matrices sizes part.rect) rule.reads) (slice_get written.rules k) []))) (sym e) (left_low, (right_low, tt))

    -- ---- where cells are made one by one
    module _ (leaf : picks n h ≡ 0) where
      one_leaf : (job : JobValue) → IsLeaf a is config said n h some few tall low leaf job → AreFew 1 0 (by_job i job ∷ [])
      one_leaf job l = record {
        all = omega arith;
        others = omega arith;
        made = (all_over IsOne (λ (s : Spot). 2 ≤ s.base) (λ part. through i (spot_of a.nodes part)) high_part job.parts l.parts, tt);
        read = (
          subst (λ (o : Option ℕ). AreLow (map (through i) (boxes_by written sizes o job.parts))) (sym l.rule)
              (all_mapped (λ (s : Spot). s.base < 2) (through i) (part_boxes written sizes) job.parts
              (each_weaker IsOne (λ (part : FramePart). AreLow (map (through i) (part_boxes written sizes part))) (λ part p. low_part part (p.3 ∙ leaf)) job.parts l.parts)),
          tt,
        );
      }

      leaf_done : (deeper : Option Unroll) (js : List JobValue) (k : Met) → AllByRecursion (IsLeaf a is config said n h some few tall low leaf) js
          → AreFew (length js) 0 (jobs_done (program 0) deeper i js k).steps × ((jobs_done (program 0) deeper i js k).next ≡ k)
      leaf_done deeper [] k each = (few_none, refl)
      leaf_done deeper (job ∷ rest) k each =
          let later = leaf_done deeper rest k each.1 in
          subst (λ (d : Done). AreFew (suc (length rest)) 0 (d.steps ++ (jobs_done (program 0) deeper i rest d.next).steps) × ((jobs_done (program 0) deeper i rest d.next).next ≡ k))
          (sym (ap (λ (o : Option ℕ). job_done (program 0) deeper i o job k) each.0.rule)) (few_more _ _ _ _ _ (few_append 1 0 (length rest) 0 (by_job i job ∷ []) _ (one_leaf job each.0) later.0) (omega arith) (omega arith), later.1)

      pub leaf_few : (d most : ℕ) → ((cut : Option Sign) (top : ℕ) → top ≤ h → length (spans cut 16 top) ≤ most) → AreFew (16 * most) 0 (unrolled d given m).steps × (2 ≤ (unrolled d given m).next.matrices)
      leaf_few d most spanned =
          let done = leaf_done (deeper_unroll (program 0) found config 16 d) the_jobs after_own (leaf_jobs a is config said n h some few tall low leaf) in
          subst (λ (u : Unrolled). AreFew (16 * most) 0 u.steps × (2 ≤ u.next.matrices)) (sym (unroll_is d))
          (few_more _ _ _ _ _ done.0 (leaf_count a is config said n h some few tall low leaf most spanned) (omega arith), subst (λ (k : Met). 2 ≤ k.matrices) (sym done.1) (omega (arith, high)))

    -- ---- where rows are halved
    module _ (plan : picks n h ≡ 3) (two : 2 ≤ h) (d : ℕ) where
      abbrev deeper : Unroll
      deeper = unroll (program 0) found config 16 d

      abbrev seen : ℕ → Seat
      seen k = view_seat i (nth_read k halving)

      abbrev shown : ℕ → Rect
      shown k = rect_from (shown_area written.matrices sizes no_cell (nth_read k halving))

      upper_sides : sides_of_seat (seen 0) ≡ (let p : Sides = (pos n, pos (h / 2)) in p)
      unfolding value_before
      upper_sides = seat_sides view.Region (seat_in i 0) (shown 0) refl ∙ same_sides (omega arith) (omega arith)

      lower_sides : sides_of_seat (seen 1) ≡ (let p : Sides = (pos n, pos (h - h / 2)) in p)
      unfolding value_before
      lower_sides = seat_sides view.Region (seat_in i 0) (shown 1) refl ∙ same_sides (omega arith) (omega arith)

      whole_sides : sides_of_seat (seen 2) ≡ (let p : Sides = (pos n, pos n) in p)
      unfolding value_before
      whole_sides = seat_sides view.Whole (seat_in i 1) (shown 2) refl ∙ same_sides (omega arith) (omega arith)

      abbrev make : PlanCallValue → List Seat → Met → Unrolled
      make = unrolled_by (program 0) i 3 halving (Some deeper)

      abbrev names : Names Seat
      names = names_of_reads (map (view_seat i) halving.reads)

      past_upper : (ss : List Seat) (k : ℕ) → named no_seat (zip (slot.Out 0 ∷ []) ss ++ names) (slot.Read k) ≡ named no_seat names (slot.Read k)
      past_upper [] k = refl
      past_upper (s ∷ ss) k = refl

      is_upper : (gs : List Seat) (k : Met) → make upper gs k ≡ given_back (program 0) upper (deeper 1 gs k)
      is_upper gs k = if_true _ _ _ (upper_fits n h some few two low)

      is_lower : (gs : List Seat) (k : Met) → make lower gs k ≡ given_back (program 0) lower (deeper 1 gs k)
      is_lower gs k = if_true _ _ _ (lower_fits n h some few two low)

      abbrev Counts : ℕ → Unrolled → Type 0
      Counts rows u = AreFew (16 * rows) (2 * rows - 2) u.steps × (2 ≤ u.next.matrices)

      -- what a call with fewer rows is unrolled to
      abbrev Fewer : ℕ → Type 0
      Fewer rows = (l r : Seat) → sides_of_seat l ≡ (let p : Sides = (pos n, pos rows) in p) → sides_of_seat r ≡ (let p : Sides = (pos n, pos n) in p) → l.base < 2 → r.base < 2 → (k : Met) → 2 ≤ k.matrices → Counts rows (deeper 1 (l ∷ r ∷ []) k)

      module _ (of_upper : Fewer (h / 2)) (of_lower : Fewer (h - h / 2)) where
        abbrev first : Met → Unrolled
        first k = make upper (map (named no_seat names) upper.arguments) k

        abbrev second : Met → Unrolled
        second k = make lower (map (named no_seat (zip upper.targets (first k).seats ++ names)) lower.arguments) (first k).next

        first_counts : (k : Met) → 2 ≤ k.matrices → Counts (h / 2) (first k)
        first_counts k above = subst (Counts (h / 2)) (sym (is_upper _ k)) (of_upper (seen 0) (seen 2) upper_sides whole_sides left_low right_low k above)

        second_counts : (k : Met) → 2 ≤ k.matrices → Counts (h - h / 2) (second k)
        second_counts k above =
            subst (Counts (h - h / 2)) (sym (is_lower _ (first k).next))
            (subst (λ (gs : List Seat). Counts (h - h / 2) (deeper 1 gs (first k).next)) (sym (ap₂ (λ (x y : Seat). x ∷ y ∷ []) (past_upper (first k).seats 1) (past_upper (first k).seats 2)))
            (of_lower (seen 1) (seen 2) lower_sides whole_sides left_low right_low (first k).next (first_counts k above).1))

        abbrev both : Met → Played
        both k = played make (upper ∷ lower ∷ []) names k

        both_few : (k : Met) → 2 ≤ k.matrices → AreFew (16 * h) (2 * h - 4) (both k).steps × (2 ≤ (both k).next.matrices)
        both_few k above =
            let one = first_counts k above in
            let other = second_counts k above in
            let joined = few_append _ _ _ _ (first k).steps ((second k).steps ++ []) one.0 (few_append _ _ 0 0 (second k).steps [] other.0 few_none) in
            (few_more _ _ _ _ _ joined (omega arith) (omega (arith, two)), other.1)

        -- the copies of what both calls make
        copy_few : (job : JobValue) (source : Seat) (corner : ℕ × ℕ) (ps : List FramePart) → AllByRecursion IsOne ps → AreFew 0 1 (copy_step i job source corner ps)
        copy_few job source corner [] pieces = few_more 0 0 0 1 [] few_none (omega arith) (omega arith)
        copy_few job source corner (p ∷ ps) pieces = record {
          all = omega arith;
          others = omega arith;
          made = (all_over IsOne (λ (s : Spot). 2 ≤ s.base) (λ part. through i (spot_of a.nodes part)) high_part (p ∷ ps) pieces, tt);
          read = (tt, tt);
        }

        pieces_of : (job : JobValue) → AllByRecursion IsOne job.parts → (o : Read) → AllByRecursion IsOne (output_parts i job o)
        pieces_of job pieces o = all_over IsOne IsOne (within (output_rect i o)) (λ part p. p) _ (all_kept IsOne (is_part_of i o) job.parts pieces)

        copies_few : (job : JobValue) (ns : Names Seat) → AllByRecursion IsOne job.parts → AreFew 0 2 (copies_of i job ns 0 halving.outs)
        copies_few job ns pieces =
            few_append 0 1 0 1 (copy_step i job _ _ _) _ (copy_few job _ _ _ (pieces_of job pieces (nth_out 0 halving)))
            (few_append 0 1 0 0 (copy_step i job _ _ _) [] (copy_few job _ _ _ (pieces_of job pieces (nth_out 1 halving))) few_none)

        plan_few : (job : JobValue) → AllByRecursion IsOne job.parts → (k : Met) → 2 ≤ k.matrices
            → AreFew (16 * h) (2 * h - 2) (plan_done (program 0) (Some deeper) i job 3 halving k).steps × (2 ≤ (plan_done (program 0) (Some deeper) i job 3 halving k).next.matrices)
        plan_few job pieces k above =
            let calls = both_few k above in
            subst (λ (q : Played). AreFew (16 * h) (2 * h - 2) (q.steps ++ copies_of i job q.names 0 halving.outs) × (2 ≤ q.next.matrices)) (sym (ap (λ (cs : List PlanCallValue). played make cs names k) calls_are))
            (few_more _ _ _ _ _ (few_append _ _ 0 2 (both k).steps _ calls.0 (copies_few job (both k).names pieces)) (omega arith) (omega (arith, two)), calls.1)

        halving_done : (js : List JobValue) (k : Met) → 2 ≤ k.matrices → length js ≤ 1 → AllByRecursion (IsHalving a is config said n h some few tall low plan) js
            → AreFew (16 * h) (2 * h - 2) (jobs_done (program 0) (Some deeper) i js k).steps × (2 ≤ (jobs_done (program 0) (Some deeper) i js k).next.matrices)
        halving_done [] k above one each = (few_more 0 0 _ _ [] few_none (omega arith) (omega arith), above)
        halving_done (job ∷ other ∷ rest) k above one each = absurd (omega (arith, one))
        halving_done (job ∷ []) k above one each =
            let it = plan_few job each.0.parts k above in
            subst (λ (done : Done). AreFew (16 * h) (2 * h - 2) (done.steps ++ []) × (2 ≤ done.next.matrices)) (sym (ap (λ (o : Option ℕ). job_done (program 0) (Some deeper) i o job k) each.0.rule))
            (few_more _ _ _ _ _ (few_append _ _ 0 0 _ [] it.0 few_none) (omega arith) (omega arith), it.1)

        pub halving_few : Counts h (unrolled (suc d) given m)
        halving_few =
            subst (Counts h) (sym (unroll_is (suc d)))
            (halving_done the_jobs after_own (omega (arith, high)) (halving_count a is config said n h some few tall low plan) (halving_jobs a is config said n h some few tall low plan))
