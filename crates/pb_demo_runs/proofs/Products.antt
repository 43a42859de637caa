-- A run of the product traps no cell.
use Rattle.std.proofs.Common.{◌≡◌, ◌∙◌, refl, sym, ap, ap₂, subst, inl, inr, ℕ, zero, suc, ◌+◌, ◌-◌, ◌*◌, ◌/◌, ◌^◌, ◌≤◌, ◌<◌, Bool, true, false, List, [], ◌∷◌, ◌++◌, length, map, take, drop, slice_get, Option, Some, Ok, pos, arith}
use Rattle.std.specs.Prelude.{if◌then◌else◌, unwrap_or}
use Rattle.std.specs.Prelude.{◌==◌}
use Rattle.std.specs.List.{All, AllByRecursion, Contains, zip}
use Rattle.std.specs.Option.{option_map_or}
use Rattle.std.proofs.lemmas.Bool.{cases_lt}
use Rattle.std.proofs.lemmas.Int.{ints}
use Rattle.std.proofs.lemmas.List.{append-nil, length-append, length-drop, length-map, length-take-le}
use Rattle.pb_linear.specs.Numbers.{value_before}
use Rattle.pb_values.specs.declared.outcome.Outcome.{Outcome}
use Rattle.pb_config.specs.Reading.{config_read}
use Rattle.pb_program.specs.declared.plan.Slot.{Slot}
use Rattle.pb_program.specs.declared.plan.Slot.TheVariants as slot
use Rattle.pb_program.specs.declared.rule.RuleKind.TheVariants as kind
use Rattle.pb_program.specs.declared.view.Read.{Read}
use Rattle.pb_program.specs.Areas.{Area}
use Rattle.pb_program.specs.Configs.{ConfigValue, IsValid}
use Rattle.pb_program.specs.Plans.{PlanCallValue}
use Rattle.pb_program.specs.Trees.{ProgRule, ProgTransform}
use Rattle.pb_program.specs.WellFormed.{IsWellFormed}
use Rattle.pb_model.specs.Calls.{IsSettled, Outcomes, Plans, call_of, cell_equation, cell_reads, in_matrices, made_by, made_cells, no_outcome, outcome_in}
use Rattle.pb_model.specs.Cells.{Cell, cells_of, reads}
use Rattle.pb_model.specs.Chosen.{chosen_rule}
use Rattle.pb_model.specs.Equations.{own_outcome, rule_gives, shown_area}
use Rattle.pb_model.specs.Grids.{at_place, no_grid}
use Rattle.pb_model.specs.Lawful.{output_holds}
use Rattle.pb_calls.proofs.Handed.{all_at}
use Rattle.pb_check.specs.Orders.{IsOrdered}
use Rattle.pb_recursion.specs.Depths.{Call, IsWhole, call_at, cut_into, in_outputs_of, made_by_call, plans_at, plans_over, sides_of_matrix, sizes_given}
use Rattle.pb_recursion.specs.Plans.{Names, after_call, after_calls, calls_of_rule, named, names_of_reads, sides_of_view}
use Rattle.pb_recursion.specs.Shapes.{Sides, can_enter, sizes_from}
use Rattle.pb_recursion.proofs.DepthLemmas.{call_is, depth_settled}
use Rattle.pb_gen.specs.Texts.{text_of}
use Rattle.pb_demo.specs.Demonstrations.{demo_config}
use Rattle.pb_demo.proofs.Accepted.{multiply_accepted}
use Rattle.pb_demo.proofs.Found.{formed}
use Rattle.pb_demo.proofs.Grids.{all_of}
use Rattle.pb_demo.proofs.Product.{written}
use Rattle.pb_demo.proofs.Trees.{program}
use Rattle.pb_demo_runs.proofs.Choice.{chosen_is, high_picks, low_picks, picks, small_picks}
use Rattle.pb_demo_runs.proofs.Dots.{area_count, is_number, pair_of, reads_count}
use Rattle.pb_demo_runs.proofs.Halves.{calls_are, dotting, dotting_there, enters, halving, halving_there, lower, lower_fits, reads_are, sizes_are, upper, upper_fits, written_there}
use Rattle.pb_demo_runs.proofs.Made.{made_numbers}
use Rattle.pb_demo_runs.proofs.Lists.{each_dropped, each_joined, each_taken, if_true}
use Rattle.pb_demo_runs.proofs.Nines.{AllHold, Holds, IsNine, IsNumber, at_any}
use Rattle.pb_demo_runs.proofs.Places.{IsLow, is_made, reads_low}
use Rattle.pb_demo_runs.proofs.Roll.{nth_read}
use Rattle.pb_demo_runs.proofs.Settled.{as_rule}

-- ---- the equation of a cell whose rule is a plan
as_plan : (config : ConfigValue) (plans : Plans) (number : ℕ) (t : ProgTransform) (sizes : List ℕ) (c : Cell) (f : Cell → Outcome) (k : ℕ) (r : ProgRule) → chosen_rule config number t sizes c ≡ k → slice_get t.rules k ≡ Some r → r.kind ≡ kind.Plan
    → cell_equation config plans number t sizes c (map f (cell_reads config plans number t sizes c)) ≡ plans k r c (map f (reads t.matrices sizes c r))
unfolding cell_equation cell_reads
as_plan config plans number t sizes c f k r e at plan =
    let there : slice_get t.rules (chosen_rule config number t sizes c) ≡ Some r = subst (λ i. slice_get t.rules i ≡ Some r) (sym e) at in
    ap (λ (o : Option ProgRule). option_map_or (λ q. made_by config plans number t sizes q.kind q c (map f (option_map_or (reads t.matrices sizes c) o []))) o no_outcome) there
    ∙ ap (λ w. made_by config plans number t sizes w r c (map f (reads t.matrices sizes c r))) plan ∙ ap (λ (i : ℕ). plans i r c (map f (reads t.matrices sizes c r))) e

-- ---- names of which each output names a matrix of numbers
abbrev OutHolds : Slot × Outcomes → Type 0
OutHolds (slot.Out k, m) = Holds IsNumber m
OutHolds (_, m) = Unit {0}

named_outs : (ns : Names Outcomes) → AllByRecursion OutHolds ns → (k : ℕ) → Holds IsNumber (named no_grid ns (slot.Out k))
named_outs [] h k = tt
named_outs ((slot.Read j, m) ∷ ns) h k = named_outs ns h.1 k
named_outs ((slot.Local j, m) ∷ ns) h k = named_outs ns h.1 k
named_outs ((slot.Out j, m) ∷ ns) h k = by (j == k) h.0 (named_outs ns h.1 k)
  where
    by : (b : Bool) → Holds IsNumber m → Holds IsNumber (named no_grid ns (slot.Out k)) → Holds IsNumber (if b then m else named no_grid ns (slot.Out k))
    by true here later = here
    by false here later = later

zip_outs : (k : ℕ) (ms : List Outcomes) → AllHold IsNumber ms → AllByRecursion OutHolds (zip (slot.Out k ∷ []) ms)
zip_outs k [] h = tt
zip_outs k (m ∷ ms) h = (h.0, tt)

outputs_number : (t : ProgTransform) (sizes : List ℕ) (m : Slot → Outcomes) → ((k : ℕ) → Holds IsNumber (m (slot.Out k))) → (c : Cell) (k : ℕ) (outs : List Read) → IsNumber (unwrap_or (in_outputs_of t sizes m c k outs) no_outcome)
outputs_number t sizes m each c k [] = tt
outputs_number t sizes m each c k (o ∷ outs) = by (output_holds t.matrices sizes c o) _ _ (outputs_number t sizes m each c (k + 1) outs)
  where
    by : (b : Bool) (x y : ℕ) → IsNumber (unwrap_or (in_outputs_of t sizes m c (k + 1) outs) no_outcome) → IsNumber (unwrap_or (if b then at_place (m (slot.Out k)) x y else in_outputs_of t sizes m c (k + 1) outs) no_outcome)
    by true x y later = at_any IsNumber tt (m (slot.Out k)) x y (each k)
    by false x y later = later

-- ---- matrices that are given: all their cells are there, from -9 to 9
pub record IsGiven (w h : ℕ) (m : Outcomes) : Type 0 where
  pub width : m.width ≡ w
  pub height : m.height ≡ h
  pub whole : IsWhole m
  pub nine : Holds IsNine m

taken_given : (w h : ℕ) (cells : List Outcome) → w * h ≤ length cells → AllByRecursion IsNine cells → IsGiven w h (record { width = w; height = h; cells = take (w * h) cells })
taken_given w h cells enough nine = record { width = refl; height = refl; whole = length-take-le (w * h) cells enough; nine = each_taken IsNine (w * h) cells nine }

low_nine : (a b : Outcomes) (rest : List Outcomes) → Holds IsNine a → Holds IsNine b → (c : Cell) → IsLow c → IsNine (outcome_in (a ∷ b ∷ rest) c)
unfolding in_matrices
low_nine a b rest p q c low = by c.matrix c.x c.y low
  where
    by : (m x y : ℕ) → m < 2 → IsNine (outcome_in (a ∷ b ∷ rest) (record { matrix = m; x = x; y = y }))
    by zero x y low = at_any IsNine (omega arith) a x y p
    by (suc zero) x y low = at_any IsNine (omega arith) b x y q
    by (suc (suc m)) x y low = absurd (omega (arith, low))

seen_nine : (f : Cell → Outcome) → ((c : Cell) → IsLow c → IsNine (f c)) → (cs : List Cell) → AllByRecursion IsLow cs → AllByRecursion IsNine (map f cs)
seen_nine f each [] h = tt
seen_nine f each (c ∷ cs) h = (each c h.0, seen_nine f each cs h.1)

pub well : IsWellFormed (program 0)
well = formed (text_of 0) (program 0) multiply_accepted

ordered : IsOrdered written
ordered = all_at IsOrdered (program 0) 1 written multiply_accepted.sound.ordered written_there

module _ (config : ConfigValue) (said : config_read (program 0) (demo_config 0) ≡ Ok config) (valid : IsValid (program 0) config) (n : ℕ) (some : 1 ≤ n) (few : n ≤ 256) where
  abbrev Untrapped : ℕ → ℕ → Type 0
  Untrapped d h = (a b : Outcomes) → IsGiven n h a → IsGiven n n b → AllHold IsNumber (call_at (program 0) config d 1 (a ∷ b ∷ []))

  -- ---- a call, whose cells are numbers if each cell's equation gives one
  module _ (d h : ℕ) (tall : 1 ≤ h) (low : h ≤ n) (a b : Outcomes) (of_a : IsGiven n h a) (of_b : IsGiven n n b) where
    abbrev sizes : List ℕ
    sizes = n ∷ h ∷ n ∷ []

    abbrev ins : List Outcomes
    ins = a ∷ b ∷ []

    sides_are : map sides_of_matrix ins ≡ (pos n, pos h) ∷ (pos n, pos n) ∷ []
    sides_are = ap₂ (λ (p q : ℕ × ℕ). (pos p.0, pos p.1) ∷ (pos q.0, pos q.1) ∷ []) (pair_of of_a.width of_a.height) (pair_of of_b.width of_b.height)

    sizes_same : sizes_given written ins ≡ sizes
    sizes_same = ap (sizes_from written) sides_are ∙ sizes_are n h

    all_whole : All IsWhole ins
    all_whole = all_of IsWhole ins (of_a.whole, (of_b.whole, tt))

    abbrev plans : Plans
    plans = plans_at (program 0) config d 1 written sizes

    abbrev made : List Outcomes
    made = call_of config plans 1 written sizes ins

    made_is : call_at (program 0) config d 1 ins ≡ made
    made_is = call_is (program 0) config d 1 written ins written_there ∙ ap (λ (ks : List ℕ). call_of config (plans_at (program 0) config d 1 written ks) 1 written ks ins) sizes_same

    settled : IsSettled config plans 1 written sizes (ins ++ made)
    settled =
        subst (λ (ms : List Outcomes). IsSettled config plans 1 written sizes (ins ++ ms)) made_is
        (subst (λ (ks : List ℕ). IsSettled config (plans_at (program 0) config d 1 written ks) 1 written ks (ins ++ call_at (program 0) config d 1 ins)) sizes_same
        (depth_settled (program 0) config d 1 written ordered.analysis ins well multiply_accepted.sound valid written_there ordered.is all_whole (ap (can_enter written) sides_are ∙ enters n h some few tall low)))

    abbrev seen_by : ProgRule → Cell → List Outcome
    seen_by r c = map (outcome_in (ins ++ made)) (reads written.matrices sizes c r)

    all_numbers : ((c : Cell) → Contains (made_cells written sizes) c → IsNumber (cell_equation config plans 1 written sizes c (map (outcome_in (ins ++ made)) (cell_reads config plans 1 written sizes c)))) → AllHold IsNumber (call_at (program 0) config d 1 ins)
    all_numbers each = subst (AllHold IsNumber) (sym made_is) (made_numbers config plans 1 written sizes ins refl (λ c has. subst IsNumber (sym (settled.equation c has)) (each c has)))

    chosen_of : (c : Cell) → Contains (made_cells written sizes) c → chosen_rule config 1 written sizes c ≡ picks n h
    chosen_of c has = let it = is_made n h c has in ap (chosen_rule config 1 written sizes) it.0 ∙ chosen_is config said n h low c.x c.y it.1 it.2

    seen_small : (r : ProgRule) → AllByRecursion (λ (v : Read). v.matrix < 2) r.reads → (c : Cell) → AllByRecursion IsNine (seen_by r c)
    seen_small r views c = seen_nine (outcome_in (ins ++ made)) (low_nine a b made of_a.nine of_b.nine) (reads written.matrices sizes c r) (reads_low written.matrices sizes c r views)

    -- by the rule for single cells
    pub dots_untrapped : picks n h ≡ 0 → AllHold IsNumber (call_at (program 0) config d 1 ins)
    dots_untrapped leaf = all_numbers (λ c has.
        let it = is_made n h c has in
        let count : (x y : ℕ) → c ≡ record { matrix = 2; x = x; y = y } → length (seen_by dotting c) ≡ n + n = λ x y e. length-map (reads written.matrices sizes c dotting) (outcome_in (ins ++ made)) ∙ ap (λ (q : Cell). length (reads written.matrices sizes q dotting)) e ∙ reads_count n h x y few in
        subst IsNumber (sym (as_rule config plans 1 written sizes c (outcome_in (ins ++ made)) 0 dotting (chosen_of c has ∙ leaf) dotting_there refl))
        (subst (λ (q : Cell). IsNumber (own_outcome written.matrices sizes q dotting (rule_gives written.matrices sizes q 1 0 dotting (seen_by dotting c)))) (sym it.0)
        (is_number n h c.x c.y few (seen_by dotting c) (seen_small dotting (omega arith, (omega arith, tt)) c) (count c.x c.y it.0))))

    -- ---- by the plan that halves rows
    module _ (plan : picks n h ≡ 3) (two : 2 ≤ h) (deeper : Call) (c : Cell) (seen : List Outcome) (nine : AllByRecursion IsNine seen) (count : length seen ≡ n * (h / 2) + n * (h - h / 2) + n * n)
        (of_upper : (x y : Outcomes) → IsGiven n (h / 2) x → IsGiven n n y → AllHold IsNumber (deeper 1 (x ∷ y ∷ []))) (of_lower : (x y : Outcomes) → IsGiven n (h - h / 2) x → IsGiven n n y → AllHold IsNumber (deeper 1 (x ∷ y ∷ []))) where
      abbrev after_first : List Outcome
      after_first = drop (n * (h / 2)) seen

      abbrev after_second : List Outcome
      after_second = drop (n * (h - h / 2)) after_first

      abbrev first : Outcomes
      first = record { width = n; height = h / 2; cells = take (n * (h / 2)) seen }

      abbrev second : Outcomes
      second = record { width = n; height = h - h / 2; cells = take (n * (h - h / 2)) after_first }

      abbrev third : Outcomes
      third = record { width = n; height = n; cells = take (n * n) after_second }

      first_given : IsGiven n (h / 2) first
      first_given = taken_given n (h / 2) seen (omega (arith, count)) nine

      second_given : IsGiven n (h - h / 2) second
      second_given = taken_given n (h - h / 2) after_first (omega (arith, count, length-drop (n * (h / 2)) seen)) (each_dropped IsNine (n * (h / 2)) seen nine)

      third_given : IsGiven n n third
      third_given =
          taken_given n n after_second (omega (arith, count, length-drop (n * (h / 2)) seen, length-drop (n * (h - h / 2)) after_first))
          (each_dropped IsNine (n * (h - h / 2)) after_first (each_dropped IsNine (n * (h / 2)) seen nine))

      cut_is : cut_into (map (sides_of_view written.matrices sizes) halving.reads) seen ≡ first ∷ second ∷ third ∷ []
      cut_is = ap (λ (ss : List Sides). cut_into ss seen) (reads_are n h)

      abbrev make : PlanCallValue → List Outcomes → List Outcomes
      make = made_by_call (program 0) 1 written sizes 3 halving (Some deeper)

      abbrev names : Names Outcomes
      names = names_of_reads (first ∷ second ∷ third ∷ [])

      abbrev with_upper : Names Outcomes
      with_upper = after_call no_grid make upper names

      past_upper : (ms : List Outcomes) (k : ℕ) → named no_grid (zip (slot.Out 0 ∷ []) ms ++ names) (slot.Read k) ≡ named no_grid names (slot.Read k)
      past_upper [] k = refl
      past_upper (m ∷ ms) k = refl

      upper_numbers : AllHold IsNumber (make upper (first ∷ third ∷ []))
      upper_numbers = subst (AllHold IsNumber) (sym (if_true _ _ _ (upper_fits n h some few two low))) (each_dropped (Holds IsNumber) _ (deeper 1 (first ∷ third ∷ [])) (of_upper first third first_given third_given))

      lower_numbers : (gs : List Outcomes) → gs ≡ second ∷ third ∷ [] → AllHold IsNumber (make lower gs)
      lower_numbers gs e =
          subst (AllHold IsNumber) (sym (if_true _ _ _ (lower_fits n h some few two low)))
          (each_dropped (Holds IsNumber) _ (deeper 1 gs) (subst (λ ms. AllHold IsNumber (deeper 1 ms)) (sym e) (of_lower second third second_given third_given)))

      abbrev both_names : Names Outcomes
      both_names = after_calls no_grid make (upper ∷ lower ∷ []) names

      names_hold : AllByRecursion OutHolds both_names
      names_hold =
          let given = ap₂ (λ (x y : Outcomes). x ∷ y ∷ []) (past_upper (make upper (first ∷ third ∷ [])) 1) (past_upper (make upper (first ∷ third ∷ [])) 2) in
          each_joined OutHolds (zip (slot.Out 1 ∷ []) (make lower (map (named no_grid with_upper) lower.arguments))) with_upper (zip_outs 1 _ (lower_numbers _ given))
          (each_joined OutHolds (zip (slot.Out 0 ∷ []) (make upper (first ∷ third ∷ []))) names (zip_outs 0 _ upper_numbers) (tt, (tt, (tt, tt))))

      pub plan_number : IsNumber (plans_over (program 0) (Some deeper) 1 written sizes 3 halving c seen)
      unfolding plans_over
      plan_number =
          subst (λ (ms : List Outcomes). IsNumber (unwrap_or (in_outputs_of written sizes (named no_grid (after_calls no_grid make (calls_of_rule halving) (names_of_reads ms))) c 0 halving.outs) no_outcome)) (sym cut_is)
          (subst (λ (cs : List PlanCallValue). IsNumber (unwrap_or (in_outputs_of written sizes (named no_grid (after_calls no_grid make cs names)) c 0 halving.outs) no_outcome)) (sym calls_are)
          (outputs_number written sizes (named no_grid both_names) (named_outs both_names names_hold) c 0 halving.outs))

  -- how many cells the plan reads
  halving_count : (h : ℕ) (c : Cell) → length (reads written.matrices (n ∷ h ∷ n ∷ []) c halving) ≡ n * (h / 2) + n * (h - h / 2) + n * n
  unfolding reads value_before
  halving_count h c =
      let shown : ℕ → Area = λ k. shown_area written.matrices (n ∷ h ∷ n ∷ []) c (nth_read k halving) in
      let wide : n - 0 ≡ n = omega arith in
      let half : h / 2 - 0 ≡ h / 2 = omega arith in
      let one = area_count 0 (shown 0) 0 n 0 (h / 2) (omega (arith, ints)) (omega (arith, ints)) (omega (arith, ints)) (omega (arith, ints)) (omega arith) (omega arith) ∙ ap₂ (λ (u v : ℕ). u * v) wide half in
      let two = area_count 0 (shown 1) 0 n (h / 2) h (omega (arith, ints)) (omega (arith, ints)) (omega (arith, ints)) (omega (arith, ints)) (omega arith) (omega arith) ∙ ap (λ (u : ℕ). u * (h - h / 2)) wide in
      let three = area_count 1 (shown 2) 0 n 0 n (omega (arith, ints)) (omega (arith, ints)) (omega (arith, ints)) (omega (arith, ints)) (omega arith) (omega arith) ∙ ap₂ (λ (u v : ℕ). u * v) wide wide in
      let joined = length-append (cells_of 0 (shown 1)) (cells_of 1 (shown 2) ++ []) in
      let all = length-append (cells_of 0 (shown 0)) (cells_of 0 (shown 1) ++ (cells_of 1 (shown 2) ++ [])) in
      all ∙ omega (arith, joined, one, two, three, ap length (append-nil (cells_of 1 (shown 2))))

  untrapped : 32 ≤ n → (d h : ℕ) (tall : 1 ≤ h) (low : h ≤ n) → h ≤ 2 ^ d → Untrapped d h
  untrapped large zero h tall low fits a b of_a of_b = dots_untrapped 0 h tall low a b of_a of_b (low_picks n h (omega (arith, fits)))
  untrapped large (suc d) h tall low fits a b of_a of_b =
      elim (cases_lt h 2) [
        | inl flat ↦ dots_untrapped (suc d) h tall low a b of_a of_b (low_picks n h flat)
        | inr two ↦ all_numbers (suc d) h tall low a b of_a of_b (λ c has.
            let plan = high_picks n h large two in
            let f : Cell → Outcome = outcome_in ((a ∷ b ∷ []) ++ made (suc d) h tall low a b of_a of_b) in
            let double : 2 ^ suc d ≡ 2 * 2 ^ d = omega arith in
            subst IsNumber (sym (as_plan config (plans (suc d) h tall low a b of_a of_b) 1 written (n ∷ h ∷ n ∷ []) c f 3 halving (chosen_of (suc d) h tall low a b of_a of_b c has ∙ plan) halving_there refl))
            (plan_number (suc d) h tall low a b of_a of_b plan two (call_at (program 0) config d) c (map f (reads written.matrices (n ∷ h ∷ n ∷ []) c halving))
            (seen_small (suc d) h tall low a b of_a of_b halving (omega arith, (omega arith, (omega arith, tt))) c) (length-map (reads written.matrices (n ∷ h ∷ n ∷ []) c halving) f ∙ halving_count h c)
            (untrapped large d (h / 2) (omega (arith, two)) (omega (arith, low)) (omega (arith, fits, double))) (untrapped large d (h - h / 2) (omega (arith, two)) (omega (arith, low)) (omega (arith, fits, double)))))
      ]

  pub square_untrapped : (d : ℕ) → n ≤ 2 ^ d → Untrapped d n
  square_untrapped d fits a b of_a of_b =
      elim (cases_lt n 32) [
        | inl small ↦ dots_untrapped d n some (omega arith) a b of_a of_b (small_picks n n small)
        | inr large ↦ untrapped large d n some (omega arith) fits a b of_a of_b
      ]
