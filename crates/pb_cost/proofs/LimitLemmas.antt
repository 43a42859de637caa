-- Counts within their limits, and past them.
use Rattle.std.proofs.Common.{◌≡◌, ◌∙◌, refl, sym, ap, subst, ◌⊎◌, ⊎_elim, ℕ, zero, suc, ◌≤◌, ◌<◌, Bool, true, false, ◌&&◌, not, List, [], ◌∷◌, length, map, get_or, slice_get, Option, Some, None, arith}
use Rattle.std.specs.Prelude.{IfOk, IsTrue, Result, Ok, Err, if◌then◌else◌, nat_le}
use Rattle.std.specs.Option.{option_map_or}
use Rattle.std.proofs.lemmas.List.{length-map}
use Rattle.std.proofs.lemmas.Option.{slice_get-get_or}
use Rattle.std.proofs.lemmas.Bool.{and_parts}
use Rattle.std.proofs.lemmas.Bool.Decides.{nat_tests}
use Rattle.pb_linear.specs.Sizes.{InRange, leasts_of}
use Rattle.pb_linear.specs.declared.sizes.TheConstants.{SIZE_TOP}
use Rattle.pb_values.specs.declared.shape.TheConstants.{MOST_SIDE}
use Rattle.pb_program.specs.Configs.{ConfigValue, IsValid}
use Rattle.pb_program.specs.Transforms.{TransformValue}
use Rattle.pb_program.specs.Trees.{ProgTransform, bare_prog, bare_transform}
use Rattle.pb_check.specs.Accepting.{AcceptedValue, IsAccepted}
use Rattle.pb_check.specs.Orders.{AnalysisValue, AreFound}
use Rattle.pb_check.specs.Ranked.{OfTransform}
use Rattle.pb_check.proofs.LawfulLemmas.{both}
use Rattle.pb_entry.specs.declared.refusal.Count.TheVariants.{Calls, Cells, Links, Side, Tasks}
use Rattle.pb_entry.specs.declared.refusal.RunRefusal.{RunRefusal}
use Rattle.pb_entry.specs.declared.refusal.RunRefusal.TheVariants.{BadShape, Memory, SizeOutOfRange, TooLarge, UnknownTransform, WrongCount}
use Rattle.pb_frame.proofs.FoundLemmas.{of_these, said_of}
use Rattle.pb_links.specs.Links.{link_count}
use Rattle.pb_taskgraph.specs.declared.limits.TheConstants.{MOST_CELLS, MOST_LINKS, MOST_TASKS}
use Rattle.pb_recursion.specs.Counts.{Counted, run_count}
use Rattle.pb_recursion.specs.Depths.{sides_of_matrix}
use Rattle.pb_recursion.specs.Shapes.{Sides, are_in_range, can_enter}
use Rattle.pb_recursion.proofs.ShapeLemmas.{map_get, range_is}
use Rattle.pb_counts.specs.Callable.{IsCallable}
use Rattle.pb_counts.proofs.PlaceLemmas.{all_callable}
use Rattle.pb_counts.specs.Limits.{AreFew, AreMany, OfRun}
use Rattle.pb_counts.specs.declared.count.TheConstants.{MOST_CALLS}
use Rattle.pb_run_graph.specs.Handed.{Step, places_of}
use Rattle.pb_run_graph.specs.Handed.{unrolled_run}
use Rattle.pb_run_graph.specs.Handed.{total}
use Rattle.pb_run_graph.proofs.Handed.{run_tally}
use Rattle.pb_run_graph.specs.Linking.{CanBeLinked, IsTooMany}
use Rattle.pb_run_graph.specs.Handed.{UnrolledValue}
use Rattle.pb_run_graph.specs.Handed.{AreSeated, AreSteps, met_of}
use Rattle.pb_cost.specs.Costs.{are_few, can_be_linked, cost, cost_at_sizes, cost_of, equal_sizes, given_sides}
use Rattle.pb_cost.specs.Linked.{CanBeBegun}
use Rattle.pb_cost.specs.declared.at_size.TheConstants.{COST_DEPTH, COST_GRAIN}
use Rattle.pb_cost.proofs.BlankLemmas.{are_given, are_sides, can_begin, ins, one_of}

-- ---- tests
le_is : (a b : ℕ) → a ≤ b → nat_le a b ≡ true
le_is a b h = grind (arith, nat_tests, h)

is_le : (a b : ℕ) → nat_le a b ≡ true → a ≤ b
is_le a b h = grind (arith, nat_tests, h)

past : (a b : ℕ) → b < a → nat_le a b ≡ false
past a b h = grind (arith, nat_tests, h)

no_second : (a b : Bool) → b ≡ false → (a && b) ≡ false
no_second true b h = h
no_second false b h = refl

pub few_is : (c : Counted) → AreFew c → true ≡ are_few c
few_is c h = sym (both (nat_le c.calls MOST_CALLS) _ (le_is c.calls MOST_CALLS h.calls) (both (nat_le c.side MOST_SIDE) (nat_le c.cells MOST_CELLS) (le_is c.side MOST_SIDE h.side) (le_is c.cells MOST_CELLS h.cells)))

pub is_few : (c : Counted) → are_few c ≡ true → AreFew c
is_few c h =
    let first = and_parts (nat_le c.calls MOST_CALLS) (nat_le c.side MOST_SIDE && nat_le c.cells MOST_CELLS) h in
    let rest = and_parts (nat_le c.side MOST_SIDE) (nat_le c.cells MOST_CELLS) first.1 in
    record { calls = is_le c.calls MOST_CALLS first.0; side = is_le c.side MOST_SIDE rest.0; cells = is_le c.cells MOST_CELLS rest.1 }

pub many_is : (c : Counted) (e : RunRefusal) → AreMany c e → false ≡ are_few c
many_is c (TooLarge Calls) h = sym (ap (λ b. b && (nat_le c.side MOST_SIDE && nat_le c.cells MOST_CELLS)) (past c.calls MOST_CALLS h))
many_is c (TooLarge Side) h = sym (no_second (nat_le c.calls MOST_CALLS) _ (ap (λ b. b && nat_le c.cells MOST_CELLS) (past c.side MOST_SIDE h.1)))
many_is c (TooLarge Cells) h = sym (no_second (nat_le c.calls MOST_CALLS) _ (no_second (nat_le c.side MOST_SIDE) (nat_le c.cells MOST_CELLS) (past c.cells MOST_CELLS h.2)))
many_is c (TooLarge Tasks) h = absurd h
many_is c (TooLarge Links) h = absurd h
many_is c UnknownTransform h = absurd h
many_is c (WrongCount wanted given) h = absurd h
many_is c (BadShape matrix axis wanted found) h = absurd h
many_is c (SizeOutOfRange size value) h = absurd h
many_is c Memory h = absurd h

pub linked_is : (steps : List Step) → (length steps ≤ MOST_TASKS) × (link_count (map places_of steps) ≤ MOST_LINKS) → true ≡ can_be_linked steps
linked_is steps h = sym (both (nat_le (length steps) MOST_TASKS) _ (le_is (length steps) MOST_TASKS h.0) (le_is (link_count (map places_of steps)) MOST_LINKS h.1))

too_many_is : (steps : List Step) (e : RunRefusal) → IsTooMany steps e → false ≡ can_be_linked steps
too_many_is steps (TooLarge Tasks) h = sym (ap (λ b. b && nat_le (link_count (map places_of steps)) MOST_LINKS) (past (length steps) MOST_TASKS h))
too_many_is steps (TooLarge Links) h = sym (no_second (nat_le (length steps) MOST_TASKS) _ (past (link_count (map places_of steps)) MOST_LINKS h.1))
too_many_is steps (TooLarge Calls) h = absurd h
too_many_is steps (TooLarge Side) h = absurd h
too_many_is steps (TooLarge Cells) h = absurd h
too_many_is steps UnknownTransform h = absurd h
too_many_is steps (WrongCount wanted given) h = absurd h
too_many_is steps (BadShape matrix axis wanted found) h = absurd h
too_many_is steps (SizeOutOfRange size value) h = absurd h
too_many_is steps Memory h = absurd h

pub unlinked_is : (steps : List Step) (e : RunRefusal) → (e ≡ Memory → ⊥) → (e ≡ Memory) ⊎ IsTooMany steps e → false ≡ can_be_linked steps
unlinked_is steps e other = ⊎_elim (λ memory. absurd (other memory)) (too_many_is steps e)

-- ---- of a transform of an accepted program, at sizes in range
found_there : (p : List ProgTransform) (found : List AnalysisValue) → AreFound p found → (t : ℕ) (x : ProgTransform) → slice_get p t ≡ Some x → (a : AnalysisValue) × (slice_get found t ≡ Some a)
found_there [] found h t x e = absurd (let wrong : None ≡ Some x = e in cc)
found_there (y ∷ p) [] h t x e = absurd h
found_there (y ∷ p) (b ∷ found) h zero x e = (b, refl)
found_there (y ∷ p) (b ∷ found) h (suc t) x e = found_there p found h.1 t x e

module _ (v : AcceptedValue) (accepted : IsAccepted v) (config : ConfigValue) (valid : IsValid (bare_prog v.program) config) (t : ℕ) (x : ProgTransform) (there : slice_get (bare_prog v.program) t ≡ Some x) (sizes : List ℕ) (range : InRange (leasts_of x.ranges) sizes) where
  abbrev p : List ProgTransform
  p = bare_prog v.program

  abbrev given : List Sides
  given = given_sides x sizes

  abbrev counted : Counted
  counted = run_count p config COST_DEPTH t given

  analysis : (a : AnalysisValue) × (slice_get v.found t ≡ Some a)
  analysis = found_there p v.found accepted.found t x there

  pub has_range : OfTransform v t (λ transform found. InRange (leasts_of transform.ranges) sizes)
  has_range = of_these v accepted t x analysis.0 there analysis.1 (λ transform found. InRange (leasts_of transform.ranges) sizes) range

  over : (P : Counted → Type 0) → OfTransform v t (λ transform found. OfRun p config COST_DEPTH t transform sizes P) → P counted
  over P h =
      subst (λ ss. P (run_count p config COST_DEPTH t ss)) (are_sides v accepted config valid t x there sizes range)
      (said_of v accepted t x analysis.0 there analysis.1 (λ transform found. OfRun p config COST_DEPTH t transform sizes P) h (ins v accepted config valid t x there sizes range) (are_given v accepted config valid t x there sizes range))

  pub few_told : OfTransform v t (λ transform found. OfRun p config COST_DEPTH t transform sizes AreFew) → true ≡ are_few counted
  few_told h = few_is counted (over AreFew h)

  pub many_told : (e : RunRefusal) → (e ≡ Memory → ⊥) → (e ≡ Memory) ⊎ OfTransform v t (λ transform found. OfRun p config COST_DEPTH t transform sizes (λ n. AreMany n e)) → false ≡ are_few counted
  many_told e other = ⊎_elim (λ memory. absurd (other memory)) (λ h. many_is counted e (over (λ n. AreMany n e) h))

  pub begun : IsTrue (can_enter x (map sides_of_matrix (ins v accepted config valid t x there sizes range))) → are_few counted ≡ true → CanBeBegun v config t given
  begun enters few = can_begin v accepted config valid t x there sizes range enters (is_few counted few)

-- ---- a run that can be begun can be linked
pub can_link : (v : AcceptedValue) (config : ConfigValue) (t : ℕ) (given : List Sides) → CanBeBegun v config t given → (u : UnrolledValue)
    → AreSteps (bare_prog v.program) v.found u (unrolled_run (bare_prog v.program) v.found config COST_GRAIN COST_DEPTH t given).steps → met_of u.met ≡ (unrolled_run (bare_prog v.program) v.found config COST_GRAIN COST_DEPTH t given).next
    → AreSeated v config COST_GRAIN u.instances → (inputs : ℕ) × CanBeLinked v u inputs
can_link v config t given b u steps met seated =
    let tally = run_tally (bare_prog v.program) v.found config COST_GRAIN COST_DEPTH t b.ins b.entered in (
      total b.ins,
      record {
        config = config;
        grain = COST_GRAIN;
        depth = COST_DEPTH;
        number = t;
        ins = b.ins;
        entered = b.entered;
        steps = subst (λ (ss : List Sides). AreSteps (bare_prog v.program) v.found u (unrolled_run (bare_prog v.program) v.found config COST_GRAIN COST_DEPTH t ss).steps) (sym b.sides) steps;
        met = subst (λ (ss : List Sides). met_of u.met ≡ (unrolled_run (bare_prog v.program) v.found config COST_GRAIN COST_DEPTH t ss).next) (sym b.sides) met;
        seated = seated;
        side = omega (arith, tally.side, b.few.side);
        cells = omega (arith, tally.cells, b.few.cells);
        small = b.small;
        given = refl;
      },
    )

-- ---- a configuration is unfit
abbrev nothing : Option ℕ
nothing = None

module _ (empty few linked : Bool) (k : Option ℕ) where
  abbrev told : Option ℕ
  told = if not empty && (few && linked) then k else None

  pub if_empty : empty ≡ true → None ≡ told
  if_empty h = rw h refl

  pub if_many : few ≡ false → None ≡ told
  if_many h = sym (ap (λ b. if b then k else None) (no_second (not empty) (few && linked) (ap (λ b. b && linked) h)))

  pub if_unlinked : linked ≡ false → None ≡ told
  if_unlinked h = sym (ap (λ b. if b then k else None) (no_second (not empty) (few && linked) (no_second few linked h)))

  pub if_none : k ≡ None → None ≡ told
  if_none h = by (not empty && (few && linked)) k h
    where
      by : (b : Bool) (o : Option ℕ) → o ≡ None → nothing ≡ (if b then o else None)
      by true o h = sym h
      by false o h = refl

  pub if_fit : empty ≡ false → few ≡ true → linked ≡ true → k ≡ told
  if_fit e f l = rw (e, f, l) refl

-- ---- at a size
test_is : (leasts sizes : List ℕ) → InRange leasts sizes → are_in_range leasts sizes ≡ true
test_is [] [] h = refl
test_is [] (s ∷ ss) h = absurd h
test_is (l ∷ ls) [] h = absurd h
test_is (l ∷ ls) (s ∷ ss) h = both (nat_le l s) _ (le_is l s h.0) (both (nat_le s SIZE_TOP) (are_in_range ls ss) (le_is s SIZE_TOP h.1) (test_is ls ss h.2))

module _ (p : List ProgTransform) (found : List AnalysisValue) (config : ConfigValue) (t size : ℕ) (x : ProgTransform) (there : slice_get p t ≡ Some x) where
  abbrev when : Bool → Option ℕ
  when b = if b then cost_at_sizes p found config t (equal_sizes x size) x else None

  by_test : (b : Bool) → are_in_range (leasts_of x.ranges) (equal_sizes x size) ≡ b → when b ≡ cost p found config t size
  unfolding cost
  by_test b h = sym (ap when h) ∙ sym (ap (λ o. option_map_or (cost_of p found config t size) o None) there)

  -- all sizes are in range; or one isn't
  pub in_range_cost : (sizes : List ℕ) → sizes ≡ equal_sizes x size → InRange (leasts_of x.ranges) sizes → cost_at_sizes p found config t sizes x ≡ cost p found config t size
  in_range_cost sizes are range =
      ap (λ ss. cost_at_sizes p found config t ss x) are ∙ by_test true (test_is (leasts_of x.ranges) (equal_sizes x size) (subst (InRange (leasts_of x.ranges)) are range))

  pub out_of_range_cost : (InRange (leasts_of x.ranges) (equal_sizes x size) → ⊥) → None ≡ cost p found config t size
  out_of_range_cost out = by (are_in_range (leasts_of x.ranges) (equal_sizes x size)) refl
    where
      by : (b : Bool) → are_in_range (leasts_of x.ranges) (equal_sizes x size) ≡ b → nothing ≡ cost p found config t size
      by true h = absurd (out (range_is (leasts_of x.ranges) (equal_sizes x size) h))
      by false h = by_test false h

pub transform_at : (v : AcceptedValue) (t : ℕ) → t < length (bare_prog v.program) → (xs : List TransformValue) → xs ≡ v.program.transforms → (x : TransformValue) → x ≡ get_or xs t x → slice_get v.program.transforms t ≡ Some x
transform_at v t below xs held x is =
    subst (λ (ts : List TransformValue). slice_get ts t ≡ Some x) held (slice_get-get_or xs t x (omega (arith, below, ap length held, length-map v.program.transforms bare_transform)) ∙ ap Some (sym is))

pub callable_at : (v : AcceptedValue) → IsAccepted v → (t : ℕ) (x : TransformValue) → slice_get v.program.transforms t ≡ Some x → IsCallable (bare_transform x)
callable_at v accepted t x there = one_of IsCallable (bare_prog v.program) t (bare_transform x) (all_callable (bare_prog v.program) accepted.well_formed) (map_get bare_transform v.program.transforms t x there)

pub if_ok : {A E : Type 0} {P Q : A → Type 0} (r : Result A E) → IfOk r P → ((x : A) → P x → Q x) → IfOk r Q
if_ok (Ok x) h f = f x h
if_ok (Err e) h f = tt
