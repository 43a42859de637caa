-- Both runs of the demonstration have few calls, sides and cells.
use Rattle.std.proofs.Common.{◌≡◌, ◌∙◌, refl, sym, ap, ap₂, subst, inl, inr, ◌⊎◌, ℕ, zero, suc, ◌+◌, ◌-◌, ◌*◌, ◌/◌, ◌^◌, ◌≤◌, ◌<◌, ℤ, pos, Bool, true, false, List, [], ◌∷◌, map, drop, Option, Some, None, Ok, arith}
use Rattle.std.specs.Prelude.{◌==◌, if◌then◌else◌}
use Rattle.std.specs.List.{Contains, list_any}
use Rattle.std.specs.Option.{option_map_or}
use Rattle.std.proofs.lemmas.Bool.{cases_lt}
use Rattle.std.proofs.Math.Nat.{add-mul, mul-add, mul-le-mul, mul-le-mul_left}
use Rattle.pb_base.proofs.ListLemmas.{in_head, in_tail}
use Rattle.pb_config.specs.Reading.{config_read}
use Rattle.pb_program.specs.Configs.{ConfigValue}
use Rattle.pb_program.specs.Forms.{DeclValue}
use Rattle.pb_program.specs.Plans.{PlanCallValue}
use Rattle.pb_program.specs.Trees.{ProgRule, ProgTransform}
use Rattle.pb_model.specs.Calls.{made_cells}
use Rattle.pb_model.specs.Cells.{Cell}
use Rattle.pb_model.specs.Chosen.{chosen_rule}
use Rattle.pb_recursion.specs.Counts.{Counted, Counter, all_of, both, call_count, chosen_plans, count_at, instance_count, matrix_of, nothing, one_count, one_more, plan_count, run_count}
use Rattle.pb_recursion.specs.Shapes.{Sides, sides_of_decl, sizes_from}
use Rattle.pb_counts.specs.Limits.{AreFew}
use Rattle.pb_grammar.specs.Want.{after_mark, expression, conjunction, compared, total, product, name_token, dimensions}
use Rattle.pb_demo.specs.Demonstrations.{demo_config}
use Rattle.pb_demo.proofs.Entries.{roll_there}
use Rattle.pb_demo.proofs.Product.{written}
use Rattle.pb_demo.proofs.Sound.{roll}
use Rattle.pb_demo.proofs.Trees.{program}
use Rattle.pb_demo_runs.proofs.Choice.{chosen_is, high_picks, low_picks, picks, small_picks}
use Rattle.pb_demo_runs.proofs.Halves.{calls_are, halving, lower, lower_fits, lower_given, sizes_are, upper, upper_fits, upper_given, written_there}
use Rattle.pb_demo_runs.proofs.Rolls.{made, sides_of_made}
use Rattle.pb_demo_runs.proofs.Lists.{if_true}
use Rattle.pb_demo_runs.proofs.Places.{is_made, matrix_is, nth_decl}

-- at most so many calls and cells, and no side over 256
pub record IsBelow (most_calls most_cells : ℕ) (c : Counted) : Type 0 where
  pub calls : c.calls ≤ most_calls
  pub side : c.side ≤ 256
  pub cells : c.cells ≤ most_cells

below_both : (a b c d : ℕ) (x y : Counted) → IsBelow a b x → IsBelow c d y → IsBelow (a + c) (b + d) (both x y)
below_both a b c d x y f g = record { calls = omega (arith, f.calls, g.calls); side = omega (arith, f.side, g.side); cells = omega (arith, f.cells, g.cells) }

below_more : (a b c d : ℕ) (x : Counted) → IsBelow a b x → a ≤ c → b ≤ d → IsBelow c d x
below_more a b c d x f p q = record { calls = omega (arith, f.calls, p); side = f.side; cells = omega (arith, f.cells, q) }

below_nothing : IsBelow 0 0 nothing
below_nothing = record { calls = omega arith; side = omega arith; cells = omega arith }

below_matrix : (w h : ℕ) → w ≤ 256 → h ≤ 256 → IsBelow 0 (w * h) (matrix_of (pos w, pos h))
below_matrix w h wide high = record { calls = omega arith; side = omega (arith, wide, high); cells = omega arith }

no_other : (f : Cell → ℕ) (k : ℕ) (cs : List Cell) → ((c : Cell) → Contains cs c → (f c == k) ≡ false) → list_any (λ c. f c == k) cs ≡ false
no_other f k [] each = refl
no_other f k (c ∷ cs) each = rw (each c (in_head c cs)) (no_other f k cs (λ d has. each d (in_tail c d cs has)))

-- ---- the product
module _ (config : ConfigValue) (said : config_read (program 0) (demo_config 0) ≡ Ok config) (n : ℕ) (some : 1 ≤ n) (few : n ≤ 256) where
  module _ (h : ℕ) (tall : 1 ≤ h) (low : h ≤ n) where
    abbrev sizes : List ℕ
    sizes = n ∷ h ∷ n ∷ []

    chosen_of : (c : Cell) → Contains (made_cells written sizes) c → chosen_rule config 1 written sizes c ≡ picks n h
    chosen_of c has =
        let it = is_made n h c has in
        ap (chosen_rule config 1 written sizes) it.0 ∙ chosen_is config said n h low c.x c.y it.1 it.2

    not_chosen : (k other : ℕ) → picks n h ≡ k → (k == other) ≡ false → list_any (λ c. chosen_rule config 1 written sizes c == other) (made_cells written sizes) ≡ false
    not_chosen k other it apart = no_other (chosen_rule config 1 written sizes) other (made_cells written sizes) (λ c has. ap (λ (r : ℕ). r == other) (chosen_of c has ∙ it) ∙ apart)

    no_plans : picks n h ≡ 0 → chosen_plans config 1 written sizes ≡ []
    unfolding chosen_plans
    no_plans it = rw (not_chosen 0 1 it refl, not_chosen 0 2 it refl, not_chosen 0 3 it refl) refl

    one_plan : picks n h ≡ 3 → (b : Bool) → list_any (λ c. chosen_rule config 1 written sizes c == 3) (made_cells written sizes) ≡ b → chosen_plans config 1 written sizes ≡ (if b then (3, halving) ∷ [] else [])
    unfolding chosen_plans
    one_plan it true e = rw (not_chosen 3 1 it refl, not_chosen 3 2 it refl, e) refl
    one_plan it false e = rw (not_chosen 3 1 it refl, not_chosen 3 2 it refl, e) refl

    abbrev given : List Sides
    given = (pos n, pos h) ∷ (pos n, pos n) ∷ []

    made_sides : map (λ (d : DeclValue). matrix_of (sides_of_decl sizes d)) (drop written.inputs written.matrices) ≡ matrix_of (pos n, pos h) ∷ []
    made_sides = let sides = matrix_is n h 2 (nth_decl 2) (omega arith) refl in ap₂ (λ (w h : ℤ). matrix_of (w, h) ∷ []) sides.1 sides.2

    one_is : (deeper : Option Counter) → one_count (program 0) config deeper 1 given ≡ instance_count (program 0) config deeper 1 written sizes
    one_is deeper =
        ap (λ (o : Option ProgTransform). option_map_or (λ t. instance_count (program 0) config deeper 1 t (sizes_from t given)) o nothing) written_there
        ∙ ap (λ (ks : List ℕ). instance_count (program 0) config deeper 1 written ks) (sizes_are n h)

    own : IsBelow 1 (n * h) (both one_more (both (matrix_of (pos n, pos h)) nothing))
    own =
        let one : IsBelow 1 0 one_more = record { calls = omega arith; side = omega arith; cells = omega arith } in
        let matrix = below_matrix n h few (omega (arith, few, low)) in
        below_more _ _ _ _ _ (below_both 1 0 (0 + 0) (n * h + 0) one_more (both (matrix_of (pos n, pos h)) nothing) one (below_both 0 (n * h) 0 0 (matrix_of (pos n, pos h)) nothing matrix below_nothing)) (omega arith) (omega arith)

    -- an instance, whose plans count so much
    of_plans : (deeper : Option Counter) (a b : ℕ) → IsBelow a b (all_of (map (plan_count (program 0) written sizes deeper) (chosen_plans config 1 written sizes))) → IsBelow (1 + a) (n * h + b) (one_count (program 0) config deeper 1 given)
    of_plans deeper a b plans =
        subst (IsBelow (1 + a) (n * h + b)) (sym (one_is deeper))
        (below_both 1 (n * h) a b _ _
        (subst (λ (ms : List Counted). IsBelow 1 (n * h) (both one_more (all_of ms))) (sym made_sides) own)
        plans)

    leaf_below : picks n h ≡ 0 → (deeper : Option Counter) → IsBelow 1 (n * h) (one_count (program 0) config deeper 1 given)
    leaf_below it deeper =
        below_more _ _ _ _ _ (of_plans deeper 0 0 (subst (λ (ps : List (ℕ × ProgRule)). IsBelow 0 0 (all_of (map (plan_count (program 0) written sizes deeper) ps))) (sym (no_plans it)) below_nothing)) (omega arith) (omega arith)

    abbrev halves : Bool
    halves = list_any (λ c. chosen_rule config 1 written sizes c == 3) (made_cells written sizes)

    module _ (it : picks n h ≡ 3) (two : 2 ≤ h) (deeper : Counter) (a b c d : ℕ)
        (up : IsBelow a b (deeper 1 ((pos n, pos (h / 2)) ∷ (pos n, pos n) ∷ []))) (down : IsBelow c d (deeper 1 ((pos n, pos (h - h / 2)) ∷ (pos n, pos n) ∷ []))) where
      up_call : IsBelow a b (call_count (program 0) written sizes (Some deeper) halving upper)
      up_call =
          subst (IsBelow a b) (sym (if_true _ _ _ (upper_fits n h some few two low))) (subst (λ (ss : List Sides). IsBelow a b (deeper 1 ss)) (sym (upper_given n h)) up)

      down_call : IsBelow c d (call_count (program 0) written sizes (Some deeper) halving lower)
      down_call =
          subst (IsBelow c d) (sym (if_true _ _ _ (lower_fits n h some few two low))) (subst (λ (ss : List Sides). IsBelow c d (deeper 1 ss)) (sym (lower_given n h)) down)

      plan_below : IsBelow (a + c) (b + d) (plan_count (program 0) written sizes (Some deeper) (3, halving))
      plan_below =
          subst (λ (cs : List PlanCallValue). IsBelow (a + c) (b + d) (all_of (map (call_count (program 0) written sizes (Some deeper) halving) cs))) (sym calls_are)
          (below_more _ _ _ _ _ (below_both a b (c + 0) (d + 0) _ _ up_call (below_both c d 0 0 _ nothing down_call below_nothing)) (omega arith) (omega arith))

      plans_below : (b' : Bool) → IsBelow (a + c) (b + d) (all_of (map (plan_count (program 0) written sizes (Some deeper)) (if b' then (3, halving) ∷ [] else [])))
      plans_below true = below_more _ _ _ _ _ (below_both (a + c) (b + d) 0 0 _ nothing plan_below below_nothing) (omega arith) (omega arith)
      plans_below false = below_more _ _ _ _ _ below_nothing (omega arith) (omega arith)

      halving_below : IsBelow (1 + (a + c)) (n * h + (b + d)) (one_count (program 0) config (Some deeper) 1 given)
      halving_below =
          of_plans (Some deeper) (a + c) (b + d)
          (subst (λ (ps : List (ℕ × ProgRule)). IsBelow (a + c) (b + d) (all_of (map (plan_count (program 0) written sizes (Some deeper)) ps))) (sym (one_plan it halves refl)) (plans_below halves))

  -- so many cells a row, where rows are halved so often
  abbrev level : ℕ → ℕ
  level zero = n
  level (suc e) = level e + n

  level_is : (e : ℕ) → level e ≡ n * suc e
  level_is zero = omega arith
  level_is (suc e) = omega (arith, level_is e)

  joined : (h e : ℕ) → h / 2 * level e + (h - h / 2) * level e ≡ h * level e
  joined h e = let whole : h / 2 + (h - h / 2) ≡ h = omega arith in sym (add-mul (h / 2) (h - h / 2) (level e)) ∙ ap (λ (k : ℕ). k * level e) whole

  level_least : (e : ℕ) → n ≤ level e
  level_least zero = omega arith
  level_least (suc e) = omega (arith, level_least e)

  leaf_alone : (d h : ℕ) (tall : 1 ≤ h) (low : h ≤ n) → picks n h ≡ 0 → IsBelow 1 (n * h) (count_at (program 0) config d 1 (given h tall low))
  unfolding count_at
  leaf_alone zero h tall low it = leaf_below h tall low it None
  leaf_alone (suc d) h tall low it = leaf_below h tall low it (Some (count_at (program 0) config d))

  leaf_at : (e d h : ℕ) (tall : 1 ≤ h) (low : h ≤ n) → picks n h ≡ 0 → IsBelow (2 * h - 1) (h * level e) (count_at (program 0) config d 1 (given h tall low))
  leaf_at e d h tall low it =
      let most : h * n ≤ h * level e = mul-le-mul_left h (level_least e) in
      below_more _ _ _ _ _ (leaf_alone d h tall low it) (omega (arith, tall)) (omega (arith, most))

  call_below : 32 ≤ n → (e d h : ℕ) (tall : 1 ≤ h) (low : h ≤ n) → e ≤ d → h ≤ 2 ^ e → IsBelow (2 * h - 1) (h * level e) (count_at (program 0) config d 1 (given h tall low))
  unfolding count_at
  call_below large zero d h tall low deep fits = leaf_at 0 d h tall low (low_picks n h (omega (arith, fits)))
  call_below large (suc e) zero h tall low deep fits = absurd (omega (arith, deep))
  call_below large (suc e) (suc d) h tall low deep fits =
      elim (cases_lt h 2) [
        | inl flat ↦ leaf_at (suc e) (suc d) h tall low (low_picks n h flat)
        | inr two ↦ (let double : 2 ^ suc e ≡ 2 * 2 ^ e = omega arith in
            let up = call_below large e d (h / 2) (omega (arith, two)) (omega (arith, low)) (omega (arith, deep)) (omega (arith, fits, double)) in
            let down = call_below large e d (h - h / 2) (omega (arith, two)) (omega (arith, low)) (omega (arith, deep)) (omega (arith, fits, double)) in
            below_more _ _ _ _ _ (halving_below h tall low (high_picks n h large two) two (count_at (program 0) config d) _ _ _ _ up down) (omega (arith, two)) (omega (arith, joined h e, mul-add h (level e) n)))
      ]

  of_size : (d : ℕ) → 8 ≤ d → (n < 32) ⊎ (32 ≤ n) → IsBelow (2 * n - 1) (n * level 8) (count_at (program 0) config d 1 (given n some (omega arith)))
  of_size d deep (inl small) = leaf_at 8 d n some (omega arith) (small_picks n n small)
  of_size d deep (inr large) = call_below large 8 d n some (omega arith) deep (omega (arith, few))

  pub product_few : (d : ℕ) → 8 ≤ d → AreFew (run_count (program 0) config d 1 ((pos n, pos n) ∷ (pos n, pos n) ∷ []))
  product_few d deep =
      let calls = of_size d deep (cases_lt n 32) in
      let square = below_matrix n n few few in
      let inputs = below_both 0 (n * n) (0 + 0) (n * n + 0) _ _ square (below_both 0 (n * n) 0 0 _ nothing square below_nothing) in
      let all = below_both _ _ _ _ _ _ inputs calls in
      let level_top : level 8 ≤ 256 * 9 = omega (arith, level_is 8, few) in
      let most : n * level 8 ≤ 256 * (256 * 9) = mul-le-mul few level_top in
      let squares : n * n ≤ 256 * 256 = mul-le-mul few few in
      record { calls = omega (arith, all.calls, few); side = omega (arith, all.side); cells = omega (arith, all.cells, most, squares) }

-- ---- the rolling sum
no_plan : (config : ConfigValue) (ks : List ℕ) → chosen_plans config 0 roll ks ≡ []
unfolding after_mark expression conjunction compared total product name_token dimensions chosen_plans
no_plan config ks = refl

roll_sizes : (n : ℕ) → sizes_from roll ((pos n, pos 1) ∷ []) ≡ n ∷ []
unfolding after_mark expression conjunction compared total product name_token dimensions sizes_from
roll_sizes n = refl

roll_sides : (n : ℕ) → map (λ (d : DeclValue). matrix_of (sides_of_decl (n ∷ []) d)) (drop roll.inputs roll.matrices) ≡ matrix_of (sides_of_decl (n ∷ []) made) ∷ []
unfolding after_mark expression conjunction compared total product name_token dimensions
roll_sides n = refl

module _ (config : ConfigValue) (n : ℕ) (few : n ≤ 256) where
  roll_own : IsBelow 1 n (both one_more (both (matrix_of (sides_of_decl (n ∷ []) made)) nothing))
  roll_own =
      let one : IsBelow 1 0 one_more = record { calls = omega arith; side = omega arith; cells = omega arith } in
      let matrix = subst (IsBelow 0 (n * 1)) (sym (ap₂ (λ (w h : ℤ). matrix_of (w, h)) (sides_of_made n).0 (sides_of_made n).1)) (below_matrix n 1 few (omega arith)) in
      below_more _ _ _ _ _ (below_both 1 0 (0 + 0) (n * 1 + 0) one_more _ one (below_both 0 (n * 1) 0 0 _ nothing matrix below_nothing)) (omega arith) (omega arith)

  roll_one : (deeper : Option Counter) → IsBelow 1 n (one_count (program 1) config deeper 0 ((pos n, pos 1) ∷ []))
  roll_one deeper =
      let is : one_count (program 1) config deeper 0 ((pos n, pos 1) ∷ []) ≡ instance_count (program 1) config deeper 0 roll (n ∷ []) =
      ap (λ (o : Option ProgTransform). option_map_or (λ t. instance_count (program 1) config deeper 0 t (sizes_from t ((pos n, pos 1) ∷ []))) o nothing) roll_there
      ∙ ap (λ (ks : List ℕ). instance_count (program 1) config deeper 0 roll ks) (roll_sizes n) in
      subst (IsBelow 1 n) (sym is)
      (subst (λ (ms : List Counted). IsBelow 1 n (both (both one_more (all_of ms)) (all_of (map (plan_count (program 1) roll (n ∷ []) deeper) (chosen_plans config 0 roll (n ∷ [])))))) (sym (roll_sides n))
      (subst (λ (ps : List (ℕ × ProgRule)). IsBelow 1 n (both (both one_more (both (matrix_of (sides_of_decl (n ∷ []) made)) nothing)) (all_of (map (plan_count (program 1) roll (n ∷ []) deeper) ps)))) (sym (no_plan config (n ∷ [])))
      (below_more _ _ _ _ _ (below_both 1 n 0 0 _ nothing roll_own below_nothing) (omega arith) (omega arith))))

  roll_at : (d : ℕ) → IsBelow 1 n (count_at (program 1) config d 0 ((pos n, pos 1) ∷ []))
  unfolding count_at
  roll_at zero = roll_one None
  roll_at (suc d) = roll_one (Some (count_at (program 1) config d))

  pub roll_few : (d : ℕ) → AreFew (run_count (program 1) config d 0 ((pos n, pos 1) ∷ []))
  roll_few d =
      let all = below_both _ _ 1 n _ _ (below_both 0 (n * 1) 0 0 _ nothing (below_matrix n 1 few (omega arith)) below_nothing) (roll_at d) in
      record { calls = omega (arith, all.calls); side = omega (arith, all.side); cells = omega (arith, all.cells, few) }
