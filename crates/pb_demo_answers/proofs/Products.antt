-- The product has few tasks and links.
use Rattle.std.proofs.Common.{◌≡◌, refl, subst, inl, inr, ◌⊎◌, ℕ, zero, suc, ◌+◌, ◌-◌, ◌*◌, ◌/◌, ◌^◌, ◌≤◌, ◌<◌, pos, List, [], ◌∷◌, length, map, slice_get, Some, Ok, arith}
use Rattle.std.specs.List.{AllZip}
use Rattle.std.proofs.Math.Nat.{mul-le-mul}
use Rattle.std.proofs.lemmas.Bool.{cases_lt}
use Rattle.pb_config.specs.Reading.{config_read}
use Rattle.pb_program.specs.Configs.{ConfigValue}
use Rattle.pb_check.specs.Orders.{AnalysisValue, AreFound, IsAnalysis}
use Rattle.pb_frame.proofs.SpanLemmas.{spans_few}
use Rattle.pb_links.specs.Links.{link_count}
use Rattle.pb_recursion.specs.Shapes.{Sides}
use Rattle.pb_taskgraph.specs.declared.limits.TheConstants.{MOST_LINKS, MOST_TASKS}
use Rattle.pb_views.specs.declared.seat.Seat.{Seat}
use Rattle.pb_views.specs.Seats.{sides_of_seat}
use Rattle.pb_runs.specs.Steps.{Step, places_of}
use Rattle.pb_runs.specs.Unrolled.{Met, after_matrices, nothing_met, unroll, unrolled_run}
use Rattle.pb_demo.specs.Demonstrations.{demo_config}
use Rattle.pb_demo.proofs.Accepted.{pair}
use Rattle.pb_demo.proofs.Product.{written}
use Rattle.pb_demo.proofs.Sound.{add}
use Rattle.pb_demo.proofs.Trees.{program}
use Rattle.pb_demo_runs.proofs.Choice.{high_picks, low_picks, small_picks}
use Rattle.pb_demo_answers.proofs.Jobs.{one_span}
use Rattle.pb_demo_answers.proofs.Links.{links_most}
use Rattle.pb_demo_answers.proofs.Steps.{AreFew, few_more, halving_few, leaf_few, same_sides}

abbrev AreWithin : List Step → Type 0
AreWithin steps = (length steps ≤ MOST_TASKS) × (link_count (map places_of steps) ≤ MOST_LINKS)

within : (own linked : ℕ) (steps : List Step) → AreFew own linked steps → own ≤ 4096 → linked ≤ 510 → AreWithin steps
within own linked steps few a b =
    let total : own + linked ≤ 4606 = omega (arith, a, b) in
    let most : linked * (own + linked) ≤ 510 * 4606 = mul-le-mul b total in
    (omega (arith, few.all, a, b), omega (arith, links_most steps own linked few, most))

-- what is found of the product
second_found : (found : List AnalysisValue) → AllZip IsAnalysis (add ∷ written ∷ []) found → (a : AnalysisValue) × (slice_get found 1 ≡ Some a) × IsAnalysis written a
second_found [] are = absurd are
second_found (a ∷ []) are = absurd are.1
second_found (a ∷ b ∷ found) are = (b, refl, are.1.0)

module _ (found : List AnalysisValue) (a : AnalysisValue) (there : slice_get found 1 ≡ Some a) (is : IsAnalysis written a) (config : ConfigValue) (said : config_read (program 0) (demo_config 0) ≡ Ok config) (n : ℕ) (some : 1 ≤ n) (few : n ≤ 256) where
  -- a call of the product with so many rows, by its depth
  abbrev Rows : ℕ → ℕ → Type 0
  Rows d h = (l r : Seat) → sides_of_seat l ≡ (let p : Sides = (pos n, pos h) in p) → sides_of_seat r ≡ (let p : Sides = (pos n, pos n) in p) → l.base < 2 → r.base < 2 → (m : Met) → 2 ≤ m.matrices
      → AreFew (16 * h) (2 * h - 2) (unroll (program 0) found config 16 d 1 (l ∷ r ∷ []) m).steps × (2 ≤ (unroll (program 0) found config 16 d 1 (l ∷ r ∷ []) m).next.matrices)

  one_row : (d h : ℕ) (tall : 1 ≤ h) (low : h ≤ n) → h < 2 → Rows d h
  one_row d h tall low flat l r of_l of_r low_l low_r m above =
      let it = leaf_few found a there is config said n some few h tall low l r of_l of_r low_l low_r m above (low_picks n h flat) d 1 (λ cut top below. one_span cut top (omega (arith, below, flat))) in
      (few_more _ _ _ _ _ it.0 (omega (arith, tall)) (omega arith), it.1)

  rows : 32 ≤ n → (d h : ℕ) (tall : 1 ≤ h) (low : h ≤ n) → h ≤ 2 ^ d → Rows d h
  rows large zero h tall low fits = one_row zero h tall low (omega (arith, fits))
  rows large (suc d) h tall low fits =
      elim (cases_lt h 2) [
        | inl flat ↦ one_row (suc d) h tall low flat
        | inr two ↦ (λ l r of_l of_r low_l low_r m above.
            halving_few found a there is config said n some few h tall low l r of_l of_r low_l low_r m above (high_picks n h large two) two d
            (rows large d (h / 2) (omega (arith, two)) (omega (arith, low)) (omega (arith, fits, double d))) (rows large d (h - h / 2) (omega (arith, two)) (omega (arith, low)) (omega (arith, fits, double d))))
      ]
    where
      double : (d : ℕ) → 2 ^ suc d ≡ 2 * 2 ^ d
      double d = omega arith

  abbrev sides : List Sides
  sides = (pos n, pos n) ∷ (pos n, pos n) ∷ []

  by_size : (d : ℕ) → n ≤ 2 ^ d → (n < 32) ⊎ (32 ≤ n) → AreWithin (unrolled_run (program 0) found config 16 d 1 sides).steps
  by_size d fits (inl small) =
      within 256 0 _ (leaf_few found a there is config said n some few n some (omega arith) _ _ (same_sides (omega arith) (omega arith)) (same_sides (omega arith) (omega arith)) (omega arith) (omega arith)
      (after_matrices nothing_met sides) (omega arith) (small_picks n n small) d 16 (λ cut top below. spans_few cut 16 top)).0 (omega arith) (omega arith)
  by_size d fits (inr large) =
      within (16 * n) (2 * n - 2) _
      (rows large d n some (omega arith) fits _ _ (same_sides (omega arith) (omega arith)) (same_sides (omega arith) (omega arith)) (omega arith) (omega arith) (after_matrices nothing_met sides) (omega arith)).0
      (omega (arith, few)) (omega (arith, few))

pub product_within : (config : ConfigValue) → config_read (program 0) (demo_config 0) ≡ Ok config → (found : List AnalysisValue) → AreFound (program 0) found → (d n : ℕ) → 1 ≤ n → n ≤ 256 → n ≤ 2 ^ d
    → AreWithin (unrolled_run (program 0) found config 16 d 1 ((pos n, pos n) ∷ (pos n, pos n) ∷ [])).steps
product_within config said found are d n some few fits =
    let it = second_found found (subst (λ p. AllZip IsAnalysis p found) pair are) in
    by_size found it.0 it.1 it.2 config said n some few d fits (cases_lt n 32)
