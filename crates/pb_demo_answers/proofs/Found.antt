-- The laws, for whatever programs the texts are.
use Rattle.std.proofs.Common.{◌≡◌, ◌∙◌, ap, subst, ℕ, zero, suc, ◌≤◌, List, [], ◌∷◌, ◌++◌, length, map, get_or, None, Ok, ℤ, arith}
use Rattle.pb_values.specs.declared.outcome.Outcome.TheVariants.{Value}
use Rattle.pb_config.specs.Reading.{config_read}
use Rattle.pb_config.proofs.ValidLemmas.{read_is_valid}
use Rattle.pb_program.specs.Configs.{ConfigValue}
use Rattle.pb_program.specs.Trees.{ProgTransform}
use Rattle.pb_matrix.specs.Value.{MatrixValue}
use Rattle.pb_model.specs.Calls.{Outcomes, first_trapped}
use Rattle.pb_model.specs.Cells.{Cell}
use Rattle.pb_check.specs.Accepting.{IsTextAccepted}
use Rattle.pb_check.specs.Orders.{AnalysisValue, AreFound}
use Rattle.pb_check.proofs.AcceptLemmas.{one_program}
use Rattle.pb_entry.specs.Entering.{Enters}
use Rattle.pb_entry.proofs.NamedLemmas.{one_number}
use Rattle.pb_recursion.specs.Depths.{call_at}
use Rattle.pb_run_work.specs.Given.{given_as, outcomes_in}
use Rattle.pb_run_work.specs.Limits.{IsWithin}
use Rattle.pb_gen.specs.Examples.{IsInput, IsSmall, example_of}
use Rattle.pb_gen.specs.Texts.{text_of}
use Rattle.pb_gen.proofs.MatrixLemmas.{examples_are_inputs, examples_are_small}
use Rattle.pb_demo.specs.Demonstrations.{demo_config, demo_transform}
use Rattle.pb_demo.proofs.Accepted.{multiply_accepted, roll_accepted}
use Rattle.pb_demo.proofs.Entries.{multiply_enters, roll_enters}
use Rattle.pb_demo.proofs.Found.{formed}
use Rattle.pb_demo.proofs.Trees.{program}
use Rattle.pb_demo_runs.specs.Sums.{IsSmallMatrix, IsSmallRow, row}
use Rattle.pb_demo_runs.proofs.Found.{no_cell_trapped, none_trapped}
use Rattle.pb_demo_answers.proofs.Counts.{product_few, roll_few}
use Rattle.pb_demo_answers.proofs.Products.{product_within}
use Rattle.pb_demo_answers.proofs.Rolls.{roll_within}

-- what is said of a demonstration's run
abbrev Within : ℕ → ℕ → ℕ → List ProgTransform → Type 0
Within which seed size p = (found : List AnalysisValue) (config : ConfigValue) (number : ℕ) → AreFound p found → config_read p (demo_config which) ≡ Ok config → Enters p (demo_transform which) (length (example_of which seed size)) number
    → IsWithin p found config 16 64 number (given_as (example_of which seed size))

abbrev Untrapped : ℕ → ℕ → ℕ → List ProgTransform → Type 0
Untrapped which seed size p = (config : ConfigValue) (number : ℕ) → config_read p (demo_config which) ≡ Ok config → Enters p (demo_transform which) (length (example_of which seed size)) number
    → (cells : List Cell) → first_trapped (given_as (example_of which seed size) ++ call_at p config 64 number (given_as (example_of which seed size))) cells ≡ None

module _ (seed size : ℕ) (some : 1 ≤ size) (few : size ≤ 256) where
  -- ---- the product
  second : (number : ℕ) → Enters (program 0) (demo_transform 0) (length (example_of 0 seed size)) number → 1 ≡ number
  second number enters = one_number (program 0) (demo_transform 0) (formed (text_of 0) (program 0) multiply_accepted) (length (example_of 0 seed size)) 1 number (multiply_enters seed size) enters

  product_is_within : Within 0 seed size (program 0)
  product_is_within found config number are said enters =
      let steps = product_within config said found are 64 size some few (omega (arith, few)) in
      subst (λ (k : ℕ). IsWithin (program 0) found config 16 64 k (given_as (example_of 0 seed size))) (second number enters)
      (record { counts = product_few config said size some few 64 (omega arith); tasks = steps.0; links = steps.1 })

  -- the cells of a matrix of the example
  abbrev nth : ℕ → ℕ → MatrixValue
  nth which k = get_or (example_of which seed size) k (record { shape = record { dims = 0; w = 0; h = 0 }; cells = [] })

  small_square : (k : ℕ) → k ≤ 1 → IsInput (nth 0 k) → IsSmall (nth 0 k) → IsSmallMatrix size (nth 0 k).cells
  small_square zero low input small = record { all = input.cells; small = small }
  small_square (suc zero) low input small = record { all = input.cells; small = small }
  small_square (suc (suc k)) low input small = absurd (omega (arith, low))

  product_is_untrapped : Untrapped 0 seed size (program 0)
  product_is_untrapped config number said enters cells =
      let inputs = examples_are_inputs 0 seed size few in
      let small = examples_are_small 0 seed size in
      subst (λ (k : ℕ). first_trapped (given_as (example_of 0 seed size) ++ call_at (program 0) config 64 k (given_as (example_of 0 seed size))) cells ≡ None) (second number enters)
      (no_cell_trapped (program 0) config 64 size (nth 0 0).cells (nth 0 1).cells multiply_accepted said some few (omega (arith, few))
      (small_square 0 (omega arith) (inputs 0 (nth 0 0) (omega arith)) (small 0 (nth 0 0) (omega arith))) (small_square 1 (omega arith) (inputs 1 (nth 0 1) (omega arith)) (small 1 (nth 0 1) (omega arith))) cells)

  -- ---- the rolling sum
  first : (number : ℕ) → Enters (program 1) (demo_transform 1) (length (example_of 1 seed size)) number → 0 ≡ number
  first number enters = one_number (program 1) (demo_transform 1) (formed (text_of 1) (program 1) roll_accepted) (length (example_of 1 seed size)) 0 number (roll_enters seed size) enters

  roll_is_within : Within 1 seed size (program 1)
  roll_is_within found config number are said enters =
      let steps = roll_within config (read_is_valid (program 1) (demo_config 1) config said) found are 64 size some few in
      subst (λ (k : ℕ). IsWithin (program 1) found config 16 64 k (given_as (example_of 1 seed size))) (first number enters)
      (record { counts = roll_few config size few 64; tasks = steps.0; links = steps.1 })

  roll_is_untrapped : Untrapped 1 seed size (program 1)
  roll_is_untrapped config number said enters cells =
      let input = examples_are_inputs 1 seed size few 0 (nth 1 0) (omega arith) in
      let numbers : List ℤ = (nth 1 0).cells in
      let long : length numbers ≡ size = input.cells ∙ omega arith in
      let small : IsSmallRow numbers = record { some = omega (arith, long, some); few = omega (arith, long, few); small = examples_are_small 1 seed size 0 (nth 1 0) (omega arith) } in
      let is_row : row numbers ≡ outcomes_in (nth 1 0) = ap (λ (w : ℕ). (let m : Outcomes = record { width = w; height = 1; cells = map Value numbers } in m)) long in
      subst (λ (k : ℕ). first_trapped (given_as (example_of 1 seed size) ++ call_at (program 1) config 64 k (given_as (example_of 1 seed size))) cells ≡ None) (first number enters)
      (subst (λ (m : Outcomes). first_trapped (m ∷ call_at (program 1) config 64 0 (m ∷ [])) cells ≡ None) is_row
      (none_trapped (program 1) config 64 numbers roll_accepted (read_is_valid (program 1) (demo_config 1) config said) small cells))

pub within : (which seed size : ℕ) (p : List ProgTransform) → IsTextAccepted (text_of which) p → 1 ≤ size → size ≤ 256 → Within which seed size p
within zero seed size p a some few = subst (Within 0 seed size) (one_program (text_of 0) (program 0) p multiply_accepted a) (product_is_within seed size some few)
within (suc k) seed size p a some few = subst (Within 1 seed size) (one_program (text_of 1) (program 1) p roll_accepted a) (roll_is_within seed size some few)

pub untrapped : (which seed size : ℕ) (p : List ProgTransform) → IsTextAccepted (text_of which) p → 1 ≤ size → size ≤ 256 → Untrapped which seed size p
untrapped zero seed size p a some few = subst (Untrapped 0 seed size) (one_program (text_of 0) (program 0) p multiply_accepted a) (product_is_untrapped seed size some few)
untrapped (suc k) seed size p a some few = subst (Untrapped 1 seed size) (one_program (text_of 1) (program 1) p roll_accepted a) (roll_is_untrapped seed size some few)
