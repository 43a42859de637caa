-- The laws, for whatever programs the texts are.
use Rattle.std.proofs.Common.{◌≡◌, ◌∙◌, refl, sym, ap, subst, ℕ, zero, suc, ◌+◌, ◌^◌, ◌≤◌, ◌<◌, List, [], ◌∷◌, length, map, take, drop, get_or, None, Ok, ℤ, pos, ◌+ℤ◌, unsigned_abs, arith}
use Rattle.std.specs.List.{All, AllByRecursion}
use Rattle.std.proofs.lemmas.List.{length-map}
use Rattle.pb_values.specs.declared.outcome.Outcome.TheVariants.{Value}
use Rattle.pb_program.specs.Configs.{ConfigValue, IsValid}
use Rattle.pb_program.specs.Trees.{ProgTransform}
use Rattle.pb_model.specs.Calls.{first_trapped, outcome_in}
use Rattle.pb_model.specs.Cells.{Cell}
use Rattle.pb_config.specs.Reading.{config_read}
use Rattle.pb_config.proofs.ValidLemmas.{read_is_valid}
use Rattle.pb_recursion.specs.Depths.{call_at}
use Rattle.pb_check.specs.Accepting.{IsTextAccepted}
use Rattle.pb_check.proofs.AcceptLemmas.{one_program}
use Rattle.pb_gen.specs.Texts.{text_of}
use Rattle.pb_demo.specs.Demonstrations.{demo_config}
use Rattle.pb_demo.proofs.Accepted.{multiply_accepted, roll_accepted}
use Rattle.pb_demo.proofs.Trees.{program}
use Rattle.pb_demo_runs.specs.Sums.{IsSmallMatrix, IsSmallRow, made_cell, matrix, row, sum_of, sum_to}
use Rattle.pb_demo_runs.proofs.Roll.{sigma, sigma_more, sigma_none}
use Rattle.pb_demo_runs.proofs.Lists.{each_mapped}
use Rattle.pb_demo_runs.proofs.Nines.{AllHold, IsNine, IsNumber, none_trapped_of}
use Rattle.pb_demo_runs.proofs.Products.{IsGiven, square_untrapped}
use Rattle.pb_demo_runs.proofs.Rolls.{sums, untrapped}

-- the sum of the first numbers of a list
sum_taken : (numbers : List ℤ) (k len : ℕ) → k + len ≤ length numbers → sigma (λ j. get_or numbers j (pos 0)) k len ≡ sum_of (take len (drop k numbers))
sum_taken numbers k zero within = sigma_none (λ j. get_or numbers j (pos 0)) k
sum_taken numbers k (suc len) within =
    sigma_more (λ j. get_or numbers j (pos 0)) k len ∙ ap (λ s. get_or numbers k (pos 0) +ℤ s) (sum_taken numbers (k + 1) len (omega (arith, within)))
    ∙ ap (λ l. sum_of (take (suc len) l)) (sym (dropped numbers k (omega (arith, within)) ∙ ap (λ (m : ℕ). get_or numbers k (pos 0) ∷ drop m numbers) (let next : suc k ≡ k + 1 = omega arith in next)))
  where
    dropped : (xs : List ℤ) (i : ℕ) → i < length xs → drop i xs ≡ get_or xs i (pos 0) ∷ drop (suc i) xs
    dropped [] i below = absurd (omega (arith, below))
    dropped (x ∷ xs) zero below = refl
    dropped (x ∷ xs) (suc i) below = dropped xs i (omega (arith, below))

module _ (p : List ProgTransform) (config : ConfigValue) (depth : ℕ) (numbers : List ℤ) (a : IsTextAccepted (text_of 1) p) (valid : IsValid p config) (small : IsSmallRow numbers) where
  same : program 1 ≡ p
  same = one_program (text_of 1) (program 1) p roll_accepted a

  valid_too : IsValid (program 1) config
  valid_too = subst (λ q. IsValid q config) (sym same) valid

  pub sum_is : (x : ℕ) → x < length numbers → outcome_in (row numbers ∷ call_at p config depth 0 (row numbers ∷ [])) (made_cell x) ≡ Value (sum_to numbers x)
  sum_is x below =
      subst (λ q. outcome_in (row numbers ∷ call_at q config depth 0 (row numbers ∷ [])) (made_cell x) ≡ Value (sum_to numbers x)) same
      (sums (length numbers) small.some small.few numbers refl small.small config valid_too depth x below ∙ ap Value (sum_taken numbers 0 (x + 1) (omega (arith, below))))

  pub none_trapped : (cells : List Cell) → first_trapped (row numbers ∷ call_at p config depth 0 (row numbers ∷ [])) cells ≡ None
  none_trapped cells =
      subst (λ q. first_trapped (row numbers ∷ call_at q config depth 0 (row numbers ∷ [])) cells ≡ None) same
      (untrapped (length numbers) small.some small.few numbers refl small.small config valid_too depth cells)

-- ---- the product
all_small : (numbers : List ℤ) → All (λ z. unsigned_abs z ≤ 9) numbers → AllByRecursion IsNine (map Value numbers)
all_small [] h = tt
all_small (z ∷ numbers) h = (h 0 z (omega arith), all_small numbers (λ k d below. h (suc k) d (omega (arith, below))))

small_given : (n : ℕ) (numbers : List ℤ) → IsSmallMatrix n numbers → IsGiven n n (matrix n numbers)
small_given n numbers small = record { width = refl; height = refl; whole = length-map numbers Value ∙ small.all; nine = all_small numbers small.small }

module _ (p : List ProgTransform) (config : ConfigValue) (depth n : ℕ) (left right : List ℤ) (a : IsTextAccepted (text_of 0) p) (said : config_read p (demo_config 0) ≡ Ok config)
    (some : 1 ≤ n) (few : n ≤ 256) (deep : n ≤ 2 ^ depth) (of_left : IsSmallMatrix n left) (of_right : IsSmallMatrix n right) where
  same_product : program 0 ≡ p
  same_product = one_program (text_of 0) (program 0) p multiply_accepted a

  said_too : config_read (program 0) (demo_config 0) ≡ Ok config
  said_too = subst (λ q. config_read q (demo_config 0) ≡ Ok config) (sym same_product) said

  numbers_alone : AllHold IsNumber (matrix n left ∷ matrix n right ∷ call_at (program 0) config depth 1 (matrix n left ∷ matrix n right ∷ []))
  numbers_alone = (
    each_mapped IsNumber Value (λ z. tt) left,
    (
      each_mapped IsNumber Value (λ z. tt) right,
      square_untrapped config said_too (read_is_valid (program 0) (demo_config 0) config said_too) n some few depth deep (matrix n left) (matrix n right) (small_given n left of_left) (small_given n right of_right),
    ),
  )

  pub no_cell_trapped : (cells : List Cell) → first_trapped (matrix n left ∷ matrix n right ∷ call_at p config depth 1 (matrix n left ∷ matrix n right ∷ [])) cells ≡ None
  no_cell_trapped cells =
      subst (λ q. first_trapped (matrix n left ∷ matrix n right ∷ call_at q config depth 1 (matrix n left ∷ matrix n right ∷ [])) cells ≡ None) same_product
      (none_trapped_of (matrix n left ∷ matrix n right ∷ call_at (program 0) config depth 1 (matrix n left ∷ matrix n right ∷ [])) numbers_alone cells)
