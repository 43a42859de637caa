-- What a run counts: its inputs and its first call.
use Rattle.std.proofs.Common.{◌≡◌, ◌∙◌, refl, sym, ap, ℕ, zero, suc, ◌≤◌, ◌*◌, List, [], ◌∷◌, length, map, take, slice_get, Some, arith}
use Rattle.std.specs.Prelude.{max, IfErr, OnOk, Result, Ok, Err}
use Rattle.pb_program.specs.Configs.{ConfigValue}
use Rattle.pb_program.specs.Forms.{DeclValue}
use Rattle.pb_program.specs.Trees.{ProgTransform}
use Rattle.pb_program.specs.WellFormed.{IsTransform}
use Rattle.pb_model.specs.Calls.{Outcomes}
use Rattle.pb_calls.specs.Given.{AreGiven, HasSides}
use Rattle.pb_recursion.specs.Counts.{Counted, all_of, both, count_at, matrix_of, run_count}
use Rattle.pb_recursion.specs.Depths.{sides_of_matrix, sizes_given}
use Rattle.pb_recursion.specs.Shapes.{sides_of_decl}
use Rattle.pb_runs.proofs.TallyLemmas.{same_counted}
use Rattle.pb_counts.specs.Sized.{by_given, sized_count}
use Rattle.pb_counts.specs.Tallies.{capped}
use Rattle.pb_counts.proofs.AddLemmas.{capped_left, capped_right}
use Rattle.pb_counts.proofs.DepthLemmas.{given_is}

-- ---- inputs
one_input : (sizes : List ℕ) (d : DeclValue) (g : Outcomes) → HasSides sizes d g → matrix_of (sides_of_decl sizes d) ≡ matrix_of (sides_of_matrix g)
one_input sizes d g has =
    same_counted (matrix_of (sides_of_decl sizes d)) (matrix_of (sides_of_matrix g)) refl
    (λ z. max (sym has.width z) (sym has.height z)) (λ z. sym has.width z * sym has.height z)

inputs_are : (sizes : List ℕ) (ds : List DeclValue) (ins : List Outcomes) (n : ℕ) → length ins ≡ n → n ≤ length ds → ((m : ℕ) (d : DeclValue) (g : Outcomes) → slice_get ds m ≡ Some d → slice_get ins m ≡ Some g → HasSides sizes d g)
    → all_of (map (λ d. matrix_of (sides_of_decl sizes d)) (take n ds)) ≡ all_of (map matrix_of (map sides_of_matrix ins))
inputs_are sizes ds [] zero count few each = refl
inputs_are sizes ds [] (suc n) count few each = absurd (omega (arith, count))
inputs_are sizes ds (g ∷ ins) zero count few each = absurd (omega (arith, count))
inputs_are sizes [] (g ∷ ins) (suc n) count few each = absurd (omega (arith, few))
inputs_are sizes (d ∷ ds) (g ∷ ins) (suc n) count few each = λ z. both (one_input sizes d g (each 0 d g refl refl) z) (inputs_are sizes ds ins n (omega (arith, count)) (omega (arith, few)) (λ m. each (suc m)) z)

-- ---- the run
pub counted_run : (p : List ProgTransform) (config : ConfigValue) (depth number transforms : ℕ) (t : ProgTransform) (sizes : List ℕ) (ins : List Outcomes)
    → slice_get p number ≡ Some t → IsTransform transforms t → sizes_given t ins ≡ sizes → AreGiven t sizes ins
    → run_count p config depth number (map sides_of_matrix ins) ≡ both (all_of (map (λ d. matrix_of (sides_of_decl sizes d)) (take t.inputs t.matrices))) (sized_count p config depth number sizes)
counted_run p config depth number transforms t sizes ins there well binds given =
    (λ z. both (inputs z) (call z))
  where
    inputs : all_of (map matrix_of (map sides_of_matrix ins)) ≡ all_of (map (λ d. matrix_of (sides_of_decl sizes d)) (take t.inputs t.matrices))
    inputs = sym (inputs_are sizes t.matrices ins t.inputs given.count (omega (arith, well.parts)) given.each)

    call : count_at p config depth number (map sides_of_matrix ins) ≡ sized_count p config depth number sizes
    call = given_is p config depth number (map sides_of_matrix ins) ∙ sized
      where
        sized : by_given p (sized_count p config depth) number (map sides_of_matrix ins) ≡ sized_count p config depth number sizes
        sized = rw there (ap (sized_count p config depth number) binds)

-- what is tallied of it is its count, up to the top
pub tally_is : (mats sized run inputs call sum : Counted) → run ≡ both mats sized → inputs ≡ capped mats → capped call ≡ capped sized → sum ≡ capped (both inputs call) → sum ≡ capped run
tally_is mats sized run inputs call sum run_is inputs_is call_is sum_is =
    sum_is ∙ ap (λ z. capped (both z call)) inputs_is ∙ capped_left mats call ∙ sym (capped_right mats call) ∙ ap (λ z. capped (both mats z)) call_is ∙ capped_right mats sized ∙ ap capped (sym run_is)

pub on_ok : {T E P Q : Type 0} (r : Result T E) → OnOk r P → (P → Q) → OnOk r Q
on_ok (Ok x) h f = f h
on_ok (Err e) h f = tt

pub if_err : {T E : Type 0} {P Q : E → Type 0} (r : Result T E) → IfErr r P → ((e : E) → P e → Q e) → IfErr r Q
if_err (Ok x) h f = tt
if_err (Err e) h f = f e h
