-- The outcomes of the matrices that are given, matrix by matrix.
use Rattle.std.proofs.Common.{◌≡◌, ◌∙◌, refl, sym, ap, subst, ℕ, zero, suc, ◌+◌, ◌-◌, ◌<◌, ◌≤◌, ℤ, List, [], ◌∷◌, ◌++◌, length, map, drop, get_or, arith, length-append, drop-cons, add-one, w64, to_z, of_z}
use Rattle.std.specs.Prelude.{slice_index_or}
use Rattle.std.specs.List.{All}
use Rattle.std.proofs.lemmas.Int.{to_z-of_z}
use Rattle.std.proofs.lemmas.List.{length-map}
use Rattle.pb_values.specs.declared.outcome.Outcome.{Outcome}
use Rattle.pb_values.specs.declared.outcome.Outcome.TheVariants.{Value}
use Rattle.pb_matrix.specs.Value.{MatrixValue}
use Rattle.pb_model.specs.Calls.{Outcomes, no_outcome}
use Rattle.pb_taskgraph.specs.Plans.{IsSmall, outcome_at}
use Rattle.pb_solution.specs.Solutions.{outcomes_of}
use Rattle.pb_steps.specs.Handed.{total}
use Rattle.pb_run_work.specs.Given.{given_as, outcomes_in}

pub index_left : (xs ys : List Outcome) (k : ℕ) (d : Outcome) → k < length xs → slice_index_or (xs ++ ys) k d ≡ slice_index_or xs k d
index_left [] ys k d h = absurd (omega (arith, h))
index_left (x ∷ xs) ys zero d h = refl
index_left (x ∷ xs) ys (suc k) d h = index_left xs ys k d (omega (arith, h))

index_right : (xs ys : List Outcome) (k : ℕ) (d : Outcome) → length xs ≤ k → slice_index_or (xs ++ ys) k d ≡ slice_index_or ys (k - length xs) d
index_right [] ys k d h = let e : k - 0 ≡ k = omega arith in ap (λ n. slice_index_or ys n d) (sym e)
index_right (x ∷ xs) ys zero d h = absurd (omega (arith, h))
index_right (x ∷ xs) ys (suc k) d h = index_right xs ys k d (omega (arith, h)) ∙ (let e : k - length xs ≡ suc k - suc (length xs) = omega arith in ap (λ n. slice_index_or ys n d) e)

index_map : (zs : List ℤ) (k : ℕ) (z : ℤ) → k < length zs → z ≡ get_or zs k z → slice_index_or (map (λ v. Value v) zs) k no_outcome ≡ Value z
index_map [] k z h e = absurd (omega (arith, h))
index_map (v ∷ zs) zero z h e = ap (λ u. Value u) (sym e)
index_map (v ∷ zs) (suc k) z h e = index_map zs k z (omega (arith, h)) e

dropped : (ms : List MatrixValue) (i : ℕ) (m : MatrixValue) → i < length ms → m ≡ get_or ms i m → drop i ms ≡ m ∷ drop (i + 1) ms
dropped ms i m h e = rw (add-one) (drop-cons ms i m h ∙ ap (λ (y : MatrixValue). y ∷ drop (suc i) ms) (sym e))

module _ (inputs : List MatrixValue) (i : ℕ) (m : MatrixValue) (below : i < length inputs) (is : m ≡ get_or inputs i m) (cell left : ℕ) (now : outcome_at (outcomes_of (given_as (drop i inputs))) left ≡ outcome_at (outcomes_of (given_as inputs)) cell) where
  split : outcomes_of (given_as (drop i inputs)) ≡ map (λ v. Value v) m.cells ++ outcomes_of (given_as (drop (i + 1) inputs))
  unfolding outcomes_of
  split = ap (λ (ms : List MatrixValue). outcomes_of (given_as ms)) (dropped inputs i m below is)

  as_many : length (map (λ v. Value v) m.cells) ≡ length m.cells
  as_many = length-map m.cells (λ v. Value v)

  -- the cell is one of this matrix
  pub cell_here : (z : ℤ) → left < length m.cells → z ≡ get_or m.cells left z → IsSmall (Value z) → Value (to_z w64 (of_z w64 z)) ≡ outcome_at (outcomes_of (given_as inputs)) cell
  unfolding outcome_at
  cell_here z inside at small =
      ap (λ u. Value u) (to_z-of_z w64 z small) ∙ sym (index_map m.cells left z inside at) ∙ sym (index_left (map (λ v. Value v) m.cells) (outcomes_of (given_as (drop (i + 1) inputs))) left no_outcome (omega (arith, inside, as_many)))
      ∙ ap (λ os. slice_index_or os left no_outcome) (sym split) ∙ now

  -- or of a later one
  pub cell_later : length m.cells ≤ left → outcome_at (outcomes_of (given_as (drop (i + 1) inputs))) (left - length m.cells) ≡ outcome_at (outcomes_of (given_as inputs)) cell
  unfolding outcome_at
  cell_later past =
      ap (λ n. slice_index_or (outcomes_of (given_as (drop (i + 1) inputs))) (left - n) no_outcome) (sym as_many) ∙ sym (index_right (map (λ v. Value v) m.cells) (outcomes_of (given_as (drop (i + 1) inputs))) left no_outcome (omega (arith, past, as_many)))
      ∙ ap (λ os. slice_index_or os left no_outcome) (sym split) ∙ now

  pub later_below : left < length (outcomes_of (given_as (drop i inputs))) → length m.cells ≤ left → left - length m.cells < length (outcomes_of (given_as (drop (i + 1) inputs)))
  later_below h past = omega (arith, h, past, ap length split, length-append (map (λ v. Value v) m.cells) (outcomes_of (given_as (drop (i + 1) inputs))), as_many)

pub none_left : (inputs : List MatrixValue) (i left : ℕ) → length inputs ≤ i → left < length (outcomes_of (given_as (drop i inputs))) → ⊥
unfolding outcomes_of
none_left [] zero left past h = omega (arith, h)
none_left [] (suc i) left past h = omega (arith, h)
none_left (m ∷ ms) zero left past h = omega (arith, past)
none_left (m ∷ ms) (suc i) left past h = none_left ms i left (omega (arith, past)) h

-- a given cell is small
pub small_cell : (inputs : List MatrixValue) (i : ℕ) (m : MatrixValue) (k : ℕ) (z : ℤ) → i < length inputs → m ≡ get_or inputs i m → k < length m.cells → z ≡ get_or m.cells k z → All (λ (g : Outcomes). All IsSmall g.cells) (given_as inputs) → IsSmall (Value z)
small_cell [] i m k z below is inside at h = absurd (omega (arith, below))
small_cell (x ∷ inputs) zero m k z below is inside at h = small_in m.cells k z inside at (subst (λ (q : MatrixValue). All IsSmall (outcomes_in q).cells) (sym is) (h 0 (outcomes_in x) (omega arith)))
  where
    small_in : (zs : List ℤ) (k : ℕ) (z : ℤ) → k < length zs → z ≡ get_or zs k z → All IsSmall (map (λ v. Value v) zs) → IsSmall (Value z)
    small_in [] k z h e all = absurd (omega (arith, h))
    small_in (v ∷ zs) zero z h e all = subst (λ u. IsSmall (Value u)) (sym e) (all 0 (Value v) (omega arith))
    small_in (v ∷ zs) (suc k) z h e all = small_in zs k z (omega (arith, h)) e (λ j d b. all (suc j) d (omega (arith, b)))
small_cell (x ∷ inputs) (suc i) m k z below is inside at h = small_cell inputs i m k z (omega (arith, below)) is inside at (λ j d b. h (suc j) d (omega (arith, b)))

-- as many cells are given as there are outcomes
pub total_is : (ms : List Outcomes) → total ms ≡ length (outcomes_of ms)
unfolding outcomes_of
total_is [] = refl
total_is (m ∷ ms) = omega (arith, total_is ms, length-append m.cells (outcomes_of ms))
