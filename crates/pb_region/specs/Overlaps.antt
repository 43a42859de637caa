-- Which outputs of a rule may overlap.
use Rattle.std.specs.Prelude.{◌≡◌, ℕ, ◌<◌, ◌≤◌, ◌==◌, nat_lt, pos, Bool, true, false, IsTrue, IsFalse, ◌&&◌, ◌||◌, not, List, ◌⊎◌, Option, Some, slice_get}
use Rattle.pb_linear.specs.Sizes.{le_everywhere}
use Rattle.pb_program.specs.declared.view.Read.{Read}
use Rattle.pb_program.specs.Forms.{CoordinateValue, DeclValue, coordinate_at}
use Rattle.pb_region.specs.Ends.{Ends, Interval, ends_of}

-- the first number at which a test passes
pub record IsFirst (test : ℕ → Bool) (n : ℕ) : Type 0 where
  pub passes : test n ≡ true
  pub earlier : (k : ℕ) → k < n → test k ≡ false

module _ (leasts : List ℕ) where
  -- an end without rule variables is at most another, at all sizes in range
  unfoldable pub is_before : CoordinateValue → CoordinateValue → Bool
  is_before a b = le_everywhere leasts (λ s. coordinate_at a s (pos 0) (pos 0)) (λ s. coordinate_at b s (pos 0) (pos 0))

  -- the one ends where the other begins, or before
  abbrev pub are_apart : Interval → Interval → Bool
  are_apart a b = is_before a.high b.low || is_before b.high a.low

  -- some axis keeps them apart
  abbrev pub are_separate : Ends → Ends → Bool
  are_separate a b = are_apart a.x b.x || are_apart a.y b.y

  module _ (matrices : List DeclValue) where
    -- outputs on one matrix that no axis keeps apart
    abbrev pub overlap : Read → Read → Bool
    overlap a b = (a.matrix == b.matrix) && not (are_separate (ends_of matrices a) (ends_of matrices b))

    abbrev pub both_overlap : Option Read → Option Read → Bool
    both_overlap (Some a) (Some b) = overlap a b
    both_overlap _ _ = false

    -- the outputs with these numbers, the first before the second
    unfoldable pub overlap_at : List Read → ℕ → ℕ → Bool
    overlap_at outs first second = nat_lt first second && both_overlap (slice_get outs first) (slice_get outs second)

    -- the first pair that overlaps, by the first and then by the second of the two
    pub record IsFirstOverlap (outs : List Read) (first second : ℕ) : Type 0 where
      pub overlaps : IsTrue (overlap_at outs first second)
      pub earliest : (i j : ℕ) → IsTrue (overlap_at outs i j) → (first < i) ⊎ ((first ≡ i) × (second ≤ j))

    abbrev pub HasNoOverlap : List Read → Type 0
    HasNoOverlap outs = (i j : ℕ) → IsFalse (overlap_at outs i j)
