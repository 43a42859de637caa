use Rattle.std.specs.Prelude.{ℕ, suc, ◌-◌, ◌<◌, ◌≤◌, ℤ, int_le, Bool, List, [], ◌∷◌, take, slice_index}
use Rattle.std.specs.List.{list_all, range_with_len}
use Rattle.pb_linear.specs.declared.sizes.Sizes.{Sizes}
use Rattle.pb_linear.specs.declared.sizes.Ranges.{Ranges}
use Rattle.pb_linear.specs.declared.sizes.TheConstants.{SIZE_TOP}

-- the sizes, one for each variable
abbrev pub sizes_of : Sizes → List ℕ
sizes_of s = take s.count s.of

-- the least sizes, one for each variable
abbrev pub leasts_of : Ranges → List ℕ
leasts_of r = take r.count r.least

-- there is a size for each variable, from its least size to the top
abbrev pub InRange : List ℕ → List ℕ → Type 0
InRange [] [] = Unit {0}
InRange [] (_ ∷ _) = ⊥
InRange (_ ∷ _) [] = ⊥
InRange (least ∷ leasts) (size ∷ sizes) = (least ≤ size) × (size ≤ SIZE_TOP) × InRange leasts sizes

-- what every call that takes ranges asks of them: some sizes are in range
pub record IsRanges (r : Ranges) : Type 0 where
  pub few : r.count ≤ 8
  pub low_enough : (i : ℕ) → i < r.count → slice_index r.least i ≤ SIZE_TOP

-- a test passes at every sizes in range; it tries them all, and so it's never computed
unfoldable pub everywhere : List ℕ → (List ℕ → Bool) → Bool
everywhere [] test = test []
everywhere (least ∷ leasts) test =
    list_all (λ size. everywhere leasts (λ sizes. test (size ∷ sizes))) (range_with_len least (suc SIZE_TOP - least))

-- one value is at most another at every sizes in range
abbrev pub le_everywhere : List ℕ → (List ℕ → ℤ) → (List ℕ → ℤ) → Bool
le_everywhere leasts low high = everywhere leasts (λ sizes. int_le (low sizes) (high sizes))
