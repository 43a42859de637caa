-- Sums over the places from 0 on.
use Rattle.std.specs.Prelude.{ℕ, zero, suc, ◌+◌, ◌*◌, ℤ, pos, ◌+ℤ◌, ◌*ℤ◌}
use Rattle.pb_sums.specs.declared.progression.Progression.{Progression}

-- of the numbers of the places below another, and of their squares
unfoldable pub sum_of_places : ℕ → ℕ
sum_of_places zero = 0
sum_of_places (suc n) = sum_of_places n + n

unfoldable pub sum_of_squares : ℕ → ℕ
sum_of_squares zero = 0
sum_of_squares (suc n) = sum_of_squares n + n * n

-- a number that changes by the same step, at a place
abbrev pub value_at : Progression → ℕ → ℤ
value_at p k = p.first +ℤ p.step *ℤ pos k

-- the products of two such numbers, summed over the places below another
unfoldable pub sum_of_products : Progression → Progression → ℕ → ℤ
sum_of_products a b zero = pos 0
sum_of_products a b (suc n) = sum_of_products a b n +ℤ value_at a n *ℤ value_at b n
