-- Which of two places stands first in the order of a list of steps.
use Rattle.std.specs.Prelude.{◌≡◌, ℕ, ◌<◌, ◌==◌, ◌⊎◌, if◌then◌else◌, pos, List, [], ◌∷◌}
use Rattle.std.specs.Ordering.{nat_cmp, ordering_then}
use Rattle.std.specs.declared.cmp.Ordering.{Ordering}
use Rattle.std.specs.declared.cmp.Ordering.TheVariants.{Equal}
use Rattle.pb_linear.specs.declared.boxes.Sign.{Sign}
use Rattle.pb_linear.specs.declared.boxes.Sign.TheVariants.{Plus, Minus}
use Rattle.pb_linear.specs.declared.boxes.Step.{Step}
use Rattle.pb_graph.specs.Ranks.{IsBelow, Rank, rank_by}
use Rattle.pb_walk.specs.declared.stop.Stop.{Stop}

-- two numbers by their size, or the other way round
abbrev pub by_sign : Sign → ℕ → ℕ → Ordering
by_sign Plus a b = nat_cmp a b
by_sign Minus a b = nat_cmp b a

-- the coordinate of a place on an axis, and two places by a step
abbrev pub number_on : ℕ → Stop → ℕ
number_on axis s = if axis == 0 then s.x else s.y

abbrev pub by_step : Step → Stop → Stop → Ordering
by_step step a b = by_sign step.sign (number_on step.axis a) (number_on step.axis b)

-- by the first step, and those of equal place there by the second
abbrev pub by_list : List Step → Stop → Stop → Ordering
by_list [] a b = Equal
by_list (s ∷ []) a b = by_step s a b
by_list (s ∷ t ∷ _) a b = ordering_then (by_step s a b) (by_step t a b)

-- by the numbers of their cells: matrix by matrix, and in a matrix row by row
abbrev pub by_cell : Stop → Stop → Ordering
by_cell a b = ordering_then (nat_cmp a.base b.base) (ordering_then (nat_cmp a.y b.y) (nat_cmp a.x b.x))

-- by the list, and those of equal place in it by their cells; with no step by their cells alone
abbrev pub by_place : List Step → Stop → Stop → Ordering
by_place steps a b = ordering_then (by_list steps a b) (by_cell a b)

-- the same, and those of one cell by the number of their piece
abbrev pub compare : List Step → Stop → Stop → Ordering
compare steps a b = ordering_then (by_place steps a b) (nat_cmp a.piece b.piece)

-- ---- the same as what holds of ranks
-- the rank of a place in a layer with this list
abbrev pub rank_of : ℕ → List Step → Stop → Rank
rank_of layer steps s = rank_by layer steps (pos s.x) (pos s.y)

-- of two places of equal rank: of an earlier matrix, or of the same in an earlier row, or in the same row further to the left, or the
-- same place, and of an earlier piece
abbrev pub IsEarlier : Stop → Stop → Type 0
IsEarlier a b = (a.base < b.base) ⊎ ((a.base ≡ b.base) × ((a.y < b.y) ⊎ ((a.y ≡ b.y) × ((a.x < b.x) ⊎ ((a.x ≡ b.x) × (a.piece < b.piece))))))

-- a place has a smaller rank than another, or the same, and is earlier
abbrev pub StandsBefore : ℕ → List Step → Stop → Stop → Type 0
StandsBefore layer steps a b = IsBelow (rank_of layer steps a) (rank_of layer steps b) ⊎ ((rank_of layer steps a ≡ rank_of layer steps b) × IsEarlier a b)
