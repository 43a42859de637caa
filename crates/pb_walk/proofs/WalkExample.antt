-- Walks of two pieces that lie side by side, and of a third of another matrix.
use Rattle.std.proofs.Common.{◌≡◌, [], ◌∷◌, refl}
use Rattle.pb_linear.specs.declared.boxes.Sign.TheVariants.{Plus, Minus}
use Rattle.pb_linear.specs.declared.boxes.Step.{Step}
use Rattle.pb_links.specs.declared.places.Spot.{Spot}
use Rattle.pb_walk.specs.Walks.{stop, walk_of}

abbrev left : Spot
left = record { base = 5; rect = record { x0 = 0; y0 = 0; x1 = 2; y1 = 2 } }

abbrev right : Spot
right = record { base = 5; rect = record { x0 = 2; y0 = 0; x1 = 3; y1 = 2 } }

abbrev other : Spot
other = record { base = 4; rect = record { x0 = 1; y0 = 1; x1 = 2; y1 = 2 } }

abbrev down : Step
down = record { axis = 1; sign = Plus }

abbrev up : Step
up = record { axis = 1; sign = Minus }

abbrev back : Step
back = record { axis = 0; sign = Minus }

-- row by row, over both
pub by_rows : walk_of (down ∷ []) (left ∷ right ∷ []) ≡ stop 0 5 0 0 ∷ stop 0 5 1 0 ∷ stop 1 5 2 0 ∷ stop 0 5 0 1 ∷ stop 0 5 1 1 ∷ stop 1 5 2 1 ∷ []
unfolding walk_of
by_rows = refl

-- from the right, and in each column from the last row
pub by_columns : walk_of (back ∷ up ∷ []) (left ∷ right ∷ []) ≡ stop 1 5 2 1 ∷ stop 1 5 2 0 ∷ stop 0 5 1 1 ∷ stop 0 5 1 0 ∷ stop 0 5 0 1 ∷ stop 0 5 0 0 ∷ []
unfolding walk_of
by_columns = refl

-- with no step the matrix with the smaller number, and then the other, row by row over its two pieces
pub by_cells : walk_of [] (left ∷ right ∷ other ∷ []) ≡ stop 2 4 1 1 ∷ stop 0 5 0 0 ∷ stop 0 5 1 0 ∷ stop 1 5 2 0 ∷ stop 0 5 0 1 ∷ stop 0 5 1 1 ∷ stop 1 5 2 1 ∷ []
unfolding walk_of
by_cells = refl

-- a place of two pieces that overlap comes once for each, one after the other
pub by_pieces : walk_of [] (right ∷ right ∷ []) ≡ stop 0 5 2 0 ∷ stop 1 5 2 0 ∷ stop 0 5 2 1 ∷ stop 1 5 2 1 ∷ []
unfolding walk_of
by_pieces = refl
