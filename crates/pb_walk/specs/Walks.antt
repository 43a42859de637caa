-- The places of some pieces, in the order of a list of steps.
use Rattle.std.specs.Prelude.{◌≡◌, ℕ, ◌-◌, ◌↔◌, List, [], ◌∷◌, map, slice_get, IsSomeAnd}
use Rattle.std.specs.BTreeSet.{insert_key}
use Rattle.std.specs.List.{AllPairs, Contains, enumerate_from, flat_map, range_with_len}
use Rattle.std.specs.declared.cmp.Ordering.{Ordering}
use Rattle.pb_linear.specs.declared.boxes.Step.{Step}
use Rattle.pb_links.specs.declared.places.Spot.{Spot}
use Rattle.pb_values.specs.Views.{HasPlace}
use Rattle.pb_walk.specs.declared.stop.Stop.{Stop}
use Rattle.pb_walk.specs.Orders.{StandsBefore, compare}

-- a place of a matrix that a piece has
abbrev pub IsIn : Spot → Stop → Type 0
IsIn p s = (s.base ≡ p.base) × HasPlace p.rect s.x s.y

-- a place of one of the pieces
abbrev pub IsPlace : List Spot → Stop → Type 0
IsPlace pieces s = IsSomeAnd (slice_get pieces s.piece) (λ p. IsIn p s)

-- a place of a piece with this number, of this matrix; and all its places, row by row
abbrev pub stop : ℕ → ℕ → ℕ → ℕ → Stop
stop piece base x y = record { piece = piece; base = base; x = x; y = y }

abbrev pub row_of : ℕ → Spot → ℕ → List Stop
row_of piece p y = map (λ x. stop piece p.base x y) (range_with_len p.rect.x0 (p.rect.x1 - p.rect.x0))

abbrev pub places_of : ℕ × Spot → List Stop
places_of e = flat_map (row_of e.0 e.1) (range_with_len e.1.rect.y0 (e.1.rect.y1 - e.1.rect.y0))

abbrev pub places : List Spot → List Stop
places pieces = flat_map places_of (enumerate_from 0 pieces)

-- the elements of a list in order, each once
abbrev pub sorted : {A : Type 0} → (A → A → Ordering) → List A → List A
sorted cmp [] = []
sorted cmp (x ∷ xs) = insert_key cmp (sorted cmp xs) x

-- the places of all pieces in the order of the list; with no step, by the numbers of their cells
unfoldable pub walk_of : List Step → List Spot → List Stop
walk_of steps pieces = sorted (compare steps) (places pieces)

-- in words: just the places of the pieces, each before those that come later in the order of the list
pub record IsWalk (steps : List Step) (pieces : List Spot) (walk : List Stop) : Type 0 where
  pub places : (s : Stop) → Contains walk s ↔ IsPlace pieces s
  pub rises : (layer : ℕ) → AllPairs (StandsBefore layer steps) walk

-- a walk: all its places, those that are left, and for how many pieces it has room
pub record WalkValue : Type 0 where
  pub all : List Stop
  pub left : List Stop
  pub room : ℕ
