-- Links held as the targets of each node, and marked nodes.
use Rattle.std.specs.Prelude.{◌≡◌, ℕ, ◌+◌, ◌<◌, ◌≤◌, ◌⊎◌, ◌↔◌, Bool, true, false, List, [], ◌∷◌, length, slice_index, slice_index_or}
use Rattle.std.specs.List.{Contains}
use Rattle.pb_base.specs.Reach.{Reach}

-- a link among those that are held
abbrev pub Out : List (List ℕ) → ℕ → ℕ → Type 0
Out targets u v = Contains (slice_index_or targets u []) v

-- a link more
pub record IsAdded (old new : List (List ℕ)) (from to : ℕ) : Type 0 where
  pub room : length new ≡ length old
  pub links : (u v : ℕ) → Out new u v ↔ (Out old u v ⊎ ((u ≡ from) × (v ≡ to)))

-- the links of a relation, from their node and to it
pub record IsLinked (Links : ℕ → ℕ → Type 0) (nodes : ℕ) (down up : List (List ℕ)) : Type 0 where
  pub room_down : length down ≡ nodes
  pub room_up : length up ≡ nodes
  pub is_down : (u v : ℕ) → Out down u v ↔ Links u v
  pub is_up : (u v : ℕ) → Out up v u ↔ Links u v
  pub inside : (u v : ℕ) → Links u v → (u < nodes) × (v < nodes)

-- a node is marked
abbrev pub marked : List Bool → ℕ → Bool
marked marks v = slice_index_or marks v false

abbrev pub IsMarked : List Bool → ℕ → Type 0
IsMarked marks v = marked marks v ≡ true

-- how many are
abbrev pub count : List Bool → ℕ
count [] = 0
count (true ∷ marks) = count marks + 1
count (false ∷ marks) = count marks

-- nodes were visited: those among them that were marked are no longer, and are found
pub record IsVisited (visited : List ℕ) (within : List Bool) (before : List ℕ) (rest : List Bool) (found : List ℕ) : Type 0 where
  pub room : length rest ≡ length within
  pub size : count rest + length found ≡ count within + length before
  pub longer : length before ≤ length found
  pub same : (k : ℕ) → k < length before → slice_index found k ≡ slice_index before k
  pub old : (v : ℕ) → Contains before v → Contains found v
  pub new : (v : ℕ) → Contains found v → Contains before v ⊎ (IsMarked within v × Contains visited v)
  pub gone : (v : ℕ) → Contains visited v → marked rest v ≡ false
  pub fewer : (v : ℕ) → IsMarked rest v → IsMarked within v
  pub kept : (v : ℕ) → IsMarked within v → marked rest v ≡ false → Contains found v

-- found are nodes to which the marked nodes lead from start, and the links of the first of them were followed
pub record IsReached (Leads : ℕ → ℕ → Type 0) (within : List Bool) (start : ℕ) (followed : ℕ) (rest : List Bool) (found : List ℕ) : Type 0 where
  pub room : length rest ≡ length within
  pub size : count rest + length found ≡ count within
  pub started : Contains found start
  pub reach : (v : ℕ) → Contains found v → Reach ℕ Leads start v
  pub taken : (v : ℕ) → Contains found v → IsMarked within v
  pub gone : (v : ℕ) → Contains found v → marked rest v ≡ false
  pub fewer : (v : ℕ) → IsMarked rest v → IsMarked within v
  pub kept : (v : ℕ) → IsMarked within v → marked rest v ≡ false → Contains found v
  pub closed : (k v : ℕ) → k < followed → Leads (slice_index found k) v → marked rest v ≡ false

-- the values at these nodes were written
pub record IsFilled (A : Type 0) (old new : List A) (nodes : List ℕ) (value : A) : Type 0 where
  pub room : length new ≡ length old
  pub written : (v : ℕ) (d : A) → v < length old → Contains nodes v → slice_index_or new v d ≡ value
  pub kept : (v : ℕ) (d : A) → (Contains nodes v → ⊥) → slice_index_or new v d ≡ slice_index_or old v d
