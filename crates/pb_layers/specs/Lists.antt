-- The lists that serve the edges inside components.
use Rattle.std.specs.Prelude.{◌≡◌, ℕ, ◌<◌, ◌↔◌, Bool, true, false, Option, Some, None, IsSome, List, length, slice_index, slice_index_or}
use Rattle.std.specs.List.{Contains}
use Rattle.pb_layers.specs.declared.link.Edge.{Edge}
use Rattle.pb_layers.specs.Graphs.{IsMarked}

-- a list serves the edges inside the component with this least member
abbrev pub ServesRoot : List Edge → List ℕ → ℕ → ℕ → Type 0
ServesRoot edges least root list = (e : Edge) → Contains edges e → slice_index least e.reader ≡ root → slice_index least e.source ≡ root → slice_index_or e.serves list false ≡ true

-- an edge is inside a component and this list doesn't serve it
abbrev pub Spoils : List ℕ → ℕ → Edge → Type 0
Spoils least list e = (slice_index least e.reader ≡ slice_index least e.source) × (slice_index_or e.serves list false ≡ false)

-- the components that a list serves are marked by their least members
pub record AreServed (edges : List Edge) (least : List ℕ) (list : ℕ) (served : List Bool) : Type 0 where
  pub room : length served ≡ length least
  pub is : (root : ℕ) → root < length least → IsMarked served root ↔ ServesRoot edges least root list

-- the first list below a bound that serves a component
abbrev pub IsFirstList : List Edge → List ℕ → ℕ → ℕ → Option ℕ → Type 0
IsFirstList edges least root bound None = (k : ℕ) → k < bound → ServesRoot edges least root k → ⊥
IsFirstList edges least root bound (Some list) = (list < bound) × ServesRoot edges least root list × ((k : ℕ) → k < list → ServesRoot edges least root k → ⊥)

-- the first list for each component, by its least member
pub record AreFirstLists (edges : List Edge) (least : List ℕ) (bound : ℕ) (lists : List (Option ℕ)) : Type 0 where
  pub room : length lists ≡ length least
  pub is : (root : ℕ) → root < length least → IsFirstList edges least root bound (slice_index_or lists root None)

-- the list that a component has after one more, which may serve it
abbrev pub chosen : ℕ → Option ℕ → Bool → Option ℕ
chosen list (Some earlier) served = Some earlier
chosen list None true = Some list
chosen list None false = None

-- a component has a list
abbrev pub HasList : List (Option ℕ) → ℕ → Type 0
HasList lists root = IsSome (slice_index_or lists root None)

-- each of the first components has one
abbrev pub AllHaveLists : List ℕ → List (Option ℕ) → ℕ → Type 0
AllHaveLists least lists bound = (root : ℕ) → root < bound → slice_index least root ≡ root → HasList lists root

-- the first component without a list
pub record IsFirstWithout (least : List ℕ) (lists : List (Option ℕ)) (root : ℕ) : Type 0 where
  pub inside : root < length least
  pub is_least : slice_index least root ≡ root
  pub without : slice_index_or lists root None ≡ None
  pub before : AllHaveLists least lists root

-- the first nodes that have this least member, in rising order
pub record AreMembers (least : List ℕ) (root bound : ℕ) (members : List ℕ) : Type 0 where
  pub each : (v : ℕ) → Contains members v ↔ ((v < bound) × (slice_index least v ≡ root))
  pub rises : (i j : ℕ) → i < j → j < length members → slice_index members i < slice_index members j
