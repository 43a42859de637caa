-- The numbers of layers: components by their depth and then by their least member.
use Rattle.std.specs.Prelude.{◌≡◌, ℕ, ◌<◌, ◌≤◌, ◌⊎◌, ◌↔◌, true, false, Option, Some, None, List, length, slice_index, slice_index_or}
use Rattle.std.specs.List.{Contains}
use Rattle.pb_layers.specs.declared.keys.Key.{Key}
use Rattle.pb_layers.specs.declared.layers.Layer.{Layer}
use Rattle.pb_layers.specs.declared.link.Edge.{Edge}
use Rattle.pb_layers.specs.Layers.{LayersValue, inner_at, list_at}

-- the key at a place, and a key that is none for places past the last
abbrev pub key_at : List Key → ℕ → Key
key_at keys place = slice_index_or keys place (record { depth = 0; root = 0 })

-- a key comes before another
abbrev pub IsBefore : Key → Key → Type 0
IsBefore a b = (a.depth < b.depth) ⊎ ((a.depth ≡ b.depth) × (a.root < b.root))

-- the keys of the first components, by their least members
pub record AreKeys (least depth : List ℕ) (bound : ℕ) (keys : List Key) : Type 0 where
  pub short : length keys ≤ bound
  pub each : (place : ℕ) → place < length keys → ((key_at keys place).root < bound) × (slice_index least (key_at keys place).root ≡ (key_at keys place).root) × (slice_index depth (key_at keys place).root ≡ (key_at keys place).depth)
  pub all : (root : ℕ) → root < bound → slice_index least root ≡ root → (place : ℕ) × (place < length keys) × ((key_at keys place).root ≡ root)
  pub apart : (i j : ℕ) → i < length keys → j < length keys → (key_at keys i).root ≡ (key_at keys j).root → i ≡ j

-- each comes before the next
abbrev pub IsRising : List Key → Type 0
IsRising keys = (i j : ℕ) → i < j → j < length keys → IsBefore (key_at keys i) (key_at keys j)

-- the place of each of the first keys stands at its least member
pub record ArePlaces (keys : List Key) (bound : ℕ) (places : List ℕ) : Type 0 where
  pub is : (place : ℕ) → place < bound → slice_index places (key_at keys place).root ≡ place

-- each of the first keys has a layer with its list, and no edge inside yet
pub record HaveLists (keys : List Key) (lists : List (Option ℕ)) (layers : List Layer) : Type 0 where
  pub room : length layers ≡ length keys
  pub list : (place : ℕ) → place < length keys → slice_index_or lists (key_at keys place).root None ≡ Some (list_at layers place)
  pub bare : (place : ℕ) → inner_at layers place ≡ false

-- the layers inside which one of these edges is are marked
pub record AreMarked (edges : List Edge) (layer : List ℕ) (old new : List Layer) : Type 0 where
  pub room : length new ≡ length old
  pub list : (place : ℕ) → list_at new place ≡ list_at old place
  pub inner : (place : ℕ) → place < length old → (inner_at new place ≡ true) ↔ ((inner_at old place ≡ true) ⊎ ((e : Edge) × Contains edges e × (slice_index layer e.reader ≡ place) × (slice_index layer e.source ≡ place)))

-- nodes have the layers of their components, and these have their lists
pub record AreNumbered (edges : List Edge) (nodes : ℕ) (least depth : List ℕ) (lists : List (Option ℕ)) (a : LayersValue) : Type 0 where
  pub room : length a.layer ≡ nodes
  pub rising : (u v : ℕ) → u < nodes → v < nodes → (slice_index a.layer u < slice_index a.layer v) ↔ ((slice_index depth (slice_index least u) < slice_index depth (slice_index least v)) ⊎ ((slice_index depth (slice_index least u) ≡ slice_index depth (slice_index least v)) × (slice_index least u < slice_index least v)))
  pub numbered : (u : ℕ) → u < nodes → slice_index a.layer u < length a.layers
  pub no_gap : (place : ℕ) → place < length a.layers → (u : ℕ) × (u < nodes) × (slice_index a.layer u ≡ place)
  pub list : (u : ℕ) → u < nodes → slice_index_or lists (slice_index least u) None ≡ Some (list_at a.layers (slice_index a.layer u))
  pub inner : (u : ℕ) → u < nodes → (inner_at a.layers (slice_index a.layer u) ≡ true) ↔ ((e : Edge) × Contains edges e × (slice_index least e.reader ≡ slice_index least u) × (slice_index least e.source ≡ slice_index least u))
