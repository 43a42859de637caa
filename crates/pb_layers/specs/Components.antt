-- Strong components as they are found.
use Rattle.std.specs.Prelude.{◌≡◌, ℕ, ◌+◌, ◌<◌, ◌≤◌, ◌≢◌, ◌⊎◌, ◌↔◌, Bool, false, List, length, slice_index}
use Rattle.std.specs.List.{Contains}
use Rattle.pb_base.specs.Reach.{Together}
use Rattle.pb_layers.specs.Graphs.{IsFilled, IsMarked, Out, count, marked}
use Rattle.pb_layers.specs.Orders.{IsDepth, IsLeastMember}

-- no link goes from a node that isn't left to one that is
abbrev pub IsClosed : (ℕ → ℕ → Type 0) → List Bool → Type 0
IsClosed Leads left = (u v : ℕ) → Leads u v → IsMarked left v → IsMarked left u

-- none is marked
abbrev pub NoneMarked : List Bool → Type 0
NoneMarked marks = (v : ℕ) → marked marks v ≡ false

-- a component was taken from what is left, and no link leaves it to the rest
pub record IsTaken (Leads : ℕ → ℕ → Type 0) (left rest : List Bool) (members : List ℕ) : Type 0 where
  pub room : length rest ≡ length left
  pub smaller : count rest < count left
  pub some : 0 < length members
  pub together : (u v : ℕ) → Contains members u → Contains members v → Together Leads u v
  pub whole : (u v : ℕ) → Contains members u → Together Leads u v → Contains members v
  pub taken : (v : ℕ) → Contains members v → IsMarked left v
  pub gone : (v : ℕ) → Contains members v → marked rest v ≡ false
  pub fewer : (v : ℕ) → IsMarked rest v → IsMarked left v
  pub kept : (v : ℕ) → IsMarked left v → marked rest v ≡ false → Contains members v
  pub closed : IsClosed Leads rest

-- the least members and depths of the nodes that aren't left
pub record AreNamed (Leads : ℕ → ℕ → Type 0) (nodes : ℕ) (left : List Bool) (least depth : List ℕ) : Type 0 where
  pub room_left : length left ≡ nodes
  pub room_least : length least ≡ nodes
  pub room_depth : length depth ≡ nodes
  pub closed : IsClosed Leads left
  pub leasts : (u : ℕ) → u < nodes → marked left u ≡ false → IsLeastMember Leads u (slice_index least u)
  pub depths : (u : ℕ) → u < nodes → marked left u ≡ false → IsDepth ℕ Leads (slice_index depth) u
  pub low : (u : ℕ) → u < nodes → marked left u ≡ false → slice_index depth u + count left < nodes
  pub small : (u : ℕ) → u < nodes → slice_index depth u < nodes
  pub inside : (u : ℕ) → u < nodes → slice_index least u < nodes

-- one more than the greatest depth that these nodes have outside of the component with this least member, or what it was so far
pub record IsHeight (Leaves : ℕ → Type 0) (least depth : List ℕ) (root so_far height : ℕ) : Type 0 where
  pub more : so_far ≤ height
  pub above : (v : ℕ) → Leaves v → slice_index least v ≢ root → slice_index depth v < height
  pub reached : (height ≡ so_far) ⊎ ((v : ℕ) × Leaves v × (slice_index least v ≢ root) × (height ≡ slice_index depth v + 1))

-- the nodes to which links from these nodes lead
abbrev pub LeftBy : List (List ℕ) → List ℕ → ℕ → Type 0
LeftBy targets nodes v = (u : ℕ) × Contains nodes u × Out targets u v

-- the least of these members was written as theirs, and the height of their component as their depth
pub record IsNamed (targets : List (List ℕ)) (members least new_least depth new_depth : List ℕ) : Type 0 where
  pub root : ℕ
  pub is_member : Contains members root
  pub is_least : (v : ℕ) → Contains members v → root ≤ v
  pub least_is : IsFilled ℕ least new_least members root
  pub height : ℕ
  pub is_height : IsHeight (LeftBy targets members) new_least depth root 0 height
  pub depth_is : IsFilled ℕ depth new_depth members height

-- links held in both directions between so many nodes
pub record IsTurned (nodes : ℕ) (down up : List (List ℕ)) : Type 0 where
  pub room_down : length down ≡ nodes
  pub room_up : length up ≡ nodes
  pub turned : (u v : ℕ) → Out up v u ↔ Out down u v
  pub inside : (u v : ℕ) → Out down u v → (u < nodes) × (v < nodes)

-- components as they are found, with no mark but those of what is left
pub record AreSettled (targets : List (List ℕ)) (nodes : ℕ) (left ahead : List Bool) (least depth : List ℕ) : Type 0 where
  pub named : AreNamed (Out targets) nodes left least depth
  pub room_ahead : length ahead ≡ nodes
  pub clear : NoneMarked ahead

-- the least member and the depth of each node's component
pub record AreFound (Leads : ℕ → ℕ → Type 0) (nodes : ℕ) (least depth : List ℕ) : Type 0 where
  pub room_least : length least ≡ nodes
  pub room_depth : length depth ≡ nodes
  pub leasts : (u : ℕ) → u < nodes → IsLeastMember Leads u (slice_index least u)
  pub depths : (u : ℕ) → u < nodes → IsDepth ℕ Leads (slice_index depth) u
  pub inside : (u : ℕ) → u < nodes → slice_index least u < nodes
