-- Orders of nodes in layers, and strong components. Nothing here speaks of code.
use Rattle.std.specs.Prelude.{◌≡◌, ℕ, ◌+◌, ◌<◌, ◌≤◌, ◌⊎◌}
use Rattle.pb_base.specs.Reach.{Together}

-- nodes, edges and lists: which edges there are, which nodes must share a layer, and which lists serve an edge
pub record Graph (N E L : Type 0) : Type 1 where
  pub reader : E → N
  pub source : E → N
  pub IsEdge : E → Type 0
  pub Joined : N → N → Type 0
  pub Serves : L → E → Type 0

-- a layer for each node and a list for each layer
pub record IsOrder (N E L : Type 0) (g : Graph N E L) (layer : N → ℕ) (list_of : ℕ → L) : Type 0 where
  pub shared : (u v : N) → g.Joined u v → layer u ≡ layer v
  pub lower : (e : E) → g.IsEdge e → (layer (g.source e) < layer (g.reader e)) ⊎ ((layer (g.source e) ≡ layer (g.reader e)) × g.Serves (list_of (layer (g.reader e))) e)

-- some layer for each node and some list for each layer
abbrev pub OrderExists : {N E L : Type 0} → Graph N E L → Type 0
OrderExists {N} {E} {L} g = (layer : N → ℕ) × (list_of : ℕ → L) × IsOrder N E L g layer list_of

-- a link goes from each of two joined nodes to the other, and from an edge's reader to its source
abbrev pub Leads : {N E L : Type 0} → Graph N E L → N → N → Type 0
Leads {N} {E} g u v = g.Joined u v ⊎ ((e : E) × g.IsEdge e × (g.reader e ≡ u) × (g.source e ≡ v))

-- an edge inside the strong component of u
pub record IsInner (N E L : Type 0) (g : Graph N E L) (u : N) (e : E) : Type 0 where
  pub is_edge : g.IsEdge e
  pub reader : Together (Leads g) u (g.reader e)
  pub source : Together (Leads g) u (g.source e)

-- a list serves all edges inside the component of u
abbrev pub ServesAll : {N E L : Type 0} → Graph N E L → N → L → Type 0
ServesAll {N} {E} {L} g u list = (e : E) → IsInner N E L g u e → g.Serves list e

-- the length of the longest way out of u's component: 0 where no link leaves it, else one more than the greatest depth that its
-- leaving links reach
pub record IsDepth (N : Type 0) (Leads : N → N → Type 0) (depth : N → ℕ) (u : N) : Type 0 where
  pub same : (a : N) → Together Leads u a → depth u ≡ depth a
  pub falls : (a v : N) → Together Leads u a → Leads a v → Together Leads u v ⊎ (depth v < depth u)
  pub reached : (depth u ≡ 0) ⊎ ((a : N) × (v : N) × Together Leads u a × Leads a v × (depth u ≡ depth v + 1))

-- the least node of the component of u
pub record IsLeastMember (Leads : ℕ → ℕ → Type 0) (u least : ℕ) : Type 0 where
  pub member : Together Leads u least
  pub first : (v : ℕ) → Together Leads u v → least ≤ v
