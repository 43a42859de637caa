-- The order that is used, and why there is none.
use Rattle.std.specs.Prelude.{◌≡◌, ℕ, ◌<◌, ◌⊎◌, ◌↔◌, Bool, true, false, List, length, slice_index, slice_index_or}
use Rattle.std.specs.List.{Contains}
use Rattle.pb_base.specs.Reach.{Together}
use Rattle.pb_layers.specs.Orders.{Graph, IsDepth, IsInner, IsLeastMember, Leads, OrderExists, ServesAll}
use Rattle.pb_layers.specs.declared.link.Edge.{Edge}
use Rattle.pb_layers.specs.declared.link.Link.{Link}
use Rattle.pb_layers.specs.declared.layers.Layer.{Layer}
use Rattle.pb_layers.specs.declared.refusal.LayersRefusal.{LayersRefusal}
use Rattle.pb_layers.specs.declared.refusal.LayersRefusal.TheVariants.{NoOrder, Memory}

-- these edges, and the nodes of each pair must share a layer; there are 12 lists
abbrev pub graph_of : List Link → List Edge → Graph ℕ Edge ℕ
graph_of joined edges = record {
  reader = λ e. e.reader;
  source = λ e. e.source;
  IsEdge = λ e. Contains edges e;
  Joined = λ u v. Contains joined (record { from = u; to = v }) ⊎ Contains joined (record { from = v; to = u });
  Serves = λ list e. (list < 12) × (slice_index_or e.serves list false ≡ true);
}

-- the nodes of a link, and of an edge, are among so many
abbrev pub LinksInside : ℕ → Link → Type 0
LinksInside nodes l = (l.from < nodes) × (l.to < nodes)

abbrev pub EdgeInside : ℕ → Edge → Type 0
EdgeInside nodes e = (e.reader < nodes) × (e.source < nodes)

-- the layer of each node, and the layers
pub record LayersValue : Type 0 where
  pub layer : List ℕ
  pub layers : List Layer

-- a layer that is none, for places past the last
abbrev pub no_layer : Layer
no_layer = record { list = 0; inner = false }

-- the list of a layer, and whether edges are inside it
abbrev pub list_at : List Layer → ℕ → ℕ
list_at layers place = (slice_index_or layers place no_layer).list

abbrev pub inner_at : List Layer → ℕ → Bool
inner_at layers place = (slice_index_or layers place no_layer).inner

module _ (g : Graph ℕ Edge ℕ) (nodes : ℕ) where
  -- strong components are the layers, from 0 without gaps by their depth and then by their least member; each has the first list
  -- that serves all its inner edges
  pub record IsUsedOrder (a : LayersValue) : Type 0 where
    pub least : ℕ → ℕ
    pub depth : ℕ → ℕ
    pub leasts : (u : ℕ) → u < nodes → IsLeastMember (Leads g) u (least u)
    pub depths : (u : ℕ) → u < nodes → IsDepth ℕ (Leads g) depth u
    pub room : length a.layer ≡ nodes
    pub rising : (u v : ℕ) → u < nodes → v < nodes → (slice_index a.layer u < slice_index a.layer v) ↔ ((depth u < depth v) ⊎ ((depth u ≡ depth v) × (least u < least v)))
    pub numbered : (u : ℕ) → u < nodes → slice_index a.layer u < length a.layers
    pub no_gap : (place : ℕ) → place < length a.layers → (u : ℕ) × (u < nodes) × (slice_index a.layer u ≡ place)
    pub low : (place : ℕ) → place < length a.layers → list_at a.layers place < 12
    pub serves : (u : ℕ) → u < nodes → ServesAll g u (list_at a.layers (slice_index a.layer u))
    pub first : (u list : ℕ) → u < nodes → list < list_at a.layers (slice_index a.layer u) → ServesAll g u list → ⊥
    pub inner : (u : ℕ) → u < nodes → (inner_at a.layers (slice_index a.layer u) ≡ true) ↔ ((e : Edge) × IsInner ℕ Edge ℕ g u e)

  -- no list serves the component with this least member, and each component with a lesser one is served
  pub record IsFirstUnserved (root : ℕ) : Type 0 where
    pub inside : root < nodes
    pub is_least : IsLeastMember (Leads g) root root
    pub unserved : (list : ℕ) → ServesAll g root list → ⊥
    pub first : (k : ℕ) → k < root → IsLeastMember (Leads g) k k → (list : ℕ) × ServesAll g k list

  -- these are the nodes of the first component that no list serves, in rising order
  pub record IsUnserved (members : List ℕ) : Type 0 where
    pub root : ℕ
    pub is : IsFirstUnserved root
    pub each : (v : ℕ) → Contains members v ↔ Together (Leads g) root v
    pub rises : (i j : ℕ) → i < j → j < length members → slice_index members i < slice_index members j

  -- no order exists, for this component
  pub record IsRefused (members : List ℕ) : Type 0 where
    pub no_order : OrderExists g → ⊥
    pub component : IsUnserved members

  -- there is such an order, and there is such a refusal
  pub record HasUsedOrder : Type 0 where
    pub layers : LayersValue
    pub is : IsUsedOrder layers

  pub record HasRefusal : Type 0 where
    pub members : List ℕ
    pub told : IsRefused members

-- the refusal that is answered, memory aside
abbrev pub Refuses : Graph ℕ Edge ℕ → ℕ → LayersRefusal → Type 0
Refuses g nodes (NoOrder members) = IsRefused g nodes members.items
Refuses g nodes Memory = ⊥
