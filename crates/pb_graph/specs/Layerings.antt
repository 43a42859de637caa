-- Layers of segments, and why there are none.
use Rattle.std.specs.Prelude.{◌≡◌, ◌<◌, ℕ, ◌==◌, Bool, false, IsTrue, if◌then◌else◌, List, [], ◌∷◌, length, map, filter, Option, Some, None, slice_get, slice_index, slice_index_or}
use Rattle.std.specs.List.{Contains, enumerate_from, flat_map, list_all}
use Rattle.pb_layers.specs.Layers.{IsUnserved, IsUsedOrder, LayersValue, graph_of}
use Rattle.pb_layers.specs.Orders.{Graph, IsOrder, OrderExists}
use Rattle.pb_layers.specs.declared.layers.Layer.{Layer}
use Rattle.pb_linear.specs.declared.boxes.ReadBox.{ReadBox}
use Rattle.pb_linear.specs.declared.boxes.Sign.{Sign}
use Rattle.pb_linear.specs.declared.boxes.Sign.TheVariants.{Plus, Minus}
use Rattle.pb_linear.specs.declared.boxes.Step.{Step}
use Rattle.pb_graph.specs.Edges.{Choices, EdgeValue, at_or_before_by, between, edges, fits, joined, links, lists, numbered, touches}
use Rattle.pb_graph.specs.Nodes.{NodeValue}
use Rattle.pb_graph.specs.declared.refusal.GraphRefusal.{GraphRefusal}
use Rattle.pb_graph.specs.declared.refusal.GraphRefusal.TheVariants.{NoOrder, Memory}

-- ---- orders, by layers and lists alone
-- one signed axis, or two on different axes
pub data IsList : List Step → Type 0 where
  one : {a : Step} → a.axis < 2 → IsList (a ∷ [])
  two : {a b : Step} → a.axis < 2 → b.axis < 2 → (a.axis ≡ b.axis → ⊥) → IsList (a ∷ b ∷ [])

-- a read by which a segment reads another, by the segments' numbers
pub record Touch : Type 0 where
  pub reader : ℕ
  pub source : ℕ
  pub read : ReadBox

module _ (c : Choices) where
  pub record IsTouch (t : Touch) : Type 0 where
    pub reader : NodeValue
    pub source : NodeValue
    pub has_reader : slice_get c.nodes t.reader ≡ Some reader
    pub has_source : slice_get c.nodes t.source ≡ Some source
    pub declared : Contains c.reads t.read
    pub chosen : Contains reader.rules t.read.rule
    pub touches : IsTrue (touches c reader source t.read)

  -- a rule that isn't for single cells may make cells of both segments
  pub record ShareWide (u v : ℕ) : Type 0 where
    pub rule : ℕ
    pub is_wide : Contains c.wide rule
    pub first : NodeValue
    pub second : NodeValue
    pub has_first : slice_get c.nodes u ≡ Some first
    pub has_second : slice_get c.nodes v ≡ Some second
    pub of_first : Contains first.rules rule
    pub of_second : Contains second.rules rule

  -- the read is of a rule for single cells, and fits the list
  pub record Serves (list : List Step) (t : Touch) : Type 0 where
    pub is_list : IsList list
    pub cell : t.read.wide ≡ false
    pub reader : NodeValue
    pub has_reader : slice_get c.nodes t.reader ≡ Some reader
    pub fits : IsTrue (fits c.leasts reader.area t.read list)

  -- segments, their reads of each other, and lists
  abbrev pub choice_graph : Graph ℕ Touch (List Step)
  choice_graph = record { reader = λ t. t.reader; source = λ t. t.source; IsEdge = IsTouch; Joined = ShareWide; Serves = Serves }

-- ---- layers
-- the list in whose order the cells of a layer are made; whether its segments read each other; and the sign by which it can be cut
-- on each axis, if it can
pub record LayerValue : Type 0 where
  pub steps : List Step
  pub inner : Bool
  pub cut_x : Option Sign
  pub cut_y : Option Sign

-- the layer of each segment, the layers, and the edges
pub record LayeringValue : Type 0 where
  pub layer : List ℕ
  pub layers : List LayerValue
  pub edges : List EdgeValue

-- the list of a layer; none past the last
abbrev pub steps_at : List LayerValue → ℕ → List Step
steps_at layers place = (slice_index_or layers place (record { steps = []; inner = false; cut_x = None; cut_y = None })).steps

-- the sign of an axis in a list
abbrev pub sign_in : List Step → ℕ → Option Sign
sign_in [] axis = None
sign_in (a ∷ more) axis = if a.axis == axis then Some a.sign else sign_in more axis

module _ (c : Choices) (layer : List ℕ) (place : ℕ) where
  abbrev is_here : ℕ × NodeValue → Bool
  is_here u = slice_index layer u.0 == place

  -- the reads by which segments of a layer read each other, with their readers
  unfoldable pub inner_reads : List (NodeValue × ReadBox)
  inner_reads = flat_map (λ u. flat_map (λ v. map (λ r. (u.1, r)) (between c u.1 v.1)) (filter is_here (numbered c))) (filter is_here (numbered c))

  -- all of them stand at or before the cell
  abbrev pub all_inner : ℕ → Sign → Bool
  all_inner axis sign = list_all (λ t. at_or_before_by c.leasts t.0.area t.1 axis sign) inner_reads

  -- for an axis of the list its own sign, if all inner reads allow it; for another plus, else minus, else none
  abbrev pub cut_by : ℕ → Option Sign → Option Sign
  cut_by axis (Some sign) = if all_inner axis sign then Some sign else None
  cut_by axis None = if all_inner axis Plus then Some Plus else if all_inner axis Minus then Some Minus else None

  abbrev pub cut : List Step → ℕ → Option Sign
  cut steps axis = cut_by axis (sign_in steps axis)

abbrev pub layer_of : Choices → List ℕ → ℕ × Layer → LayerValue
layer_of c layer l =
    let steps : List Step = slice_index_or lists l.1.list [] in
    record { steps = steps; inner = l.1.inner; cut_x = cut c layer l.0 steps 0; cut_y = cut c layer l.0 steps 1 }

module _ (c : Choices) where
  -- an order, and it is the one that is used: the strong components as layers, each with the first list that serves it, and with
  -- the signs by which it can be cut
  pub record IsLayering (l : LayeringValue) : Type 0 where
    pub is_order : IsOrder ℕ Touch (List Step) (choice_graph c) (slice_index l.layer) (steps_at l.layers)
    pub used : LayersValue
    pub is_used : IsUsedOrder (graph_of (joined c) (links c)) (length c.nodes) used
    pub layer : l.layer ≡ used.layer
    pub layers : l.layers ≡ map (layer_of c used.layer) (enumerate_from 0 used.layers)
    pub edges : l.edges ≡ edges c

  -- no order exists, and these are the segments of the first strong component that no list serves
  pub record IsUnordered (segments : List ℕ) : Type 0 where
    pub no_order : OrderExists (choice_graph c) → ⊥
    pub component : IsUnserved (graph_of (joined c) (links c)) (length c.nodes) segments

-- the refusal that is answered, memory aside
abbrev pub Refuses : Choices → GraphRefusal → Type 0
Refuses c (NoOrder segments) = IsUnordered c segments.items
Refuses c Memory = ⊥
