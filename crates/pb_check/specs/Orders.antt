-- The order in which the segments of a transform are made, or why there is none.
use Rattle.std.specs.Prelude.{◌≡◌, ℕ, ◌+◌, if◌then◌else◌, List, [], ◌∷◌, ◌++◌, map, Option, Some, None, slice_get}
use Rattle.std.specs.List.{AllZip, enumerate_from, flat_map}
use Rattle.pb_linear.specs.Sizes.{leasts_of}
use Rattle.pb_syntax.specs.declared.refusal.Refusal.{Refusal}
use Rattle.pb_syntax.specs.declared.refusal.Refusal.TheVariants.{NoOrder, Memory}
use Rattle.pb_graph.specs.Edges.{Choices}
use Rattle.pb_graph.specs.Layerings.{IsLayering, IsUnordered, LayeringValue}
use Rattle.pb_graph.specs.Nodes.{NodeValue}
use Rattle.pb_graph.specs.declared.refusal.GraphRefusal.{GraphRefusal}
use Rattle.pb_graph.specs.declared.refusal.GraphRefusal.TheVariants as graph
use Rattle.pb_program.specs.Trees.{ProgTransform}
use Rattle.pb_region.specs.Boxes.{is_wide}
use Rattle.pb_region.specs.Reads.{ReadValue, read_value, reads_of}
use Rattle.pb_check.specs.Cuts.{AreNodes}

-- what the rules of a transform read of matrices that rules make, rule by rule
abbrev pub made_reads : ProgTransform → List ReadValue
made_reads t = flat_map (λ r. reads_of t r.0 r.1) (enumerate_from 0 t.rules)

-- the numbers of the rules that aren't for single cells
abbrev pub wide_rules : ProgTransform → List ℕ
wide_rules t = flat_map (λ r. if is_wide r.1.kind then r.0 ∷ [] else []) (enumerate_from 0 t.rules)

-- what contracts see of what is found of a transform: its segments, and the order in which they are made
pub record AnalysisValue : Type 0 where
  pub nodes : List NodeValue
  pub order : LayeringValue

-- the refusal of a program for the transform with this number
abbrev pub to_refusal : ℕ → GraphRefusal → Refusal
to_refusal number (graph.NoOrder segments) = NoOrder number segments.items
to_refusal number graph.Memory = Memory

module _ (t : ProgTransform) where
  -- the segments of a transform, and what its rules read
  pub record AreChoices (c : Choices) : Type 0 where
    pub leasts : c.leasts ≡ leasts_of t.ranges
    pub nodes : AreNodes t c.nodes
    pub reads : map read_value c.reads ≡ made_reads t
    pub wide : c.wide ≡ wide_rules t

  -- these are its segments, and this is the order in which they are made
  pub record IsAnalysis (a : AnalysisValue) : Type 0 where
    pub choices : Choices
    pub are : AreChoices choices
    pub nodes : a.nodes ≡ choices.nodes
    pub layering : IsLayering choices a.order

  -- there is such an order
  pub record IsOrdered : Type 0 where
    pub analysis : AnalysisValue
    pub is : IsAnalysis analysis

  -- why there is none, where the transform has this number
  pub record HasNoOrder (number : ℕ) (e : Refusal) : Type 0 where
    pub choices : Choices
    pub are : AreChoices choices
    pub segments : List ℕ
    pub unordered : IsUnordered choices segments
    pub told : e ≡ NoOrder number segments

-- what is found of each transform
abbrev pub AreFound : List ProgTransform → List AnalysisValue → Type 0
AreFound p found = AllZip IsAnalysis p found

-- what is made of each transform with its number, from this number on, and of what is found of it, one after the other
abbrev pub of_each : {B : Type 0} → (ℕ → ProgTransform → AnalysisValue → List B) → ℕ → List ProgTransform → List AnalysisValue → List B
of_each make number [] found = []
of_each make number (t ∷ p) [] = []
of_each make number (t ∷ p) (a ∷ found) = make number t a ++ of_each make (number + 1) p found

-- the segments of a transform; none where there is no transform
abbrev pub AreNodesIn : Option ProgTransform → List NodeValue → Type 0
AreNodesIn None nodes = nodes ≡ []
AreNodesIn (Some t) nodes = AreNodes t nodes

-- the segments of the transform that a refusal for want of an order names; none for other refusals
abbrev pub AreNamed : List ProgTransform → Refusal → List NodeValue → Type 0
AreNamed p (NoOrder t segments) nodes = AreNodesIn (slice_get p t) nodes
AreNamed p _ nodes = nodes ≡ []
