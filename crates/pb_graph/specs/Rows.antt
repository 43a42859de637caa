-- The reads of a segment by its rules, each with the segments of which it may show a cell.
use Rattle.std.specs.Prelude.{◌≡◌, ℕ, ◌==◌, ◌-◌, nat_le, Bool, false, ◌&&◌, not, List, [], ◌∷◌, map, filter, Some, slice_get, slice_index_or}
use Rattle.std.specs.List.{enumerate_from, flat_map, list_any, range_with_len}
use Rattle.pb_linear.specs.declared.boxes.ReadBox.{ReadBox}
use Rattle.pb_linear.specs.declared.boxes.Sign.TheVariants.{Plus, Minus}
use Rattle.pb_graph.specs.declared.seen.Seen.{Seen}
use Rattle.pb_graph.specs.declared.seen.EdgeSides.{EdgeSides}
use Rattle.pb_graph.specs.declared.seen.Sides.{Sides}
use Rattle.pb_linear.specs.declared.sizes.Ranges.{Ranges}
use Rattle.pb_linear.specs.declared.vform.SymBox.{SymBox}
use Rattle.pb_layers.specs.declared.link.Edge.{Edge}
use Rattle.pb_layers.specs.declared.link.Link.{Link}
use Rattle.pb_graph.specs.Edges.{Choices, EdgeValue, all_at, apart, choices, is_among, is_some, lists, numbered, sources}
use Rattle.pb_graph.specs.Nodes.{NodeValue}
use Rattle.pb_graph.specs.Seen.{all_at_by, is_wide_by, mark_by, seen_at, serves_by}

-- a read by a segment: what is known of it, and for each segment from a first on whether it may show a cell of that one
pub record OwnValue : Type 0 where
  pub seen : Seen
  pub first : ℕ
  pub touched : List Bool

-- the reads of a rule
pub record GroupValue : Type 0 where
  pub rule : ℕ
  pub reads : List OwnValue

-- a cell of an area may read a cell of a segment
abbrev pub may_touch : List ℕ → SymBox → NodeValue → ReadBox → Bool
may_touch leasts area source r = (r.matrix == source.matrix) && (not (apart leasts area r source.area 0) && not (apart leasts area r source.area 1))

abbrev pub row : List ℕ → List NodeValue → SymBox → ReadBox → List Bool
row leasts sources area r = map (λ source. may_touch leasts area source r) sources

-- it may show a cell of the segment with this number
unfoldable pub is_touched : ℕ → OwnValue → Bool
is_touched source o = nat_le o.first source && slice_index_or o.touched (source - o.first) false

-- what is known of a read is right of each segment
pub record IsOwn (leasts : List ℕ) (nodes : List NodeValue) (area : SymBox) (r : ReadBox) (o : OwnValue) : Type 0 where
  pub seen : o.seen ≡ seen_at leasts area r
  pub touched : (k : ℕ) (source : NodeValue) → slice_get nodes k ≡ Some source → is_touched k o ≡ may_touch leasts area source r

module _ (leasts : List ℕ) (nodes : List NodeValue) (area : SymBox) where
  abbrev pub AreOwn : List ReadBox → List OwnValue → Type 0
  AreOwn [] [] = Unit {0}
  AreOwn [] (_ ∷ _) = ⊥
  AreOwn (_ ∷ _) [] = ⊥
  AreOwn (r ∷ reads) (o ∷ own) = IsOwn leasts nodes area r o × AreOwn reads own

  -- the reads of a rule, each once
  pub record IsGroup (reads : List ReadBox) (k : ℕ) (g : GroupValue) : Type 0 where
    pub rule : g.rule ≡ k
    pub own : AreOwn (filter (λ r. r.rule == k) reads) g.reads

  abbrev pub AreGroups : List ReadBox → List ℕ → List GroupValue → Type 0
  AreGroups reads [] [] = Unit {0}
  AreGroups reads [] (_ ∷ _) = ⊥
  AreGroups reads (_ ∷ _) [] = ⊥
  AreGroups reads (rule ∷ rules) (g ∷ gs) = IsGroup reads rule g × AreGroups reads rules gs

-- ---- what a segment reads of the segment with a number
abbrev pub met_by : ℕ → GroupValue → List Seen
met_by source g = map (λ o. o.seen) (filter (is_touched source) g.reads)

abbrev pub met_reads : ℕ → List GroupValue → List Seen
met_reads source gs = flat_map (met_by source) gs

abbrev pub is_met : ℕ → GroupValue → Bool
is_met source g = list_any (is_touched source) g.reads

abbrev pub met_rules : ℕ → List GroupValue → List ℕ
met_rules source gs = map (λ g. g.rule) (filter (is_met source) gs)

-- ---- whether all that an edge reads stands at or before the cell, by each sign
abbrev pub sides_by : List Seen → Sides
sides_by reads = record { x_plus = all_at_by reads 0 Plus; x_minus = all_at_by reads 0 Minus; y_plus = all_at_by reads 1 Plus; y_minus = all_at_by reads 1 Minus }

-- an edge and its link, by the numbers of both segments
module _ (reader : ℕ) (gs : List GroupValue) (source : ℕ) where
  abbrev pub edge_by : EdgeValue
  edge_by = record {
    reader = reader;
    source = source;
    rules = met_rules source gs;
    mark_x = mark_by (met_reads source gs) 0;
    mark_y = mark_by (met_reads source gs) 1;
    wide = is_wide_by (met_reads source gs);
  }

  abbrev pub link_by : Edge
  link_by = record { reader = reader; source = source; serves = map (serves_by (met_reads source gs)) lists }

abbrev pub side_by : ℕ → List GroupValue → ℕ → EdgeSides
side_by reader gs source = record { reader = reader; source = source; sides = sides_by (met_reads source gs) }

-- the numbers of the segments that a segment reads, of so many
abbrev pub sources_by : List GroupValue → ℕ → List ℕ
sources_by gs count = filter (λ source. is_some (met_reads source gs)) (range_with_len 0 count)

-- edges don't depend on the rules that aren't for single cells
abbrev pub plain : Ranges → List NodeValue → List ReadBox → Choices
plain ranges nodes reads = choices ranges nodes reads []

module _ (c : Choices) where
  abbrev pub sides_of : ℕ × NodeValue → ℕ × NodeValue → EdgeSides
  sides_of u v = record {
    reader = u.0;
    source = v.0;
    sides = record { x_plus = all_at c u.1 v.1 0 Plus; x_minus = all_at c u.1 v.1 0 Minus; y_plus = all_at c u.1 v.1 1 Plus; y_minus = all_at c u.1 v.1 1 Minus };
  }

  unfoldable pub sides : List EdgeSides
  sides = flat_map (λ u. map (sides_of u) (sources c u)) (numbered c)

-- the numbers of the segments whose cells a rule may make
abbrev pub makers : List NodeValue → ℕ → List ℕ
makers nodes rule = map (λ u. u.0) (filter (λ (u : ℕ × NodeValue). is_among u.1.rules rule) (enumerate_from 0 nodes))

-- the first of some segments with each of the others
abbrev pub with_others : List ℕ → List Link
with_others [] = []
with_others (u ∷ us) = map (λ v. record { from = u; to = v }) us

abbrev pub joined_by : List NodeValue → List ℕ → List Link
joined_by nodes wide = flat_map (λ rule. with_others (makers nodes rule)) wide
