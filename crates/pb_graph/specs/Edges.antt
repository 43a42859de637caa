-- Which segment reads which, and which directions suit what is read.
use Rattle.std.specs.Prelude.{ℕ, ◌==◌, pos, negsuc, Bool, true, false, ◌&&◌, ◌||◌, not, if◌then◌else◌, List, [], ◌∷◌, map, filter}
use Rattle.std.specs.List.{enumerate_from, flat_map, list_all, list_any}
use Rattle.pb_layers.specs.declared.link.Edge.{Edge}
use Rattle.pb_layers.specs.declared.link.Link.{Link}
use Rattle.pb_linear.specs.declared.boxes.ReadBox.{ReadBox}
use Rattle.pb_linear.specs.declared.boxes.Sign.{Sign}
use Rattle.pb_linear.specs.declared.boxes.Sign.TheVariants.{Plus, Minus}
use Rattle.pb_linear.specs.declared.boxes.Step.{Step}
use Rattle.pb_linear.specs.declared.form.Form.{Form}
use Rattle.pb_linear.specs.declared.sizes.Ranges.{Ranges}
use Rattle.pb_linear.specs.declared.vform.SymBox.{SymBox}
use Rattle.pb_linear.specs.Sizes.{leasts_of}
use Rattle.pb_graph.specs.Expressions.{Expression, holds, minus, of_form, of_vform, own, plus}
use Rattle.pb_graph.specs.Nodes.{NodeValue}

-- ---- one read by the cells of an area
-- what is read on an axis by a cell: from low to before high
pub record Span : Type 0 where
  pub low : Expression
  pub high : Expression

abbrev pub span : ℕ → ReadBox → Span
span axis r = if axis == 0 then record { low = of_vform r.x0; high = of_vform r.x1 } else record { low = of_vform r.y0; high = of_vform r.y1 }

-- the ends of an area on an axis
abbrev pub lower_end : ℕ → SymBox → Form
lower_end axis area = if axis == 0 then area.x0 else area.y0

abbrev pub upper_end : ℕ → SymBox → Form
upper_end axis area = if axis == 0 then area.x1 else area.y1

module _ (leasts : List ℕ) (area : SymBox) (r : ReadBox) where
  -- on this axis all that is read ends before another area, or begins after it
  abbrev pub apart : SymBox → ℕ → Bool
  apart other axis =
      holds leasts area (minus (span axis r).high (of_form (lower_end axis other)))
      || holds leasts area (minus (of_form (upper_end axis other)) (span axis r).low)

  -- all that is read stands before the cell in the direction of a step
  abbrev pub before_by : ℕ → Sign → Bool
  before_by axis Plus = holds leasts area (minus (span axis r).high (own axis))
  before_by axis Minus = holds leasts area (minus (plus (own axis) (pos 1)) (span axis r).low)

  -- or at the cell's own coordinate
  abbrev pub at_or_before_by : ℕ → Sign → Bool
  at_or_before_by axis Plus = holds leasts area (minus (plus (span axis r).high (negsuc 0)) (own axis))
  at_or_before_by axis Minus = holds leasts area (minus (own axis) (span axis r).low)

  abbrev pub before : Step → Bool
  before step = before_by step.axis step.sign

  abbrev pub at_or_before : Step → Bool
  at_or_before step = at_or_before_by step.axis step.sign

  -- what is read stands before the cell in the order of a list
  abbrev pub fits : List Step → Bool
  fits [] = false
  fits (a ∷ []) = before a
  fits (a ∷ b ∷ _) = before a || (at_or_before a && before b)

-- ---- lists
abbrev pub step : ℕ → Sign → Step
step axis sign = record { axis = axis; sign = sign }

-- the twelve lists of one signed axis, or of two on different axes, in the order in which they are tried
abbrev pub lists : List (List Step)
lists =
    (step 0 Plus ∷ []) ∷ (step 0 Minus ∷ []) ∷ (step 1 Plus ∷ []) ∷ (step 1 Minus ∷ [])
    ∷ (step 0 Plus ∷ step 1 Plus ∷ []) ∷ (step 0 Plus ∷ step 1 Minus ∷ []) ∷ (step 0 Minus ∷ step 1 Plus ∷ []) ∷ (step 0 Minus ∷ step 1 Minus ∷ [])
    ∷ (step 1 Plus ∷ step 0 Plus ∷ []) ∷ (step 1 Plus ∷ step 0 Minus ∷ []) ∷ (step 1 Minus ∷ step 0 Plus ∷ []) ∷ (step 1 Minus ∷ step 0 Minus ∷ []) ∷ []

-- ---- the segments of a transform
-- the least sizes; the segments; what the rules read of matrices that rules make; the rules that aren't for single cells
pub record Choices : Type 0 where
  pub leasts : List ℕ
  pub nodes : List NodeValue
  pub reads : List ReadBox
  pub wide : List ℕ

abbrev pub choices : Ranges → List NodeValue → List ReadBox → List ℕ → Choices
choices ranges nodes reads wide = record { leasts = leasts_of ranges; nodes = nodes; reads = reads; wide = wide }

-- an edge: the rules by which a segment reads another, and for each axis the mark of what they read
pub record EdgeValue : Type 0 where
  pub reader : ℕ
  pub source : ℕ
  pub rules : List ℕ
  pub mark_x : ℕ
  pub mark_y : ℕ
  pub wide : Bool

-- there are some
abbrev pub is_some : {A : Type 0} → List A → Bool
is_some [] = false
is_some (_ ∷ _) = true

-- a rule is among these
abbrev pub is_among : List ℕ → ℕ → Bool
is_among rules rule = list_any (λ k. k == rule) rules

module _ (c : Choices) where
  -- what a rule reads
  abbrev pub reads_by : ℕ → List ReadBox
  reads_by rule = filter (λ r. r.rule == rule) c.reads

  -- a cell of one segment may read a cell of another
  abbrev pub touches : NodeValue → NodeValue → ReadBox → Bool
  touches reader source r = (r.matrix == source.matrix) && (not (apart c.leasts reader.area r source.area 0) && not (apart c.leasts reader.area r source.area 1))

  -- those reads of a rule by which a segment reads another
  abbrev pub by_rule : NodeValue → NodeValue → ℕ → List ReadBox
  by_rule reader source rule = filter (touches reader source) (reads_by rule)

  -- those of all rules that may make the reader's cells
  unfoldable pub between : NodeValue → NodeValue → List ReadBox
  between reader source = flat_map (by_rule reader source) reader.rules

  -- the rules that have such a read
  abbrev pub rules_between : NodeValue → NodeValue → List ℕ
  rules_between reader source = filter (λ rule. is_some (by_rule reader source rule)) reader.rules

  -- all that a segment reads of another stands at or before the cell by this sign, and before it
  abbrev pub all_at : NodeValue → NodeValue → ℕ → Sign → Bool
  all_at reader source axis sign = list_all (λ r. at_or_before_by c.leasts reader.area r axis sign) (between reader source)

  abbrev pub all_before : NodeValue → NodeValue → ℕ → Sign → Bool
  all_before reader source axis sign = list_all (λ r. before_by c.leasts reader.area r axis sign) (between reader source)

  -- a read of a rule that isn't for single cells is among them
  abbrev pub is_wide : NodeValue → NodeValue → Bool
  is_wide reader source = list_any (λ r. r.wide) (between reader source)

  -- the mark of an axis: 0 to 5 for =, <, >, <=, >= and *
  abbrev pub mark : NodeValue → NodeValue → ℕ → ℕ
  mark reader source axis =
      if is_wide reader source then 5
      else if all_at reader source axis Plus && all_at reader source axis Minus then 0
      else if all_before reader source axis Plus then 1
      else if all_before reader source axis Minus then 2
      else if all_at reader source axis Plus then 3
      else if all_at reader source axis Minus then 4
      else 5

  -- ---- numbered segments
  abbrev pub numbered : List (ℕ × NodeValue)
  numbered = enumerate_from 0 c.nodes

  abbrev pub edge : ℕ × NodeValue → ℕ × NodeValue → EdgeValue
  edge u v = record {
    reader = u.0;
    source = v.0;
    rules = rules_between u.1 v.1;
    mark_x = mark u.1 v.1 0;
    mark_y = mark u.1 v.1 1;
    wide = is_wide u.1 v.1;
  }

  -- the segments that a segment reads, rising
  abbrev pub sources : ℕ × NodeValue → List (ℕ × NodeValue)
  sources u = filter (λ v. is_some (between u.1 v.1)) numbered

  -- all edges, by reader and then by source
  unfoldable pub edges : List EdgeValue
  edges = flat_map (λ u. map (edge u) (sources u)) numbered

  -- ---- what an order asks
  -- a list serves an edge: no read of a rule that isn't for single cells is among its reads, and all of them fit the list
  abbrev pub serves : NodeValue → NodeValue → List Step → Bool
  serves reader source list = list_all (λ r. not r.wide && fits c.leasts reader.area r list) (between reader source)

  -- an edge, with those of the twelve lists that serve it
  abbrev pub link : ℕ × NodeValue → ℕ × NodeValue → Edge
  link u v = record { reader = u.0; source = v.0; serves = map (serves u.1 v.1) lists }

  unfoldable pub links : List Edge
  links = flat_map (λ u. map (link u) (sources u)) numbered

  -- the numbers of the segments whose cells a rule may make
  abbrev pub made_by : ℕ → List ℕ
  made_by rule = map (λ u. u.0) (filter (λ u. is_among u.1.rules rule) numbered)

  -- the first of these segments with each of them
  abbrev pub with_first : List ℕ → List Link
  with_first [] = []
  with_first (u ∷ us) = map (λ v. record { from = u; to = v }) us

  -- segments must share a layer where a rule that isn't for single cells may make cells of both
  unfoldable pub joined : List Link
  joined = flat_map (λ rule. with_first (made_by rule)) c.wide
