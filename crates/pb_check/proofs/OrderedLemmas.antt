-- The segments of a transform have an order or are refused for one reason.
use Rattle.std.proofs.Common.{◌≡◌, ◌∙◌, refl, sym, ap, subst, inl, inr, ◌⊎◌, ℕ, suc, List, [], ◌∷◌, ◌++◌, map, arith}
use Rattle.std.specs.List.{All, Contains}
use Rattle.std.proofs.lemmas.List.Elements.{All-head, All-tail}
use Rattle.pb_linear.specs.Sizes.{leasts_of}
use Rattle.pb_linear.specs.declared.boxes.ReadBox.{ReadBox}
use Rattle.pb_linear.specs.declared.vform.VForm.{VForm}
use Rattle.pb_syntax.specs.declared.refusal.Refusal.{Refusal}
use Rattle.pb_syntax.specs.declared.refusal.Refusal.TheVariants.{NoOrder}
use Rattle.pb_grid.specs.Grids.{IsGrid}
use Rattle.pb_grid.specs.Segments.{SegmentValue}
use Rattle.pb_graph.specs.Edges.{Choices}
use Rattle.pb_graph.specs.Layerings.{IsLayering, IsUnordered}
use Rattle.pb_graph.specs.Nodes.{NodeValue}
use Rattle.pb_graph.proofs.OrderLemmas.{has_answer, one_component, one_layering}
use Rattle.pb_program.specs.Forms.{CoordinateValue}
use Rattle.pb_program.specs.Trees.{ProgTransform}
use Rattle.pb_program.specs.WellFormed.{IsTransform}
use Rattle.pb_region.specs.Ends.{coordinate_of}
use Rattle.pb_region.specs.Reads.{ReadValue, read_value}
use Rattle.pb_region.specs.Small.{HaveSmallEnds, IsSmallEnd}
use Rattle.pb_check.specs.Cuts.{AreCut, AreNodesOf, HasCut, IsCut, made_matrices, node}
use Rattle.pb_check.specs.Orders.{AnalysisValue, AreChoices, AreFound, HasNoOrder, IsAnalysis, IsOrdered, made_reads, wide_rules}
use Rattle.pb_check.specs.Phases.{IsBounded}
use Rattle.pb_check.proofs.EndLemmas.{made_small}
use Rattle.pb_check.proofs.SegmentLemmas.{one_matrix, same_form, same_list, some_form}

-- ---- there are such segments and reads
pub some_nodes : (t : ProgTransform) (ms : List ℕ) → All (HasCut t) ms → (ns : List NodeValue) × AreNodesOf t ms ns
some_nodes t [] h = ([], refl)
some_nodes t (m ∷ ms) h =
    let here = All-head (HasCut t) m ms h in
    let rest = some_nodes t ms (All-tail (HasCut t) m ms h) in
    (map (node m) here.segments ++ rest.0, (here.segments, rest.0, here.cut, rest.1, refl))

some_end : (c : CoordinateValue) → IsSmallEnd c → (v : VForm) × (coordinate_of v ≡ c)
some_end c h =
    let f = some_form c.rest h.rest in
    (record { x = c.x; y = c.y; rest = f.0 }, λ i. record { x = c.x; y = c.y; rest = f.1 i; quotient = sym h.unmarked i })

some_read : (v : ReadValue) → HaveSmallEnds v.ends → (r : ReadBox) × (read_value r ≡ v)
some_read v h =
    let x0 = some_end v.ends.x.low h.x_low in
    let x1 = some_end v.ends.x.high h.x_high in
    let y0 = some_end v.ends.y.low h.y_low in
    let y1 = some_end v.ends.y.high h.y_high in (
      record { rule = v.rule; wide = v.wide; matrix = v.matrix; x0 = x0.0; x1 = x1.0; y0 = y0.0; y1 = y1.0 },
      λ i. record { rule = v.rule; wide = v.wide; matrix = v.matrix; ends = record { x = record { low = x0.1 i; high = x1.1 i }; y = record { low = y0.1 i; high = y1.1 i } } },
    )

some_reads : (vs : List ReadValue) → ((v : ReadValue) → Contains vs v → HaveSmallEnds v.ends) → (rs : List ReadBox) × (map read_value rs ≡ vs)
some_reads [] h = ([], refl)
some_reads (v ∷ vs) h =
    let r = some_read v (h v (0, omega arith, refl)) in
    let rest = some_reads vs (λ w c. h w (suc c.0, omega (arith, c.1), c.2)) in
    (r.0 ∷ rest.0, ap (λ z. z ∷ map read_value rest.0) r.1 ∙ ap (λ l. v ∷ l) rest.1)

pub some_choices : (count : ℕ) (t : ProgTransform) → IsTransform count t → IsBounded t → AreCut t → (c : Choices) × AreChoices t c
some_choices count t fits bounded cut =
    let ns = some_nodes t (made_matrices t) cut.each in
    let rs = some_reads (made_reads t) (made_small count t fits bounded) in
    (record { leasts = leasts_of t.ranges; nodes = ns.0; reads = rs.0; wide = wide_rules t }, record { leasts = refl; nodes = ns.1; reads = rs.1; wide = refl })

pub order_answer : (count : ℕ) (t : ProgTransform) → IsTransform count t → IsBounded t → AreCut t → (number : ℕ) → IsOrdered t ⊎ ((e : Refusal) × HasNoOrder t number e)
order_answer count t fits bounded cut number =
    let c = some_choices count t fits bounded cut in
    elim (has_answer c.0) [
      | inl (l, is) ↦ inl (record { analysis = record { nodes = c.0.nodes; order = l }; is = record { choices = c.0; are = c.1; nodes = refl; layering = is } })
      | inr (segments, bad) ↦ inr (NoOrder number segments, record { choices = c.0; are = c.1; segments = segments; unordered = bad; told = refl })
    ]

-- ---- and no others
same_end : (a b : VForm) → coordinate_of a ≡ coordinate_of b → a ≡ b
same_end a b e =
    let x = ap (λ (c : CoordinateValue). c.x) e in
    let y = ap (λ (c : CoordinateValue). c.y) e in
    let rest = same_form a.rest b.rest (ap (λ (c : CoordinateValue). c.rest) e) in
    λ i. record { x = x i; y = y i; rest = rest i }

same_read : (a b : ReadBox) → read_value a ≡ read_value b → a ≡ b
same_read a b e =
    let rule = ap (λ (v : ReadValue). v.rule) e in
    let wide = ap (λ (v : ReadValue). v.wide) e in
    let matrix = ap (λ (v : ReadValue). v.matrix) e in
    let x0 = same_end a.x0 b.x0 (ap (λ (v : ReadValue). v.ends.x.low) e) in
    let x1 = same_end a.x1 b.x1 (ap (λ (v : ReadValue). v.ends.x.high) e) in
    let y0 = same_end a.y0 b.y0 (ap (λ (v : ReadValue). v.ends.y.low) e) in
    let y1 = same_end a.y1 b.y1 (ap (λ (v : ReadValue). v.ends.y.high) e) in
    λ i. record { rule = rule i; wide = wide i; matrix = matrix i; x0 = x0 i; x1 = x1 i; y0 = y0 i; y1 = y1 i }

module _ (t : ProgTransform) where
  one_cut : (number : ℕ) (a b : List SegmentValue) → IsCut t number a → IsCut t number b → a ≡ b
  one_cut number a b h k =
      let same = one_matrix t number h.matrix k.matrix h.is k.is in
      let moved : IsGrid k.matrix a = subst (λ m. IsGrid m a) same h.grid in
      moved.segments ∙ sym k.grid.segments

  pub nodes_one : (ms : List ℕ) (a b : List NodeValue) → AreNodesOf t ms a → AreNodesOf t ms b → a ≡ b
  nodes_one [] a b h k = h ∙ sym k
  nodes_one (m ∷ ms) a b (ss, rest, cut, more, is) (found, others, again, later, be) =
      is ∙ ap (λ z. map (node m) z ++ rest) (one_cut m ss found cut again) ∙ ap (λ z. map (node m) found ++ z) (nodes_one ms rest others more later) ∙ sym be

  pub one_choices : (a b : Choices) → AreChoices t a → AreChoices t b → a ≡ b
  one_choices a b h k =
      let leasts = h.leasts ∙ sym k.leasts in
      let nodes = nodes_one (made_matrices t) a.nodes b.nodes h.nodes k.nodes in
      let reads = same_list read_value same_read a.reads b.reads (h.reads ∙ sym k.reads) in
      let wide = h.wide ∙ sym k.wide in
      λ i. record { leasts = leasts i; nodes = nodes i; reads = reads i; wide = wide i }

  pub order_apart : (number : ℕ) (e : Refusal) → IsOrdered t → HasNoOrder t number e → ⊥
  order_apart number e h bad =
      let same = one_choices h.is.choices bad.choices h.is.are bad.are in
      let layering : IsLayering bad.choices h.analysis.order = subst (λ c. IsLayering c h.analysis.order) same h.is.layering in
      bad.unordered.no_order (_, _, layering.is_order)

  pub one_no_order : (number : ℕ) (e f : Refusal) → HasNoOrder t number e → HasNoOrder t number f → e ≡ f
  one_no_order number e f a b =
      let same = one_choices a.choices b.choices a.are b.are in
      a.told ∙ ap (NoOrder number) (one_component b.choices a.segments b.segments (subst (λ c. IsUnordered c a.segments) same a.unordered) b.unordered) ∙ sym b.told

  -- what is found of it is one
  pub one_analysis : (a b : AnalysisValue) → IsAnalysis t a → IsAnalysis t b → a ≡ b
  one_analysis a b h k =
      let same = one_choices h.choices k.choices h.are k.are in
      let nodes = h.nodes ∙ ap (λ (c : Choices). c.nodes) same ∙ sym k.nodes in
      let order = one_layering k.choices a.order b.order (subst (λ c. IsLayering c a.order) same h.layering) k.layering in
      λ i. record { nodes = nodes i; order = order i }

pub one_found : (p : List ProgTransform) (a b : List AnalysisValue) → AreFound p a → AreFound p b → a ≡ b
one_found [] [] [] h k = refl
one_found [] [] (x ∷ b) h k = absurd k
one_found [] (x ∷ a) b h k = absurd h
one_found (t ∷ p) [] b h k = absurd h
one_found (t ∷ p) (x ∷ a) [] h k = absurd k
one_found (t ∷ p) (x ∷ a) (y ∷ b) h k = ap (λ z. z ∷ a) (one_analysis t x y h.0 k.0) ∙ ap (λ l. y ∷ l) (one_found p a b h.1 k.1)

pub some_found : (p : List ProgTransform) → All IsOrdered p → (found : List AnalysisValue) × AreFound p found
some_found [] h = ([], tt)
some_found (t ∷ p) h = let here = All-head IsOrdered t p h in let rest = some_found p (All-tail IsOrdered t p h) in (here.analysis ∷ rest.0, (here.is, rest.1))
