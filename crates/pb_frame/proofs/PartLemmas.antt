-- Segments with cells, of an instance.
use Rattle.std.proofs.Common.{◌≡◌, ◌∙◌, refl, sym, ap, subst, ⊎_elim, ℕ, ℤ, pos, negsuc, ◌<◌, ◌≤◌, ◌≤ℤ◌, ◌<ℤ◌, ◌^◌, true, List, [], ◌∷◌, length, map, get_or, slice_get, slice_index, Some, arith}
use Rattle.std.specs.Prelude.{◌-◌, filter, nat_lt}
use Rattle.std.specs.List.{All, Contains, enumerate_from, range_with_len}
use Rattle.std.proofs.lemmas.Bool.{and_parts}
use Rattle.std.proofs.lemmas.Int.{ints}
use Rattle.std.proofs.lemmas.List.Elements.{Contains-append_cases}
use Rattle.std.proofs.lemmas.Option.{slice_get-get_or, slice_get_within}
use Rattle.std.proofs.lemmas.List.{get_or_default, length-map}
use Rattle.std.proofs.lemmas.Bool.Decides.{nat_tests}
use Rattle.std.proofs.lemmas.List.FromFn.{get_or-range_with_len, length-enumerate_from, length-range_with_len}
use Rattle.pb_linear.specs.Form.{value}
use Rattle.pb_linear.specs.Sizes.{leasts_of, sizes_of}
use Rattle.pb_linear.specs.VForm.{InArea}
use Rattle.pb_linear.specs.declared.sizes.Sizes.{Sizes}
use Rattle.pb_linear.specs.declared.sizes.TheConstants.{SIZE_TOP}
use Rattle.pb_linear.proofs.SizesLemmas.{in_range_top}
use Rattle.pb_syntax.specs.declared.limits.TheConstants.{MOST_RULES}
use Rattle.pb_values.specs.Views.{HasPlace}
use Rattle.pb_values.specs.declared.rect.Rect.{Rect}
use Rattle.pb_graph.specs.Layerings.{layer_of}
use Rattle.pb_graph.specs.Nodes.{NodeValue}
use Rattle.pb_program.specs.Forms.{DeclValue}
use Rattle.pb_program.specs.Trees.{ProgTransform}
use Rattle.pb_program.specs.WellFormed.{IsTransform}
use Rattle.pb_region.specs.Small.{IsSmallRule}
use Rattle.pb_region.proofs.SmallLemmas.{at_place, small_rule, small_transform}
use Rattle.pb_model.specs.Cells.{Cell, natural}
use Rattle.pb_base.proofs.ListLemmas.{filter_in, in_at, in_filter, in_head, in_map, in_tail, map_in}
use Rattle.pb_check.specs.Cuts.{AreNodes, AreNodesOf, made_matrices, node}
use Rattle.pb_check.specs.Orders.{AnalysisValue}
use Rattle.pb_check.specs.Ranked.{IsIn, IsMadeCell}
use Rattle.pb_check.proofs.BoundLemmas.{few_rules}
use Rattle.pb_check.proofs.EndLemmas.{few_nodes}
use Rattle.pb_check.proofs.LawfulLemmas.{at_numbered, numbered_at}
use Rattle.pb_check.proofs.FirstLemmas.{some_same}
use Rattle.pb_check.proofs.RankedLemmas.{are, one_segment_only, segment_there}
use Rattle.pb_calls.proofs.SameLemmas.{one_choice}
use Rattle.pb_calls.proofs.SideLemmas.{segment_below}
use Rattle.pb_program.specs.Configs.{ConfigValue, chosen, is_in}
use Rattle.pb_model.specs.Chosen.{chosen_rule, instance_size}
use Rattle.pb_model.specs.Lawful.{lawful}
use Rattle.pb_check.specs.Sites.{least_of}
use Rattle.pb_check.proofs.CoverLemmas.{has_lawful}
use Rattle.pb_frame.specs.Choices.{IsInstance, met_of}
use Rattle.pb_frame.proofs.ChoiceLemmas.{lawful_is}
use Rattle.pb_frame.proofs.ListLemmas.{as_long}
use Rattle.pb_frame.specs.Frames.{HoldsCell, corner_of, has_cell, has_place, part_of, parts_of, rect_of}
use Rattle.pb_frame.specs.declared.part.FramePart.{FramePart}

range_from : (a n k : ℕ) → Contains (range_with_len a n) k → a ≤ k
range_from a n k h = let below : h.0 < n = omega (arith, h.1, length-range_with_len a n) in omega (arith, below, h.2, get_or-range_with_len a n h.0 k below)

-- each segment is of a matrix that is cut
of_matrix : (t : ProgTransform) (ms : List ℕ) (ns : List NodeValue) → AreNodesOf t ms ns → (n : NodeValue) → Contains ns n → Contains ms n.matrix × (d : DeclValue) × (slice_get t.matrices n.matrix ≡ Some d)
of_matrix t [] ns h n k = absurd (omega (arith, ap length h, k.1))
of_matrix t (m ∷ ms) ns (ss, rest, cut, more, is) n k = ⊎_elim
    (λ here.
    let s = map_in (node m) ss n here in
    let matrix : m ≡ n.matrix = ap (λ (z : NodeValue). z.matrix) s.2 in
    (subst (Contains (m ∷ ms)) matrix (in_head m ms), cut.is.decl, subst (λ j. slice_get t.matrices j ≡ Some cut.is.decl) matrix cut.is.there))
    (λ later. let found = of_matrix t ms rest more n later in (in_tail m n.matrix ms found.0, found.1, found.2))
    (Contains-append_cases (map (node m) ss) rest n (subst (λ l. Contains l n) is k))

module _ (number : ℕ) (t : ProgTransform) (a : AnalysisValue) (sizes : List ℕ) (i : IsInstance number t a sizes) where
  abbrev pub nodes_are : AreNodes t a.nodes
  nodes_are = are i.program number t sizes i.well_formed i.sound i.there a i.found

  fits : IsTransform (length i.program) t
  fits = at_place (IsTransform (length i.program)) i.program number t i.well_formed.transforms i.there

  pub few : length a.nodes < 2 ^ 32
  few = few_nodes (length i.program) t fits (small_transform i.program i.well_formed number t i.there).ranges a.nodes nodes_are

  pub rules_few : length t.rules ≤ MOST_RULES
  rules_few = few_rules i.program number t i.well_formed i.there

  pub few_layers : length a.order.layers < 2 ^ 32
  few_layers =
      let l = i.found.layering in
      let long : length a.order.layers ≡ length l.used.layers = ap length l.layers ∙ length-map (enumerate_from 0 l.used.layers) (layer_of i.found.choices l.used.layer) ∙ length-enumerate_from 0 l.used.layers in
      let most : length l.used.layers ≤ length l.used.layer = as_long (length l.used.layers) l.used.layer (λ p below. let u = l.is_used.no_gap p below in let inside : u.0 < length l.used.layer = omega (arith, u.1, l.is_used.room) in (u.0, inside, get_or_default l.used.layer u.0 p 0 inside ∙ u.2)) in
      omega (arith, long, most, l.is_used.room, ap length i.found.nodes, few)

  pub node_layer : (u : ℕ) → u < length a.nodes → (u < length a.order.layer) × (slice_index a.order.layer u < length a.order.layers)
  node_layer u below =
      let l = i.found.layering in
      let inside : u < length i.found.choices.nodes = omega (arith, below, ap length i.found.nodes) in
      let long : length a.order.layers ≡ length l.used.layers = ap length l.layers ∙ length-map (enumerate_from 0 l.used.layers) (layer_of i.found.choices l.used.layer) ∙ length-enumerate_from 0 l.used.layers in
      (omega (arith, inside, ap length l.layer, l.is_used.room), omega (arith, long, ap (λ ks. slice_index ks u) l.layer, l.is_used.numbered u inside))

  -- each part is of a segment
  pub of_part : (config : ConfigValue) (part : FramePart) → Contains (parts_of config number t sizes a.nodes) part → (n : NodeValue) × (slice_get a.nodes part.node ≡ Some n) × (has_place (rect_of n sizes) ≡ true) × (part ≡ part_of config number t sizes (part.node, n))
  of_part config part h =
      let from = map_in (part_of config number t sizes) (filter (has_cell sizes) (enumerate_from 0 a.nodes)) part h in
      let kept = filter_in (has_cell sizes) (enumerate_from 0 a.nodes) from.0 from.1 in
      let at = numbered_at 0 a.nodes from.0 kept.0 in
      let same : from.0.0 ≡ part.node = ap (λ (p : FramePart). p.node) from.2 in
      (from.0.1, subst (λ k. slice_get a.nodes k ≡ Some from.0.1) (omega (arith, same, at.1)) at.2, kept.1, sym from.2 ∙ ap (λ k. part_of config number t sizes (k, from.0.1)) same)

  pub part_inside : (config : ConfigValue) (parts : List FramePart) → parts ≡ parts_of config number t sizes a.nodes → All (λ (part : FramePart). part.node < length a.order.layer) parts
  part_inside config parts e = λ k d below.
      let p = of_part config (get_or parts k d) (subst (λ l. Contains l (get_or parts k d)) e (in_at parts k (get_or parts k d) (slice_get-get_or parts k d below))) in
      (node_layer (get_or parts k d).node (slice_get_within a.nodes (get_or parts k d).node p.0 p.1)).0

  pub part_below : (config : ConfigValue) (parts : List FramePart) → parts ≡ parts_of config number t sizes a.nodes → All (λ (part : FramePart). slice_index a.order.layer part.node < length a.order.layers) parts
  part_below config parts e = λ k d below.
      let p = of_part config (get_or parts k d) (subst (λ l. Contains l (get_or parts k d)) e (in_at parts k (get_or parts k d) (slice_get-get_or parts k d below))) in
      (node_layer (get_or parts k d).node (slice_get_within a.nodes (get_or parts k d).node p.0 p.1)).1

  module _ (u : ℕ) (n : NodeValue) (there : slice_get a.nodes u ≡ Some n) where
    abbrev matrix_of : Contains (made_matrices t) n.matrix × (d : DeclValue) × (slice_get t.matrices n.matrix ≡ Some d)
    matrix_of = of_matrix t (made_matrices t) a.nodes nodes_are n (in_at a.nodes u n there)

    -- a place of a segment is one of its rectangle
    natural_low : (z : ℤ) (k : ℕ) → natural z ≤ k → z ≤ℤ pos k
    natural_low (pos m) k h = omega (arith, ints, h)
    natural_low (negsuc m) k h = omega (arith, ints)

    natural_high : (z : ℤ) (k : ℕ) → k < natural z → pos k <ℤ z
    natural_high (pos m) k h = omega (arith, ints, h)
    natural_high (negsuc m) k h = omega (arith, h)

    pub in_node : (x y : ℕ) → (rect_of n sizes).x0 ≤ x → x < (rect_of n sizes).x1 → (rect_of n sizes).y0 ≤ y → y < (rect_of n sizes).y1 → InArea n.area sizes (pos x) (pos y)
    in_node x y left right low high = record {
      from_x = natural_low (value n.area.x0 sizes) x left;
      before_x = natural_high (value n.area.x1 sizes) x right;
      from_y = natural_low (value n.area.y0 sizes) y low;
      before_y = natural_high (value n.area.y1 sizes) y high;
    }

    pub made_in : (x y : ℕ) → InArea n.area sizes (pos x) (pos y) → IsMadeCell t sizes (record { matrix = n.matrix; x = x; y = y })
    made_in x y h =
        let m = matrix_of in
        let below = segment_below i.program number t a sizes i.well_formed i.sound i.there i.found i.in_range u n m.1 there m.2 in
        record {
          cell = record { in_range = i.in_range; decl = m.1; there = m.2; before_x = omega (arith, ints, h.before_x, below.across); before_y = omega (arith, ints, h.before_y, below.down) };
          made = (range_from t.inputs (length t.matrices - t.inputs) n.matrix m.0);
        }

    pub corner_in : has_place (rect_of n sizes) ≡ true → InArea n.area sizes (pos (corner_of n sizes).x) (pos (corner_of n sizes).y)
    corner_in some =
        let r = rect_of n sizes in
        let parts = and_parts (nat_lt r.x0 r.x1) (nat_lt r.y0 r.y1) some in
        let wide : r.x0 < r.x1 = grind (arith, nat_tests, parts.0) in
        let tall : r.y0 < r.y1 = grind (arith, nat_tests, parts.1) in
        in_node r.x0 r.y0 (omega arith) wide (omega arith) tall

    pub corner_made : has_place (rect_of n sizes) ≡ true → IsMadeCell t sizes (corner_of n sizes)
    corner_made some = made_in (corner_of n sizes).x (corner_of n sizes).y (corner_in some)

    pub corner_is_in : has_place (rect_of n sizes) ≡ true → IsIn a.nodes sizes (corner_of n sizes) u
    corner_is_in some = record { node = n; there = there; matrix = refl; inside = corner_in some }

  pub rules_small : All IsSmallRule t.rules
  rules_small = λ k d below. small_rule i.program i.well_formed number t i.there k (get_or t.rules k d) (slice_get-get_or t.rules k d below)

  module _ (u : ℕ) (n : NodeValue) (there : slice_get a.nodes u ≡ Some n) (some : has_place (rect_of n sizes) ≡ true) (met set : List ℕ) (is_met : met ≡ met_of t sizes) (is : set ≡ least_of t (filter (is_in n.rules) met)) where
    set_is : set ≡ lawful t sizes (corner_of n sizes)
    unfolding corner_is_in
    set_is = is ∙ ap (λ m. least_of t (filter (is_in n.rules) m)) is_met ∙ sym (lawful_is number t a sizes i (corner_of n sizes) (corner_made u n there some) u (corner_is_in u n there some))

    pub some_lawful : 0 < length set
    some_lawful = not_empty set (λ e. has_lawful i.program number t (corner_of n sizes) sizes i.well_formed i.sound i.there (corner_made u n there some).cell (corner_made u n there some).made (sym set_is ∙ e))
      where
        not_empty : (xs : List ℕ) → (xs ≡ [] → ⊥) → 0 < length xs
        not_empty [] other = absurd (other refl)
        not_empty (x ∷ xs) other = omega arith

    pub chosen_by : (config : ConfigValue) (size : ℕ) → size ≡ instance_size sizes → chosen config (record { transform = number; matrix = n.matrix; set = set }) size ≡ chosen_rule config number t sizes (corner_of n sizes)
    unfolding chosen_rule
    chosen_by config size e =
        ap (λ s. chosen config (record { transform = number; matrix = n.matrix; set = s }) size) set_is
        ∙ ap (λ k. chosen config (record { transform = number; matrix = n.matrix; set = lawful t sizes (corner_of n sizes) }) k) e

pub top_of : (number : ℕ) (t : ProgTransform) (a : AnalysisValue) (s : Sizes) → IsInstance number t a (sizes_of s) → All (λ size. size ≤ SIZE_TOP) s.of
top_of number t a s i = in_range_top (leasts_of t.ranges) s i.in_range

-- ---- the cells of parts
module _ (config : ConfigValue) (number : ℕ) (t : ProgTransform) (a : AnalysisValue) (sizes : List ℕ) (i : IsInstance number t a sizes) where
  abbrev parts : List FramePart
  parts = parts_of config number t sizes a.nodes

  same_node : (part : FramePart) (c : Cell) (p : Contains parts part) (h : HoldsCell a.nodes part c) → (of_part number t a sizes i config part p).0 ≡ h.node
  same_node part c p h = let f = of_part number t a sizes i config part p in some_same f.0 h.node (sym f.1 ∙ h.there)

  pub held_area : (part : FramePart) (c : Cell) → Contains parts part → (h : HoldsCell a.nodes part c) → InArea h.node.area sizes (pos c.x) (pos c.y)
  held_area part c p h =
      let f = of_part number t a sizes i config part p in
      let rect : part.rect ≡ rect_of h.node sizes = ap (λ (q : FramePart). q.rect) f.3 ∙ ap (λ (n : NodeValue). rect_of n sizes) (same_node part c p h) in
      let place = subst (λ r. HasPlace r c.x c.y) rect h.place in
      in_node number t a sizes i part.node h.node h.there c.x c.y place.left place.right place.low place.high

  pub held_in : (part : FramePart) (c : Cell) → Contains parts part → HoldsCell a.nodes part c → IsIn a.nodes sizes c part.node
  held_in part c p h = record { node = h.node; there = h.there; matrix = h.matrix; inside = held_area part c p h }

  pub held_made : (part : FramePart) (c : Cell) → Contains parts part → HoldsCell a.nodes part c → IsMadeCell t sizes c
  held_made part c p h = subst (λ m. IsMadeCell t sizes (record { matrix = m; x = c.x; y = c.y })) h.matrix (made_in number t a sizes i part.node h.node h.there c.x c.y (held_area part c p h))

  pub held_chosen : (part : FramePart) (c : Cell) → Contains parts part → HoldsCell a.nodes part c → chosen_rule config number t sizes c ≡ part.rule
  held_chosen part c p h =
      let f = of_part number t a sizes i config part p in
      let corner = corner_made number t a sizes i part.node f.0 f.1 f.2 in
      one_choice i.program number t a sizes i.well_formed i.sound i.there i.found config part.node c (corner_of f.0 sizes) (held_made part c p h) corner (held_in part c p h) (corner_is_in number t a sizes i part.node f.0 f.1 f.2)
      ∙ sym (ap (λ (q : FramePart). q.rule) f.3)

  pub some_part : (c : Cell) → IsMadeCell t sizes c → (part : FramePart) × Contains parts part × HoldsCell a.nodes part c
  some_part c made =
      let u = segment_there i.program number t sizes i.well_formed i.sound i.there a i.found c made in
      let n = u.1.node in
      let place = place_of n u.1.inside in
      let part = part_of config number t sizes (u.0, n) in (
        part,
        in_map (part_of config number t sizes) (filter (has_cell sizes) (enumerate_from 0 a.nodes)) (u.0, n) (in_filter (has_cell sizes) (enumerate_from 0 a.nodes) (u.0, n) (subst (λ k. Contains (enumerate_from 0 a.nodes) (k, n)) (omega arith) (at_numbered 0 a.nodes u.0 n u.1.there)) (some_place (rect_of n sizes) c.x c.y place)),
        record { node = n; there = u.1.there; matrix = u.1.matrix; place = place },
      )
    where
      low_natural : (z : ℤ) (k : ℕ) → z ≤ℤ pos k → natural z ≤ k
      low_natural (pos m) k h = omega (arith, ints, h)
      low_natural (negsuc m) k h = omega arith

      high_natural : (z : ℤ) (k : ℕ) → pos k <ℤ z → k < natural z
      high_natural (pos m) k h = omega (arith, ints, h)
      high_natural (negsuc m) k h = absurd (omega (arith, ints, h))

      place_of : (n : NodeValue) → InArea n.area sizes (pos c.x) (pos c.y) → HasPlace (rect_of n sizes) c.x c.y
      place_of n h = record { left = low_natural (value n.area.x0 sizes) c.x h.from_x; right = high_natural (value n.area.x1 sizes) c.x h.before_x; low = low_natural (value n.area.y0 sizes) c.y h.from_y; high = high_natural (value n.area.y1 sizes) c.y h.before_y }

      some_place : (r : Rect) (x y : ℕ) → HasPlace r x y → has_place r ≡ true
      some_place r x y h =
          let wide : r.x0 < r.x1 = omega (arith, h.left, h.right) in
          let tall : r.y0 < r.y1 = omega (arith, h.low, h.high) in
          grind (arith, nat_tests)

  pub one_part : (c : Cell) (part other : FramePart) → Contains parts part → Contains parts other → HoldsCell a.nodes part c → HoldsCell a.nodes other c → part ≡ other
  one_part c part other p q h k =
      let f = of_part number t a sizes i config part p in
      let g = of_part number t a sizes i config other q in
      let nodes = nodes_are number t a sizes i in
      let made = held_made part c p h in
      let same : other.node ≡ part.node = one_segment_only i.program number t sizes i.well_formed i.sound i.there c made.cell made.made a.nodes nodes part.node other.node (held_in part c p h) (held_in other c q k) in
      let node : f.0 ≡ g.0 = some_same f.0 g.0 (sym f.1 ∙ ap (slice_get a.nodes) (sym same) ∙ g.1) in
      f.3 ∙ ap (λ k. part_of config number t sizes (k, f.0)) (sym same) ∙ ap (λ n. part_of config number t sizes (other.node, n)) node ∙ sym g.3
