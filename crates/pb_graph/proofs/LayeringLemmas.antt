-- The layering that is answered is one by its definition.
use Rattle.std.proofs.Common.{◌≡◌, ◌∙◌, refl, sym, ap, subst, ◌⊎◌, inl, inr, ℕ, ◌<◌, Bool, true, false, ◌&&◌, ◌||◌, not, List, [], ◌∷◌, length, map, Option, Some, None, slice_index, slice_index_or, arith}
use Rattle.std.specs.Prelude.{◌==◌, filter}
use Rattle.std.specs.List.{All, Contains, enumerate_from, flat_map, list_all}
use Rattle.pb_layers.specs.Layers.{IsUsedOrder, LayersValue, graph_of}
use Rattle.pb_layers.specs.declared.layers.Layer.{Layer}
use Rattle.pb_layers.specs.declared.link.Link.{Link}
use Rattle.pb_linear.specs.declared.boxes.ReadBox.{ReadBox}
use Rattle.pb_linear.specs.declared.boxes.Sign.{Sign}
use Rattle.pb_linear.specs.declared.boxes.Sign.TheVariants.{Plus, Minus}
use Rattle.pb_linear.specs.declared.sizes.Ranges.{Ranges}
use Rattle.pb_graph.specs.declared.refusal.GraphRefusal.{GraphRefusal}
use Rattle.pb_graph.specs.declared.refusal.GraphRefusal.TheVariants.{Memory}
use Rattle.pb_graph.specs.declared.seen.EdgeSides.{EdgeSides}
use Rattle.pb_graph.specs.declared.seen.Sides.{Sides}
use Rattle.pb_graph.specs.Cuts as cuts
use Rattle.pb_graph.specs.Cuts.{all_inside, allowed_at, is_inside, layer_by}
use Rattle.pb_graph.specs.Edges.{Choices, all_at, at_or_before_by, between, choices, edges, is_some, joined, links, lists, numbered, sources, with_first}
use Rattle.pb_graph.specs.Layerings.{IsLayering, LayeringValue, all_inner, cut_by, inner_reads, layer_of, sign_in}
use Rattle.pb_graph.specs.Nodes.{NodeValue}
use Rattle.pb_graph.specs.Rows.{joined_by, makers, plain, sides, sides_of, with_others}
use Rattle.std.proofs.lemmas.List.{get_or_default}
use Rattle.std.proofs.lemmas.List.Elements.{Contains-get_or}
use Rattle.std.proofs.lemmas.Option.{slice_get_within}
use Rattle.pb_base.proofs.ListLemmas.{filter_in, flat_in, map_in}
use Rattle.pb_layers.specs.Layers as layers
use Rattle.pb_layers.specs.Layers.{EdgeInside, IsRefused, LinksInside, no_layer}
use Rattle.pb_layers.specs.declared.refusal.LayersRefusal.{LayersRefusal}
use Rattle.pb_layers.specs.declared.refusal.LayersRefusal.TheVariants as refusals
use Rattle.pb_layers.specs.declared.link.Edge.{Edge}
use Rattle.pb_layers.specs.Orders.{IsOrder}
use Rattle.pb_linear.specs.declared.boxes.Step.{Step}
use Rattle.pb_graph.specs.Layerings.{Refuses, Touch, choice_graph, steps_at}
use Rattle.pb_graph.proofs.ChoiceLemmas.{numbered_get}
use Rattle.pb_graph.proofs.OrderLemmas.{joined_inside, links_inside, order_exists, order_of_used}
use Rattle.pb_graph.proofs.ListLemmas.{all_flat, all_kept, all_like, all_mapped, flat_like, or_all, same_map}

same_tests : (h k a s : Bool) → (s ≡ false → a ≡ true) → (not h || (not k || a)) ≡ (not s || (not (h && k) || a))
same_tests true true a true n = refl
same_tests true true a false n = n refl
same_tests true false a true n = refl
same_tests true false a false n = refl
same_tests false k a true n = refl
same_tests false k a false n = refl

-- ---- the reads inside a layer, and its edges
module _ (c : Choices) (layer : List ℕ) (place : ℕ) (axis : ℕ) (sign : Sign) where
  abbrev here : ℕ × NodeValue → Bool
  here u = slice_index layer u.0 == place

  abbrev test : NodeValue × ReadBox → Bool
  test t = at_or_before_by c.leasts t.0.area t.1 axis sign

  abbrev at : ℕ × NodeValue → ℕ × NodeValue → Bool
  at u v = all_at c u.1 v.1 axis sign

  none_read : (u v : ℕ × NodeValue) → is_some (between c u.1 v.1) ≡ false → at u v ≡ true
  none_read u v e = by_reads (between c u.1 v.1) e
    where
      by_reads : (rs : List ReadBox) → is_some rs ≡ false → list_all (λ r. at_or_before_by c.leasts u.1.area r axis sign) rs ≡ true
      by_reads [] e = refl
      by_reads (r ∷ rs) e = absurd (let wrong : true ≡ false = e in cc)

  by_pairs : all_inner c layer place axis sign ≡ list_all (λ u. list_all (λ v. not (here u) || (not (here v) || at u v)) (numbered c)) (numbered c)
  unfolding inner_reads
  by_pairs =
      all_flat test (λ u. flat_map (λ v. map (λ r. (u.1, r)) (between c u.1 v.1)) (filter here (numbered c))) (filter here (numbered c))
      ∙ all_kept (λ u. list_all test (flat_map (λ v. map (λ r. (u.1, r)) (between c u.1 v.1)) (filter here (numbered c)))) here (numbered c)
      ∙ all_like _ _ (λ u. ap (λ b. not (here u) || b) (all_flat test (λ v. map (λ r. (u.1, r)) (between c u.1 v.1)) (filter here (numbered c)) ∙ all_kept (λ v. list_all test (map (λ r. (u.1, r)) (between c u.1 v.1))) here (numbered c) ∙ all_like _ _ (λ v. ap (λ b. not (here v) || b) (all_mapped (λ r. (u.1, r)) test (λ r. test (u.1, r)) (λ r. refl) (between c u.1 v.1))) (numbered c)) ∙ or_all (not (here u)) (λ v. not (here v) || at u v) (numbered c)) (numbered c)

  module _ (side : Sides → Bool) (is : (u v : ℕ × NodeValue) → side (sides_of c u v).sides ≡ at u v) where
    abbrev edge_test : EdgeSides → Bool
    edge_test e = not (is_inside layer place e) || side e.sides

    inner_is : all_inner c layer place axis sign ≡ all_inside layer place (sides c) side
    unfolding sides
    inner_is =
        by_pairs
        ∙ all_like _ _ (λ u. all_like _ _ (λ v. same_tests (here u) (here v) (at u v) (is_some (between c u.1 v.1)) (none_read u v) ∙ ap (λ b. not (is_some (between c u.1 v.1)) || (not (here u && here v) || b)) (sym (is u v))) (numbered c) ∙ sym (all_mapped (sides_of c u) edge_test (λ v. edge_test (sides_of c u v)) (λ v. refl) (sources c u) ∙ all_kept (λ v. edge_test (sides_of c u v)) (λ v. is_some (between c u.1 v.1)) (numbered c))) (numbered c)
        ∙ sym (all_flat edge_test (λ u. map (sides_of c u) (sources c u)) (numbered c))

-- ---- layers with their cut signs
module _ (c : Choices) (layer : List ℕ) (place : ℕ) where
  abbrev s : Sides
  s = allowed_at layer place (sides c)

  cut_x_is : (o : Option Sign) → cut_by c layer place 0 o ≡ cuts.cut_by s 0 o
  cut_x_is o =
      let plus = inner_is c layer place 0 Plus (λ s. s.x_plus) (λ u v. refl) in
      let minus = inner_is c layer place 0 Minus (λ s. s.x_minus) (λ u v. refl) in
      by_sign o plus minus
    where
      by_sign : (o : Option Sign) → all_inner c layer place 0 Plus ≡ s.x_plus → all_inner c layer place 0 Minus ≡ s.x_minus → cut_by c layer place 0 o ≡ cuts.cut_by s 0 o
      by_sign (Some Plus) plus minus = rw plus refl
      by_sign (Some Minus) plus minus = rw minus refl
      by_sign None plus minus = rw (plus, minus) refl

  cut_y_is : (o : Option Sign) → cut_by c layer place 1 o ≡ cuts.cut_by s 1 o
  cut_y_is o =
      let plus = inner_is c layer place 1 Plus (λ s. s.y_plus) (λ u v. refl) in
      let minus = inner_is c layer place 1 Minus (λ s. s.y_minus) (λ u v. refl) in
      by_sign o plus minus
    where
      by_sign : (o : Option Sign) → all_inner c layer place 1 Plus ≡ s.y_plus → all_inner c layer place 1 Minus ≡ s.y_minus → cut_by c layer place 1 o ≡ cuts.cut_by s 1 o
      by_sign (Some Plus) plus minus = rw plus refl
      by_sign (Some Minus) plus minus = rw minus refl
      by_sign None plus minus = rw (plus, minus) refl

  layer_is : (l : Layer) → layer_by s l ≡ layer_of c layer (place, l)
  layer_is l = rw (cut_x_is (sign_in (slice_index_or lists l.list []) 0), cut_y_is (sign_in (slice_index_or lists l.list []) 1)) refl

-- what doesn't depend on the rules that aren't for single cells
module _ (ranges : Ranges) (nodes : List NodeValue) (reads : List ReadBox) (wide : List ℕ) where
  pub joined_is : joined_by nodes wide ≡ joined (choices ranges nodes reads wide)
  unfolding joined
  joined_is = flat_like (λ rule. with_others (makers nodes rule)) _ (λ rule. with_first_is (makers nodes rule)) wide
    where
      with_first_is : (us : List ℕ) → with_others us ≡ with_first (choices ranges nodes reads wide) us
      with_first_is [] = refl
      with_first_is (u ∷ us) = refl

  pub links_same : links (plain ranges nodes reads) ≡ links (choices ranges nodes reads wide)
  unfolding links between
  links_same = refl

  pub edges_same : edges (plain ranges nodes reads) ≡ edges (choices ranges nodes reads wide)
  unfolding edges between
  edges_same = refl

  pub sides_same : sides (plain ranges nodes reads) ≡ sides (choices ranges nodes reads wide)
  unfolding sides between
  sides_same = refl

-- ---- the answer
-- both ends are among so many
abbrev pub AreInside : ℕ → EdgeSides → Type 0
AreInside nodes e = (e.reader < nodes) × (e.source < nodes)

side_inside : (c : Choices) (e : EdgeSides) → Contains (sides c) e → AreInside (length c.nodes) e
unfolding sides
side_inside c e h =
    let u = flat_in (λ u. map (sides_of c u) (sources c u)) (numbered c) e h in
    let v = map_in (sides_of c u.0) (sources c u.0) e u.2 in
    let kept = filter_in (λ w. is_some (between c u.0.1 w.1)) (numbered c) v.0 v.1 in
    subst (AreInside (length c.nodes)) v.2 (slice_get_within c.nodes _ u.0.1 (numbered_get c.nodes u.0 u.1), slice_get_within c.nodes _ v.0.1 (numbered_get c.nodes v.0 kept.0))

sides_inside : (c : Choices) → All (AreInside (length c.nodes)) (sides c)
sides_inside c k d below = side_inside c _ (Contains-get_or (sides c) k d below)

module _ (ranges : Ranges) (nodes : List NodeValue) (reads : List ReadBox) (wide : List ℕ) where
  abbrev c : Choices
  c = choices ranges nodes reads wide

  -- what is passed on to the layers
  module _ (js : List Link) (ls : List Edge) (js_are : js ≡ joined_by nodes wide) (ls_are : ls ≡ links (plain ranges nodes reads)) where
    pub joined_inside_of : All (LinksInside (length nodes)) js
    joined_inside_of = subst (All (LinksInside (length nodes))) (sym (js_are ∙ joined_is ranges nodes reads wide)) (joined_inside c)

    pub links_inside_of : All (EdgeInside (length nodes)) ls
    links_inside_of = subst (All (EdgeInside (length nodes))) (sym (ls_are ∙ links_same ranges nodes reads wide)) (links_inside c)

    abbrev graph_same : graph_of js ls ≡ graph_of (joined c) (links c)
    graph_same = ap (λ j. graph_of j ls) (js_are ∙ joined_is ranges nodes reads wide) ∙ ap (graph_of (joined c)) (ls_are ∙ links_same ranges nodes reads wide)

    module _ (used : LayersValue) (is : IsUsedOrder (graph_of js ls) (length nodes) used) where
      is_used : IsUsedOrder (graph_of (joined c) (links c)) (length nodes) used
      is_used = subst (λ g. IsUsedOrder g (length nodes) used) graph_same is

      pub sides_inside_of : (layer : List ℕ) (es : List EdgeSides) → layer ≡ used.layer → es ≡ sides (plain ranges nodes reads) → All (AreInside (length layer)) es
      sides_inside_of layer es same are =
          let full : length layer ≡ length nodes = ap length same ∙ is.room in
          subst (λ n. All (AreInside n) es) (sym full) (subst (All (AreInside (length nodes))) (sym (are ∙ sides_same ranges nodes reads wide)) (sides_inside c))

      pub layer_low : (layer : List ℕ) (layers : List Layer) → layer ≡ used.layer → layers ≡ used.layers → All (λ p. p < length layers) layer
      layer_low layer layers same same_layers k d below =
          let inside : k < length nodes = omega (arith, ap length same, is.room) in
          let here = ap (λ l. slice_index_or l k d) same ∙ get_or_default used.layer k d 0 (omega (arith, is.room)) in
          omega (arith, here, ap length same_layers, is.numbered k inside)

      pub lists_low : (layers : List Layer) → layers ≡ used.layers → All (λ (l : Layer). l.list < 12) layers
      lists_low layers same k d below =
          let inside : k < length used.layers = omega (arith, ap length same) in
          let here = ap (λ l. (slice_index_or l k d).list) same ∙ ap (λ (l : Layer). l.list) (get_or_default used.layers k d no_layer inside) in
          omega (arith, here, is.low k inside)

      -- it is a layering by its definition
      pub is_layering : (layer : List ℕ) (layers : List Layer) (es : List EdgeSides) → layer ≡ used.layer → layers ≡ used.layers → es ≡ sides (plain ranges nodes reads) →
          (l : LayeringValue) → l.layer ≡ used.layer → l.layers ≡ map (λ (m : ℕ × Layer). layer_by (allowed_at layer m.0 es) m.1) (enumerate_from 0 layers) → l.edges ≡ edges (plain ranges nodes reads) → IsLayering c l
      is_layering layer layers es same same_layers are l told_layer told_layers told =
          let cut : l.layers ≡ map (layer_of c used.layer) (enumerate_from 0 used.layers) =
          told_layers
          ∙ ap (λ n. map (λ (m : ℕ × Layer). layer_by (allowed_at n m.0 es) m.1) (enumerate_from 0 layers)) same
          ∙ ap (λ ls. map (λ (m : ℕ × Layer). layer_by (allowed_at used.layer m.0 es) m.1) (enumerate_from 0 ls)) same_layers
          ∙ ap (λ es. map (λ (m : ℕ × Layer). layer_by (allowed_at used.layer m.0 es) m.1) (enumerate_from 0 used.layers)) (are ∙ sides_same ranges nodes reads wide)
          ∙ same_map _ _ (λ m. layer_is c used.layer m.0 m.1) (enumerate_from 0 used.layers) in
          let order = subst (λ m. IsOrder ℕ Touch (List Step) (choice_graph c) (slice_index m) (steps_at l.layers)) (sym told_layer) (subst (λ ls. IsOrder ℕ Touch (List Step) (choice_graph c) (slice_index used.layer) (steps_at ls)) (sym cut) (order_of_used c used is_used)) in
          record { is_order = order; used = used; is_used = is_used; layer = told_layer; layers = cut; edges = told ∙ edges_same ranges nodes reads wide }

    -- a refusal is one by its definition
    refusal_told : (e : LayersRefusal) → layers.Refuses (graph_of js ls) (length nodes) e → Refuses c (cuts.refusal_of e)
    refusal_told (refusals.NoOrder members) told = let t = subst (λ g. IsRefused g (length nodes) members.items) graph_same told in record { no_order = λ o. t.no_order (order_exists c o); component = t.component }
    refusal_told refusals.Memory told = told

    pub is_refused : (e : LayersRefusal) (f : GraphRefusal) → f ≡ cuts.refusal_of e → (e ≡ refusals.Memory) ⊎ layers.Refuses (graph_of js ls) (length nodes) e → (f ≡ Memory) ⊎ Refuses c f
    is_refused e f is (inl memory) = inl (is ∙ ap cuts.refusal_of memory)
    is_refused e f is (inr told) = inr (subst (Refuses c) (sym is) (refusal_told e told))
