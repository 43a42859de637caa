-- Orders of segments by what they read, and orders of their numbers by links: so segments have one layering or one refusal.
use Rattle.std.proofs.Common.{◌≡◌, ◌∙◌, refl, sym, ap, subst, inl, inr, ⊎_elim, ◌⊎◌, ℕ, zero, suc, ◌+◌, ◌*◌, ◌<◌, true, false, List, [], ◌∷◌, length, map, slice_index, slice_index_or, arith}
use Rattle.std.specs.Prelude.{◌&&◌, not, IsTrue}
use Rattle.std.specs.List.{All, AllByRecursion, Contains, enumerate_from}
use Rattle.std.proofs.lemmas.Bool.{and_from, and_parts, not-true, not_from_false}
use Rattle.std.proofs.lemmas.List.{get_or-map}
use Rattle.std.proofs.lemmas.List.Elements.{All-from_recursion, All-get_or, Contains-get_or}
use Rattle.std.proofs.lemmas.Option.{get_or_from_slice_get, slice_get_within}
use Rattle.pb_base.proofs.ListLemmas.{all_each, each_all}
use Rattle.pb_layers.specs.declared.link.Edge.{Edge}
use Rattle.pb_layers.specs.Layers.{EdgeInside, IsUsedOrder, LayersValue, LinksInside, graph_of, list_at, HasUsedOrder, HasRefusal}
use Rattle.pb_layers.specs.Orders.{IsOrder, OrderExists, Graph}
use Rattle.pb_layers.proofs.LawLemmas.{order-is, one-order, one-refusal}
use Rattle.pb_linear.specs.declared.boxes.ReadBox.{ReadBox}
use Rattle.pb_linear.specs.declared.boxes.Sign.{Sign}
use Rattle.pb_linear.specs.declared.boxes.Sign.TheVariants.{Plus, Minus}
use Rattle.pb_linear.specs.declared.boxes.Step.{Step}
use Rattle.pb_graph.specs.Edges.{Choices, between, fits, joined, link, links, lists, serves, step, edges}
use Rattle.pb_graph.specs.Layerings.{IsList, IsTouch, LayerValue, Serves, Touch, choice_graph, layer_of, steps_at, IsLayering, IsUnordered, LayeringValue}
use Rattle.pb_graph.specs.Layerings.IsList.{one, two}
use Rattle.pb_graph.specs.Nodes.{NodeValue}
use Rattle.pb_layers.proofs.AnswerLemmas.{no-order}
use Rattle.pb_layers.proofs.ExistLemmas.{answered}
use Rattle.pb_graph.proofs.ChoiceLemmas.{IsLinkOf, between_in, in_between, in_links, joined_in, joined_same, layer_is, links_in, same_some}

-- ---- the twelve lists
twelve_are_lists : (k : ℕ) → k < 12 → IsList (slice_index_or lists k [])
twelve_are_lists k below = All-get_or IsList lists k [] below (All-from_recursion IsList lists all)
  where
    all : AllByRecursion IsList lists
    all = search (arith, one, two)

abbrev sign_number : Sign → ℕ
sign_number Plus = 0
sign_number Minus = 1

-- the place of a list among them
abbrev place_of : List Step → ℕ
place_of [] = 0
place_of (a ∷ []) = 2 * a.axis + sign_number a.sign
place_of (a ∷ b ∷ _) = 4 + (4 * a.axis + (2 * sign_number a.sign + sign_number b.sign))

abbrev IsPlaced : List Step → Type 0
IsPlaced list = (place_of list < 12) × (slice_index_or lists (place_of list) [] ≡ list)

one_placed : (axis : ℕ) (sign : Sign) → axis < 2 → IsPlaced (step axis sign ∷ [])
one_placed zero Plus low = (omega arith, refl)
one_placed zero Minus low = (omega arith, refl)
one_placed (suc zero) Plus low = (omega arith, refl)
one_placed (suc zero) Minus low = (omega arith, refl)
one_placed (suc (suc n)) sign low = absurd (omega arith)

two_placed : (x : ℕ) (s : Sign) (y : ℕ) (t : Sign) → x < 2 → y < 2 → (x ≡ y → ⊥) → IsPlaced (step x s ∷ step y t ∷ [])
two_placed zero s zero t low_x low_y differ = absurd (differ refl)
two_placed (suc zero) s (suc zero) t low_x low_y differ = absurd (differ refl)
two_placed zero Plus (suc zero) Plus low_x low_y differ = (omega arith, refl)
two_placed zero Plus (suc zero) Minus low_x low_y differ = (omega arith, refl)
two_placed zero Minus (suc zero) Plus low_x low_y differ = (omega arith, refl)
two_placed zero Minus (suc zero) Minus low_x low_y differ = (omega arith, refl)
two_placed (suc zero) Plus zero Plus low_x low_y differ = (omega arith, refl)
two_placed (suc zero) Plus zero Minus low_x low_y differ = (omega arith, refl)
two_placed (suc zero) Minus zero Plus low_x low_y differ = (omega arith, refl)
two_placed (suc zero) Minus zero Minus low_x low_y differ = (omega arith, refl)
two_placed (suc (suc n)) s y t low_x low_y differ = absurd (omega arith)
two_placed x s (suc (suc n)) t low_x low_y differ = absurd (omega arith)

placed : (list : List Step) → IsList list → IsPlaced list
placed list (one {a} low) = one_placed a.axis a.sign low
placed list (two {a} {b} low_a low_b differ) = two_placed a.axis a.sign b.axis b.sign low_a low_b differ

-- ---- orders
module _ (c : Choices) where
  -- what the bit of a list says of each read
  served_by : (u v : NodeValue) (k : ℕ) (r : ReadBox) → k < 12 → slice_index_or (map (serves c u v) lists) k false ≡ true → Contains (between c u v) r → (r.wide ≡ false) × IsTrue (fits c.leasts u.area r (slice_index_or lists k []))
  served_by u v k r low bit h =
      let all = sym (get_or-map (serves c u v) lists k [] false low) ∙ bit in
      let parts = and_parts _ _ (all_each (λ q. not q.wide && fits c.leasts u.area q (slice_index_or lists k [])) (between c u v) r all h) in
      (not-true r.wide parts.0, parts.1)

  -- numbers of nodes alone
  pub joined_inside : All (LinksInside (length c.nodes)) (joined c)
  joined_inside k d below = let s = joined_in c _ (Contains-get_or (joined c) k d below) in (slice_get_within c.nodes _ s.first s.has_first, slice_get_within c.nodes _ s.second s.has_second)

  pub links_inside : All (EdgeInside (length c.nodes)) (links c)
  links_inside k d below = let e = links_in c _ (Contains-get_or (links c) k d below) in (slice_get_within c.nodes _ e.reader e.has_reader, slice_get_within c.nodes _ e.source e.has_source)

  module _ (used : LayersValue) (is : IsUsedOrder (graph_of (joined c) (links c)) (length c.nodes) used) where
    abbrev layer : ℕ → ℕ
    layer = slice_index used.layer

    abbrev list_of : ℕ → List Step
    list_of = steps_at (map (layer_of c used.layer) (enumerate_from 0 used.layers))

    order : IsOrder ℕ Edge ℕ (graph_of (joined c) (links c)) layer (list_at used.layers)
    order = order-is (joined c) (links c) (length c.nodes) joined_inside links_inside used is

    -- the list of the reader's layer is the one of this number
    serving : (t : Touch) (touch : IsTouch c t) (k : ℕ) → k ≡ list_at used.layers (layer t.reader) → k < 12 → (t.read.wide ≡ false) × IsTrue (fits c.leasts touch.reader.area t.read (slice_index_or lists k [])) → Serves c (list_of (layer t.reader)) t
    serving t touch k here low s =
        let below = is.numbered t.reader (slice_get_within c.nodes t.reader touch.reader touch.has_reader) in
        let same : slice_index_or lists k [] ≡ list_of (layer t.reader) = ap (λ n. slice_index_or lists n []) here ∙ ap (λ (l : LayerValue). l.steps) (sym (get_or_from_slice_get _ (layer t.reader) _ _ (layer_is c used.layer used.layers (layer t.reader) below))) in
        subst (λ list. Serves c list t) same (record { is_list = twelve_are_lists k low; cell = s.0; reader = touch.reader; has_reader = touch.has_reader; fits = s.1 })

    -- an order of links is one of reads
    pub order_of_used : IsOrder ℕ Touch (List Step) (choice_graph c) layer list_of
    order_of_used = record { shared = joined_same c layer (λ l h. order.shared l.from l.to (inl h)); lower = lower }
      where
        lower : (t : Touch) → IsTouch c t → (layer t.source < layer t.reader) ⊎ ((layer t.source ≡ layer t.reader) × Serves c (list_of (layer t.reader)) t)
        lower t touch =
            let inside = in_between c touch.reader touch.source t.read touch.declared touch.chosen touch.touches in
            ⊎_elim
            (λ l. inl l)
            (λ s. inr (s.0, serving t touch _ refl s.1.0 (served_by touch.reader touch.source _ t.read s.1.0 s.1.1 inside)))
            (order.lower (link c (t.reader, touch.reader) (t.source, touch.source)) (in_links c t.reader t.source touch.reader touch.source t.read touch.has_reader touch.has_source inside))

module _ (c : Choices) where
  -- a list that serves all that a link reads has its bit
  has_bit : (list : List Step) (u v : NodeValue) → IsList list → ((r : ReadBox) → Contains (between c u v) r → (r.wide ≡ false) × IsTrue (fits c.leasts u.area r list)) → (place_of list < 12) × (slice_index_or (map (serves c u v) lists) (place_of list) false ≡ true)
  has_bit list u v is each =
      let at = placed list is in
      let all = each_all (λ r. not r.wide && fits c.leasts u.area r list) (between c u v) (λ r h. let s = each r h in and_from _ _ (not_from_false r.wide s.0) s.1) in
      (at.0, get_or-map (serves c u v) lists (place_of list) [] false at.0 ∙ ap (serves c u v) at.1 ∙ all)

  module _ (layer : ℕ → ℕ) (list_of : ℕ → List Step) (order : IsOrder ℕ Touch (List Step) (choice_graph c) layer list_of) where
    -- each read of a link is a touch
    read_lower : (e : Edge) (k : IsLinkOf c e) (r : ReadBox) → Contains (between c k.reader k.source) r → (layer e.source < layer e.reader) ⊎ ((layer e.source ≡ layer e.reader) × Serves c (list_of (layer e.reader)) (record { reader = e.reader; source = e.source; read = r }))
    read_lower e k r h =
        let parts = between_in c k.reader k.source r h in
        order.lower (record { reader = e.reader; source = e.source; read = r }) (record { reader = k.reader; source = k.source; has_reader = k.has_reader; has_source = k.has_source; declared = parts.0; chosen = parts.1; touches = parts.2 })

    each_served : (e : Edge) (k : IsLinkOf c e) → layer e.source ≡ layer e.reader → (r : ReadBox) → Contains (between c k.reader k.source) r → (r.wide ≡ false) × IsTrue (fits c.leasts k.reader.area r (list_of (layer e.reader)))
    each_served e k same r h = ⊎_elim
        (λ l. absurd (omega arith))
        (λ s. let node : s.1.reader ≡ k.reader = same_some _ _ _ s.1.has_reader k.has_reader in (s.1.cell, subst (λ (u : NodeValue). IsTrue (fits c.leasts u.area r (list_of (layer e.reader)))) node s.1.fits))
        (read_lower e k r h)

    number_serves : (e : Edge) (k : IsLinkOf c e) → layer e.source ≡ layer e.reader → IsList (list_of (layer e.reader)) → (graph_of (joined c) (links c)).Serves (place_of (list_of (layer e.reader))) e
    number_serves e k same is =
        let bit = has_bit (list_of (layer e.reader)) k.reader k.source is (each_served e k same) in
        (bit.0, ap (λ bits. slice_index_or bits (place_of (list_of (layer e.reader))) false) k.bits ∙ bit.1)

    numbers_order : IsOrder ℕ Edge ℕ (graph_of (joined c) (links c)) layer (λ k. place_of (list_of k))
    numbers_order = record {
      shared = λ u v j. ⊎_elim (λ h. order.shared u v (joined_in c _ h)) (λ h. sym (order.shared v u (joined_in c _ h))) j;
      lower = λ e h. let k = links_in c e h in ⊎_elim (λ l. inl l) (λ s. inr (s.0, number_serves e k s.0 s.1.is_list)) (read_lower e k k.read k.is_between);
    }

  -- and an order of reads gives one of links
  pub order_exists : OrderExists (choice_graph c) → OrderExists (graph_of (joined c) (links c))
  order_exists o = (o.0, λ k. place_of (o.1 k), numbers_order o.0 o.1 o.2)

-- ---- one answer
module _ (c : Choices) where
  abbrev g : Graph ℕ Edge ℕ
  g = graph_of (joined c) (links c)

  abbrev pub layering_of : LayersValue → LayeringValue
  layering_of used = record { layer = used.layer; layers = map (layer_of c used.layer) (enumerate_from 0 used.layers); edges = edges c }

  pub layering_is : (used : LayersValue) → IsUsedOrder g (length c.nodes) used → IsLayering c (layering_of used)
  layering_is used is = record { is_order = order_of_used c used is; used = used; is_used = is; layer = refl; layers = refl; edges = refl }

  pub has_answer : ((l : LayeringValue) × IsLayering c l) ⊎ ((segments : List ℕ) × IsUnordered c segments)
  has_answer = ⊎_elim
      (λ (h : HasUsedOrder g (length c.nodes)). inl (layering_of h.layers, layering_is h.layers h.is))
      (λ (h : HasRefusal g (length c.nodes)). inr (h.members, record { no_order = λ o. h.told.no_order (order_exists c o); component = h.told.component }))
      (answered (joined c) (links c) (length c.nodes) (joined_inside c) (links_inside c))

  -- a layering is the one of its used order
  pub same_layering : (l : LayeringValue) (i : IsLayering c l) → l ≡ layering_of i.used
  same_layering l i = λ k. record { layer = i.layer k; layers = i.layers k; edges = i.edges k }

  pub one_layering : (l m : LayeringValue) → IsLayering c l → IsLayering c m → l ≡ m
  one_layering l m p q =
      same_layering l p
      ∙ ap layering_of (one-order (joined c) (links c) (length c.nodes) (joined_inside c) (links_inside c) p.used q.used p.is_used q.is_used)
      ∙ sym (same_layering m q)

  pub one_component : (segments others : List ℕ) → IsUnordered c segments → IsUnordered c others → segments ≡ others
  one_component segments others p q = one-refusal (joined c) (links c) (length c.nodes) segments others
      (record { no_order = no-order g p.component.root p.component.is.unserved; component = p.component })
      (record { no_order = no-order g q.component.root q.component.is.unserved; component = q.component })
