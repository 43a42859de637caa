-- Laws of the answers.
use Rattle.std.proofs.Common.{◌≡◌, ◌⊎◌, ◌∙◌, refl, sym, ap, subst, inl, inr, ⊎_elim, ℕ, zero, suc, ◌+◌, ◌<◌, ◌≤◌, Bool, true, false, List, [], ◌∷◌, length, slice_index, slice_index_or, arith}
use Rattle.std.specs.List.{All, Contains}
use Rattle.std.proofs.lemmas.Bool.{cases_lt, cases_order}
use Rattle.std.proofs.lemmas.List.{ext_get_or, get_or_default}
use Rattle.pb_base.specs.Reach.{Together}
use Rattle.pb_base.proofs.ReachLemmas.{reach-link, together-refl}
use Rattle.pb_layers.specs.declared.link.Edge.{Edge}
use Rattle.pb_layers.specs.declared.link.Link.{Link}
use Rattle.pb_layers.specs.Layers.{EdgeInside, IsRefused, IsUsedOrder, LayersValue, LinksInside, graph_of, inner_at, list_at, no_layer}
use Rattle.pb_layers.specs.Orders.{IsOrder, Graph, IsDepth, Leads, OrderExists}
use Rattle.pb_layers.proofs.ListLemmas.{contains-cons, contains-cons_cases, contains-first}
use Rattle.pb_layers.proofs.AnswerLemmas.{least-unique, links-inside}

-- ---- rising lists with the same elements are the same
rises-tail : (x : ℕ) (xs : List ℕ) → ((i j : ℕ) → i < j → j < length (x ∷ xs) → slice_index (x ∷ xs) i < slice_index (x ∷ xs) j) → (i j : ℕ) → i < j → j < length xs → slice_index xs i < slice_index xs j
rises-tail x xs r i j before below = r (suc i) (suc j) (omega arith) (omega arith)

rises-above : (x v : ℕ) (xs : List ℕ) → ((i j : ℕ) → i < j → j < length (x ∷ xs) → slice_index (x ∷ xs) i < slice_index (x ∷ xs) j) → Contains xs v → x < v
rises-above x v xs r c =
    let below = c.1 in
    let up : x < slice_index xs c.0 = r 0 (suc c.0) (omega arith) (omega arith) in
    omega (arith, get_or_default xs c.0 0 v c.1, c.2)

rises-first : (x v : ℕ) (xs : List ℕ) → ((i j : ℕ) → i < j → j < length (x ∷ xs) → slice_index (x ∷ xs) i < slice_index (x ∷ xs) j) → Contains (x ∷ xs) v → x ≤ v
rises-first x v xs r c = ⊎_elim (λ e. omega arith) (λ k. let up = rises-above x v xs r k in omega arith) (contains-cons_cases x v xs c)

pub rising-same : (xs ys : List ℕ) → ((i j : ℕ) → i < j → j < length xs → slice_index xs i < slice_index xs j) → ((i j : ℕ) → i < j → j < length ys → slice_index ys i < slice_index ys j) → ((v : ℕ) → Contains xs v → Contains ys v) → ((v : ℕ) → Contains ys v → Contains xs v) → xs ≡ ys
rising-same [] [] p q there back = refl
rising-same [] (y ∷ ys) p q there back = let c = back y (contains-first y ys) in let below = c.1 in absurd (omega arith)
rising-same (x ∷ xs) [] p q there back = let c = there x (contains-first x xs) in let below = c.1 in absurd (omega arith)
rising-same (x ∷ xs) (y ∷ ys) p q there back =
    let low = rises-first x y xs p (back y (contains-first y ys)) in
    let high = rises-first y x ys q (there x (contains-first x xs)) in
    let head : x ≡ y = omega arith in
    let tail = rising-same xs ys (rises-tail x xs p) (rises-tail y ys q)
    (λ v c. let up = rises-above x v xs p c in ⊎_elim (λ e. absurd (omega arith)) (λ k. k) (contains-cons_cases y v ys (there v (contains-cons x v xs c))))
    (λ v c. let up = rises-above y v ys q c in ⊎_elim (λ e. absurd (omega arith)) (λ k. k) (contains-cons_cases x v xs (back v (contains-cons y v ys c)))) in
    ap (λ w. w ∷ xs) head ∙ ap (λ l. y ∷ l) tail

-- ---- depths are alone
module _ (Leads : ℕ → ℕ → Type 0) (nodes : ℕ) (inside : (u v : ℕ) → Leads u v → (u < nodes) × (v < nodes)) where
  depth-most : (d e : ℕ → ℕ) → ((u : ℕ) → u < nodes → IsDepth ℕ Leads d u) → ((u : ℕ) → u < nodes → IsDepth ℕ Leads e u) → (bound u : ℕ) → u < nodes → d u < bound → d u ≤ e u
  depth-most d e p q zero u below low = absurd (omega arith)
  depth-most d e p q (suc bound) u below low = ⊎_elim
      (λ z. omega arith)
      (λ r. ⊎_elim
      (λ t. let same = (p u below).same r.1 t in absurd (omega (arith, r.4)))
      (λ lower. let rest = depth-most d e p q bound r.1 (inside r.0 r.1 r.3).1 (omega (arith, r.4)) in omega (arith, r.4))
      ((q u below).falls r.0 r.1 r.2 r.3))
      (p u below).reached

  pub depth-unique : (d e : ℕ → ℕ) → ((u : ℕ) → u < nodes → IsDepth ℕ Leads d u) → ((u : ℕ) → u < nodes → IsDepth ℕ Leads e u) → (u : ℕ) → u < nodes → d u ≡ e u
  depth-unique d e p q u below =
      let a = depth-most d e p q (d u + 1) u below (omega arith) in
      let b = depth-most e d q p (e u + 1) u below (omega arith) in
      omega arith

-- ---- the used order
module _ (joined : List Link) (edges : List Edge) (nodes : ℕ) (joined_in : All (LinksInside nodes) joined) (edges_in : All (EdgeInside nodes) edges) where
  abbrev g : Graph ℕ Edge ℕ
  g = graph_of joined edges

  inside : (u v : ℕ) → Leads g u v → (u < nodes) × (v < nodes)
  inside = links-inside joined edges nodes joined_in edges_in

  module _ (a : LayersValue) (r : IsUsedOrder g nodes a) where
    together-layer : (u v : ℕ) → u < nodes → v < nodes → Together (Leads g) u v → slice_index a.layer u ≡ slice_index a.layer v
    together-layer u v u_in v_in t =
        let root = least-unique (Leads g) u v (r.least u) (r.least v) t (r.leasts u u_in) (r.leasts v v_in) in
        let deep = (r.depths u u_in).same v t in
        ⊎_elim (λ e. e)
        (λ o. ⊎_elim
        (λ (l : slice_index a.layer u < slice_index a.layer v). absurd (⊎_elim (λ d. omega arith) (λ d. omega (arith, d.1)) ((r.rising u v u_in v_in).0 l)))
        (λ (l : slice_index a.layer v < slice_index a.layer u). absurd (⊎_elim (λ d. omega arith) (λ d. omega (arith, d.1)) ((r.rising v u v_in u_in).0 l)))
        o)
        (cases_order (slice_index a.layer u) (slice_index a.layer v))

    -- the layers and lists that are answered
    pub order-is : IsOrder ℕ Edge ℕ g (slice_index a.layer) (list_at a.layers)
    order-is = record { shared = shared; lower = lower }
      where
        shared : (u v : ℕ) → g.Joined u v → slice_index a.layer u ≡ slice_index a.layer v
        shared u v j =
            let back : g.Joined v u = ⊎_elim (λ c. inr c) (λ c. inl c) j in
            let in_both = inside u v (inl j) in
            together-layer u v in_both.0 in_both.1 (reach-link (Leads g) u v (inl j), reach-link (Leads g) v u (inl back))

        lower : (e : Edge) → Contains edges e → (slice_index a.layer e.source < slice_index a.layer e.reader) ⊎ ((slice_index a.layer e.source ≡ slice_index a.layer e.reader) × g.Serves (list_at a.layers (slice_index a.layer e.reader)) e)
        lower e c =
            let link : Leads g e.reader e.source = inr (e, c, refl, refl) in
            let in_both = inside e.reader e.source link in
            ⊎_elim
            (λ t. inr (sym (together-layer e.reader e.source in_both.0 in_both.1 t), r.serves e.reader in_both.0 e (record { is_edge = c; reader = together-refl (Leads g) e.reader; source = t })))
            (λ d. inl ((r.rising e.source e.reader in_both.1 in_both.0).1 (inl d)))
            ((r.depths e.reader in_both.0).falls e.reader e.source (together-refl (Leads g) e.reader) link)

    pub order-from : OrderExists g
    order-from = (slice_index a.layer, list_at a.layers, order-is)

  -- two used orders number each node alike
  layer-most : (a b : LayersValue) → IsUsedOrder g nodes a → IsUsedOrder g nodes b → (bound u : ℕ) → u < nodes → slice_index a.layer u < bound → slice_index a.layer u ≤ slice_index b.layer u
  layer-most a b p q zero u below low = absurd (omega arith)
  layer-most a b p q (suc bound) u below low = by_place (slice_index a.layer u) refl (λ w w_in less. layer-most a b p q bound w w_in (omega arith))
    where
      carried : (w : ℕ) → w < nodes → slice_index a.layer w < slice_index a.layer u → slice_index b.layer w < slice_index b.layer u
      carried w w_in l = (q.rising w u w_in below).1
          (let deep_w = depth-unique (Leads g) nodes inside p.depth q.depth p.depths q.depths w w_in in
          let deep_u = depth-unique (Leads g) nodes inside p.depth q.depth p.depths q.depths u below in
          let root_w = least-unique (Leads g) w w (p.least w) (q.least w) (together-refl (Leads g) w) (p.leasts w w_in) (q.leasts w w_in) in
          let root_u = least-unique (Leads g) u u (p.least u) (q.least u) (together-refl (Leads g) u) (p.leasts u below) (q.leasts u below) in
          ⊎_elim (λ d. inl (omega arith)) (λ d. inr (sym deep_w ∙ d.0 ∙ deep_u, omega (arith, d.1))) ((p.rising w u w_in below).0 l))

      by_place : (k : ℕ) → slice_index a.layer u ≡ k → ((w : ℕ) → w < nodes → slice_index a.layer w < slice_index a.layer u → slice_index a.layer w ≤ slice_index b.layer w) → slice_index a.layer u ≤ slice_index b.layer u
      by_place zero e before = omega arith
      by_place (suc k) e before =
          let w = p.no_gap k (omega (arith, p.numbered u below)) in
          let rest = before w.0 w.1 (omega (arith, w.2)) in
          let up = carried w.0 w.1 (omega (arith, w.2)) in
          omega (arith, w.2)

  layer-same : (a b : LayersValue) → IsUsedOrder g nodes a → IsUsedOrder g nodes b → (u : ℕ) → u < nodes → slice_index a.layer u ≡ slice_index b.layer u
  layer-same a b p q u below =
      let x = layer-most a b p q (slice_index a.layer u + 1) u below (omega arith) in
      let y = layer-most b a q p (slice_index b.layer u + 1) u below (omega arith) in
      omega arith

  -- and have as many layers
  count-most : (a b : LayersValue) → IsUsedOrder g nodes a → IsUsedOrder g nodes b → length a.layers ≤ length b.layers
  count-most a b p q = ⊎_elim
      (λ (l : length b.layers < length a.layers). let u = p.no_gap (length b.layers) l in absurd (omega (arith, u.2, layer-same a b p q u.0 u.1, q.numbered u.0 u.1)))
      (λ l. l)
      (cases_lt (length b.layers) (length a.layers))

  list-same : (a b : LayersValue) → IsUsedOrder g nodes a → IsUsedOrder g nodes b → (u : ℕ) → u < nodes → list_at a.layers (slice_index a.layer u) ≡ list_at b.layers (slice_index b.layer u)
  list-same a b p q u below = ⊎_elim (λ e. e)
      (λ o. absurd (⊎_elim
      (λ (l : list_at a.layers (slice_index a.layer u) < list_at b.layers (slice_index b.layer u)). q.first u (list_at a.layers (slice_index a.layer u)) below l (p.serves u below))
      (λ (l : list_at b.layers (slice_index b.layer u) < list_at a.layers (slice_index a.layer u)). p.first u (list_at b.layers (slice_index b.layer u)) below l (q.serves u below))
      o))
      (cases_order (list_at a.layers (slice_index a.layer u)) (list_at b.layers (slice_index b.layer u)))

  bool-same : (x y : Bool) → (x ≡ true → y ≡ true) → (y ≡ true → x ≡ true) → x ≡ y
  bool-same true y h k = sym (h refl)
  bool-same false true h k = k refl
  bool-same false false h k = refl

  inner-same : (a b : LayersValue) → IsUsedOrder g nodes a → IsUsedOrder g nodes b → (u : ℕ) → u < nodes → inner_at a.layers (slice_index a.layer u) ≡ inner_at b.layers (slice_index b.layer u)
  inner-same a b p q u below = bool-same (inner_at a.layers (slice_index a.layer u)) (inner_at b.layers (slice_index b.layer u)) (λ on. (q.inner u below).1 ((p.inner u below).0 on)) (λ on. (p.inner u below).1 ((q.inner u below).0 on))

  pub one-order : (a b : LayersValue) → IsUsedOrder g nodes a → IsUsedOrder g nodes b → a ≡ b
  one-order a b p q =
      let layer : a.layer ≡ b.layer = ext_get_or 0 a.layer b.layer (p.room ∙ sym q.room) (λ u below. layer-same a b p q u (omega (arith, p.room))) in
      let layers : a.layers ≡ b.layers = ext_get_or no_layer a.layers b.layers
      (let x = count-most a b p q in let y = count-most b a q p in omega arith)
      (λ place below. at place (p.no_gap place below)) in
      ap (λ l. record { layer = l; layers = a.layers }) layer ∙ ap (λ l. record { layer = b.layer; layers = l }) layers
    where
      at : (place : ℕ) → (u : ℕ) × (u < nodes) × (slice_index a.layer u ≡ place) → slice_index_or a.layers place no_layer ≡ slice_index_or b.layers place no_layer
      at place u =
          let list : list_at a.layers place ≡ list_at b.layers place = ap (list_at a.layers) (sym u.2) ∙ list-same a b p q u.0 u.1 ∙ ap (list_at b.layers) (sym (layer-same a b p q u.0 u.1) ∙ u.2) in
          let inner : inner_at a.layers place ≡ inner_at b.layers place = ap (inner_at a.layers) (sym u.2) ∙ inner-same a b p q u.0 u.1 ∙ ap (inner_at b.layers) (sym (layer-same a b p q u.0 u.1) ∙ u.2) in
          ap (λ k. record { list = k; inner = inner_at a.layers place }) list ∙ ap (λ k. record { list = list_at b.layers place; inner = k }) inner

-- ---- the refusal
pub one-refusal : (joined : List Link) (edges : List Edge) (nodes : ℕ) (members others : List ℕ) → IsRefused (graph_of joined edges) nodes members → IsRefused (graph_of joined edges) nodes others → members ≡ others
one-refusal joined edges nodes members others p q =
    rising-same members others p.component.rises q.component.rises
    (λ v c. (q.component.each v).1 (let P : ℕ → Type 0 = λ r. Together (Leads (graph_of joined edges)) r v in subst P same ((p.component.each v).0 c)))
    (λ v c. (p.component.each v).1 (let P : ℕ → Type 0 = λ r. Together (Leads (graph_of joined edges)) r v in subst P (sym same) ((q.component.each v).0 c)))
  where
    same : p.component.root ≡ q.component.root
    same = ⊎_elim (λ e. e)
        (λ o. absurd (⊎_elim
        (λ (l : p.component.root < q.component.root). let s = q.component.is.first p.component.root l p.component.is.is_least in p.component.is.unserved s.0 s.1)
        (λ (l : q.component.root < p.component.root). let s = p.component.is.first q.component.root l q.component.is.is_least in q.component.is.unserved s.0 s.1)
        o))
        (cases_order p.component.root q.component.root)
