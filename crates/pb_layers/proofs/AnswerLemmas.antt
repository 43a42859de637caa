-- What is found of components gives the answers.
use Rattle.std.proofs.Common.{◌≡◌, ◌↔◌, ◌∙◌, sym, ap, subst, inl, inr, ⊎_elim, ℕ, ◌<◌, ◌≤◌, Option, Some, None, IsSome, Result, Ok, Err, IfOk, List, length, get_or, slice_index, slice_index_or, arith}
use Rattle.std.specs.List.{All, Contains}
use Rattle.std.proofs.lemmas.Bool.{cases_lt, false≢true}
use Rattle.std.proofs.lemmas.List.{get_or_default}
use Rattle.std.proofs.lemmas.List.Elements.{All-contains}
use Rattle.pb_base.specs.Reach.{Reach, Together}
use Rattle.pb_base.proofs.ReachLemmas.{reach-keeps, reach-map, together-refl, together-sym, together-trans}
use Rattle.pb_layers.specs.declared.link.Edge.{Edge}
use Rattle.pb_layers.specs.declared.link.Link.{Link}
use Rattle.pb_layers.specs.Components.{AreFound, IsTurned}
use Rattle.pb_layers.specs.Graphs.{IsLinked}
use Rattle.pb_layers.specs.Layers.{EdgeInside, IsRefused, IsUsedOrder, LayersValue, LinksInside, graph_of, list_at}
use Rattle.pb_layers.specs.Lists.{AreFirstLists, AreMembers, IsFirstList, IsFirstWithout, ServesRoot}
use Rattle.pb_layers.specs.Numbers.{AreNumbered}
use Rattle.pb_layers.specs.Orders.{Graph, IsInner, IsLeastMember, IsOrder, Leads, OrderExists, ServesAll}

-- ---- components of one kind of links are components of another
pub turned-from : (L : ℕ → ℕ → Type 0) (nodes : ℕ) (down up : List (List ℕ)) → IsLinked L nodes down up → IsTurned nodes down up
turned-from L nodes down up r = record {
  room_down = r.room_down;
  room_up = r.room_up;
  turned = λ u v. (λ c. (r.is_down u v).1 ((r.is_up u v).0 c), λ c. (r.is_up u v).1 ((r.is_down u v).0 c));
  inside = λ u v c. r.inside u v ((r.is_down u v).0 c);
}

pub found-like : (L M : ℕ → ℕ → Type 0) (nodes : ℕ) (least depth : List ℕ) → ((u v : ℕ) → L u v ↔ M u v) → AreFound L nodes least depth → AreFound M nodes least depth
found-like L M nodes least depth same f = record {
  room_least = f.room_least;
  room_depth = f.room_depth;
  leasts = λ u below. let l = f.leasts u below in record { member = there u (slice_index least u) l.member; first = λ v t. l.first v (back u v t) };
  depths = λ u below. let d = f.depths u below in record {
    same = λ a t. d.same a (back u a t);
    falls = λ a v t l. ⊎_elim (λ s. inl (there u v s)) (λ lower. inr lower) (d.falls a v (back u a t) ((same a v).1 l));
    reached = ⊎_elim (λ z. inl z) (λ r. inr (r.0, r.1, there u r.0 r.2, (same r.0 r.1).0 r.3, r.4)) d.reached;
  };
  inside = f.inside;
}
  where
    there : (u v : ℕ) → Together L u v → Together M u v
    there u v t = (reach-map L M (λ x y l. (same x y).0 l) u v t.0, reach-map L M (λ x y l. (same x y).0 l) v u t.1)

    back : (u v : ℕ) → Together M u v → Together L u v
    back u v t = (reach-map M L (λ x y l. (same x y).1 l) u v t.0, reach-map M L (λ x y l. (same x y).1 l) v u t.1)

pub ok-like : {T E : Type 0} (r : Result T E) (P Q : T → Type 0) → ((x : T) → P x → Q x) → IfOk r P → IfOk r Q
ok-like (Ok x) P Q f p = f x p
ok-like (Err e) P Q f p = tt

-- ---- least members
pub least-inside : (L : ℕ → ℕ → Type 0) (nodes : ℕ) (least depth : List ℕ) → AreFound L nodes least depth → (u d : ℕ) → u < length least → get_or least u d < nodes
least-inside L nodes least depth f u d below =
    let here = f.inside u (omega (arith, f.room_least)) in
    omega (arith, get_or_default least u d 0 below)

pub least-unique : (L : ℕ → ℕ → Type 0) (u v a b : ℕ) → Together L u v → IsLeastMember L u a → IsLeastMember L v b → a ≡ b
least-unique L u v a b t p q =
    let low = p.first b (together-trans L u v b t q.member) in
    let high = q.first a (together-trans L v u a (together-sym L u v t) p.member) in
    omega arith

pub least-together : (L : ℕ → ℕ → Type 0) (u v a b : ℕ) → a ≡ b → IsLeastMember L u a → IsLeastMember L v b → Together L u v
least-together L u v a b e p q =
    let P : ℕ → Type 0 = λ w. Together L u w in
    together-trans L u b v (subst P e p.member) (together-sym L v b q.member)

-- ---- where an order exists a list serves each component
module _ (g : Graph ℕ Edge ℕ) (layer : ℕ → ℕ) (list_of : ℕ → ℕ) (o : IsOrder ℕ Edge ℕ g layer list_of) where
  link-falls : (u v : ℕ) → Leads g u v → layer v ≤ layer u
  link-falls u v l = ⊎_elim
      (λ j. let e = o.shared u v j in omega arith)
      (λ e.
      let at_reader = ap layer e.2 in
      let at_source = ap layer e.3 in
      ⊎_elim (λ lower. omega arith) (λ stays. omega (arith, stays.0)) (o.lower e.0 e.1))
      l

  reach-falls : (u v : ℕ) → Reach ℕ (Leads g) u v → layer v ≤ layer u
  reach-falls u v p = reach-keeps (Leads g) (λ w. layer w ≤ layer u) (λ a b l h. let f = link-falls a b l in omega arith) u v p (omega arith)

  together-layer : (u v : ℕ) → Together (Leads g) u v → layer v ≡ layer u
  together-layer u v t = let a = reach-falls u v t.0 in let b = reach-falls v u t.1 in omega arith

  pub order-serves : (u : ℕ) → ServesAll g u (list_of (layer u))
  order-serves u e i =
      let r = together-layer u (g.reader e) i.reader in
      let s = together-layer u (g.source e) i.source in
      let P : ℕ → Type 0 = λ k. g.Serves (list_of k) e in
      ⊎_elim (λ lower. absurd (omega arith)) (λ stays. subst P r stays.1) (o.lower e i.is_edge)

pub no-order : (g : Graph ℕ Edge ℕ) (u : ℕ) → ((list : ℕ) → ServesAll g u list → ⊥) → OrderExists g → ⊥
no-order g u none x = none (x.1 (x.0 u)) (order-serves g x.0 x.1 x.2 u)

-- ---- the answers
module _ (joined : List Link) (edges : List Edge) (nodes : ℕ) (joined_in : All (LinksInside nodes) joined) (edges_in : All (EdgeInside nodes) edges) where
  abbrev g : Graph ℕ Edge ℕ
  g = graph_of joined edges

  pub links-inside : (u v : ℕ) → Leads g u v → (u < nodes) × (v < nodes)
  links-inside u v l = ⊎_elim
      (λ j. ⊎_elim (λ c. All-contains (LinksInside nodes) joined _ joined_in c) (λ c. let h = All-contains (LinksInside nodes) joined _ joined_in c in (h.1, h.0)) j)
      (λ e. let h = All-contains (EdgeInside nodes) edges e.0 edges_in e.1 in (omega (arith, e.2, h.0), omega (arith, e.3, h.1)))
      l

  reach-inside : (u v : ℕ) → Reach ℕ (Leads g) u v → u < nodes → v < nodes
  reach-inside u v p below = reach-keeps (Leads g) (λ w. w < nodes) (λ a b l h. (links-inside a b l).1) u v p below

  module _ (least depth : List ℕ) (f : AreFound (Leads g) nodes least depth) where
    abbrev at : ℕ → ℕ
    at u = slice_index least u

    same-least : (u v : ℕ) → u < nodes → v < nodes → Together (Leads g) u v → at u ≡ at v
    same-least u v u_in v_in t = least-unique (Leads g) u v (at u) (at v) t (f.leasts u u_in) (f.leasts v v_in)

    same-together : (u v : ℕ) → u < nodes → v < nodes → at u ≡ at v → Together (Leads g) u v
    same-together u v u_in v_in e = least-together (Leads g) u v (at u) (at v) e (f.leasts u u_in) (f.leasts v v_in)

    edge-in : (e : Edge) → Contains edges e → EdgeInside nodes e
    edge-in e c = All-contains (EdgeInside nodes) edges e edges_in c

    inner-from : (u : ℕ) → u < nodes → (e : Edge) → Contains edges e → at e.reader ≡ at u → at e.source ≡ at u → IsInner ℕ Edge ℕ g u e
    inner-from u below e c r s =
        let h = edge-in e c in
        record { is_edge = c; reader = same-together u e.reader below h.0 (sym r); source = same-together u e.source below h.1 (sym s) }

    inner-least : (u : ℕ) → u < nodes → (e : Edge) → IsInner ℕ Edge ℕ g u e → (at e.reader ≡ at u) × (at e.source ≡ at u)
    inner-least u below e i =
        let h = edge-in e i.is_edge in
        (sym (same-least u e.reader below h.0 i.reader), sym (same-least u e.source below h.1 i.source))

    serves-all : (u list : ℕ) → u < nodes → list < 12 → ServesRoot edges least (at u) list → ServesAll g u list
    serves-all u list below low s e i = let h = inner-least u below e i in (low, s e i.is_edge h.0 h.1)

    serves-root : (u list : ℕ) → u < nodes → ServesAll g u list → ServesRoot edges least (at u) list
    serves-root u list below s e c r q = (s e (inner-from u below e c r q)).1

    pub root-inside : (u : ℕ) → u < nodes → at (at u) ≡ at u
    root-inside u below = let m = (f.leasts u below).member in sym (same-least u (at u) below (f.inside u below) m)

    -- nodes with the numbers and the lists of their components
    module _ (lists : List (Option ℕ)) (first : AreFirstLists edges least 12 lists) (a : LayersValue) (n : AreNumbered edges nodes least depth lists a) where
      list-is : (u : ℕ) → u < nodes → (list_at a.layers (slice_index a.layer u) < 12) × ServesRoot edges least (at u) (list_at a.layers (slice_index a.layer u)) × ((k : ℕ) → k < list_at a.layers (slice_index a.layer u) → ServesRoot edges least (at u) k → ⊥)
      list-is u below =
          let P : Option ℕ → Type 0 = λ o. IsFirstList edges least (at u) 12 o in
          subst P (n.list u below) (first.is (at u) (omega (arith, f.inside u below, f.room_least)))

      deep : (u : ℕ) → u < nodes → slice_index depth u ≡ slice_index depth (at u)
      deep u below = (f.depths u below).same (at u) (f.leasts u below).member

      pub used-is : IsUsedOrder g nodes a
      used-is = record {
        least = slice_index least;
        depth = slice_index depth;
        leasts = f.leasts;
        depths = f.depths;
        room = n.room;
        rising = λ u v u_in v_in. (
          λ h. ⊎_elim (λ d. inl (omega (arith, deep u u_in, deep v v_in))) (λ d. inr (deep u u_in ∙ d.0 ∙ sym (deep v v_in), d.1)) ((n.rising u v u_in v_in).0 h),
          λ h. (n.rising u v u_in v_in).1 (⊎_elim (λ d. inl (omega (arith, deep u u_in, deep v v_in))) (λ d. inr (sym (deep u u_in) ∙ d.0 ∙ deep v v_in, d.1)) h),
        );
        numbered = n.numbered;
        no_gap = n.no_gap;
        low = λ place below. let u = n.no_gap place below in let P : ℕ → Type 0 = λ k. list_at a.layers k < 12 in subst P u.2 (list-is u.0 u.1).0;
        serves = λ u below. let l = list-is u below in serves-all u (list_at a.layers (slice_index a.layer u)) below l.0 l.1;
        first = λ u k below less s. (list-is u below).2 k less (serves-root u k below s);
        inner = λ u below. (
          λ on. let e = (n.inner u below).0 on in (e.0, inner-from u below e.0 e.1 e.2 e.3),
          λ e. let h = inner-least u below e.0 e.1 in (n.inner u below).1 (e.0, e.1.is_edge, h.0, h.1),
        );
      }

    -- the first component without a list
    module _ (lists : List (Option ℕ)) (first : AreFirstLists edges least 12 lists) (root : ℕ) (w : IsFirstWithout least lists root) where
      root-in : root < nodes
      root-in = omega (arith, w.inside, f.room_least)

      none-serves : (k : ℕ) → k < 12 → ServesRoot edges least root k → ⊥
      none-serves =
          let P : Option ℕ → Type 0 = λ o. IsFirstList edges least root 12 o in
          subst P w.without (first.is root w.inside)

      serves-root-here : (list : ℕ) → ServesAll g root list → ServesRoot edges least root list
      serves-root-here list s = let P : ℕ → Type 0 = λ k. ServesRoot edges least k list in subst P w.is_least (serves-root root list root-in s)

      unserved : (list : ℕ) → ServesAll g root list → ⊥
      unserved list s = ⊎_elim
          (λ (low : list < 12). none-serves list low (serves-root-here list s))
          (λ (high : 12 ≤ list). none-serves 0 (omega arith) (serves-root-here 0 (λ e i. let h = (s e i).0 in absurd (omega arith))))
          (cases_lt list 12)

      served-before : (k : ℕ) → k < root → IsLeastMember (Leads g) k k → (list : ℕ) × ServesAll g k list
      served-before k before l =
          let k_in : k < nodes = omega (arith, root-in) in
          let is : at k ≡ k = least-unique (Leads g) k k (at k) k (together-refl (Leads g) k) (f.leasts k k_in) l in
          by_list k k_in is (slice_index_or lists k None) (first.is k (omega (arith, f.room_least))) (w.before k before is)
        where
          by_list : (k : ℕ) → k < nodes → at k ≡ k → (o : Option ℕ) → IsFirstList edges least k 12 o → IsSome o → (list : ℕ) × ServesAll g k list
          by_list k k_in is None h some = absurd (false≢true some)
          by_list k k_in is (Some list) h some = let P : ℕ → Type 0 = λ r. ServesRoot edges least r list in (list, serves-all k list k_in h.0 (subst P (sym is) h.1))

      pub refused-is : (members : List ℕ) → AreMembers least root (length least) members → IsRefused g nodes members
      refused-is members m = record {
        no_order = no-order g root unserved;
        component = record {
          root = root;
          is = record {
            inside = root-in;
            is_least = let P : ℕ → Type 0 = λ k. IsLeastMember (Leads g) root k in subst P w.is_least (f.leasts root root-in);
            unserved = unserved;
            first = served-before;
          };
          each = λ v. (
            λ c. let h = (m.each v).0 c in same-together root v root-in (omega (arith, h.0, f.room_least)) (w.is_least ∙ sym h.1),
            λ t. let v_in = reach-inside root v t.0 root-in in (m.each v).1 (omega (arith, f.room_least), sym (same-least root v root-in v_in t) ∙ w.is_least),
          );
          rises = m.rises;
        };
      }

-- ---- the same from what the code has
pub firsts-as : (edges : List Edge) (least held : List ℕ) (lists : List (Option ℕ)) → held ≡ least → AreFirstLists edges held 12 lists → AreFirstLists edges least 12 lists
firsts-as edges least held lists e f = let P : List ℕ → Type 0 = λ l. AreFirstLists edges l 12 lists in subst P e f

pub without-as : (least held : List ℕ) (lists held_lists : List (Option ℕ)) (root : ℕ) → held ≡ least → held_lists ≡ lists → IsFirstWithout held held_lists root → IsFirstWithout least lists root
without-as least held lists held_lists root e f w =
    let P : List ℕ → Type 0 = λ l. IsFirstWithout l lists root in
    let Q : List (Option ℕ) → Type 0 = λ l. IsFirstWithout held l root in
    subst P e (subst Q f w)

pub members-as : (least held : List ℕ) (root : ℕ) (members : List ℕ) → held ≡ least → AreMembers held root (length held) members → AreMembers least root (length least) members
members-as least held root members e m = let P : List ℕ → Type 0 = λ l. AreMembers l root (length l) members in subst P e m

pub numbered-as : (edges : List Edge) (nodes : ℕ) (least depth : List ℕ) (lists held : List (Option ℕ)) (a : LayersValue) → held ≡ lists → AreNumbered edges nodes least depth held a → AreNumbered edges nodes least depth lists a
numbered-as edges nodes least depth lists held a e n = let P : List (Option ℕ) → Type 0 = λ l. AreNumbered edges nodes least depth l a in subst P e n
