-- Nodes have a used order or are refused.
use Rattle.std.proofs.Common.{◌≡◌, ◌⊎◌, ◌↔◌, ◌∙◌, refl, sym, ap, subst, inl, inr, ⊎_elim, ℕ, zero, suc, ◌+◌, ◌*◌, ◌<◌, ◌≤◌, Bool, true, false, List, [], ◌∷◌, ◌++◌, length, get_or, slice_index, slice_index_or, arith}
use Rattle.std.proofs.Math.Nat.{mul_comm}
use Rattle.std.specs.List.{All, Contains}
use Rattle.std.proofs.lemmas.Bool.{cases_eq, cases_lt, cases_order, false≢true}
use Rattle.std.proofs.lemmas.Nat.{mul-add-lt}
use Rattle.pb_base.specs.Reach.{Reach, Together}
use Rattle.pb_base.specs.Reach.Reach.{here}
use Rattle.pb_base.proofs.ReachLemmas.{reach-keeps, reach-link, reach-trans, together-refl, together-sym, together-trans}
use Rattle.pb_base.proofs.RankLemmas.{IsAbove, greatest, greatest-same, rank, rank-gap, rank-grows, rank-less, rank-small, rank-sub_less}
use Rattle.pb_base.proofs.WayLemmas.{Decided, decided-and, decided-below, decided-not, decided-or, decided-reach, first-below}
use Rattle.pb_layers.specs.declared.layers.Layer.{Layer}
use Rattle.pb_layers.specs.declared.link.Edge.{Edge}
use Rattle.pb_layers.specs.declared.link.Link.{Link}
use Rattle.pb_layers.specs.Layers.{EdgeInside, HasRefusal, HasUsedOrder, LinksInside, graph_of, inner_at, list_at, no_layer}
use Rattle.pb_layers.specs.Lists.{AreMembers}
use Rattle.pb_layers.specs.Orders.{Graph, IsDepth, IsInner, IsLeastMember, Leads, ServesAll}
use Rattle.pb_layers.proofs.AnswerLemmas.{least-unique, links-inside, no-order}
use Rattle.pb_layers.proofs.ListLemmas.{contains-cons, contains-cons_cases, contains-first, contains-nil}
use Rattle.pb_layers.proofs.ServedLemmas.{members-pass, members-push}

-- ---- lists
decided-any : {A : Type 0} (P : A → Type 0) → ((x : A) → Decided (P x)) → (xs : List A) → Decided ((x : A) × Contains xs x × P x)
decided-any P dec [] = inr (λ h. contains-nil h.0 h.1)
decided-any {A} P dec (x ∷ xs) = ⊎_elim
    (λ p. inl (x, contains-first x xs, p))
    (λ none. ⊎_elim
    (λ h. inl (h.0, contains-cons x h.0 xs h.1, h.2))
    (λ rest. inr (λ h. ⊎_elim (λ e. let Q : A → Type 0 = λ y. P y in none (subst Q (sym e) h.2)) (λ c. rest (h.0, c, h.2)) (contains-cons_cases x h.0 xs h.1)))
    (decided-any P dec xs))
    (dec x)

-- a list whose elements have what their places ask
table : {A : Type 0} (n : ℕ) (P : ℕ → A → Type 0) → ((k : ℕ) → k < n → (x : A) × P k x) → (xs : List A) × (length xs ≡ n) × ((k : ℕ) (d : A) → k < n → P k (get_or xs k d))
table {A} zero P f = ([], refl, λ k d below. absurd (omega arith))
table {A} (suc n) P f =
    let x = f 0 (omega arith) in
    let rest = table n (λ k. P (suc k)) (λ k below. f (suc k) (omega arith)) in
    (x.0 ∷ rest.0, ap suc rest.1, at x.0 x.1 rest.0 rest.2)
  where
    at : (x : A) → P 0 x → (xs : List A) → ((k : ℕ) (d : A) → k < n → P (suc k) (get_or xs k d)) → (k : ℕ) (d : A) → k < suc n → P k (get_or (x ∷ xs) k d)
    at x p xs q zero d below = p
    at x p xs q (suc k) d below = q k d (omega arith)

members-exist : (least : List ℕ) (root bound : ℕ) → (members : List ℕ) × AreMembers least root bound members
members-exist least root zero = ([], record { each = λ v. (λ c. absurd (contains-nil v c), λ h. let low = h.0 in absurd (omega arith)); rises = λ i j before below. absurd (omega arith) })
members-exist least root (suc bound) =
    let rest = members-exist least root bound in
    let next : bound + 1 ≡ suc bound = omega arith in
    let P : ℕ → List ℕ → Type 0 = λ b l. AreMembers least root b l in
    ⊎_elim
    (λ e. (rest.0 ++ bound ∷ [], let Q : ℕ → Type 0 = λ b. P b (rest.0 ++ bound ∷ []) in subst Q next (members-push least root bound rest.0 (rest.0 ++ bound ∷ []) e refl rest.1)))
    (λ ne. (rest.0, let Q : ℕ → Type 0 = λ b. P b rest.0 in subst Q next (members-pass least root bound rest.0 rest.0 ne refl rest.1)))
    (cases_eq (slice_index least bound) root)

-- ---- two numbers as one
key-less : (d e l m n : ℕ) → l < n → d < e → d * n + l < e * n + m
key-less d e l m n low less =
    let step = mul-add-lt d n l e less low in
    let turn = mul_comm n e in
    omega arith

-- ---- depths
module _ (L : ℕ → ℕ → Type 0) (nodes : ℕ) (inside : (u v : ℕ) → L u v → (u < nodes) × (v < nodes)) (dec : (u v : ℕ) → Decided (L u v)) where
  dec_reach : (u v : ℕ) → Decided (Reach ℕ L u v)
  dec_reach = decided-reach L dec nodes (λ u v l. (inside u v l).1)

  pub dec-together : (u v : ℕ) → Decided (Together L u v)
  dec-together u v = decided-and (dec_reach u v) (dec_reach v u)

  pub least-exists : (u : ℕ) → (r : ℕ) × (r ≤ u) × IsLeastMember L u r
  least-exists u = ⊎_elim
      (λ f. (f.0, omega (arith, f.1), record { member = f.2; first = λ v t. ⊎_elim (λ (l : v < f.0). absurd (f.3 v l t)) (λ (h : f.0 ≤ v). h) (cases_lt v f.0) }))
      (λ none. absurd (none u (omega arith) (together-refl L u)))
      (first-below (Together L u) (dec-together u) (suc u))

  -- a link leaves the component of u to w
  abbrev Leaves : ℕ → ℕ → Type 0
  Leaves u w = ((a : ℕ) × (a < nodes) × (Together L u a × L a w)) × (Together L u w → ⊥)

  dec_leaves : (u w : ℕ) → Decided (Leaves u w)
  dec_leaves u w = decided-and (decided-below (λ a. Together L u a × L a w) (λ a. decided-and (dec-together u a) (dec a w)) nodes) (decided-not (dec-together u w))

  abbrev deep : ℕ → ℕ → ℕ
  deep zero u = 0
  deep (suc k) u = (greatest (Leaves u) (dec_leaves u) (deep k) nodes).0

  abbrev size : ℕ → ℕ
  size u = rank (Reach ℕ L u) (dec_reach u) nodes

  size-less : (u w : ℕ) → u < nodes → Leaves u w → size w < size u
  size-less u w below l = rank-sub_less (Reach ℕ L w) (Reach ℕ L u) (dec_reach w) (dec_reach u) (λ b p. reach-trans L u w b way p) nodes u below here (λ p. l.1 (way, p))
    where
      way : Reach ℕ L u w
      way = reach-trans L u l.0.0 w l.0.2.0.0 (reach-link L l.0.0 w l.0.2.1)

  size-some : (u : ℕ) → u < nodes → 0 < size u
  size-some u below = let up = rank-less (Reach ℕ L u) (dec_reach u) u nodes here below in omega arith

  stable : (k u : ℕ) → u < nodes → size u ≤ k → deep k u ≡ deep (suc k) u
  stable zero u below low = let some = size-some u below in absurd (omega arith)
  stable (suc k) u below low = greatest-same (Leaves u) (Leaves u) (deep k) (deep (suc k)) nodes _ _
      (λ w w_in l. let less = size-less u w below l in (l, stable k w w_in (omega arith)))
      (λ w w_in l. let less = size-less u w below l in (l, sym (stable k w w_in (omega arith))))
      (greatest (Leaves u) (dec_leaves u) (deep k) nodes).1
      (greatest (Leaves u) (dec_leaves u) (deep (suc k)) nodes).1

  deep-is : (u : ℕ) → u < nodes → IsAbove (Leaves u) (deep nodes) nodes (deep nodes u)
  deep-is u below =
      let P : ℕ → Type 0 = λ m. IsAbove (Leaves u) (deep nodes) nodes m in
      subst P (sym (stable nodes u below (rank-small (Reach ℕ L u) (dec_reach u) nodes))) (greatest (Leaves u) (dec_leaves u) (deep nodes) nodes).1

  leaves-like : (u v w : ℕ) → Together L u v → Leaves u w → Leaves v w
  leaves-like u v w t l = ((l.0.0, l.0.1, (together-trans L v u l.0.0 (together-sym L u v t) l.0.2.0, l.0.2.1)), λ s. l.1 (together-trans L u v w t s))

  pub depth-exists : (depth : ℕ → ℕ) × ((u : ℕ) → u < nodes → IsDepth ℕ L depth u)
  depth-exists = (
    deep nodes,
    λ u below. record {
      same = λ a t. ⊎_elim
          (λ (e : u ≡ a). ap (deep nodes) e)
          (λ (ne : u ≡ a → ⊥).
          let a_in = other u a below t in
          greatest-same (Leaves u) (Leaves a) (deep nodes) (deep nodes) nodes _ _ (λ w w_in l. (leaves-like u a w t l, refl)) (λ w w_in l. (leaves-like a u w (together-sym L u a t) l, refl)) (deep-is u below) (deep-is a a_in))
          (cases_eq u a);
      falls = λ a v t l. ⊎_elim (λ s. inl s) (λ out. inr ((deep-is u below).above v (inside a v l).1 ((a, (inside a v l).0, (t, l)), out))) (dec-together u v);
      reached = ⊎_elim (λ z. inl z) (λ r. inr (r.2.0.0, r.0, r.2.0.2.0, r.2.0.2.1, r.3)) (deep-is u below).reached;
    },
  )
    where
      other : (u a : ℕ) → u < nodes → Together L u a → a < nodes
      other u a below t = reach-keeps L (λ w. w < nodes) (λ x y l h. (inside x y l).1) u a t.0 below

-- ---- the answers
module _ (joined : List Link) (edges : List Edge) (nodes : ℕ) (joined_in : All (LinksInside nodes) joined) (edges_in : All (EdgeInside nodes) edges) where
  abbrev g : Graph ℕ Edge ℕ
  g = graph_of joined edges

  inside : (u v : ℕ) → Leads g u v → (u < nodes) × (v < nodes)
  inside = links-inside joined edges nodes joined_in edges_in

  dec_link : (u v : ℕ) → Decided (Contains joined (record { from = u; to = v }))
  dec_link u v = ⊎_elim
      (λ h. let P : Link → Type 0 = λ l. Contains joined l in inl (subst P (ap (λ k. record { from = k; to = h.0.to }) h.2.0 ∙ ap (λ k. record { from = u; to = k }) h.2.1) h.1))
      (λ none. inr (λ c. none (record { from = u; to = v }, c, (refl, refl))))
      (decided-any (λ (l : Link). (l.from ≡ u) × (l.to ≡ v)) (λ l. decided-and (cases_eq l.from u) (cases_eq l.to v)) joined)

  dec_edge : (u v : ℕ) → Decided ((e : Edge) × Contains edges e × (e.reader ≡ u) × (e.source ≡ v))
  dec_edge u v = ⊎_elim
      (λ h. inl (h.0, h.1, h.2.0, h.2.1))
      (λ none. inr (λ e. none (e.0, e.1, (e.2, e.3))))
      (decided-any (λ (e : Edge). (e.reader ≡ u) × (e.source ≡ v)) (λ e. decided-and (cases_eq e.reader u) (cases_eq e.source v)) edges)

  dec_leads : (u v : ℕ) → Decided (Leads g u v)
  dec_leads u v = decided-or (decided-or (dec_link u v) (dec_link v u)) (dec_edge u v)

  dec_together : (u v : ℕ) → Decided (Together (Leads g) u v)
  dec_together = dec-together (Leads g) nodes inside dec_leads

  abbrev least : ℕ → ℕ
  least u = (least-exists (Leads g) nodes inside dec_leads u).0

  least_is : (u : ℕ) → IsLeastMember (Leads g) u (least u)
  least_is u = (least-exists (Leads g) nodes inside dec_leads u).2

  abbrev depth : ℕ → ℕ
  depth = (depth-exists (Leads g) nodes inside dec_leads).0

  depth_is : (u : ℕ) → u < nodes → IsDepth ℕ (Leads g) depth u
  depth_is = (depth-exists (Leads g) nodes inside dec_leads).1

  -- ---- lists
  dec_inner : (u : ℕ) (P : Edge → Type 0) → ((e : Edge) → Decided (P e)) → Decided ((e : Edge) × Contains edges e × (Together (Leads g) u e.reader × Together (Leads g) u e.source × P e))
  dec_inner u P dec = decided-any (λ (e : Edge). Together (Leads g) u e.reader × Together (Leads g) u e.source × P e)
      (λ e. ⊎_elim (λ (t : Together (Leads g) u e.reader × Together (Leads g) u e.source). ⊎_elim (λ p. inl (t.0, t.1, p)) (λ none. inr (λ h. none h.2)) (dec e)) (λ none. inr (λ h. none (h.0, h.1))) (decided-and (dec_together u e.reader) (dec_together u e.source)))
      edges

  dec_serves : (u list : ℕ) → Decided (ServesAll g u list)
  dec_serves u list = ⊎_elim
      (λ bad. inr (λ s. bad.2.2 (s bad.0 (record { is_edge = bad.1; reader = bad.2.0; source = bad.2.1 }))))
      (λ none. inl (λ e i. ⊎_elim (λ s. s) (λ out. absurd (none (e, i.is_edge, (i.reader, i.source, out)))) (dec_one list e)))
      (dec_inner u (λ e. g.Serves list e → ⊥) (λ e. decided-not (dec_one list e)))
    where
      dec_one : (list : ℕ) (e : Edge) → Decided ((list < 12) × (slice_index_or e.serves list false ≡ true))
      dec_one list e = decided-and (by_bound (cases_lt list 12)) (by_test (slice_index_or e.serves list false))
        where
          by_bound : ((list < 12) ⊎ (12 ≤ list)) → Decided (list < 12)
          by_bound h = ⊎_elim (λ l. inl l) (λ o. inr (λ l. omega arith)) h

          by_test : (b : Bool) → Decided (b ≡ true)
          by_test true = inl refl
          by_test false = inr (λ e. false≢true e)

  serves-like : (u v list : ℕ) → Together (Leads g) u v → ServesAll g u list → ServesAll g v list
  serves-like u v list t s e i = s e (record { is_edge = i.is_edge; reader = together-trans (Leads g) u v e.reader t i.reader; source = together-trans (Leads g) u v e.source t i.source })

  -- no list serves the component of a node
  abbrev Unserved : ℕ → Type 0
  Unserved u = (list : ℕ) → ServesAll g u list → ⊥

  list_exists : (u : ℕ) → ((list : ℕ) × (list < 12) × ServesAll g u list × ((k : ℕ) → k < list → ServesAll g u k → ⊥)) ⊎ Unserved u
  list_exists u = ⊎_elim
      (λ f. inl f)
      (λ none. inr (λ list s. ⊎_elim
      (λ (low : list < 12). none list low s)
      (λ (high : 12 ≤ list). none 0 (omega arith) (λ e i. let h = (s e i).0 in absurd (omega arith)))
      (cases_lt list 12)))
      (first-below (ServesAll g u) (dec_serves u) 12)

  dec_unserved : (u : ℕ) → Decided (Unserved u)
  dec_unserved u = ⊎_elim (λ f. inr (λ none. none f.0 f.2)) (λ none. inl none) (list_exists u)

  -- ---- the refusal
  refusal : (root : ℕ) → root < nodes → Unserved root → ((k : ℕ) → k < root → Unserved k → ⊥) → HasRefusal g nodes
  refusal root below none before =
      let leasts = table nodes (λ u (l : ℕ). l ≡ least u) (λ u _. (least u, refl)) in
      let found = members-exist leasts.0 root nodes in
      record {
        members = found.0;
        told = record {
          no_order = no-order g root none;
          component = record {
            root = root;
            is = record {
              inside = below;
              is_least = let P : ℕ → Type 0 = λ k. IsLeastMember (Leads g) root k in subst P at_root (least_is root);
              unserved = none;
              first = λ k less l. ⊎_elim (λ f. (f.0, f.2)) (λ out. absurd (before k less out)) (list_exists k);
            };
            each = λ v. (
              λ c. let h = (found.1.each v).0 c in together-of v (sym (leasts.2 v 0 h.0) ∙ h.1),
              λ t. let v_in = in_nodes v t in (found.1.each v).1 (v_in, leasts.2 v 0 v_in ∙ sym (least-unique (Leads g) root v root (least v) t root_least (least_is v))),
            );
            rises = found.1.rises;
          };
        };
      }
    where
      at_root : least root ≡ root
      at_root =
          let l = (least-exists (Leads g) nodes inside dec_leads root).1 in
          let t = (least_is root).member in
          ⊎_elim
          (λ (e : least root ≡ root). e)
          (λ (ne : least root ≡ root → ⊥). absurd (before (least root) (omega arith) (λ list s. none list (serves-like (least root) root list (together-sym (Leads g) root (least root) t) s))))
          (cases_eq (least root) root)

      root_least : IsLeastMember (Leads g) root root
      root_least = let P : ℕ → Type 0 = λ k. IsLeastMember (Leads g) root k in subst P at_root (least_is root)

      together-of : (v : ℕ) → least v ≡ root → Together (Leads g) root v
      together-of v e = let P : ℕ → Type 0 = λ k. Together (Leads g) v k in together-sym (Leads g) v root (subst P e (least_is v).member)

      in_nodes : (v : ℕ) → Together (Leads g) root v → v < nodes
      in_nodes v t = reach-keeps (Leads g) (λ w. w < nodes) (λ x y l h. (inside x y l).1) root v t.0 below

  -- ---- the used order
  module _ (lists : (u : ℕ) → u < nodes → (list : ℕ) × (list < 12) × ServesAll g u list × ((k : ℕ) → k < list → ServesAll g u k → ⊥)) where
    abbrev key : ℕ → ℕ
    key u = depth u * nodes + least u

    abbrev IsKey : ℕ → Type 0
    IsKey b = (u : ℕ) × (u < nodes) × (key u ≡ b)

    dec_key : (b : ℕ) → Decided (IsKey b)
    dec_key b = decided-below (λ u. key u ≡ b) (λ u. cases_eq (key u) b) nodes

    abbrev top : ℕ
    top = (greatest (λ u. u ≡ u) (λ u. inl refl) key nodes).0

    key-top : (u : ℕ) → u < nodes → key u < top
    key-top u below = (greatest (λ u. u ≡ u) (λ u. inl refl) key nodes).1.above u below refl

    abbrev place : ℕ → ℕ
    place u = rank IsKey dec_key (key u)

    abbrev total : ℕ
    total = rank IsKey dec_key top

    least-low : (u : ℕ) → u < nodes → least u < nodes
    least-low u below = let l = (least-exists (Leads g) nodes inside dec_leads u).1 in omega arith

    place-less : (u v : ℕ) → u < nodes → key u < key v → place u < place v
    place-less u v below less = rank-less IsKey dec_key (key u) (key v) (u, below, refl) less

    key-from : (u v : ℕ) → place u < place v → key u < key v
    key-from u v less = ⊎_elim (λ (l : key u < key v). l) (λ (o : key v ≤ key u). let back = rank-grows IsKey dec_key (key v) (key u) o in absurd (omega arith)) (cases_lt (key u) (key v))

    key-there : (u v : ℕ) → u < nodes → v < nodes → key u < key v → (depth u < depth v) ⊎ ((depth u ≡ depth v) × (least u < least v))
    key-there u v u_in v_in less = ⊎_elim
        (λ (e : depth u ≡ depth v). let same = ap (λ d. d * nodes) e in inr (e, omega arith))
        (λ o. ⊎_elim (λ l. inl l) (λ (m : depth v < depth u). let back = key-less (depth v) (depth u) (least v) (least u) nodes (least-low v v_in) m in absurd (omega arith)) o)
        (cases_order (depth u) (depth v))

    key-back : (u v : ℕ) → u < nodes → (depth u < depth v) ⊎ ((depth u ≡ depth v) × (least u < least v)) → key u < key v
    key-back u v u_in h = ⊎_elim
        (λ l. key-less (depth u) (depth v) (least u) (least v) nodes (least-low u u_in) l)
        (λ l. let same = ap (λ d. d * nodes) l.0 in omega (arith, l.1))
        h

    -- nodes at one place are in one component
    place-together : (u v : ℕ) → u < nodes → v < nodes → place u ≡ place v → Together (Leads g) u v
    place-together u v u_in v_in e =
        let same : key u ≡ key v = ⊎_elim (λ k. k) (λ o. absurd (⊎_elim (λ l. let p = place-less u v u_in l in omega arith) (λ l. let p = place-less v u v_in l in omega arith) o)) (cases_order (key u) (key v)) in
        let root : least u ≡ least v = ⊎_elim (λ k. k) (λ o. absurd (⊎_elim
        (λ l. let k = key-same (depth u) (depth v) (least u) (least v) (least-low u u_in) (least-low v v_in) same in omega arith)
        (λ l. let k = key-same (depth u) (depth v) (least u) (least v) (least-low u u_in) (least-low v v_in) same in omega arith)
        o)) (cases_order (least u) (least v)) in
        let P : ℕ → Type 0 = λ k. Together (Leads g) u k in
        together-trans (Leads g) u (least v) v (subst P root (least_is u).member) (together-sym (Leads g) v (least v) (least_is v).member)
      where
        key-same : (d e l m : ℕ) → l < nodes → m < nodes → d * nodes + l ≡ e * nodes + m → l ≡ m
        key-same d e l m l_in m_in s = ⊎_elim
            (λ (f : d ≡ e). let same = ap (λ x. x * nodes) f in omega arith)
            (λ o. absurd (⊎_elim (λ (f : d < e). let k = key-less d e l m nodes l_in f in omega arith) (λ (f : e < d). let k = key-less e d m l nodes m_in f in omega arith) o))
            (cases_order d e)

    -- the layer at a place
    record IsLayer (p : ℕ) (l : Layer) : Type 0 where
      pub node : ℕ
      pub node_in : node < nodes
      pub at : place node ≡ p
      pub low : l.list < 12
      pub serves : ServesAll g node l.list
      pub first : (k : ℕ) → k < l.list → ServesAll g node k → ⊥
      pub inner_is : (l.inner ≡ true) ↔ ((e : Edge) × IsInner ℕ Edge ℕ g node e)

    layer-exists : (p : ℕ) → p < total → (l : Layer) × IsLayer p l
    layer-exists p below =
        let v = rank-gap IsKey dec_key p top below in
        let u = v.2 in
        let chosen = lists u.0 u.1 in
        let inner = test (dec_inner u.0 (λ e. e ≡ e) (λ e. inl refl)) in (
          record { list = chosen.0; inner = inner.0 },
          record {
            node = u.0;
            node_in = u.1;
            at = ap (rank IsKey dec_key) u.2 ∙ v.3;
            low = chosen.1;
            serves = chosen.2;
            first = chosen.3;
            inner_is = (λ on. let e = inner.1.0 on in (e.0, record { is_edge = e.1; reader = e.2.0; source = e.2.1 }), λ e. inner.1.1 (e.0, e.1.is_edge, (e.1.reader, e.1.source, refl)));
          },
        )
      where
        test : {P : Type 0} → Decided P → (b : Bool) × ((b ≡ true) ↔ P)
        test d = ⊎_elim (λ h. (true, (λ _. h, λ _. refl))) (λ none. (false, (λ e. absurd (false≢true e), λ h. absurd (none h)))) d

    used : HasUsedOrder g nodes
    used =
        let layer = table nodes (λ u (p : ℕ). p ≡ place u) (λ u _. (place u, refl)) in
        let layers = table total (λ p (l : Layer). IsLayer p l) layer-exists in
        let at = λ (u : ℕ) (below : u < nodes). layer.2 u 0 below in
        let under = λ (u : ℕ) (below : u < nodes). place-top u below in
        let here = λ (u : ℕ) (below : u < nodes). layers.2 (place u) no_layer (place-top u below) in
        let list_here = λ (u : ℕ) (below : u < nodes). ap (list_at layers.0) (at u below) in
        record {
          layers = record { layer = layer.0; layers = layers.0 };
          is = record {
            least = least;
            depth = depth;
            leasts = λ u below. least_is u;
            depths = depth_is;
            room = layer.1;
            rising = λ u v u_in v_in. (
              λ less. key-there u v u_in v_in (key-from u v (omega (arith, at u u_in, at v v_in))),
              λ h. let less = place-less u v u_in (key-back u v u_in h) in omega (arith, at u u_in, at v v_in),
            );
            numbered = λ u below. omega (arith, at u below, place-top u below, layers.1);
            no_gap = λ p below. let l = layers.2 p no_layer (omega (arith, layers.1)) in (l.node, l.node_in, at l.node l.node_in ∙ l.at);
            low = λ p below. (layers.2 p no_layer (omega (arith, layers.1))).low;
            serves = λ u below.
                let l = here u below in
                let P : ℕ → Type 0 = λ k. ServesAll g u k in
                subst P (sym (list_here u below)) (serves-like l.node u _ (place-together l.node u l.node_in below l.at) l.serves);
            first = λ u k below less s.
                let l = here u below in
                l.first k (omega (arith, list_here u below)) (serves-like u l.node k (together-sym (Leads g) l.node u (place-together l.node u l.node_in below l.at)) s);
            inner = λ u below.
                let l = here u below in
                let t = place-together l.node u l.node_in below l.at in
                let same = ap (inner_at layers.0) (at u below) in (
                  λ on. let e = l.inner_is.0 (sym same ∙ on) in (e.0, inner-like l.node u e.0 t e.1),
                  λ e. same ∙ l.inner_is.1 (e.0, inner-like u l.node e.0 (together-sym (Leads g) l.node u t) e.1),
                );
          };
        }
      where
        place-top : (u : ℕ) → u < nodes → place u < total
        place-top u below = rank-less IsKey dec_key (key u) top (u, below, refl) (key-top u below)

        inner-like : (u v : ℕ) (e : Edge) → Together (Leads g) u v → IsInner ℕ Edge ℕ g u e → IsInner ℕ Edge ℕ g v e
        inner-like u v e t i = record { is_edge = i.is_edge; reader = together-trans (Leads g) v u e.reader (together-sym (Leads g) u v t) i.reader; source = together-trans (Leads g) v u e.source (together-sym (Leads g) u v t) i.source }

  pub answered : HasUsedOrder g nodes ⊎ HasRefusal g nodes
  answered = ⊎_elim
      (λ f. inr (refusal f.0 f.1 f.2 f.3))
      (λ none. inl (used (λ u below. ⊎_elim (λ l. l) (λ out. absurd (none u below out)) (list_exists u))))
      (first-below Unserved dec_unserved nodes)
