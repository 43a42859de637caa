-- Links as they are held.
use Rattle.std.proofs.Common.{◌≡◌, ◌≢◌, ◌⊎◌, ◌↔◌, ◌∙◌, sym, ap, subst, inl, inr, ⊎_elim, Result, Ok, Err, ℕ, ◌+◌, ◌<◌, ◌≤◌, List, [], ◌∷◌, ◌++◌, length, take, get_or, replicate, arith}
use Rattle.std.proofs.Math.ListN.{set, length-set}
use Rattle.std.specs.List.{All, Contains}
use Rattle.std.specs.Result.{OnOk}
use Rattle.std.proofs.lemmas.Bool.{cases_eq, cases_lt}
use Rattle.std.proofs.lemmas.List.{get_or-replicate, get_or-set_other, get_or-set_same, get_or_past, get_or_read, length-replicate, take_all}
use Rattle.std.proofs.lemmas.List.Elements.{Contains-append_left, Contains-push, Contains-push_cases}
use Rattle.pb_layers.specs.declared.link.Edge.{Edge}
use Rattle.pb_layers.specs.declared.link.Link.{Link}
use Rattle.pb_layers.specs.Graphs.{IsAdded, IsLinked, Out}
use Rattle.pb_layers.specs.Layers.{EdgeInside, LinksInside, graph_of}
use Rattle.pb_layers.specs.Orders.{Leads}
use Rattle.pb_layers.proofs.ListLemmas.{contains-more_cases, contains-more_new, contains-more_old, contains-nil}

added-is : (targets : List (List ℕ)) (from to : ℕ) → from < length targets → IsAdded targets (set targets from (get_or targets from [] ++ to ∷ [])) from to
added-is targets from to inside = record {
  room = length-set targets from (get_or targets from [] ++ to ∷ []);
  links = λ u v. (there u v, back u v);
}
  where
    there : (u v : ℕ) → Out (set targets from (get_or targets from [] ++ to ∷ [])) u v → Out targets u v ⊎ ((u ≡ from) × (v ≡ to))
    there u v c =
        let P : List ℕ → Type 0 = λ l. Contains l v in
        ⊎_elim
        (λ (e : u ≡ from).
        let Q : ℕ → Type 0 = λ k. Out (set targets from (get_or targets from [] ++ to ∷ [])) k v in
        let R : ℕ → Type 0 = λ k. Out targets k v in
        ⊎_elim (λ (h : Out targets from v). inl (subst R (sym e) h)) (λ (same : to ≡ v). inr (e, sym same))
        (Contains-push_cases (get_or targets from []) to v (subst P (get_or-set_same targets from (get_or targets from [] ++ to ∷ []) [] inside) (subst Q e c))))
        (λ (ne : u ≢ from). inl (subst P (get_or-set_other targets from u (get_or targets from [] ++ to ∷ []) [] ne) c))
        (cases_eq u from)

    back : (u v : ℕ) → (Out targets u v ⊎ ((u ≡ from) × (v ≡ to))) → Out (set targets from (get_or targets from [] ++ to ∷ [])) u v
    back u v h =
        let P : List ℕ → Type 0 = λ l. Contains l v in
        let Q : ℕ → Type 0 = λ k. Out (set targets from (get_or targets from [] ++ to ∷ [])) k v in
        let R : ℕ → Type 0 = λ k. Out targets k v in
        let S : ℕ → Type 0 = λ k. Contains (get_or targets from [] ++ to ∷ []) k in
        ⊎_elim
        (λ (c : Out targets u v). ⊎_elim
        (λ (e : u ≡ from). subst Q (sym e) (subst P (sym (get_or-set_same targets from (get_or targets from [] ++ to ∷ []) [] inside)) (Contains-append_left (get_or targets from []) (to ∷ []) v (subst R e c))))
        (λ (ne : u ≢ from). subst P (sym (get_or-set_other targets from u (get_or targets from [] ++ to ∷ []) [] ne)) c)
        (cases_eq u from))
        (λ (e : (u ≡ from) × (v ≡ to)). subst Q (sym e.0) (subst P (sym (get_or-set_same targets from (get_or targets from [] ++ to ∷ []) [] inside)) (subst S (sym e.1) (Contains-push (get_or targets from []) to))))
        h

pub added-read : {T E : Type 0} (r : Result T E) (targets : List (List ℕ)) (from to : ℕ) (held next : List ℕ) → from < length targets → held ≡ get_or targets from held → OnOk r (next ≡ held ++ to ∷ []) →
    OnOk r (IsAdded targets (set targets from next) from to)
added-read (Ok x) targets from to held next inside is h =
    let P : List ℕ → Type 0 = λ l. IsAdded targets (set targets from l) from to in
    subst P (sym (h ∙ ap (λ l. l ++ to ∷ []) (get_or_read targets from held inside is []))) (added-is targets from to inside)
added-read (Err e) targets from to held next inside is h = tt

-- ---- links in both directions
-- links of one kind are links of another
linked-like : (L M : ℕ → ℕ → Type 0) (nodes : ℕ) (down up : List (List ℕ)) → ((u v : ℕ) → L u v ↔ M u v) → IsLinked L nodes down up → IsLinked M nodes down up
linked-like L M nodes down up same r = record {
  room_down = r.room_down;
  room_up = r.room_up;
  is_down = λ u v. (λ c. (same u v).0 ((r.is_down u v).0 c), λ m. (r.is_down u v).1 ((same u v).1 m));
  is_up = λ u v. (λ c. (same u v).0 ((r.is_up u v).0 c), λ m. (r.is_up u v).1 ((same u v).1 m));
  inside = λ u v m. r.inside u v ((same u v).1 m);
}

linked-more : (L : ℕ → ℕ → Type 0) (nodes from to : ℕ) (down up more_down more_up : List (List ℕ)) → from < nodes → to < nodes → IsLinked L nodes down up → IsAdded down more_down from to → IsAdded up more_up to from →
    IsLinked (λ u v. L u v ⊎ ((u ≡ from) × (v ≡ to))) nodes more_down more_up
linked-more L nodes from to down up more_down more_up from_in to_in r p q = record {
  room_down = p.room ∙ r.room_down;
  room_up = q.room ∙ r.room_up;
  is_down = λ u v. (
    λ c. ⊎_elim (λ h. inl ((r.is_down u v).0 h)) (λ e. inr e) ((p.links u v).0 c),
    λ m. (p.links u v).1 (⊎_elim (λ h. inl ((r.is_down u v).1 h)) (λ e. inr e) m),
  );
  is_up = λ u v. (
    λ c. ⊎_elim (λ h. inl ((r.is_up u v).0 h)) (λ (e : (v ≡ to) × (u ≡ from)). inr (e.1, e.0)) ((q.links v u).0 c),
    λ m. (q.links v u).1 (⊎_elim (λ h. inl ((r.is_up u v).1 h)) (λ (e : (u ≡ from) × (v ≡ to)). inr (e.1, e.0)) m),
  );
  inside = λ u v m. ⊎_elim (λ h. r.inside u v h) (λ (e : (u ≡ from) × (v ≡ to)). (omega arith, omega arith)) m;
}

pub linked-none : (nodes : ℕ) (down up : List (List ℕ)) → down ≡ replicate nodes [] → up ≡ replicate nodes [] → IsLinked (Leads (graph_of [] [])) nodes down up
linked-none nodes down up d e = record {
  room_down = ap length d ∙ length-replicate {A = List ℕ} nodes [];
  room_up = ap length e ∙ length-replicate {A = List ℕ} nodes [];
  is_down = λ u v. (λ c. absurd (none down d u v c), λ l. absurd (no_link u v l));
  is_up = λ u v. (λ c. absurd (none up e v u c), λ l. absurd (no_link u v l));
  inside = λ u v l. absurd (no_link u v l);
}
  where
    at : (u : ℕ) → get_or {A = List ℕ} (replicate nodes []) u [] ≡ []
    at u = ⊎_elim (λ (below : u < nodes). get_or-replicate nodes u [] [] below) (λ (over : nodes ≤ u). get_or_past (replicate nodes []) u [] (omega (arith, length-replicate {A = List ℕ} nodes []))) (cases_lt u nodes)

    none : (targets : List (List ℕ)) → targets ≡ replicate nodes [] → (u v : ℕ) → Out targets u v → ⊥
    none targets is u v c = let P : List ℕ → Type 0 = λ l. Contains l v in contains-nil v (subst P (ap (λ ts. get_or ts u []) is ∙ at u) c)

    no_link : (u v : ℕ) → Leads (graph_of [] []) u v → ⊥
    no_link u v l = ⊎_elim (λ j. ⊎_elim (λ c. contains-nil _ c) (λ c. contains-nil _ c) j) (λ e. contains-nil _ e.1) l

-- ---- the next joined pair
module _ (joined : List Link) (i : ℕ) (d : Link) (below : i < length joined) where
  pub pair-next : (u v : ℕ) → ((Leads (graph_of (take i joined) []) u v ⊎ ((u ≡ (get_or joined i d).from) × (v ≡ (get_or joined i d).to))) ⊎ ((u ≡ (get_or joined i d).to) × (v ≡ (get_or joined i d).from))) ↔ Leads (graph_of (take (i + 1) joined) []) u v
  pair-next u v = (there, back)
    where
      new : (a b : ℕ) → a ≡ (get_or joined i d).from → b ≡ (get_or joined i d).to → Contains (take (i + 1) joined) (record { from = a; to = b })
      new a b e f =
          let P : Link → Type 0 = λ l. Contains (take (i + 1) joined) l in
          let same : get_or joined i d ≡ record { from = a; to = b } = ap (λ k. record { from = k; to = (get_or joined i d).to }) (sym e) ∙ ap (λ k. record { from = a; to = k }) (sym f) in
          subst P same (contains-more_new joined i d below)

      there : ((Leads (graph_of (take i joined) []) u v ⊎ ((u ≡ (get_or joined i d).from) × (v ≡ (get_or joined i d).to))) ⊎ ((u ≡ (get_or joined i d).to) × (v ≡ (get_or joined i d).from))) → Leads (graph_of (take (i + 1) joined) []) u v
      there h = ⊎_elim
          (λ k. ⊎_elim
          (λ l. ⊎_elim (λ j. inl (⊎_elim (λ c. inl (contains-more_old joined i d below _ c)) (λ c. inr (contains-more_old joined i d below _ c)) j)) (λ e. inr e) l)
          (λ e. inl (inl (new u v e.0 e.1)))
          k)
          (λ e. inl (inr (new v u e.1 e.0)))
          h

      back : Leads (graph_of (take (i + 1) joined) []) u v → ((Leads (graph_of (take i joined) []) u v ⊎ ((u ≡ (get_or joined i d).from) × (v ≡ (get_or joined i d).to))) ⊎ ((u ≡ (get_or joined i d).to) × (v ≡ (get_or joined i d).from)))
      back l = ⊎_elim
          (λ j. ⊎_elim
          (λ c. ⊎_elim (λ k. inl (inl (inl (inl k)))) (λ e. inl (inr (ap (λ (l : Link). l.from) (sym e), ap (λ (l : Link). l.to) (sym e)))) (contains-more_cases joined i d below _ c))
          (λ c. ⊎_elim (λ k. inl (inl (inl (inr k)))) (λ e. inr (ap (λ (l : Link). l.to) (sym e), ap (λ (l : Link). l.from) (sym e))) (contains-more_cases joined i d below _ c))
          j)
          (λ e. absurd (contains-nil _ e.1))
          l

-- ---- the next edge
module _ (joined : List Link) (edges : List Edge) (i : ℕ) (d : Edge) (below : i < length edges) where
  pub edge-next : (u v : ℕ) → (Leads (graph_of joined (take i edges)) u v ⊎ ((u ≡ (get_or edges i d).reader) × (v ≡ (get_or edges i d).source))) ↔ Leads (graph_of joined (take (i + 1) edges)) u v
  edge-next u v = (there, back)
    where
      there : (Leads (graph_of joined (take i edges)) u v ⊎ ((u ≡ (get_or edges i d).reader) × (v ≡ (get_or edges i d).source))) → Leads (graph_of joined (take (i + 1) edges)) u v
      there h = ⊎_elim
          (λ l. ⊎_elim (λ j. inl j) (λ e. inr (e.0, contains-more_old edges i d below e.0 e.1, e.2, e.3)) l)
          (λ e. inr (get_or edges i d, contains-more_new edges i d below, sym e.0, sym e.1))
          h

      back : Leads (graph_of joined (take (i + 1) edges)) u v → (Leads (graph_of joined (take i edges)) u v ⊎ ((u ≡ (get_or edges i d).reader) × (v ≡ (get_or edges i d).source)))
      back l = ⊎_elim
          (λ j. inl (inl j))
          (λ e. ⊎_elim (λ c. inl (inr (e.0, c, e.2, e.3))) (λ (is : get_or edges i d ≡ e.0). inr (sym e.2 ∙ ap (λ (k : Edge). k.reader) (sym is), sym e.3 ∙ ap (λ (k : Edge). k.source) (sym is))) (contains-more_cases edges i d below e.0 e.1))
          l

pub pair-linked : (joined : List Link) (i nodes : ℕ) (d : Link) (down up mid_down mid_up more_down more_up : List (List ℕ)) → i < length joined → All (LinksInside nodes) joined →
    IsLinked (Leads (graph_of (take i joined) [])) nodes down up →
    IsAdded down mid_down (get_or joined i d).from (get_or joined i d).to → IsAdded up mid_up (get_or joined i d).to (get_or joined i d).from →
    IsAdded mid_down more_down (get_or joined i d).to (get_or joined i d).from → IsAdded mid_up more_up (get_or joined i d).from (get_or joined i d).to →
    IsLinked (Leads (graph_of (take (i + 1) joined) [])) nodes more_down more_up
pair-linked joined i nodes d down up mid_down mid_up more_down more_up below inside r p q s t =
    let here = inside i d below in
    linked-like _ _ nodes more_down more_up (pair-next joined i d below)
    (linked-more _ nodes _ _ mid_down mid_up more_down more_up here.1 here.0 (linked-more _ nodes _ _ down up mid_down mid_up here.0 here.1 r p q) s t)

pub edge-linked : (joined : List Link) (edges : List Edge) (i nodes : ℕ) (d : Edge) (down up more_down more_up : List (List ℕ)) → i < length edges → All (EdgeInside nodes) edges →
    IsLinked (Leads (graph_of joined (take i edges))) nodes down up →
    IsAdded down more_down (get_or edges i d).reader (get_or edges i d).source → IsAdded up more_up (get_or edges i d).source (get_or edges i d).reader →
    IsLinked (Leads (graph_of joined (take (i + 1) edges))) nodes more_down more_up
edge-linked joined edges i nodes d down up more_down more_up below inside r p q =
    let here = inside i d below in
    linked-like _ _ nodes more_down more_up (edge-next joined edges i d below) (linked-more _ nodes _ _ down up more_down more_up here.0 here.1 r p q)

pub pairs-linked : (joined : List Link) (n nodes : ℕ) (down up : List (List ℕ)) → length joined ≤ n → IsLinked (Leads (graph_of (take n joined) [])) nodes down up → IsLinked (Leads (graph_of joined [])) nodes down up
pairs-linked joined n nodes down up over r = let P : List Link → Type 0 = λ l. IsLinked (Leads (graph_of l [])) nodes down up in subst P (take_all n joined over) r

pub edges-linked : (joined : List Link) (edges : List Edge) (n nodes : ℕ) (down up : List (List ℕ)) → length edges ≤ n → IsLinked (Leads (graph_of joined (take n edges))) nodes down up → IsLinked (Leads (graph_of joined edges)) nodes down up
edges-linked joined edges n nodes down up over r = let P : List Edge → Type 0 = λ l. IsLinked (Leads (graph_of joined l)) nodes down up in subst P (take_all n edges over) r
