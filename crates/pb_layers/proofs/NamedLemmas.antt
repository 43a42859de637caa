-- Components that are named by their least members and depths.
use Rattle.std.proofs.Common.{◌≡◌, ◌≢◌, ◌⊎◌, ◌∙◌, refl, sym, ap, subst, inl, inr, ⊎_elim, ℕ, ◌+◌, ◌<◌, ◌≤◌, min, max, Bool, true, false, List, [], ◌∷◌, length, take, get_or, slice_index, replicate, arith}
use Rattle.std.specs.List.{Contains}
use Rattle.std.proofs.lemmas.Bool.{cases_Bool, cases_lt, false≢true}
use Rattle.std.proofs.lemmas.List.{get_or-replicate, get_or_past, length-replicate, take_all}
use Rattle.std.proofs.lemmas.List.Elements.{Contains-get_or}
use Rattle.pb_base.specs.Reach.{Reach, Together}
use Rattle.pb_base.proofs.ReachLemmas.{reach-keeps_back, together-sym}
use Rattle.pb_layers.specs.Components.{AreFound, AreNamed, AreSettled, IsHeight, IsNamed, IsTaken, LeftBy}
use Rattle.pb_layers.specs.Graphs.{IsMarked, Out, count, marked}
use Rattle.pb_layers.specs.Orders.{IsDepth, IsLeastMember}
use Rattle.pb_layers.proofs.ListLemmas.{contains-more_cases, contains-more_new, contains-more_old, contains-nil, marked-inside}

-- ---- the height of a component
module _ (least depth : List ℕ) (root so_far : ℕ) where
  pub height-none : IsHeight (Contains []) least depth root so_far so_far
  height-none = record { more = omega arith; above = λ v c ne. absurd (contains-nil v c); reached = inl refl }

  module _ (nodes : List ℕ) (i : ℕ) (height : ℕ) (below : i < length nodes) (h : IsHeight (Contains (take i nodes)) least depth root so_far height) where
    pub height-out : (higher : ℕ) → slice_index least (get_or nodes i 0) ≢ root → higher ≡ max height (slice_index depth (get_or nodes i 0) + 1) → IsHeight (Contains (take (i + 1) nodes)) least depth root so_far higher
    height-out higher out is = record {
      more = omega (arith, h.more);
      above = λ v c ne. ⊎_elim (λ k. let old = h.above v k ne in omega arith) (λ (e : get_or nodes i 0 ≡ v). let d = ap (slice_index depth) e in omega arith) (contains-more_cases nodes i 0 below v c);
      reached = ⊎_elim
          (λ (is_old : max height (slice_index depth (get_or nodes i 0) + 1) ≡ height). ⊎_elim (λ e. inl (is ∙ is_old ∙ e)) (λ r. inr (r.0, contains-more_old nodes i 0 below r.0 r.1, r.2, is ∙ is_old ∙ r.3)) h.reached)
          (λ (is_new : max height (slice_index depth (get_or nodes i 0) + 1) ≡ slice_index depth (get_or nodes i 0) + 1). inr (get_or nodes i 0, contains-more_new nodes i 0 below, out, is ∙ is_new))
          (max-cases height (slice_index depth (get_or nodes i 0) + 1));
    }
      where
        max-cases : (a b : ℕ) → (max a b ≡ a) ⊎ (max a b ≡ b)
        max-cases a b = ⊎_elim (λ (l : a < b). inr (omega arith)) (λ (l : b ≤ a). inl (omega arith)) (cases_lt a b)

    pub height-in : (same : ℕ) → slice_index least (get_or nodes i 0) ≡ root → same ≡ height → IsHeight (Contains (take (i + 1) nodes)) least depth root so_far same
    height-in same at is = let P : ℕ → Type 0 = λ k. IsHeight (Contains (take (i + 1) nodes)) least depth root so_far k in subst P (sym is) (record {
      more = h.more;
      above = λ v c ne. ⊎_elim (λ k. h.above v k ne) (λ (e : get_or nodes i 0 ≡ v). absurd (ne (ap (slice_index least) (sym e) ∙ at))) (contains-more_cases nodes i 0 below v c);
      reached = ⊎_elim (λ e. inl e) (λ r. inr (r.0, contains-more_old nodes i 0 below r.0 r.1, r.2, r.3)) h.reached;
    })

  pub height-next : (targets : List (List ℕ)) (members : List ℕ) (i height higher : ℕ) (nodes : List ℕ) → i < length members → nodes ≡ get_or targets (get_or members i 0) [] →
      IsHeight (LeftBy targets (take i members)) least depth root so_far height → IsHeight (Contains nodes) least depth root height higher → IsHeight (LeftBy targets (take (i + 1) members)) least depth root so_far higher
  height-next targets members i height higher nodes below is h k = record {
    more = omega (arith, h.more, k.more);
    above = λ v l ne. ⊎_elim
        (λ c. let old = h.above v (l.0, c, l.2) ne in omega (arith, k.more))
        (λ (e : get_or members i 0 ≡ l.0). k.above v (here v l.0 e l.2) ne)
        (contains-more_cases members i 0 below l.0 l.1);
    reached = ⊎_elim
        (λ (e : higher ≡ height). ⊎_elim (λ z. inl (e ∙ z)) (λ r. inr (r.0, (r.1.0, contains-more_old members i 0 below r.1.0 r.1.1, r.1.2), r.2, e ∙ r.3)) h.reached)
        (λ r. inr (r.0, (get_or members i 0, contains-more_new members i 0 below, there r.0 r.1), r.2, r.3))
        k.reached;
  }
    where
      here : (v u : ℕ) → get_or members i 0 ≡ u → Out targets u v → Contains nodes v
      here v u e l = let P : List ℕ → Type 0 = λ ns. Contains ns v in subst P (ap (λ w. get_or targets w []) (sym e) ∙ sym is) l

      there : (v : ℕ) → Contains nodes v → Out targets (get_or members i 0) v
      there v c = let P : List ℕ → Type 0 = λ ns. Contains ns v in subst P is c

  pub height-all : (targets : List (List ℕ)) (members : List ℕ) (n height : ℕ) → length members ≤ n → IsHeight (LeftBy targets (take n members)) least depth root so_far height → IsHeight (LeftBy targets members) least depth root so_far height
  height-all targets members n height over h = let P : List ℕ → Type 0 = λ l. IsHeight (LeftBy targets l) least depth root so_far height in subst P (take_all n members over) h

  pub height-start : (targets : List (List ℕ)) → IsHeight (LeftBy targets []) least depth root so_far so_far
  height-start targets = record { more = omega arith; above = λ v l ne. absurd (contains-nil l.0 l.1); reached = inl refl }

-- ---- the names after one more component
pub count-short : (marks : List Bool) → count marks ≤ length marks
count-short [] = omega arith
count-short (true ∷ marks) = let rest = count-short marks in omega arith
count-short (false ∷ marks) = let rest = count-short marks in omega arith

unmarked : (marks : List Bool) (v : ℕ) → marked marks v ≡ false → IsMarked marks v → ⊥
unmarked marks v off on = false≢true (sym off ∙ on)

module _ (targets : List (List ℕ)) (nodes : ℕ) (inside : (u v : ℕ) → Out targets u v → (u < nodes) × (v < nodes)) (left rest : List Bool) (members least new_least depth new_depth : List ℕ)
    (old : AreNamed (Out targets) nodes left least depth) (t : IsTaken (Out targets) left rest members) (n : IsNamed targets members least new_least depth new_depth) where
  member-inside : (v : ℕ) → Contains members v → v < nodes
  member-inside v c = let below = marked-inside left v (t.taken v c) in omega (arith, old.room_left)

  least-member : (v : ℕ) → Contains members v → slice_index new_least v ≡ n.root
  least-member v c = let below = member-inside v c in n.least_is.written v 0 (omega (arith, old.room_least)) c

  depth-member : (v : ℕ) → Contains members v → slice_index new_depth v ≡ n.height
  depth-member v c = let below = member-inside v c in n.depth_is.written v 0 (omega (arith, old.room_depth)) c

  outside : (v : ℕ) → marked left v ≡ false → Contains members v → ⊥
  outside v off c = unmarked left v off (t.taken v c)

  least-settled : (v : ℕ) → marked left v ≡ false → slice_index new_least v ≡ slice_index least v
  least-settled v off = n.least_is.kept v 0 (outside v off)

  depth-settled : (v : ℕ) → marked left v ≡ false → slice_index new_depth v ≡ slice_index depth v
  depth-settled v off = n.depth_is.kept v 0 (outside v off)

  -- a link from a member leads to a member or to a settled node
  from-member : (u v : ℕ) → Contains members u → Out targets u v → Contains members v ⊎ (marked left v ≡ false)
  from-member u v c l = ⊎_elim
      (λ (on : marked left v ≡ true). ⊎_elim
      (λ (still : marked rest v ≡ true). absurd (unmarked rest u (t.gone u c) (t.closed u v l still)))
      (λ (off : marked rest v ≡ false). inl (t.kept v on off))
      (cases_Bool (marked rest v)))
      (λ (off : marked left v ≡ false). inr off)
      (cases_Bool (marked left v))

  -- and this one is of another component
  settled-apart : (v : ℕ) → v < nodes → marked left v ≡ false → slice_index new_least v ≢ n.root
  settled-apart v below off e =
      let P : ℕ → Type 0 = λ w. Together (Out targets) v w in
      let with_root = subst P (sym (least-settled v off) ∙ e) (old.leasts v below off).member in
      outside v off (t.whole n.root v n.is_member (together-sym (Out targets) v n.root with_root))

  left-apart : (v : ℕ) → slice_index new_least v ≢ n.root → Contains members v → ⊥
  left-apart v ne c = ne (least-member v c)

  -- nodes to which a settled one leads are settled
  settled-on : (u v : ℕ) → Reach ℕ (Out targets) u v → marked left u ≡ false → marked left v ≡ false
  settled-on u v p off = ⊎_elim (λ (on : marked left v ≡ true). absurd (unmarked left u off (reach-keeps_back (Out targets) (IsMarked left) old.closed u v p on))) (λ h. h) (cases_Bool (marked left v))

  settled-link : (u v : ℕ) → Out targets u v → marked left u ≡ false → marked left v ≡ false
  settled-link u v l off = ⊎_elim (λ (on : marked left v ≡ true). absurd (unmarked left u off (old.closed u v l on))) (λ h. h) (cases_Bool (marked left v))

  leasts-member : (u : ℕ) → Contains members u → IsLeastMember (Out targets) u (slice_index new_least u)
  leasts-member u c =
      let P : ℕ → Type 0 = λ w. IsLeastMember (Out targets) u w in
      subst P (sym (least-member u c)) (record { member = t.together u n.root c n.is_member; first = λ v s. n.is_least v (t.whole u v c s) })

  leasts-settled : (u : ℕ) → u < nodes → marked left u ≡ false → IsLeastMember (Out targets) u (slice_index new_least u)
  leasts-settled u below off = let P : ℕ → Type 0 = λ w. IsLeastMember (Out targets) u w in subst P (sym (least-settled u off)) (old.leasts u below off)

  depths-member : (u : ℕ) → Contains members u → IsDepth ℕ (Out targets) (slice_index new_depth) u
  depths-member u c = record {
    same = λ a s. depth-member u c ∙ sym (depth-member a (t.whole u a c s));
    falls = λ a v s l. falls a v (t.whole u a c s) l;
    reached = ⊎_elim
        (λ z. inl (depth-member u c ∙ z))
        (λ r. let off = leaves r.0 r.1.0 r.1.1 r.1.2 r.2 in inr (r.1.0, r.0, t.together u r.1.0 c r.1.1, r.1.2, depth-member u c ∙ r.3 ∙ ap (λ k. k + 1) (sym (depth-settled r.0 off))))
        n.is_height.reached;
  }
    where
      leaves : (v a : ℕ) → Contains members a → Out targets a v → slice_index new_least v ≢ n.root → marked left v ≡ false
      leaves v a d l ne = ⊎_elim (λ e. absurd (left-apart v ne e)) (λ off. off) (from-member a v d l)

      falls : (a v : ℕ) → Contains members a → Out targets a v → Together (Out targets) u v ⊎ (slice_index new_depth v < slice_index new_depth u)
      falls a v d l = ⊎_elim
          (λ e. inl (t.together u v c e))
          (λ off.
          let lower = n.is_height.above v (a, d, l) (settled-apart v (inside a v l).1 off) in
          inr (omega (arith, depth-settled v off, depth-member u c)))
          (from-member a v d l)

  depths-settled : (u : ℕ) → u < nodes → marked left u ≡ false → IsDepth ℕ (Out targets) (slice_index new_depth) u
  depths-settled u below off =
      let d = old.depths u below off in
      record {
        same = λ a s. depth-settled u off ∙ d.same a s ∙ sym (depth-settled a (settled-on u a s.0 off));
        falls = λ a v s l.
            let a_off = settled-on u a s.0 off in
            ⊎_elim (λ e. inl e) (λ (lower : slice_index depth v < slice_index depth u). inr (omega (arith, depth-settled u off, depth-settled v (settled-link a v l a_off)))) (d.falls a v s l);
        reached = ⊎_elim
            (λ z. inl (depth-settled u off ∙ z))
            (λ r. let a_off = settled-on u r.0 r.2.0 off in inr (r.0, r.1, r.2, r.3, depth-settled u off ∙ r.4 ∙ ap (λ k. k + 1) (sym (depth-settled r.1 (settled-link r.0 r.1 r.3 a_off)))))
            d.reached;
      }

  -- a node that isn't left is a member or was settled
  settled-cases : (u : ℕ) → marked rest u ≡ false → Contains members u ⊎ (marked left u ≡ false)
  settled-cases u off = ⊎_elim (λ (on : marked left u ≡ true). inl (t.kept u on off)) (λ was. inr was) (cases_Bool (marked left u))

  low-member : n.height + count rest < nodes
  low-member = ⊎_elim
      (λ (z : n.height ≡ 0). omega (arith, t.smaller, count-short left, old.room_left))
      (λ r. low r.0 r.1.0 r.1.1 r.1.2 r.2 r.3)
      n.is_height.reached
    where
      low : (v a : ℕ) → Contains members a → Out targets a v → slice_index new_least v ≢ n.root → n.height ≡ slice_index depth v + 1 → n.height + count rest < nodes
      low v a c l ne is = ⊎_elim
          (λ e. absurd (left-apart v ne e))
          (λ off. let lower = old.low v (inside a v l).1 off in omega (arith, t.smaller))
          (from-member a v c l)

  low-all : (u : ℕ) → u < nodes → marked rest u ≡ false → slice_index new_depth u + count rest < nodes
  low-all u below off = ⊎_elim
      (λ c. omega (arith, depth-member u c, low-member))
      (λ was. let lower = old.low u below was in omega (arith, depth-settled u was, t.smaller))
      (settled-cases u off)

  still-outside : (u : ℕ) → IsMarked rest u → Contains members u → ⊥
  still-outside u on c = unmarked rest u (t.gone u c) on

  pub named-more : AreNamed (Out targets) nodes rest new_least new_depth
  named-more = record {
    room_left = t.room ∙ old.room_left;
    room_least = n.least_is.room ∙ old.room_least;
    room_depth = n.depth_is.room ∙ old.room_depth;
    closed = t.closed;
    leasts = λ u below off. ⊎_elim (λ c. leasts-member u c) (λ was. leasts-settled u below was) (settled-cases u off);
    depths = λ u below off. ⊎_elim (λ c. depths-member u c) (λ was. depths-settled u below was) (settled-cases u off);
    low = low-all;
    small = λ u below. ⊎_elim
        (λ (on : marked rest u ≡ true). let same = n.depth_is.kept u 0 (still-outside u on) in omega (arith, old.small u below))
        (λ (off : marked rest u ≡ false). let lower = low-all u below off in omega arith)
        (cases_Bool (marked rest u));
    inside = λ u below. ⊎_elim
        (λ (on : marked rest u ≡ true). let same = n.least_is.kept u 0 (still-outside u on) in omega (arith, old.inside u below))
        (λ (off : marked rest u ≡ false). ⊎_elim
        (λ c. let root = member-inside n.root n.is_member in omega (arith, least-member u c))
        (λ was. omega (arith, least-settled u was, old.inside u below))
        (settled-cases u off))
        (cases_Bool (marked rest u));
  }

-- ---- at the start and at the end
pub named-none : (targets : List (List ℕ)) (nodes : ℕ) (left ahead : List Bool) (least depth : List ℕ) → ((u v : ℕ) → Out targets u v → u < nodes) →
    left ≡ replicate nodes true → ahead ≡ replicate nodes false → least ≡ replicate nodes 0 → depth ≡ replicate nodes 0 → AreSettled targets nodes left ahead least depth
named-none targets nodes left ahead least depth inside l a m d = record {
  named = record {
    room_left = ap length l ∙ length-replicate nodes true;
    room_least = ap length m ∙ length-replicate nodes 0;
    room_depth = ap length d ∙ length-replicate nodes 0;
    closed = λ u v out on. is_left u (inside u v out);
    leasts = λ u below off. absurd (unmarked left u off (is_left u below));
    depths = λ u below off. absurd (unmarked left u off (is_left u below));
    low = λ u below off. absurd (unmarked left u off (is_left u below));
    small = λ u below. omega (arith, ap (λ xs. slice_index xs u) d, zeros u below);
    inside = λ u below. omega (arith, ap (λ xs. slice_index xs u) m, zeros u below);
  };
  room_ahead = ap length a ∙ length-replicate nodes false;
  clear = λ v. ap (λ marks. marked marks v) a ∙ ⊎_elim (λ (below : v < nodes). get_or-replicate nodes v false false below) (λ (over : nodes ≤ v). get_or_past (replicate nodes false) v false (omega (arith, length-replicate nodes false))) (cases_lt v nodes);
}
  where
    is_left : (u : ℕ) → u < nodes → IsMarked left u
    is_left u below = ap (λ marks. marked marks u) l ∙ get_or-replicate nodes u true false below

    zeros : (u : ℕ) → u < nodes → slice_index (replicate nodes 0) u ≡ 0
    zeros u below = get_or-replicate nodes u 0 0 below

pub named-all : (targets : List (List ℕ)) (nodes : ℕ) (left ahead : List Bool) (least depth : List ℕ) → AreSettled targets nodes left ahead least depth → ((u : ℕ) → u < nodes → marked left u ≡ false) → AreFound (Out targets) nodes least depth
named-all targets nodes left ahead least depth s all = record {
  room_least = s.named.room_least;
  room_depth = s.named.room_depth;
  leasts = λ u below. s.named.leasts u below (all u below);
  depths = λ u below. s.named.depths u below (all u below);
  inside = s.named.inside;
}

-- ---- the least of some nodes
pub least-more : (nodes : List ℕ) (i least next : ℕ) → i < length nodes → next ≡ min least (get_or nodes i 0) → Contains nodes least → ((v : ℕ) → Contains (take i nodes) v → least ≤ v) → Contains nodes next × ((v : ℕ) → Contains (take (i + 1) nodes) v → next ≤ v)
least-more nodes i least next below is member before = (either, λ v c. ⊎_elim (λ k. let old = before v k in omega arith) (λ (e : get_or nodes i 0 ≡ v). omega arith) (contains-more_cases nodes i 0 below v c))
  where
    either : Contains nodes next
    either =
        let P : ℕ → Type 0 = λ v. Contains nodes v in
        ⊎_elim
        (λ (l : least < get_or nodes i 0). let e : least ≡ next = omega arith in subst P e member)
        (λ (l : get_or nodes i 0 ≤ least). let e : get_or nodes i 0 ≡ next = omega arith in subst P e (Contains-get_or nodes i 0 below))
        (cases_lt least (get_or nodes i 0))

-- ---- the steps as the code has them
pub members-inside : (Leads : ℕ → ℕ → Type 0) (left rest : List Bool) (members nodes : List ℕ) (n : ℕ) → IsTaken Leads left rest members → nodes ≡ members → n ≡ length left → (k d : ℕ) → k < length nodes → get_or nodes k d < n
members-inside Leads left rest members nodes n t e same k d below =
    let P : List ℕ → Type 0 = λ l. Contains l (get_or nodes k d) in
    let inside = marked-inside left (get_or nodes k d) (t.taken (get_or nodes k d) (subst P e (Contains-get_or nodes k d below))) in
    omega arith

pub named-as : (targets held : List (List ℕ)) (nodes members least new_least depth new_depth : List ℕ) → targets ≡ held → nodes ≡ members → IsNamed targets nodes least new_least depth new_depth → IsNamed held members least new_least depth new_depth
named-as targets held nodes members least new_least depth new_depth e f n =
    let P : List (List ℕ) → Type 0 = λ l. IsNamed l members least new_least depth new_depth in
    let Q : List ℕ → Type 0 = λ l. IsNamed targets l least new_least depth new_depth in
    subst P e (subst Q f n)
