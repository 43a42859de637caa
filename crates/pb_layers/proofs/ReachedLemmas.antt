-- Nodes that are visited, and what links lead to.
use Rattle.std.proofs.Common.{◌≡◌, ◌≢◌, ◌∙◌, refl, sym, ap, subst, inl, inr, ⊎_elim, ℕ, ◌+◌, ◌<◌, ◌≤◌, Bool, true, false, List, [], ◌∷◌, ◌++◌, length, take, get_or, slice_index, arith}
use Rattle.std.proofs.Math.ListN.{set, length-set}
use Rattle.std.specs.List.{Contains}
use Rattle.std.proofs.lemmas.Bool.{cases_Bool, cases_eq, false≢true}
use Rattle.std.proofs.lemmas.List.{get_or_append_left, get_or_read, length_push, take_all, take_more}
use Rattle.std.proofs.lemmas.List.Elements.{Contains-append_cases, Contains-append_left, Contains-get_or, Contains-append_right, Contains-push, Contains-push_cases}
use Rattle.pb_base.specs.Reach.{Reach}
use Rattle.pb_base.specs.Reach.Reach.{here}
use Rattle.pb_base.proofs.ReachLemmas.{reach-link, reach-trans}
use Rattle.pb_layers.specs.Graphs.{IsMarked, IsReached, IsVisited, Out, marked}
use Rattle.pb_layers.proofs.ListLemmas.{contains-here, contains-nil, contains-one, contains-read, count-unset, mark-set_other, mark-set_same, marked-inside}

-- ---- one node
pub visited-taken : (within : List Bool) (found : List ℕ) (v : ℕ) → IsMarked within v → IsVisited (v ∷ []) within found (set within v false) (found ++ v ∷ [])
visited-taken within found v is =
    let inside = marked-inside within v is in
    record {
      room = length-set within v false;
      size = omega (arith, count-unset within v is, length_push found v);
      longer = omega (arith, length_push found v);
      same = λ k below. get_or_append_left found (v ∷ []) 0 k below;
      old = λ w c. Contains-append_left found (v ∷ []) w c;
      new = λ w c. ⊎_elim (λ h. inl h) (λ e. inr (at_node (λ k. IsMarked within k × Contains (v ∷ []) k) w e (is, contains-here v))) (Contains-push_cases found v w c);
      gone = λ w c. at_node (λ k. marked (set within v false) k ≡ false) w (contains-one v w c) (mark-set_same within v false inside);
      fewer = λ w h. ⊎_elim (λ (e : w ≡ v). at_node (IsMarked within) w (sym e) is) (λ (ne : w ≢ v). sym (mark-set_other within v w false ne) ∙ h) (cases_eq w v);
      kept = λ w h off. ⊎_elim (λ (e : w ≡ v). at_node (Contains (found ++ v ∷ [])) w (sym e) (Contains-push found v)) (λ (ne : w ≢ v). absurd (false≢true (sym off ∙ mark-set_other within v w false ne ∙ h))) (cases_eq w v);
    }
  where
    at_node : (P : ℕ → Type 0) (w : ℕ) → v ≡ w → P v → P w
    at_node P w e h = subst P e h

pub visited-passed : (within : List Bool) (found : List ℕ) (v : ℕ) → marked within v ≡ false → IsVisited (v ∷ []) within found within found
visited-passed within found v off = record {
  room = refl;
  size = refl;
  longer = omega arith;
  same = λ k below. refl;
  old = λ w c. c;
  new = λ w c. inl c;
  gone = λ w c. let P : ℕ → Type 0 = λ k. marked within k ≡ false in subst P (contains-one v w c) off;
  fewer = λ w h. h;
  kept = λ w h unmarked. absurd (false≢true (sym unmarked ∙ h));
}

-- ---- several nodes
pub visited-none : (within : List Bool) (found : List ℕ) → IsVisited [] within found within found
visited-none within found = record {
  room = refl;
  size = refl;
  longer = omega arith;
  same = λ k below. refl;
  old = λ w c. c;
  new = λ w c. inl c;
  gone = λ w c. absurd (contains-nil w c);
  fewer = λ w h. h;
  kept = λ w h unmarked. absurd (false≢true (sym unmarked ∙ h));
}

visited-both : (us vs : List ℕ) (a b c : List Bool) (fa fb fc : List ℕ) → IsVisited us a fa b fb → IsVisited vs b fb c fc → IsVisited (us ++ vs) a fa c fc
visited-both us vs a b c fa fb fc p q = record {
  room = q.room ∙ p.room;
  size = omega (arith, p.size, q.size);
  longer = omega (arith, p.longer, q.longer);
  same = λ k below. q.same k (omega (arith, p.longer)) ∙ p.same k below;
  old = λ w h. q.old w (p.old w h);
  new = λ w h. ⊎_elim (λ (k : Contains fb w). ⊎_elim (λ h. inl h) (λ (m : IsMarked a w × Contains us w). inr (m.0, Contains-append_left us vs w m.1)) (p.new w k)) (λ (m : IsMarked b w × Contains vs w). inr (p.fewer w m.0, Contains-append_right us vs w m.1)) (q.new w h);
  gone = λ w h. ⊎_elim (λ (k : Contains us w). stays w (p.gone w k)) (λ (k : Contains vs w). q.gone w k) (Contains-append_cases us vs w h);
  fewer = λ w h. p.fewer w (q.fewer w h);
  kept = λ w h off. ⊎_elim (λ (on : marked b w ≡ true). q.kept w on off) (λ (unmarked : marked b w ≡ false). q.old w (p.kept w h unmarked)) (cases_Bool (marked b w));
}
  where
    stays : (w : ℕ) → marked b w ≡ false → marked c w ≡ false
    stays w unmarked = ⊎_elim (λ (on : marked c w ≡ true). absurd (false≢true (sym unmarked ∙ q.fewer w on))) (λ h. h) (cases_Bool (marked c w))

pub visited-more : (nodes : List ℕ) (i : ℕ) (a b c : List Bool) (fa fb fc : List ℕ) → i < length nodes → IsVisited (take i nodes) a fa b fb → IsVisited (get_or nodes i 0 ∷ []) b fb c fc → IsVisited (take (i + 1) nodes) a fa c fc
visited-more nodes i a b c fa fb fc below p q =
    let P : List ℕ → Type 0 = λ l. IsVisited l a fa c fc in
    subst P (sym (take_more nodes i 0 below)) (visited-both (take i nodes) (get_or nodes i 0 ∷ []) a b c fa fb fc p q)

pub visited-all : (nodes : List ℕ) (n : ℕ) (a b : List Bool) (fa fb : List ℕ) → length nodes ≤ n → IsVisited (take n nodes) a fa b fb → IsVisited nodes a fa b fb
visited-all nodes n a b fa fb over p = let P : List ℕ → Type 0 = λ l. IsVisited l a fa b fb in subst P (take_all n nodes over) p

-- ---- what links lead to
start-of : (Leads : ℕ → ℕ → Type 0) (within rest : List Bool) (start : ℕ) (found : List ℕ) → IsMarked within start → IsVisited (start ∷ []) within [] rest found → IsReached Leads within start 0 rest found
start-of Leads within rest start found is p = record {
  room = p.room;
  size = omega (arith, p.size);
  started = p.kept start is (p.gone start (contains-here start));
  reach = λ v c. at_start (Reach ℕ Leads start) v (only v c) here;
  taken = λ v c. at_start (IsMarked within) v (only v c) is;
  gone = λ v c. at_start (λ k. marked rest k ≡ false) v (only v c) (p.gone start (contains-here start));
  fewer = p.fewer;
  kept = p.kept;
  closed = λ k v below l. absurd (omega arith);
}
  where
    only : (v : ℕ) → Contains found v → start ≡ v
    only v c = ⊎_elim (λ (h : Contains [] v). absurd (contains-nil v h)) (λ (m : IsMarked within v × Contains (start ∷ []) v). contains-one start v m.1) (p.new v c)

    at_start : (P : ℕ → Type 0) (v : ℕ) → start ≡ v → P start → P v
    at_start P v e h = subst P e h

pub reached-start : (Leads : ℕ → ℕ → Type 0) (within rest : List Bool) (start : ℕ) (before found : List ℕ) → before ≡ [] → IsMarked within start → IsVisited (start ∷ []) within before rest found → IsReached Leads within start 0 rest found
reached-start Leads within rest start before found e is p = let P : List ℕ → Type 0 = λ l. IsVisited (start ∷ []) within l rest found in start-of Leads within rest start found is (subst P e p)

reached-more : (targets : List (List ℕ)) (within rest more : List Bool) (start k : ℕ) (found further : List ℕ) → k < length found →
    IsReached (Out targets) within start k rest found → IsVisited (get_or targets (get_or found k 0) []) rest found more further → IsReached (Out targets) within start (k + 1) more further
reached-more targets within rest more start k found further below r p = record {
  room = p.room ∙ r.room;
  size = omega (arith, p.size, r.size);
  started = p.old start r.started;
  reach = λ v c. ⊎_elim (λ (h : Contains found v). r.reach v h) (λ (m : IsMarked rest v × Out targets (get_or found k 0) v). reach-trans (Out targets) start (get_or found k 0) v (r.reach (get_or found k 0) here_found) (reach-link (Out targets) (get_or found k 0) v m.1)) (p.new v c);
  taken = λ v c. ⊎_elim (λ (h : Contains found v). r.taken v h) (λ (m : IsMarked rest v × Out targets (get_or found k 0) v). r.fewer v m.0) (p.new v c);
  gone = λ v c. ⊎_elim (λ (h : Contains found v). off v (r.gone v h)) (λ (m : IsMarked rest v × Out targets (get_or found k 0) v). p.gone v m.1) (p.new v c);
  fewer = λ v h. r.fewer v (p.fewer v h);
  kept = λ v h unmarked. ⊎_elim (λ (on : marked rest v ≡ true). p.kept v on unmarked) (λ (was : marked rest v ≡ false). p.old v (r.kept v h was)) (cases_Bool (marked rest v));
  closed = λ j v lower l. ⊎_elim
      (λ (e : j ≡ k). let P : ℕ → Type 0 = λ u. Out targets u v in p.gone v (subst P (p.same j (omega arith) ∙ ap (slice_index found) e) l))
      (λ (ne : j ≢ k). let P : ℕ → Type 0 = λ u. Out targets u v in off v (r.closed j v (omega arith) (subst P (p.same j (omega arith)) l)))
      (cases_eq j k);
}
  where
    here_found : Contains found (get_or found k 0)
    here_found = Contains-get_or found k 0 below

    off : (v : ℕ) → marked rest v ≡ false → marked more v ≡ false
    off v unmarked = ⊎_elim (λ (on : marked more v ≡ true). absurd (false≢true (sym unmarked ∙ p.fewer v on))) (λ h. h) (cases_Bool (marked more v))

pub found-inside : (Leads : ℕ → ℕ → Type 0) (within rest : List Bool) (start followed k : ℕ) (found : List ℕ) (v : ℕ) → IsReached Leads within start followed rest found → k < length found → v ≡ get_or found k v → v < length within
found-inside Leads within rest start followed k found v r below is = marked-inside within v (r.taken v (contains-read found k v below is))

pub out-read : (targets : List (List ℕ)) (u : ℕ) (nodes : List ℕ) (k d : ℕ) → u < length targets → (held : List ℕ) → held ≡ get_or targets u held → nodes ≡ held → k < length nodes → Out targets u (get_or nodes k d)
out-read targets u nodes k d inside held is same below =
    let P : List ℕ → Type 0 = λ l. Contains l (get_or nodes k d) in
    subst P (same ∙ get_or_read targets u held inside is []) (Contains-get_or nodes k d below)

pub reached-next : (targets : List (List ℕ)) (within rest more : List Bool) (start k u : ℕ) (found further nodes held : List ℕ) → k < length found → u < length targets → u ≡ get_or found k u → held ≡ get_or targets u held → nodes ≡ held →
    IsReached (Out targets) within start k rest found → IsVisited nodes rest found more further → IsReached (Out targets) within start (k + 1) more further
reached-next targets within rest more start k u found further nodes held below inside is at same r p =
    let P : List ℕ → Type 0 = λ l. IsVisited l rest found more further in
    let e : nodes ≡ get_or targets (get_or found k 0) [] = same ∙ get_or_read targets u held inside at [] ∙ ap (λ w. get_or targets w []) (get_or_read found k u below is 0) in
    reached-more targets within rest more start k found further below r (subst P e p)

pub reached-all : (Leads : ℕ → ℕ → Type 0) (within rest : List Bool) (start k : ℕ) (found : List ℕ) → length found ≤ k → IsReached Leads within start k rest found → IsReached Leads within start (length found) rest found
reached-all Leads within rest start k found over r = record {
  room = r.room;
  size = r.size;
  started = r.started;
  reach = r.reach;
  taken = r.taken;
  gone = r.gone;
  fewer = r.fewer;
  kept = r.kept;
  closed = λ j v lower l. r.closed j v (omega arith) l;
}
