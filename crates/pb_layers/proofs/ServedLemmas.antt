-- The lists that serve components.
use Rattle.std.proofs.Common.{◌≡◌, ◌≢◌, ◌⊎◌, ◌↔◌, ◌∙◌, refl, sym, ap, subst, ⊎_elim, ℕ, ◌+◌, ◌<◌, ◌≤◌, Bool, true, false, Option, Some, None, List, [], ◌∷◌, ◌++◌, length, take, get_or, slice_index, slice_index_or, arith}
use Rattle.std.proofs.Math.ListN.{set, length-set}
use Rattle.std.specs.List.{All, Contains}
use Rattle.std.proofs.lemmas.Bool.{cases_Bool, cases_eq, cases_lt, false≢true}
use Rattle.std.proofs.lemmas.List.{get_or_append_left, get_or_push, length_push, take_all}
use Rattle.std.proofs.lemmas.List.Elements.{Contains-append_left, Contains-get_or, Contains-push, Contains-push_cases}
use Rattle.pb_layers.specs.declared.link.Edge.{Edge}
use Rattle.pb_layers.specs.Graphs.{IsMarked, marked}
use Rattle.pb_layers.specs.Layers.{EdgeInside}
use Rattle.pb_layers.specs.Lists.{AreFirstLists, AreMembers, AreServed, IsFirstList, ServesRoot, Spoils, chosen}
use Rattle.pb_layers.proofs.ListLemmas.{contains-more_cases, contains-more_new, contains-more_old, mark-set_other, mark-set_same}

module _ (edges : List Edge) (least : List ℕ) (list i : ℕ) (d : Edge) (below : i < length edges) where
  -- the next edge is served where it is inside
  serves-next : (root : ℕ) → (Spoils least list (get_or edges i d) → slice_index least (get_or edges i d).reader ≢ root) → ServesRoot (take i edges) least root list → ServesRoot (take (i + 1) edges) least root list
  serves-next root other s e c reader source = ⊎_elim
      (λ k. s e k reader source)
      (λ (is : get_or edges i d ≡ e).
      let P : Edge → Type 0 = λ k. slice_index_or k.serves list false ≡ true in
      let here_reader : slice_index least (get_or edges i d).reader ≡ root = ap (λ (k : Edge). slice_index least k.reader) is ∙ reader in
      let here_source : slice_index least (get_or edges i d).source ≡ root = ap (λ (k : Edge). slice_index least k.source) is ∙ source in
      subst P is (by_test here_reader here_source (cases_Bool (slice_index_or (get_or edges i d).serves list false))))
      (contains-more_cases edges i d below e c)
    where
      by_test : slice_index least (get_or edges i d).reader ≡ root → slice_index least (get_or edges i d).source ≡ root → (slice_index_or (get_or edges i d).serves list false ≡ true) ⊎ (slice_index_or (get_or edges i d).serves list false ≡ false) → slice_index_or (get_or edges i d).serves list false ≡ true
      by_test r s t = ⊎_elim (λ on. on) (λ off. absurd (other (r ∙ sym s, off) r)) t

  serves-before : (root : ℕ) → ServesRoot (take (i + 1) edges) least root list → ServesRoot (take i edges) least root list
  serves-before root s e c reader source = s e (contains-more_old edges i d below e c) reader source

  hit : (served : List Bool) → Spoils least list (get_or edges i d) → slice_index least (get_or edges i d).reader < length served → AreServed (take i edges) least list served →
      AreServed (take (i + 1) edges) least list (set served (slice_index least (get_or edges i d).reader) false)
  hit served spoils inside a = record {
    room = length-set served (slice_index least (get_or edges i d).reader) false ∙ a.room;
    is = λ root low. (there root low, back root low);
  }
    where
      there : (root : ℕ) → root < length least → IsMarked (set served (slice_index least (get_or edges i d).reader) false) root → ServesRoot (take (i + 1) edges) least root list
      there root low on = ⊎_elim
          (λ (e : root ≡ slice_index least (get_or edges i d).reader). absurd (false≢true (sym (ap (marked (set served (slice_index least (get_or edges i d).reader) false)) e ∙ mark-set_same served (slice_index least (get_or edges i d).reader) false inside) ∙ on)))
          (λ ne. serves-next root (λ s e. ne (sym e)) ((a.is root low).0 (sym (mark-set_other served (slice_index least (get_or edges i d).reader) root false ne) ∙ on)))
          (cases_eq root (slice_index least (get_or edges i d).reader))

      back : (root : ℕ) → root < length least → ServesRoot (take (i + 1) edges) least root list → IsMarked (set served (slice_index least (get_or edges i d).reader) false) root
      back root low s = ⊎_elim
          (λ (e : root ≡ slice_index least (get_or edges i d).reader). absurd (false≢true (sym spoils.1 ∙ s (get_or edges i d) (contains-more_new edges i d below) (sym e) (sym spoils.0 ∙ sym e))))
          (λ ne. mark-set_other served (slice_index least (get_or edges i d).reader) root false ne ∙ (a.is root low).1 (serves-before root s))
          (cases_eq root (slice_index least (get_or edges i d).reader))

  pub served-hit : (served next : List Bool) → next ≡ set served (slice_index least (get_or edges i d).reader) false → All (EdgeInside (length least)) edges → All (λ v. v < length least) least → Spoils least list (get_or edges i d) → AreServed (take i edges) least list served →
      AreServed (take (i + 1) edges) least list next
  served-hit served next is inside low spoils a =
      let here = inside i d below in
      let root = low (get_or edges i d).reader 0 here.0 in
      let P : List Bool → Type 0 = λ l. AreServed (take (i + 1) edges) least list l in subst P (sym is) (hit served spoils (omega (arith, a.room)) a)

  pub served-miss : (served same : List Bool) → same ≡ served → (Spoils least list (get_or edges i d) → ⊥) → AreServed (take i edges) least list served → AreServed (take (i + 1) edges) least list same
  served-miss served same e fine a =
      let P : List Bool → Type 0 = λ l. AreServed (take (i + 1) edges) least list l in
      subst P (sym e) (record {
        room = a.room;
        is = λ root low. (λ on. serves-next root (λ s k. fine s) ((a.is root low).0 on), λ s. (a.is root low).1 (serves-before root s));
      })

-- ---- the first list
first-more : (edges : List Edge) (least : List ℕ) (root bound : ℕ) (old : Option ℕ) (served : Bool) → IsFirstList edges least root bound old → (served ≡ true) ↔ ServesRoot edges least root bound → IsFirstList edges least root (bound + 1) (chosen bound old served)
first-more edges least root bound (Some list) served f s = (omega (arith, f.0), f.1, f.2)
first-more edges least root bound None true f s = (omega arith, s.0 refl, f)
first-more edges least root bound None false f s = λ k below r. ⊎_elim
    (λ (e : k ≡ bound). let P : ℕ → Type 0 = λ l. ServesRoot edges least root l in false≢true (s.1 (subst P e r)))
    (λ (ne : k ≢ bound). f k (omega arith) r)
    (cases_eq k bound)

pub lists-more : (edges : List Edge) (least : List ℕ) (bound : ℕ) (old new : List (Option ℕ)) (served other : List Bool) → AreFirstLists edges least bound old → AreServed edges least bound other → served ≡ other → length new ≡ length old →
    ((root : ℕ) → root < length old → slice_index_or new root None ≡ chosen bound (slice_index_or old root None) (marked served root)) → AreFirstLists edges least (bound + 1) new
lists-more edges least bound old new served other f s same room is = record {
  room = room ∙ f.room;
  is = λ root low.
      let P : Option ℕ → Type 0 = λ o. IsFirstList edges least root (bound + 1) o in
      let e = is root (omega (arith, f.room)) ∙ ap (λ m. chosen bound (slice_index_or old root None) (marked m root)) same in
      subst P (sym e) (first-more edges least root bound (slice_index_or old root None) (marked other root) (f.is root low) (s.is root low));
}

pub served-all : (edges : List Edge) (least : List ℕ) (list n : ℕ) (served : List Bool) → length edges ≤ n → AreServed (take n edges) least list served → AreServed edges least list served
served-all edges least list n served over a = let P : List Edge → Type 0 = λ l. AreServed l least list served in subst P (take_all n edges over) a

-- ---- the members of a component
pub members-push : (least : List ℕ) (root node : ℕ) (old new : List ℕ) → slice_index least node ≡ root → new ≡ old ++ node ∷ [] → AreMembers least root node old → AreMembers least root (node + 1) new
members-push least root node old new at is m =
    let P : List ℕ → Type 0 = λ l. AreMembers least root (node + 1) l in
    subst P (sym is) (record {
      each = λ v. (
        λ c. ⊎_elim (λ k. let h = (m.each v).0 k in (omega arith, h.1)) (λ (e : node ≡ v). (omega arith, ap (slice_index least) (sym e) ∙ at)) (Contains-push_cases old node v c),
        λ h. ⊎_elim (λ (e : v ≡ node). let Q : ℕ → Type 0 = λ w. Contains (old ++ node ∷ []) w in subst Q (sym e) (Contains-push old node)) (λ (ne : v ≢ node). Contains-append_left old (node ∷ []) v ((m.each v).1 (omega (arith, h.0), h.1))) (cases_eq v node),
      );
      rises = λ i j before low. ⊎_elim
          (λ (short : j < length old). let r = m.rises i j before short in omega (arith, get_or_append_left old (node ∷ []) 0 i (omega arith), get_or_append_left old (node ∷ []) 0 j short))
          (λ (last : length old ≤ j).
          let size = length_push old node in
          let here : i < length old = omega arith in
          let lower = (m.each (get_or old i 0)).0 (Contains-get_or old i 0 here) in
          omega (arith, lower.0, get_or_append_left old (node ∷ []) 0 i here, get_or_push old node 0 j (omega arith)))
          (cases_lt j (length old));
    })

pub members-pass : (least : List ℕ) (root node : ℕ) (old same : List ℕ) → slice_index least node ≢ root → same ≡ old → AreMembers least root node old → AreMembers least root (node + 1) same
members-pass least root node old same ne is m =
    let P : List ℕ → Type 0 = λ l. AreMembers least root (node + 1) l in
    subst P (sym is) (record {
      each = λ v. (
        λ c. let h = (m.each v).0 c in (omega (arith, h.0), h.1),
        λ h. ⊎_elim (λ (e : v ≡ node). absurd (ne (ap (slice_index least) (sym e) ∙ h.1))) (λ (other : v ≢ node). (m.each v).1 (omega (arith, h.0), h.1)) (cases_eq v node),
      );
      rises = m.rises;
    })
