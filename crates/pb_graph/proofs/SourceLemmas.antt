-- Which segments a segment may read, found without looking at all of them.
use Rattle.std.proofs.Common.{◌≡◌, ◌∙◌, refl, sym, ap, subst, ℕ, zero, suc, ◌+◌, ◌-◌, ◌<◌, ◌≤◌, ⊎_elim, Bool, true, false, ◌&&◌, not, List, [], ◌∷◌, ◌++◌, length, map, take, drop, get_or, slice_get, Some, None, append_assoc, arith}
use Rattle.std.specs.Prelude.{◌==◌, filter, nat_le}
use Rattle.std.specs.List.{range_with_len}
use Rattle.std.proofs.Math.Bool.{cond}
use Rattle.std.proofs.lemmas.Bool.{cases_lt}
use Rattle.std.proofs.lemmas.Bool.Decides.{nat_tests}
use Rattle.std.proofs.lemmas.Grind.{flat_map-append}
use Rattle.std.proofs.lemmas.List.{append-nil, map-append, take_more}
use Rattle.std.proofs.lemmas.List.Elements.{filter-append}
use Rattle.pb_linear.specs.declared.boxes.ReadBox.{ReadBox}
use Rattle.pb_linear.specs.declared.vform.SymBox.{SymBox}
use Rattle.pb_graph.specs.Cached.{IsSpan, part}
use Rattle.pb_graph.specs.Edges.{apart, is_some}
use Rattle.pb_graph.specs.Nodes.{NodeValue}
use Rattle.pb_graph.specs.Rows.{AreGroups, AreOwn, GroupValue, IsGroup, IsOwn, OwnValue, is_touched, may_touch, met_by, met_reads, row, sources_by}
use Rattle.pb_graph.specs.Seen.{seen_at}
use Rattle.pb_graph.proofs.NumberedLemmas.{range_next}

-- ---- numbers that no read has
pub none_more : {A : Type 0} (p : A → Bool) (xs : List A) (i : ℕ) (d : A) → i < length xs → filter p (take i xs) ≡ [] → p (get_or xs i d) ≡ false → filter p (take (i + 1) xs) ≡ []
none_more p xs i d here before last =
    ap (filter p) (take_more xs i d here) ∙ filter-append p (take i xs) (get_or xs i d ∷ []) ∙ ap (λ l. l ++ filter p (get_or xs i d ∷ [])) before ∙ ap (λ b. cond b (get_or xs i d ∷ []) []) last

pub met_more : (k : ℕ) (gs : List GroupValue) (i : ℕ) (d : GroupValue) → i < length gs → met_reads k (take i gs) ≡ [] → met_by k (get_or gs i d) ≡ [] → met_reads k (take (i + 1) gs) ≡ []
met_more k gs i d here before last =
    ap (met_reads k) (take_more gs i d here) ∙ flat_map-append (met_by k) (take i gs) (get_or gs i d ∷ []) ∙ ap (λ l. l ++ (met_by k (get_or gs i d) ++ [])) before ∙ ap (λ l. l ++ []) last

module _ (gs : List GroupValue) where
  abbrev is_source : ℕ → Bool
  is_source s = is_some (met_reads s gs)

  sources_next : (n : ℕ) → sources_by gs (n + 1) ≡ sources_by gs n ++ filter is_source (n ∷ [])
  sources_next n = ap (filter is_source) (range_next n) ∙ filter-append is_source (range_with_len 0 n) (n ∷ [])

  pub skipped : (n m : ℕ) → n ≤ m → ((k : ℕ) → n ≤ k → k < m → met_reads k gs ≡ []) → sources_by gs m ≡ sources_by gs n
  skipped n zero h none = let here : n ≡ 0 = omega arith in rw here refl
  skipped n (suc m) h none = ⊎_elim
      (λ below.
      let next : m + 1 ≡ suc m = omega arith in
      subst (λ k. sources_by gs k ≡ sources_by gs n) next
      (sources_next m ∙ ap (λ l. sources_by gs m ++ cond (is_some l) (m ∷ []) []) (none m (omega arith) (omega arith)) ∙ append-nil (sources_by gs m) ∙ skipped n m (omega arith) (λ k low high. none k low (omega arith))))
      (λ over. let here : n ≡ suc m = omega arith in rw here refl)
      (cases_lt n (suc m))

  -- one source more, and then numbers that are none
  pub pushed : {B : Type 0} (f : ℕ → B) (old l new : List B) (n next : ℕ) → l ≡ old ++ map f (sources_by gs n) → new ≡ l ++ map f (filter is_source (n ∷ [])) → n + 1 ≤ next →
      ((k : ℕ) → n + 1 ≤ k → k < next → met_reads k gs ≡ []) → new ≡ old ++ map f (sources_by gs next)
  pushed f old l new n next inv more order none =
      more ∙ ap (λ z. z ++ map f (filter is_source (n ∷ []))) inv ∙ append_assoc old (map f (sources_by gs n)) (map f (filter is_source (n ∷ [])))
      ∙ ap (λ z. old ++ z) (sym (map-append f (sources_by gs n) (filter is_source (n ∷ []))) ∙ ap (map f) (sym (sources_next n) ∙ sym (skipped (n + 1) next order none)))

  -- before the first source
  pub begun : {B : Type 0} (f : ℕ → B) (old : List B) (n : ℕ) → ((k : ℕ) → 0 ≤ k → k < n → met_reads k gs ≡ []) → old ≡ old ++ map f (sources_by gs n)
  begun f old n none = sym (ap (λ l. old ++ map f l) (skipped 0 n (omega arith) none) ∙ append-nil old)

-- ---- the reads of a rule
module _ (leasts : List ℕ) (nodes : List NodeValue) (area : SymBox) where
  own_push : (reads : List ReadBox) (own : List OwnValue) (r : ReadBox) (o : OwnValue) → AreOwn leasts nodes area reads own → IsOwn leasts nodes area r o → AreOwn leasts nodes area (reads ++ r ∷ []) (own ++ o ∷ [])
  own_push [] [] r o are is = (is, tt)
  own_push [] (p ∷ own) r o are is = absurd are
  own_push (q ∷ reads) [] r o are is = absurd are
  own_push (q ∷ reads) (p ∷ own) r o are is = (are.0, own_push reads own r o are.1 is)

  module _ (reads : List ReadBox) (rule i : ℕ) (r : ReadBox) (below : i < length reads) (is : r ≡ get_or reads i r) (own : List OwnValue) (are : AreOwn leasts nodes area (filter (λ q. q.rule == rule) (take i reads)) own) where
    one_more : (b : Bool) → (r.rule == rule) ≡ b → filter (λ q. q.rule == rule) (take (i + 1) reads) ≡ filter (λ q. q.rule == rule) (take i reads) ++ cond b (r ∷ []) []
    one_more b e =
        ap (filter (λ q. q.rule == rule)) (take_more reads i r below ∙ ap (λ q. take i reads ++ q ∷ []) (sym is)) ∙ filter-append (λ q. q.rule == rule) (take i reads) (r ∷ [])
        ∙ ap (λ (t : Bool). filter (λ q. q.rule == rule) (take i reads) ++ cond t (r ∷ []) []) e

    pub own_kept : (o : OwnValue) (more : List OwnValue) → (r.rule == rule) ≡ true → IsOwn leasts nodes area r o → more ≡ own ++ o ∷ [] → AreOwn leasts nodes area (filter (λ q. q.rule == rule) (take (i + 1) reads)) more
    own_kept o more e right pushed = subst (λ l. AreOwn leasts nodes area l more) (sym (one_more true e)) (subst (AreOwn leasts nodes area (filter (λ q. q.rule == rule) (take i reads) ++ r ∷ [])) (sym pushed) (own_push _ own r o are right))

    pub own_dropped : (r.rule == rule) ≡ false → AreOwn leasts nodes area (filter (λ q. q.rule == rule) (take (i + 1) reads)) own
    own_dropped e = subst (λ l. AreOwn leasts nodes area l own) (sym (one_more false e ∙ append-nil _)) are

  groups_push : (reads : List ReadBox) (rules : List ℕ) (gs : List GroupValue) (rule : ℕ) (g : GroupValue) → AreGroups leasts nodes area reads rules gs → IsGroup leasts nodes area reads rule g → AreGroups leasts nodes area reads (rules ++ rule ∷ []) (gs ++ g ∷ [])
  groups_push reads [] [] rule g are is = (is, tt)
  groups_push reads [] (h ∷ gs) rule g are is = absurd are
  groups_push reads (k ∷ rules) [] rule g are is = absurd are
  groups_push reads (k ∷ rules) (h ∷ gs) rule g are is = (are.0, groups_push reads rules gs rule g are.1 is)

  pub groups_next : (reads : List ReadBox) (rules : List ℕ) (gs more : List GroupValue) (i d rule : ℕ) (g : GroupValue) → i < length rules → AreGroups leasts nodes area reads (take i rules) gs → rule ≡ get_or rules i d → IsGroup leasts nodes area reads rule g → more ≡ gs ++ g ∷ [] →
      AreGroups leasts nodes area reads (take (i + 1) rules) more
  groups_next reads rules gs more i d rule g below are is right pushed =
      subst (λ l. AreGroups leasts nodes area reads l more) (sym (take_more rules i d below ∙ ap (λ k. take i rules ++ k ∷ []) (sym is)))
      (subst (AreGroups leasts nodes area reads (take i rules ++ rule ∷ [])) (sym pushed) (groups_push reads (take i rules) gs rule g are right))

-- ---- the part of the segments of a matrix
part_at : {A : Type 0} (xs : List A) (n k : ℕ) (x : A) → slice_get xs (n + k) ≡ Some x → slice_get (drop n xs) k ≡ Some x
part_at xs zero k x at = let here : 0 + k ≡ k = omega arith in subst (λ n. slice_get xs n ≡ Some x) here at
part_at [] (suc n) k x at = absurd (let none : None ≡ Some x = at in cc)
part_at (y ∷ xs) (suc n) k x at = let here : suc n + k ≡ suc (n + k) = omega arith in part_at xs n k x (subst (λ m. slice_get (y ∷ xs) m ≡ Some x) here at)

taken_at : {A : Type 0} (f : A → Bool) (xs : List A) (m k : ℕ) (x : A) → slice_get xs k ≡ Some x → k < m → get_or (map f (take m xs)) k false ≡ f x
taken_at f [] m k x at below = absurd (let none : None ≡ Some x = at in cc)
taken_at f (y ∷ xs) zero k x at below = absurd (omega arith)
taken_at f (y ∷ xs) (suc m) zero x at below = let some : Some y ≡ Some x = at in ap f (cc)
taken_at f (y ∷ xs) (suc m) (suc k) x at below = taken_at f xs m k x at (omega arith)

past_taken : {A : Type 0} (f : A → Bool) (xs : List A) (m k : ℕ) → m ≤ k → get_or (map f (take m xs)) k false ≡ false
past_taken f xs zero k over = refl
past_taken f [] (suc m) k over = refl
past_taken f (x ∷ xs) (suc m) zero over = absurd (omega arith)
past_taken f (x ∷ xs) (suc m) (suc k) over = past_taken f xs m k (omega arith)

unlike : (a b : ℕ) → (a ≡ b → ⊥) → (a == b) ≡ false
unlike a b other = by_test (a == b) refl
  where
    by_test : (t : Bool) → (a == b) ≡ t → (a == b) ≡ false
    by_test true e = absurd (other (grind (arith, nat_tests, e)))
    by_test false e = e

and_false : (b : Bool) → (b && false) ≡ false
and_false true = refl
and_false false = refl

module _ (leasts : List ℕ) (nodes : List NodeValue) (area : SymBox) (r : ReadBox) (first end : ℕ) (span : IsSpan nodes r.matrix first end) where
  abbrev near : NodeValue → Bool
  near source = may_touch leasts area source r

  foreign : (source : NodeValue) → (r.matrix ≡ source.matrix → ⊥) → false ≡ near source
  foreign source other = sym (ap (λ t. t && (not (apart leasts area r source.area 0) && not (apart leasts area r source.area 1))) (unlike r.matrix source.matrix other))

  tested : (k : ℕ) (source : NodeValue) → slice_get nodes k ≡ Some source → (nat_le first k && get_or (row leasts (part nodes first end) area r) (k - first) false) ≡ near source
  tested k source at = ⊎_elim
      (λ before. let test : nat_le first k ≡ false = grind (arith, nat_tests, before) in ap (λ b. b && get_or (row leasts (part nodes first end) area r) (k - first) false) test ∙ foreign source (λ same. omega (arith, (span.whole k source at same).0, before)))
      (λ from.
      let test : nat_le first k ≡ true = grind (arith, nat_tests, from) in
      let here : first + (k - first) ≡ k = omega (arith, from) in
      ap (λ b. b && get_or (row leasts (part nodes first end) area r) (k - first) false) test ∙ ⊎_elim
      (λ inside. taken_at near (drop first nodes) (end - first) (k - first) source (part_at nodes first (k - first) source (subst (λ n. slice_get nodes n ≡ Some source) (sym here) at)) (omega (arith, inside, from)))
      (λ over. past_taken near (drop first nodes) (end - first) (k - first) (omega (arith, over, from, span.order)) ∙ foreign source (λ same. omega (arith, (span.whole k source at same).1, over)))
      (cases_lt k end))
      (cases_lt k first)

  pub own_is : (o : OwnValue) → o.seen ≡ seen_at leasts area r → o.first ≡ first → o.touched ≡ row leasts (part nodes first end) area r → IsOwn leasts nodes area r o
  unfolding is_touched
  own_is o seen from touched = record {
    seen = seen;
    touched = λ k source at. ap (λ f. nat_le f k && get_or o.touched (k - f) false) from ∙ ap (λ l. nat_le first k && get_or l (k - first) false) touched ∙ tested k source at;
  }
