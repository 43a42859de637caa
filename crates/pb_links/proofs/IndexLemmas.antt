-- What an index leaves out meets nothing.
use Rattle.std.proofs.Common.{◌≡◌, ◌∙◌, refl, sym, ap, subst, inl, inr, ◌⊎◌, ⊎_elim, ℕ, zero, suc, ◌+◌, ◌<◌, ◌≤◌, ◌==◌, max, min, Bool, false, not, List, [], ◌∷◌, ◌++◌, length, map, take, drop, slice_get, slice_index, slice_range, Some, append-nil, arith, ◌≢◌, slice_set}
use Rattle.std.specs.Prelude.{◌&&◌, nat_lt, if◌then◌else◌}
use Rattle.std.proofs.Math.ListN.{length-set}
use Rattle.std.proofs.lemmas.Bool.{cases_eq, cases_lt}
use Rattle.std.proofs.lemmas.Grind.{get_or-set_at}
use Rattle.std.proofs.lemmas.List.{get_or-set_other}
use Rattle.std.proofs.lemmas.Option.{same_Some, slice_get_within}
use Rattle.std.specs.List.{AllZip, Contains, filter}
use Rattle.std.specs.List.Sorted.{IsPermutation}
use Rattle.std.proofs.lemmas.Bool.Decides.{nat_tests}
use Rattle.std.proofs.lemmas.List.{map-append, take-append-drop}
use Rattle.std.proofs.lemmas.List.Elements.{filter-append}
use Rattle.std.proofs.lemmas.List.Folds.{drop_split}
use Rattle.std.proofs.lemmas.List.Sorted.{Contains-permutation, IsPermutation-sym}
use Rattle.pb_base.proofs.ListLemmas.{at_in, in_head, in_tail}
use Rattle.pb_values.specs.declared.rect.Rect.{Rect}
use Rattle.pb_links.specs.declared.owners.Owned.{Owned}
use Rattle.pb_links.specs.Indexed.{EndBy, StartFrom, end, start}
use Rattle.pb_links.specs.declared.index.Axis.{Axis}
use Rattle.pb_links.specs.declared.index.Axis.TheVariants.{X, Y}
use Rattle.pb_links.specs.Owners.{IsTable, hits, is_hit, on}
use Rattle.pb_links.specs.Spots.{PlacesValue, meets}

-- what ends before a rectangle along an axis, or begins after it, doesn't meet it
apart : (a b c d : ℕ) → (b ≤ c) ⊎ (d ≤ a) → nat_lt (max a c) (min b d) ≡ false
apart a b c d (inl h) = grind (arith, nat_tests)
apart a b c d (inr h) = grind (arith, nat_tests)

neither : (a b c : Bool) → (b ≡ false) ⊎ (c ≡ false) → (a && (b && c)) ≡ false
neither a b c h = grind (arith)

no_hit : (axis : Axis) (task : ℕ) (rect : Rect) (o : Owned) → (end axis o.rect ≤ start axis rect) ⊎ (end axis rect ≤ start axis o.rect) → is_hit task rect o ≡ false
unfolding is_hit meets start end
no_hit X task rect o h = neither (not (o.task == task)) (nat_lt (max o.rect.x0 rect.x0) (min o.rect.x1 rect.x1)) (nat_lt (max o.rect.y0 rect.y0) (min o.rect.y1 rect.y1)) (inl (apart o.rect.x0 o.rect.x1 rect.x0 rect.x1 h))
no_hit Y task rect o h = neither (not (o.task == task)) (nat_lt (max o.rect.x0 rect.x0) (min o.rect.x1 rect.x1)) (nat_lt (max o.rect.y0 rect.y0) (min o.rect.y1 rect.y1)) (inr (apart o.rect.y0 o.rect.y1 rect.y0 rect.y1 h))

no_hits : (task : ℕ) (rect : Rect) (os : List Owned) → ((o : Owned) → Contains os o → is_hit task rect o ≡ false) → hits task rect os ≡ []
no_hits task rect [] h = refl
no_hits task rect (o ∷ os) h =
    ap (λ b. map (λ (q : Owned). q.task) (if b then o ∷ filter (is_hit task rect) os else filter (is_hit task rect) os)) (h o (in_head o os))
    ∙ no_hits task rect os (λ q own. h q (in_tail o q os own))

hits_append : (task : ℕ) (rect : Rect) (xs ys : List Owned) → hits task rect (xs ++ ys) ≡ hits task rect xs ++ hits task rect ys
hits_append task rect xs ys = ap (map (λ (q : Owned). q.task)) (filter-append (is_hit task rect) xs ys) ∙ map-append (λ (q : Owned). q.task) (filter (is_hit task rect) xs) (filter (is_hit task rect) ys)

taken_at : (n : ℕ) (xs : List Owned) (k : ℕ) (x : Owned) → slice_get (take n xs) k ≡ Some x → (k < n) × (slice_get xs k ≡ Some x)
taken_at zero xs k x e = absurd (cc)
taken_at (suc n) [] k x e = absurd (cc)
taken_at (suc n) (y ∷ xs) zero x e = (omega arith, e)
taken_at (suc n) (y ∷ xs) (suc k) x e = let rest = taken_at n xs k x e in (omega (arith, rest.0), rest.1)

dropped_at : (n : ℕ) (xs : List Owned) (k : ℕ) (x : Owned) → slice_get (drop n xs) k ≡ Some x → slice_get xs (n + k) ≡ Some x
dropped_at zero xs k x e = let same : 0 + k ≡ k = omega arith in ap (slice_get xs) same ∙ e
dropped_at (suc n) [] k x e = absurd (cc)
dropped_at (suc n) (y ∷ xs) k x e = let same : suc n + k ≡ suc (n + k) = omega arith in ap (slice_get (y ∷ xs)) same ∙ dropped_at n xs k x e

module _ (list : List Owned) (axis : Axis) (ends starts : List ℕ) (far : EndBy axis list ends) (early : StartFrom axis list starts) (rect : Rect) (first last : ℕ) where
  near_hits : (first ≡ 0) ⊎ ((k : ℕ) × (first ≤ k) × (k < length ends) × (slice_index ends k ≤ start axis rect)) → (length list ≤ last) ⊎ ((k : ℕ) × (k ≤ last) × (k < length starts) × (end axis rect ≤ slice_index starts k)) → first ≤ last
      → (task : ℕ) → hits task rect (slice_range list first last) ≡ hits task rect list
  near_hits lows highs order task =
      sym (append-nil (hits task rect (slice_range list first last)))
      ∙ ap (λ l. hits task rect (slice_range list first last) ++ l) (sym none_after)
      ∙ sym (hits_append task rect (slice_range list first last) (drop last list))
      ∙ ap (hits task rect) (sym (drop_split list first last order))
      ∙ ap (λ l. l ++ hits task rect (drop first list)) (sym none_before)
      ∙ sym (hits_append task rect (take first list) (drop first list))
      ∙ ap (hits task rect) (take-append-drop first list)
    where
      none_before : hits task rect (take first list) ≡ []
      none_before = no_hits task rect (take first list) (λ o own.
          let at = at_in (take first list) o own in
          let there = taken_at first list at.0 o at.1 in
          ⊎_elim (λ (e : first ≡ 0). absurd (omega (arith, e, there.0))) (λ h. no_hit axis task rect o (inl (omega (arith, far h.0 at.0 o h.2 (omega (arith, there.0, h.1)) there.1, h.3)))) lows)

      none_after : hits task rect (drop last list) ≡ []
      none_after = no_hits task rect (drop last list) (λ o own.
          let at = at_in (drop last list) o own in
          let there = dropped_at last list at.0 o at.1 in
          ⊎_elim (λ (e : length list ≤ last). absurd (omega (arith, e, slice_get_within list (last + at.0) o there))) (λ h. no_hit axis task rect o (inr (omega (arith, early h.0 (last + at.0) o h.2 (omega (arith, h.1)) there, h.3)))) highs)

-- what is between the numbers that were looked for
pub near_found : (axis : Axis) (list shown : List Owned) (ends starts ends_shown starts_shown : List ℕ) → shown ≡ list → ends_shown ≡ ends → starts_shown ≡ starts → EndBy axis list ends → StartFrom axis list starts
    → (rect : Rect) (ended started begin till first last count task : ℕ) → count ≡ length list → begin ≡ start axis rect → till ≡ end axis rect
    → (ended ≡ 0) ⊎ ((ended < length ends_shown) × (slice_index ends_shown ended ≤ begin)) → (started ≡ count) ⊎ ((started < length starts_shown) × (till ≤ slice_index starts_shown started))
    → first ≡ min ended count → last ≡ max (min started count) first → hits task rect (slice_range shown first last) ≡ hits task rect list
near_found axis list shown ends starts ends_shown starts_shown same same_ends same_starts far early rect ended started begin till first last count task long b t low_shown high_shown f l =
    let low = subst (λ es. (ended ≡ 0) ⊎ ((ended < length es) × (slice_index es ended ≤ begin))) same_ends low_shown in
    let high = subst (λ ss. (started ≡ count) ⊎ ((started < length ss) × (till ≤ slice_index ss started))) same_starts high_shown in
    ap (λ s. hits task rect (slice_range s first last)) same
    ∙ near_hits list axis ends starts far early rect first last
    (⊎_elim (λ e. inl (omega (arith, e, f))) (λ h. inr (ended, omega (arith, f), h.0, subst (λ n. slice_index ends ended ≤ n) b h.1)) low)
    (⊎_elim (λ e. inl (omega (arith, e, l, long))) (λ h. ⊎_elim (λ (k : started < length list). inr (started, omega (arith, l, k, long), h.0, subst (λ n. n ≤ slice_index starts started) t h.1)) (λ (k : length list ≤ started). inl (omega (arith, l, k, long))) (cases_lt started (length list))) high)
    (omega (arith, l)) task

-- ---- one place more, from the end
module _ (axis : Axis) (list : List Owned) (starts : List ℕ) (left at least new : ℕ) (next : left ≡ at + 1) (p : Owned) (there : slice_get list at ≡ Some p) (low : new ≤ start axis p.rect) (less : new ≤ least)
    (so_far : (k j : ℕ) (o : Owned) → left ≤ k → k < length starts → k ≤ j → slice_get list j ≡ Some o → slice_index starts k ≤ start axis o.rect)
    (was : (j : ℕ) (o : Owned) → left ≤ j → slice_get list j ≡ Some o → least ≤ start axis o.rect) where
  pub least_more : (j : ℕ) (o : Owned) → at ≤ j → slice_get list j ≡ Some o → new ≤ start axis o.rect
  least_more j o from is = ⊎_elim
      (λ (e : j ≡ at). subst (λ (q : Owned). new ≤ start axis q.rect) (same_Some p o (sym there ∙ ap (slice_get list) (sym e) ∙ is)) low)
      (λ (ne : j ≢ at). omega (arith, less, was j o (omega (arith, from, ne, next)) is))
      (cases_eq j at)

  pub starts_more : (k j : ℕ) (o : Owned) → at ≤ k → k < length (slice_set starts at new) → k ≤ j → slice_get list j ≡ Some o → slice_index (slice_set starts at new) k ≤ start axis o.rect
  starts_more k j o from inside to is = ⊎_elim
      (λ (e : k ≡ at). subst (λ n. n ≤ start axis o.rect) (sym (get_or-set_at starts at k new 0 e (omega (arith, long, inside, e)))) (least_more j o (omega (arith, from, to)) is))
      (λ (ne : k ≢ at). subst (λ n. n ≤ start axis o.rect) (sym (get_or-set_other starts at k new 0 ne)) (so_far k j o (omega (arith, from, ne, next)) (omega (arith, long, inside)) to is))
      (cases_eq k at)
    where
      long : length (slice_set starts at new) ≡ length starts
      long = length-set starts at new

-- ---- the table, sorted
on_same : (table found : List (List Owned)) → AllZip IsPermutation table found → (base : ℕ) (o : Owned) → (Contains (on found base) o → Contains (on table base) o) × (Contains (on table base) o → Contains (on found base) o)
on_same [] [] h base o = (λ c. c, λ c. c)
on_same [] (y ∷ ys) h base o = absurd h
on_same (x ∷ xs) [] h base o = absurd h
on_same (x ∷ xs) (y ∷ ys) h zero o = (λ c. Contains-permutation y x o (IsPermutation-sym x y h.0) c, λ c. Contains-permutation x y o h.0 c)
on_same (x ∷ xs) (y ∷ ys) h (suc base) o = on_same xs ys h.1 base o

zip_long : (table found : List (List Owned)) → AllZip IsPermutation table found → length found ≡ length table
zip_long [] [] h = refl
zip_long [] (y ∷ ys) h = absurd h
zip_long (x ∷ xs) [] h = absurd h
zip_long (x ∷ xs) (y ∷ ys) h = ap suc (zip_long xs ys h.1)

table_sorted : (tasks : List PlacesValue) (count bases : ℕ) (table found : List (List Owned)) → AllZip IsPermutation table found → IsTable tasks count bases table → IsTable tasks count bases found
table_sorted tasks count bases table found h is = record {
  room = zip_long table found h ∙ is.room;
  owned = λ base o. let same = on_same table found h base o in (λ c. (is.owned base o).0 (same.0 c), λ k. same.1 ((is.owned base o).1 k));
}

pub table_shown : (tasks : List PlacesValue) (count bases : ℕ) (table found shown : List (List Owned)) → shown ≡ found → AllZip IsPermutation table found → IsTable tasks count bases table → IsTable tasks count (length shown) shown
table_shown tasks count bases table found shown same h is =
    let there = subst (λ t. IsTable tasks count bases t) (sym same) (table_sorted tasks count bases table found h is) in
    record { room = refl; owned = there.owned }
