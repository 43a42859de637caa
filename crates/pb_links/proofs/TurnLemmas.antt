-- Lists of numbers that are turned round, and the links of all tasks.
use Rattle.std.proofs.Common.{◌≡◌, ◌≢◌, ◌↔◌, ◌∙◌, refl, sym, ap, subst, ⊎_elim, ℕ, zero, suc, ◌+◌, ◌-◌, ◌<◌, ◌≤◌, ◌==◌, ◌||◌, Bool, true, false, cond, List, [], ◌∷◌, ◌++◌, length, map, take, get_or, replicate, append-nil, le_refl, map-id, zero-add, arith}
use Rattle.std.proofs.Math.ListN.{length-set}
use Rattle.std.specs.List.{All, Contains, filter, range_with_len, sum_by}
use Rattle.std.specs.List.Sorted.{IsStrictlyIncreasing}
use Rattle.std.proofs.lemmas.Bool.{cases_Bool, cases_eq, cases_lt, eq-eqb, eqb-true, ne_eqb, true≢false}
use Rattle.std.proofs.lemmas.List.{get_or-replicate, get_or-set_other, get_or-set_same, get_or-take, get_or_past, length-replicate, length-take-le}
use Rattle.std.proofs.lemmas.List.Elements.{All-contains_itself, All-map, All-weaker, filter-append, filter_agree}
use Rattle.std.proofs.lemmas.List.Folds.{list_any_more}
use Rattle.std.proofs.lemmas.List.FromFn.{fill_by_all, get_or-map-range_with_len, length-map-range_with_len, map-range_with_len_more, sum_by-map-range_with_len_more}
use Rattle.std.proofs.lemmas.List.Kept.{AllPairs-from_increasing}
use Rattle.pb_links.specs.Links.{all_predecessors, all_successors, link_count, precedes, predecessors, successors}
use Rattle.pb_links.specs.Spots.{PlacesValue}
use Rattle.pb_links.specs.Turned.{AreTurned, AreTurnedTo, IsNoted, at, has}
use Rattle.pb_links.proofs.LawLemmas.{before-others, before-waits, precedes-waits, reads-inside, waits-before, waits-precedes}
use Rattle.pb_links.proofs.RisingLemmas.{any-in, in-any, rising-picked}
use Rattle.pb_links.proofs.TableLemmas.{put}

-- ---- a number after some lists
pub noted-one : (lists : List (List ℕ)) (k task : ℕ) → k < length lists → IsNoted lists (put lists k task) (k ∷ []) task
noted-one lists k task inside = record { room = length-set lists k (get_or lists k [] ++ task ∷ []); at_each = each }
  where
    each : (j : ℕ) → at (put lists k task) j ≡ cond (has (k ∷ []) j) (at lists j ++ task ∷ []) (at lists j)
    each j = ⊎_elim
        (λ (e : j ≡ k).
        let test : (k == j) ≡ true = eq-eqb k j (sym e) in
        ap (λ i. get_or (put lists k task) i []) e ∙ get_or-set_same lists k (get_or lists k [] ++ task ∷ []) [] inside ∙ ap (λ i. get_or lists i [] ++ task ∷ []) (sym e) ∙ ap (λ b. cond (b || false) (at lists j ++ task ∷ []) (at lists j)) (sym test))
        (λ (ne : j ≢ k).
        let test : (k == j) ≡ false = ne_eqb k j (λ e. ne (sym e)) in
        get_or-set_other lists k j (get_or lists k [] ++ task ∷ []) [] ne ∙ ap (λ b. cond (b || false) (at lists j ++ task ∷ []) (at lists j)) (sym test))
        (cases_eq j k)

pub noted-none : (lists : List (List ℕ)) (task : ℕ) → IsNoted lists lists [] task
noted-none lists task = record { room = refl; at_each = λ k. refl }

-- a number that stands later in a rising list isn't among the first
absent : (numbers : List ℕ) (i n : ℕ) → IsStrictlyIncreasing numbers → i < length numbers → n ≡ get_or numbers i n → has (take i numbers) n ≡ false
absent numbers i n rises inside is = ⊎_elim
    (λ (h : has (take i numbers) n ≡ true).
    let found = any-in (λ x. x == n) (take i numbers) h in
    let early : found.1.0 < i = omega (arith, found.1.1, length-take-le i numbers (omega arith)) in
    let up = AllPairs-from_increasing numbers rises found.1.0 i n early inside in
    let same = eqb-true found.0 n found.2 in
    let value : get_or numbers found.1.0 n ≡ n = sym (get_or-take i numbers found.1.0 n early) ∙ ap (λ d. get_or (take i numbers) found.1.0 d) (sym same) ∙ found.1.2 ∙ same in
    absurd (omega (arith, up, value, is)))
    (λ h. h)
    (cases_Bool (has (take i numbers) n))

pub noted-more : (old lists new : List (List ℕ)) (numbers : List ℕ) (i n task : ℕ) → IsStrictlyIncreasing numbers → i < length numbers → n ≡ get_or numbers i n → IsNoted old lists (take i numbers) task → IsNoted lists new (n ∷ []) task → IsNoted old new (take (i + 1) numbers) task
noted-more old lists new numbers i n task rises inside is a b = record { room = b.room ∙ a.room; at_each = each }
  where
    has-more : (k : ℕ) → has (take (i + 1) numbers) k ≡ (has (take i numbers) k || (n == k))
    has-more k = list_any_more (λ x. x == k) numbers i n inside ∙ ap (λ m. has (take i numbers) k || (m == k)) (sym is)

    or-false : (x : Bool) → (x || false) ≡ x
    or-false true = refl
    or-false false = refl

    each : (k : ℕ) → at new k ≡ cond (has (take (i + 1) numbers) k) (at old k ++ task ∷ []) (at old k)
    each k = ⊎_elim
        (λ (e : n ≡ k).
        let test : (n == k) ≡ true = eq-eqb n k e in
        let none : has (take i numbers) k ≡ false = subst (λ m. has (take i numbers) m ≡ false) e (absent numbers i n rises inside is) in
        b.at_each k ∙ ap (λ t. cond (t || false) (at lists k ++ task ∷ []) (at lists k)) test
        ∙ ap (λ l. l ++ task ∷ []) (a.at_each k ∙ ap (λ t. cond t (at old k ++ task ∷ []) (at old k)) none)
        ∙ ap (λ t. cond t (at old k ++ task ∷ []) (at old k)) (sym (has-more k ∙ ap (λ t. t || (n == k)) none ∙ test)))
        (λ (ne : n ≢ k).
        let test : (n == k) ≡ false = ne_eqb n k ne in
        b.at_each k ∙ ap (λ t. cond (t || false) (at lists k ++ task ∷ []) (at lists k)) test
        ∙ a.at_each k
        ∙ ap (λ t. cond t (at old k ++ task ∷ []) (at old k)) (sym (has-more k ∙ ap (λ t. has (take i numbers) k || t) test ∙ or-false (has (take i numbers) k))))
        (cases_eq n k)

-- ---- lists turned round
abbrev no_numbers : List ℕ
no_numbers = []

at-nothing : (n k : ℕ) → at (replicate n []) k ≡ []
at-nothing n k = ⊎_elim (λ (h : k < n). get_or-replicate n k [] [] h) (λ (h : n ≤ k). get_or_past (replicate n []) k [] (omega (arith, h, length-replicate n no_numbers))) (cases_lt k n)

pub turned-none : (lists after : List (List ℕ)) → after ≡ replicate (length lists) [] → AreTurnedTo lists 0 after
turned-none lists after is = record { room = ap length is ∙ length-replicate (length lists) []; at_each = λ k. ap (λ l. at l k) is ∙ at-nothing (length lists) k }

range-more : (n : ℕ) → range_with_len 0 (n + 1) ≡ range_with_len 0 n ++ n ∷ []
range-more n = sym (map-id (range_with_len 0 (n + 1))) ∙ map-range_with_len_more (λ x. x) 0 n n (zero-add n) ∙ ap (λ l. l ++ n ∷ []) (map-id (range_with_len 0 n))

picked-more : (p : ℕ → Bool) (n : ℕ) (b : Bool) → p n ≡ b → filter p (range_with_len 0 (n + 1)) ≡ cond b (filter p (range_with_len 0 n) ++ n ∷ []) (filter p (range_with_len 0 n))
picked-more p n true e = ap (filter p) (range-more n) ∙ filter-append p (range_with_len 0 n) (n ∷ []) ∙ ap (λ b. filter p (range_with_len 0 n) ++ cond b (n ∷ []) []) e
picked-more p n false e = ap (filter p) (range-more n) ∙ filter-append p (range_with_len 0 n) (n ∷ []) ∙ ap (λ b. filter p (range_with_len 0 n) ++ cond b (n ∷ []) []) e ∙ append-nil (filter p (range_with_len 0 n))

pub turned-more : (lists after new : List (List ℕ)) (task : ℕ) (numbers : List ℕ) → numbers ≡ at lists task → AreTurnedTo lists task after → IsNoted after new numbers task → AreTurnedTo lists (task + 1) new
turned-more lists after new task numbers is a b = record {
  room = b.room ∙ a.room;
  at_each = λ k.
      b.at_each k ∙ ap (λ l. cond (has numbers k) (l ++ task ∷ []) l) (a.at_each k)
      ∙ sym (picked-more (λ t. has (at lists t) k) task (has numbers k) (ap (λ l. has l k) (sym is)));
}

-- ---- the links of all tasks
same-tests : (a b : Bool) → ((a ≡ true) ↔ (b ≡ true)) → a ≡ b
same-tests true b h = sym (h.0 refl)
same-tests false true h = h.1 refl
same-tests false false h = refl

module _ (tasks : List PlacesValue) where
  abbrev pub befores : ℕ → List (List ℕ)
  befores n = map (predecessors tasks) (range_with_len 0 n)

  at-before : (t k : ℕ) → has (at (all_predecessors tasks) t) k ≡ precedes tasks k t
  at-before t k = ⊎_elim
      (λ (h : t < length tasks). ap (λ l. has l k) (get_or-map-range_with_len (predecessors tasks) 0 (length tasks) t t [] h (zero-add t)) ∙ same-tests (has (predecessors tasks t) k) (precedes tasks k t) (
        λ e. let f = any-in (λ x. x == k) (predecessors tasks t) e in waits-precedes tasks k t (before-waits tasks t k (subst (λ v. Contains (predecessors tasks t) v) (eqb-true f.0 k f.2) f.1)),
        λ e. in-any (λ x. x == k) (predecessors tasks t) k (waits-before tasks t k (precedes-waits tasks k t e)) (eq-eqb k k refl),
      ))
      (λ (h : length tasks ≤ t). ap (λ l. has l k) (get_or_past (all_predecessors tasks) t [] (omega (arith, h, length-map-range_with_len (predecessors tasks) 0 (length tasks)))) ∙ same-tests false (precedes tasks k t) (
        λ e. absurd (true≢false (sym e)),
        λ e. let w = precedes-waits tasks k t e in let inside = reads-inside tasks t w.box w.reads in absurd (omega arith),
      ))
      (cases_lt t (length tasks))

  pub turned-successors : (lists after : List (List ℕ)) → lists ≡ all_predecessors tasks → AreTurned lists after → after ≡ all_successors tasks
  unfolding successors
  turned-successors lists after is a =
      let n = length tasks in
      let long : length lists ≡ n = ap length is ∙ length-map-range_with_len (predecessors tasks) 0 n in
      fill_by_all (successors tasks) after n [] (a.room ∙ long) (λ k below.
      a.at_each k
      ∙ filter_agree (λ t. has (at lists t) k) (λ t. precedes tasks k t) (λ t. ap (λ l. has (at l t) k) is ∙ at-before t k) (range_with_len 0 (length lists))
      ∙ ap (λ m. filter (λ t. precedes tasks k t) (range_with_len 0 m)) long)

  pub all-rising : (lists : List (List ℕ)) → lists ≡ all_predecessors tasks → All IsStrictlyIncreasing lists
  unfolding predecessors
  all-rising lists is = subst (All IsStrictlyIncreasing) (sym is) (All-map IsStrictlyIncreasing (predecessors tasks) (range_with_len 0 (length tasks)) (λ i d below. rising-picked (λ u. precedes tasks u (get_or (range_with_len 0 (length tasks)) i d)) (length tasks)))

  pub all-long : (lists : List (List ℕ)) → lists ≡ all_predecessors tasks → length lists ≡ length tasks
  all-long lists is = ap length is ∙ length-map-range_with_len (predecessors tasks) 0 (length tasks)

  pub all-inside : (lists : List (List ℕ)) → lists ≡ all_predecessors tasks → All (All (λ u. u < length lists)) lists
  all-inside lists is =
      let long = all-long lists is in
      let inside : (t : ℕ) → All (λ u. u < length lists) (predecessors tasks t) =
      λ t. All-weaker (Contains (predecessors tasks t)) (λ u. u < length lists) (λ u c. let below = (before-others tasks t u c).0 in omega (arith, long)) (predecessors tasks t) (All-contains_itself (predecessors tasks t)) in
      subst (All (All (λ u. u < length lists))) (sym is) (All-map (All (λ u. u < length lists)) (predecessors tasks) (range_with_len 0 (length tasks)) (λ i d below. inside (get_or (range_with_len 0 (length tasks)) i d)))

  pub before-more : (n : ℕ) (lists new : List (List ℕ)) (list : List ℕ) → lists ≡ befores n → list ≡ predecessors tasks n → new ≡ lists ++ list ∷ [] → new ≡ befores (n + 1)
  before-more n lists new list so is pushed = pushed ∙ ap (λ l. l ++ list ∷ []) so ∙ ap (λ l. befores n ++ l ∷ []) is ∙ sym (map-range_with_len_more (predecessors tasks) 0 n n (zero-add n))

  pub count-more : (n count : ℕ) (list : List ℕ) → count ≡ sum_by length (befores n) → list ≡ predecessors tasks n → count + length list ≡ sum_by length (befores (n + 1))
  count-more n count list so is = ap (λ c. c + length list) so ∙ ap (λ l. sum_by length (befores n) + length l) is ∙ sym (sum_by-map-range_with_len_more length (predecessors tasks) 0 n n (zero-add n))

  count-rises : (n k : ℕ) → sum_by length (befores n) ≤ sum_by length (befores (n + k))
  count-rises n zero = let same : n ≡ n + 0 = omega arith in subst (λ m. sum_by length (befores n) ≤ sum_by length (befores m)) same (le_refl (sum_by length (befores n)))
  count-rises n (suc k) =
      let step = sum_by-map-range_with_len_more length (predecessors tasks) 0 (n + k) (n + k) (zero-add (n + k)) in
      let rest = count-rises n k in
      let same : n + k + 1 ≡ n + suc k = omega arith in
      subst (λ m. sum_by length (befores n) ≤ sum_by length (befores m)) same (omega (arith, step, rest))

  pub count-most : (n : ℕ) → n ≤ length tasks → sum_by length (befores n) ≤ link_count tasks
  count-most n below = let same : n + (length tasks - n) ≡ length tasks = omega arith in subst (λ m. sum_by length (befores n) ≤ sum_by length (befores m)) same (count-rises n (length tasks - n))
