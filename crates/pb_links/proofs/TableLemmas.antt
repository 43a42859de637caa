-- The table from matrices to the parts on them.
use Rattle.std.proofs.Common.{◌≡◌, ◌≢◌, ◌⊎◌, ◌∙◌, refl, sym, ap, subst, inl, inr, ⊎_elim, ⊎_elim, Result, Ok, Err, ℕ, ◌+◌, ◌<◌, ◌≤◌, List, [], ◌∷◌, ◌++◌, length, take, get_or, set, replicate, arith}
use Rattle.std.proofs.Math.ListN.{length-set}
use Rattle.std.specs.List.{Contains}
use Rattle.std.specs.Result.{OnOk}
use Rattle.std.proofs.lemmas.Bool.{cases_eq, cases_lt}
use Rattle.std.proofs.lemmas.List.{get_or-replicate, get_or-set_other, get_or-set_same, get_or_past, get_or_read, length-replicate, take_more}
use Rattle.std.proofs.lemmas.List.Elements.{Contains-append_left, Contains-push, Contains-push_cases}
use Rattle.pb_base.proofs.ListLemmas.{in_cases, in_head, in_none}
use Rattle.pb_links.specs.declared.owners.Owned.{Owned}
use Rattle.pb_links.specs.declared.places.Spot.{Spot}
use Rattle.pb_links.specs.Owners.{IsAdded, IsTable, on, spot}
use Rattle.pb_links.specs.Spots.{PlacesValue, parts_of}

-- ---- a list of a table with one element more
module _ {A : Type 0} where
  abbrev pub put : List (List A) → ℕ → A → List (List A)
  put table k x = set table k (get_or table k [] ++ x ∷ [])

  put-there : (table : List (List A)) (k j : ℕ) (x y : A) → k < length table → Contains (get_or (put table k x) j []) y → Contains (get_or table j []) y ⊎ ((j ≡ k) × (x ≡ y))
  put-there table k j x y inside c = ⊎_elim
      (λ (e : j ≡ k). ⊎_elim (λ h. inl (subst (λ i. Contains (get_or table i []) y) (sym e) h)) (λ h. inr (e, h))
      (Contains-push_cases (get_or table k []) x y (subst (λ l. Contains l y) (get_or-set_same table k (get_or table k [] ++ x ∷ []) [] inside) (subst (λ i. Contains (get_or (put table k x) i []) y) e c))))
      (λ (ne : j ≢ k). inl (subst (λ l. Contains l y) (get_or-set_other table k j (get_or table k [] ++ x ∷ []) [] ne) c))
      (cases_eq j k)

  put-kept : (table : List (List A)) (k j : ℕ) (x y : A) → k < length table → Contains (get_or table j []) y → Contains (get_or (put table k x) j []) y
  put-kept table k j x y inside c = ⊎_elim
      (λ (e : j ≡ k). subst (λ i. Contains (get_or (put table k x) i []) y) (sym e) (subst (λ l. Contains l y) (sym (get_or-set_same table k (get_or table k [] ++ x ∷ []) [] inside))
      (Contains-append_left (get_or table k []) (x ∷ []) y (subst (λ i. Contains (get_or table i []) y) e c))))
      (λ (ne : j ≢ k). subst (λ l. Contains l y) (sym (get_or-set_other table k j (get_or table k [] ++ x ∷ []) [] ne)) c)
      (cases_eq j k)

  put-new : (table : List (List A)) (k : ℕ) (x : A) → k < length table → Contains (get_or (put table k x) k []) x
  put-new table k x inside = subst (λ l. Contains l x) (sym (get_or-set_same table k (get_or table k [] ++ x ∷ []) [] inside)) (Contains-push (get_or table k []) x)

  -- where a list that was read has one element more
  pub put-read : {T E : Type 0} (r : Result T E) (table : List (List A)) (k : ℕ) (held next : List A) (x : A) (P : List (List A) → Type 0) → k < length table → held ≡ get_or table k held → OnOk r (next ≡ held ++ x ∷ []) → P (put table k x) → OnOk r (P (set table k next))
  put-read (Ok v) table k held next x P inside is h p = subst (λ l. P (set table k l)) (sym (h ∙ ap (λ l. l ++ x ∷ []) (get_or_read table k held inside is []))) p
  put-read (Err e) table k held next x P inside is h p = tt

-- ---- parts
pub part-added : (table : List (List Owned)) (task : ℕ) (part : Spot) → part.base < length table → IsAdded table (put table part.base (record { task = task; rect = part.rect })) task (part ∷ [])
part-added table task part inside = record { room = length-set table part.base (get_or table part.base [] ++ o ∷ []); owned = λ base p. (there base p, back base p) }
  where
    o : Owned
    o = record { task = task; rect = part.rect }

    there : (base : ℕ) (p : Owned) → Contains (on (put table part.base o) base) p → Contains (on table base) p ⊎ ((p.task ≡ task) × Contains (part ∷ []) (spot base p))
    there base p c = ⊎_elim (λ h. inl h) (λ h. inr (ap (λ q. q.task) (sym h.1), subst (λ s. Contains (part ∷ []) s) (λ i. record { base = sym h.0 i; rect = (h.1 i).rect }) (in_head part []))) (put-there table part.base base o p inside c)

    back : (base : ℕ) (p : Owned) → Contains (on table base) p ⊎ ((p.task ≡ task) × Contains (part ∷ []) (spot base p)) → Contains (on (put table part.base o) base) p
    back base p (inl c) = put-kept table part.base base o p inside c
    back base p (inr (is, c)) = ⊎_elim
        (λ (same : part ≡ spot base p).
        let q : o ≡ p = λ i. record { task = sym is i; rect = (same i).rect } in
        subst (λ b. Contains (on (put table part.base o) b) p) (ap (λ s. s.base) same) (subst (λ v. Contains (on (put table part.base o) part.base) v) q (put-new table part.base o inside)))
        (λ none. absurd (in_none (spot base p) none)) (in_cases part (spot base p) [] c)

pub none-added : (table : List (List Owned)) (task : ℕ) → IsAdded table table task []
none-added table task = record { room = refl; owned = λ base o. (λ c. inl c, λ h. ⊎_elim (λ c. c) (λ n. absurd (in_none (spot base o) n.1)) h) }

-- the first parts and then the next one
pub more-added : (old table new : List (List Owned)) (task : ℕ) (parts : List Spot) (i : ℕ) (part : Spot) → i < length parts → part ≡ get_or parts i part → IsAdded old table task (take i parts) → IsAdded table new task (part ∷ []) → IsAdded old new task (take (i + 1) parts)
more-added old table new task parts i part inside is a b = record { room = b.room ∙ a.room; owned = λ base o. (there base o, back base o) }
  where
    all : take (i + 1) parts ≡ take i parts ++ part ∷ []
    all = take_more parts i part inside ∙ ap (λ p. take i parts ++ p ∷ []) (sym is)

    there : (base : ℕ) (o : Owned) → Contains (on new base) o → Contains (on old base) o ⊎ ((o.task ≡ task) × Contains (take (i + 1) parts) (spot base o))
    there base o c = ⊎_elim
        (λ h. ⊎_elim (λ k. inl k) (λ k. inr (k.0, subst (λ l. Contains l (spot base o)) (sym all) (Contains-append_left (take i parts) (part ∷ []) (spot base o) k.1))) ((a.owned base o).0 h))
        (λ h. inr (h.0, subst (λ l. Contains l (spot base o)) (sym all) (⊎_elim (λ (e : part ≡ spot base o). subst (λ s. Contains (take i parts ++ part ∷ []) s) e (Contains-push (take i parts) part)) (λ none. absurd (in_none (spot base o) none)) (in_cases part (spot base o) [] h.1))))
        ((b.owned base o).0 c)

    back : (base : ℕ) (o : Owned) → Contains (on old base) o ⊎ ((o.task ≡ task) × Contains (take (i + 1) parts) (spot base o)) → Contains (on new base) o
    back base o (inl c) = (b.owned base o).1 (inl ((a.owned base o).1 (inl c)))
    back base o (inr (same, c)) = ⊎_elim
        (λ h. (b.owned base o).1 (inl ((a.owned base o).1 (inr (same, h)))))
        (λ (e : part ≡ spot base o). (b.owned base o).1 (inr (same, subst (λ s. Contains (part ∷ []) s) e (in_head part []))))
        (Contains-push_cases (take i parts) part (spot base o) (subst (λ l. Contains l (spot base o)) all c))

-- ---- the table
abbrev no_parts : List Owned
no_parts = []

long : (n : ℕ) → length (replicate n no_parts) ≡ n
long n = length-replicate n no_parts

on-nothing : (bases base : ℕ) (o : Owned) → Contains (on (replicate bases []) base) o → ⊥
on-nothing bases base o c = ⊎_elim
    (λ (h : base < bases). in_none o (subst (λ l. Contains l o) (get_or-replicate bases base [] [] h) c))
    (λ (h : bases ≤ base). in_none o (subst (λ l. Contains l o) (get_or_past (replicate bases []) base [] (omega (arith, h, long bases))) c))
    (cases_lt base bases)

pub table-empty : (tasks : List PlacesValue) (bases : ℕ) (table : List (List Owned)) → table ≡ replicate bases [] → IsTable tasks 0 bases table
table-empty tasks bases table is = record {
  room = ap length is ∙ length-replicate bases [];
  owned = λ base o. (λ c. absurd (on-nothing bases base o (subst (λ t. Contains (on t base) o) is c)), λ h. let below = h.0 in absurd (omega arith));
}

pub table-more : (tasks : List PlacesValue) (t bases : ℕ) (old new : List (List Owned)) → t < length tasks → (parts : List Spot) → parts ≡ parts_of tasks t → IsTable tasks t bases old → IsAdded old new t parts → IsTable tasks (t + 1) bases new
table-more tasks t bases old new below parts is a b = record { room = b.room ∙ a.room; owned = λ base o. (there base o, back base o) }
  where
    there : (base : ℕ) (o : Owned) → Contains (on new base) o → (o.task < t + 1) × Contains (parts_of tasks o.task) (spot base o)
    there base o c = ⊎_elim
        (λ h. let k = (a.owned base o).0 h in let early = k.0 in (omega arith, k.1))
        (λ h. let e = h.0 in (omega arith, subst (λ l. Contains l (spot base o)) (is ∙ ap (parts_of tasks) (sym e)) h.1))
        ((b.owned base o).0 c)

    back : (base : ℕ) (o : Owned) → (o.task < t + 1) × Contains (parts_of tasks o.task) (spot base o) → Contains (on new base) o
    back base o (early, c) = ⊎_elim
        (λ (e : o.task ≡ t). (b.owned base o).1 (inr (e, subst (λ l. Contains l (spot base o)) (ap (parts_of tasks) e ∙ sym is) c)))
        (λ (ne : o.task ≢ t). (b.owned base o).1 (inl ((a.owned base o).1 (omega arith, c))))
        (cases_eq o.task t)
