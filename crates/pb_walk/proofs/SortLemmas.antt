-- Lists in a total order, each element once, and what a test keeps of them.
use Rattle.std.proofs.Common.{◌≡◌, ◌∙◌, refl, sym, ap, subst, inl, inr, ◌⊎◌, Bool, true, false, List, [], ◌∷◌}
use Rattle.std.specs.Prelude.{filter}
use Rattle.std.specs.BTreeSet.{insert_key}
use Rattle.std.specs.Cmp.{IsTotalOrder}
use Rattle.std.specs.List.{AllByRecursion, Contains}
use Rattle.std.specs.List.Sorted.{IsStrictlySortedBy}
use Rattle.std.specs.Ordering.{match_ordering, ordering_reverse}
use Rattle.std.specs.declared.cmp.Ordering.{Ordering}
use Rattle.std.specs.declared.cmp.Ordering.TheVariants.{Less, Equal, Greater}
use Rattle.std.proofs.lemmas.Cmp.{tied_itself}
use Rattle.std.proofs.lemmas.Map.Keys.{sorted_head, sorted_tail}
use Rattle.pb_base.proofs.ListLemmas.{in_cases, in_head, in_none, in_tail}
use Rattle.pb_walk.specs.Walks.{sorted}

module _ {A : Type 0} (R : A → A → Ordering) where
  abbrev After : A → List A → Type 0
  After k xs = AllByRecursion (λ y. R k y ≡ Less) xs

  pub sorted_cons : (x : A) (xs : List A) → After x xs → IsStrictlySortedBy R xs → IsStrictlySortedBy R (x ∷ xs)
  unfolding IsStrictlySortedBy
  sorted_cons x xs a s = (a, s)

  pub sorted_nil : IsStrictlySortedBy R []
  unfolding IsStrictlySortedBy
  sorted_nil = tt

  pub after_at : (k z : A) (xs : List A) → After k xs → Contains xs z → R k z ≡ Less
  after_at k z [] a h = absurd (in_none z h)
  after_at k z (x ∷ xs) a h = elim (in_cases x z xs h) [
    | inl same ↦ subst (λ (w : A). R k w ≡ Less) same a.0
    | inr later ↦ after_at k z xs a.1 later
  ]

  -- ---- an element more
  inserted_after : (x k y : A) (ys : List A) (r : Ordering) → R x k ≡ Less → After x (y ∷ ys) → After x (insert_key R ys k) → After x (match_ordering r (k ∷ y ∷ ys) (y ∷ ys) (y ∷ insert_key R ys k))
  inserted_after x k y ys Less l a rest = (l, a)
  inserted_after x k y ys Equal l a rest = a
  inserted_after x k y ys Greater l a rest = (a.0, rest)

  after_insert : (x k : A) (xs : List A) → R x k ≡ Less → After x xs → After x (insert_key R xs k)
  after_insert x k [] l a = (l, tt)
  after_insert x k (y ∷ ys) l a = inserted_after x k y ys (R k y) l a (after_insert x k ys l a.1)

  inserted_in : (k x z : A) (xs : List A) (r : Ordering) → (Contains (insert_key R xs k) z → (k ≡ z) ⊎ Contains xs z) → Contains (match_ordering r (k ∷ x ∷ xs) (x ∷ xs) (x ∷ insert_key R xs k)) z → (k ≡ z) ⊎ Contains (x ∷ xs) z
  inserted_in k x z xs Less rest h = in_cases k z (x ∷ xs) h
  inserted_in k x z xs Equal rest h = inr h
  inserted_in k x z xs Greater rest h = elim (in_cases x z (insert_key R xs k) h) [
    | inl same ↦ inr (subst (Contains (x ∷ xs)) same (in_head x xs))
    | inr later ↦ elim (rest later) [ inl new ↦ inl new | inr old ↦ inr (in_tail x z xs old) ]
  ]

  insert_in : (k z : A) (xs : List A) → Contains (insert_key R xs k) z → (k ≡ z) ⊎ Contains xs z
  insert_in k z [] h = in_cases k z [] h
  insert_in k z (x ∷ xs) h = inserted_in k x z xs (R k x) (insert_in k z xs) h

  pub sorted_in : (z : A) (xs : List A) → Contains (sorted R xs) z → Contains xs z
  sorted_in z [] h = h
  sorted_in z (x ∷ xs) h = elim (insert_in x z (sorted R xs) h) [
    | inl same ↦ subst (Contains (x ∷ xs)) same (in_head x xs)
    | inr later ↦ in_tail x z xs (sorted_in z xs later)
  ]

  module _ (o : IsTotalOrder R) where
    after_more : (k x : A) (xs : List A) → R k x ≡ Less → After x xs → After k xs
    after_more k x [] l a = tt
    after_more k x (y ∷ ys) l a = (o.trans k x y l a.0, after_more k x ys l a.1)

    inserted_sorted : (k x : A) (xs : List A) (r : Ordering) → R k x ≡ r → After x xs → IsStrictlySortedBy R (x ∷ xs) → IsStrictlySortedBy R (insert_key R xs k)
        → IsStrictlySortedBy R (match_ordering r (k ∷ x ∷ xs) (x ∷ xs) (x ∷ insert_key R xs k))
    inserted_sorted k x xs Less e a s rest = sorted_cons k (x ∷ xs) (e, after_more k x xs e a) s
    inserted_sorted k x xs Equal e a s rest = s
    inserted_sorted k x xs Greater e a s rest = sorted_cons x (insert_key R xs k) (after_insert x k xs (o.antisymm x k ∙ ap ordering_reverse e) a) rest

    insert_sorted : (k : A) (xs : List A) → IsStrictlySortedBy R xs → IsStrictlySortedBy R (insert_key R xs k)
    insert_sorted k [] s = sorted_cons k [] tt s
    insert_sorted k (x ∷ xs) s = inserted_sorted k x xs (R k x) refl (sorted_head R x xs s) s (insert_sorted k xs (sorted_tail R x xs s))

    pub is_sorted : (xs : List A) → IsStrictlySortedBy R (sorted R xs)
    is_sorted [] = sorted_nil
    is_sorted (x ∷ xs) = insert_sorted x (sorted R xs) (is_sorted xs)

    never_itself : (x : A) (xs : List A) → After x xs → Contains xs x → ⊥
    never_itself x xs a h = let wrong : Less ≡ Equal = sym (after_at x x xs a h) ∙ tied_itself o x in absurd (cc)

    both_less : (x y : A) → R x y ≡ Less → R y x ≡ Less → ⊥
    both_less x y l m = let wrong : Less ≡ Greater = sym l ∙ o.antisymm x y ∙ ap ordering_reverse m in absurd (cc)

    same_first : (x y : A) (xs ys : List A) → After x xs → After y ys → (y ≡ x) ⊎ Contains ys x → (x ≡ y) ⊎ Contains xs y → x ≡ y
    same_first x y xs ys a b (inl same) back = sym same
    same_first x y xs ys a b (inr h) (inl same) = same
    same_first x y xs ys a b (inr h) (inr k) = absurd (both_less x y (after_at x y xs a k) (after_at y x ys b h))

    same_later : (x z : A) (xs ys : List A) → After x xs → Contains xs z → (x ≡ z) ⊎ Contains ys z → Contains ys z
    same_later x z xs ys a h (inl same) = absurd (never_itself x xs a (subst (Contains xs) (sym same) h))
    same_later x z xs ys a h (inr later) = later

    -- lists in order with the same elements are equal
    pub one_sorted : (xs ys : List A) → IsStrictlySortedBy R xs → IsStrictlySortedBy R ys → ((z : A) → Contains xs z → Contains ys z) → ((z : A) → Contains ys z → Contains xs z) → xs ≡ ys
    one_sorted [] [] s t f g = refl
    one_sorted [] (y ∷ ys) s t f g = absurd (in_none y (g y (in_head y ys)))
    one_sorted (x ∷ xs) [] s t f g = absurd (in_none x (f x (in_head x xs)))
    one_sorted (x ∷ xs) (y ∷ ys) s t f g =
        let a = sorted_head R x xs s in
        let b = sorted_head R y ys t in
        let first : x ≡ y = same_first x y xs ys a b (in_cases y x ys (f x (in_head x xs))) (in_cases x y xs (g y (in_head y ys))) in
        let forth = λ (z : A) (h : Contains xs z). same_later x z xs ys a h (in_cases x z ys (subst (λ (w : A). Contains (w ∷ ys) z) (sym first) (f z (in_tail x z xs h)))) in
        let back = λ (z : A) (h : Contains ys z). same_later y z ys xs b h (in_cases y z xs (subst (λ (w : A). Contains (w ∷ xs) z) first (g z (in_tail y z ys h)))) in
        let rest : xs ≡ ys = one_sorted xs ys (sorted_tail R x xs s) (sorted_tail R y ys t) forth back in
        λ i. first i ∷ rest i

    module _ (same : (x y : A) → R x y ≡ Equal → x ≡ y) where
      in_inserted : (k x z : A) (xs : List A) (r : Ordering) → R k x ≡ r → ((k ≡ z) ⊎ Contains xs z → Contains (insert_key R xs k) z) → (k ≡ z) ⊎ Contains (x ∷ xs) z → Contains (match_ordering r (k ∷ x ∷ xs) (x ∷ xs) (x ∷ insert_key R xs k)) z
      in_inserted k x z xs Less e rest (inl new) = subst (Contains (k ∷ x ∷ xs)) new (in_head k (x ∷ xs))
      in_inserted k x z xs Less e rest (inr old) = in_tail k z (x ∷ xs) old
      in_inserted k x z xs Equal e rest (inl new) = subst (Contains (x ∷ xs)) (sym (same k x e) ∙ new) (in_head x xs)
      in_inserted k x z xs Equal e rest (inr old) = old
      in_inserted k x z xs Greater e rest (inl new) = in_tail x z (insert_key R xs k) (rest (inl new))
      in_inserted k x z xs Greater e rest (inr old) = elim (in_cases x z xs old) [
        | inl first ↦ subst (Contains (x ∷ insert_key R xs k)) first (in_head x (insert_key R xs k))
        | inr later ↦ in_tail x z (insert_key R xs k) (rest (inr later))
      ]

      in_insert : (k z : A) (xs : List A) → (k ≡ z) ⊎ Contains xs z → Contains (insert_key R xs k) z
      in_insert k z [] (inl new) = subst (Contains (k ∷ [])) new (in_head k [])
      in_insert k z [] (inr old) = absurd (in_none z old)
      in_insert k z (x ∷ xs) h = in_inserted k x z xs (R k x) refl (in_insert k z xs) h

      pub in_sorted : (z : A) (xs : List A) → Contains xs z → Contains (sorted R xs) z
      in_sorted z [] h = h
      in_sorted z (x ∷ xs) h = elim (in_cases x z xs h) [
        | inl first ↦ in_insert x z (sorted R xs) (inl first)
        | inr later ↦ in_insert x z (sorted R xs) (inr (in_sorted z xs later))
      ]

-- ---- what a test keeps
module _ {A : Type 0} where
  pub filter_same : (p q : A → Bool) (xs : List A) → ((z : A) → Contains xs z → q z ≡ p z) → filter p xs ≡ filter q xs
  filter_same p q [] h = refl
  filter_same p q (x ∷ xs) h = rw (h x (in_head x xs), filter_same p q xs (λ z k. h z (in_tail x z xs k))) refl

  pub filter_all : (p : A → Bool) (xs : List A) → ((z : A) → Contains xs z → p z ≡ true) → filter p xs ≡ xs
  filter_all p [] h = refl
  filter_all p (x ∷ xs) h = rw (h x (in_head x xs), filter_all p xs (λ z k. h z (in_tail x z xs k))) refl

  pub filter_none : (p : A → Bool) (xs : List A) → ((z : A) → Contains xs z → p z ≡ false) → filter p xs ≡ []
  filter_none p [] h = refl
  filter_none p (x ∷ xs) h = rw (h x (in_head x xs)) (filter_none p xs (λ z k. h z (in_tail x z xs k)))

  -- of a list in order, what one test keeps is an element and what another keeps, where both drop all before it, and keep the same after it
  pub filter_first : (R : A → A → Ordering) (p q : A → Bool) (h : A) (xs : List A) → IsStrictlySortedBy R xs → Contains xs h → p h ≡ true → q h ≡ false
      → ((z : A) → Contains xs z → R z h ≡ Less → (p z ≡ false) × (q z ≡ false)) → ((z : A) → Contains xs z → R h z ≡ Less → q z ≡ p z) → filter p xs ≡ h ∷ filter q xs
  filter_first R p q h [] s c ph qh before after = absurd (in_none h c)
  filter_first R p q h (x ∷ xs) s c ph qh before after = elim (in_cases x h xs c) [
    | inl same ↦
        let px : p x ≡ true = ap p same ∙ ph in
        let qx : q x ≡ false = ap q same ∙ qh in
        let rest : filter p xs ≡ filter q xs = filter_same p q xs (λ z k. after z (in_tail x z xs k) (subst (λ (w : A). R w z ≡ Less) same (after_at R x z xs (sorted_head R x xs s) k))) in
        rw (px, qx, rest, same) refl
    | inr later ↦
        let both = before x (in_head x xs) (after_at R x h xs (sorted_head R x xs s) later) in
        rw (both.0, both.1) (filter_first R p q h xs (sorted_tail R x xs s) later ph qh (λ z k. before z (in_tail x z xs k)) (λ z k. after z (in_tail x z xs k)))
  ]
