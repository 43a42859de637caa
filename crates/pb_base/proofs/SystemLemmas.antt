-- Rounds of equations: enough of them know each cell, and what they know stays, obeys, and is all that obeys.
use Rattle.std.proofs.Common.{◌≡◌, ℕ, zero, suc, ◌+◌, ◌<◌, ◌≤◌, Bool, true, false, cond, List, [], ◌∷◌, length, get_or, map, Option, Some, None, IsSome, IsTrue, Contains, inl, inr, refl, sym, ap, ◌∙◌, arith}
use Rattle.std.specs.List.{AllByRecursion}
use Rattle.std.specs.Option.{option_map, option_or}
use Rattle.std.proofs.lemmas.Bool.{cases_lt}
use Rattle.pb_base.specs.Systems.{System, all_there, made, solved, outcome, IsGivenOr, AreRanked, IsClosed, Obeys}

-- how many pass
abbrev counted : {A : Type 0} → (A → Bool) → List A → ℕ
counted p [] = 0
counted p (x ∷ xs) = cond (p x) 1 0 + counted p xs

module _ {A : Type 0} where
  counted_most : (p : A → Bool) (xs : List A) → counted p xs ≤ length xs
  counted_most p [] = omega arith
  counted_most p (x ∷ xs) = by (p x) (counted_most p xs)
    where
      by : (b : Bool) → counted p xs ≤ length xs → cond b 1 0 + counted p xs ≤ length (x ∷ xs)
      by true ih = omega (arith, ih)
      by false ih = omega (arith, ih)

  module _ (p q : A → Bool) (more : (x : A) → p x ≡ true → q x ≡ true) where
    counted_one : (x : A) → cond (p x) 1 0 ≤ cond (q x) 1 0
    counted_one x = by (p x) refl
      where
        by : (b : Bool) → p x ≡ b → cond b 1 0 ≤ cond (q x) 1 0
        by true e = rw (more x e) (omega arith)
        by false e = omega arith

    counted_le : (xs : List A) → counted p xs ≤ counted q xs
    counted_le [] = omega arith
    counted_le (x ∷ xs) = omega (arith, counted_one x, counted_le xs)

    -- one of them passes the second test alone
    counted_lt : (xs : List A) (k : ℕ) (x : A) → k < length xs → get_or xs k x ≡ x → p x ≡ false → q x ≡ true → counted p xs < counted q xs
    counted_lt [] k x within there first second = absurd (omega arith)
    counted_lt (y ∷ xs) zero x within there first second = rw (there, first, second) (omega (arith, counted_le xs))
    counted_lt (y ∷ xs) (suc k) x within there first second = omega (arith, counted_one y, counted_lt xs k x (omega arith) there first second)

-- options
map_some : {A B P : Type 0} (f : A → B) (o : Option A) (y : B) → option_map f o ≡ Some y → ((x : A) → o ≡ Some x → f x ≡ y → P) → P
map_some f None y e use_it = absurd (cc)
map_some f (Some x) y e use_it = use_it x refl (cc)

map_is_some : {A B : Type 0} (f : A → B) (o : Option A) → IsSome o → IsSome (option_map f o)
map_is_some f None some = absurd (cc)
map_is_some f (Some x) some = refl

some_value : {A P : Type 0} (o : Option A) → IsSome o → ((x : A) → o ≡ Some x → P) → P
some_value None some use_it = absurd (cc)
some_value (Some x) some use_it = use_it x refl

-- outcomes of some cells
everywhere : {A : Type 0} (P : A → Type 0) → ((x : A) → P x) → (xs : List A) → AllByRecursion P xs
everywhere P each [] = tt
everywhere P each (x ∷ xs) = (each x, everywhere P each xs)

all_weaker : {A : Type 0} (P Q : A → Type 0) → ((x : A) → P x → Q x) → (xs : List A) → AllByRecursion P xs → AllByRecursion Q xs
all_weaker P Q more [] all = tt
all_weaker P Q more (x ∷ xs) all = (more x all.0, all_weaker P Q more xs all.1)

-- where all are there, the first is and the rest are
parts : {O P : Type 0} (o : Option O) (rest : List (Option O)) (os : List O) → all_there (o ∷ rest) ≡ Some os
    → ((x : O) (xs : List O) → o ≡ Some x → all_there rest ≡ Some xs → x ∷ xs ≡ os → P) → P
parts None rest os e use_it = absurd (cc)
parts (Some x) rest os e use_it = map_some (λ xs. x ∷ xs) (all_there rest) os e (λ xs there same. use_it x xs refl there same)

module _ {C O : Type 0} where
  all_some : (known : C → Option O) (cs : List C) → AllByRecursion (λ c. IsSome (known c)) cs → IsSome (all_there (map known cs))
  all_some known [] all = refl
  all_some known (c ∷ cs) all = by (known c) all.0 (all_some known cs all.1)
    where
      by : (o : Option O) → IsSome o → IsSome (all_there (map known cs)) → IsSome (all_there (o ∷ map known cs))
      by None some ih = absurd (cc)
      by (Some x) some ih = map_is_some (λ xs. x ∷ xs) (all_there (map known cs)) ih

  all_more : (known more : C → Option O) → ((c : C) (o : O) → known c ≡ Some o → more c ≡ Some o) → (cs : List C) (os : List O)
      → all_there (map known cs) ≡ Some os → all_there (map more cs) ≡ Some os
  all_more known more keep [] os e = e
  all_more known more keep (c ∷ cs) os e =
      parts (known c) (map known cs) os e (λ x xs here there same. rw (keep c x here, all_more known more keep cs xs there) (ap Some same))

  all_agree : (known : C → Option O) (a : C → O) (P : C → Type 0) → ((c : C) (o : O) → P c → known c ≡ Some o → a c ≡ o) → (cs : List C) (os : List O)
      → AllByRecursion P cs → all_there (map known cs) ≡ Some os → map a cs ≡ os
  all_agree known a P agree [] os all e = cc
  all_agree known a P agree (c ∷ cs) os all e =
      parts (known c) (map known cs) os e (λ x xs here there same. rw (agree c x all.0 here, all_agree known a P agree cs xs all.1 there) same)

  all_right : (known : C → Option O) (a : C → O) (cs : List C) → AllByRecursion (λ c. known c ≡ Some (a c)) cs → all_there (map known cs) ≡ Some (map a cs)
  all_right known a [] all = refl
  all_right known a (c ∷ cs) all = rw (all.0, all_right known a cs all.1) refl

  module _ (s : System C O) where
    made_more : (known more : C → Option O) → ((c : C) (o : O) → known c ≡ Some o → more c ≡ Some o) → (c : C) (o : O) → made s known c ≡ Some o → made s more c ≡ Some o
    made_more known more keep c o e =
        map_some (s.equation c) (all_there (map known (s.reads c))) o e (λ os there same. rw (all_more known more keep (s.reads c) os there) (ap Some same))

    given_stays : (k : ℕ) (c : C) (o : O) → s.given c ≡ Some o → solved s k c ≡ Some o
    given_stays zero c o e = e
    given_stays (suc k) c o e = rw e refl

    one_more : (k : ℕ) (c : C) (o : O) → solved s k c ≡ Some o → solved s (suc k) c ≡ Some o
    one_more zero c o e = given_stays 1 c o e
    one_more (suc k) c o e = by (s.given c) (one_more k) e
      where
        by : (g : Option O) → ((c : C) (o : O) → solved s k c ≡ Some o → solved s (suc k) c ≡ Some o) → option_or g (made s (solved s k) c) ≡ Some o
            → option_or g (made s (solved s (suc k)) c) ≡ Some o
        by None ih e = made_more (solved s k) (solved s (suc k)) ih c o e
        by (Some x) ih e = e

    pub stays : (k more : ℕ) (c : C) (o : O) → k ≤ more → solved s k c ≡ Some o → solved s more c ≡ Some o
    stays k zero c o le e = let none : k ≡ 0 = omega arith in rw none at e
    stays k (suc more) c o le e = elim (cases_lt k (suc more)) [ inl lt ↦ one_more more c o (stays k more c o (omega arith) e) | inr ge ↦ (let same : k ≡ suc more = omega arith in rw same at e) ]

    made_now : (k : ℕ) (c : C) (o : O) → s.given c ≡ None → solved s k c ≡ Some o → made s (solved s k) c ≡ Some o
    made_now zero c o none e = absurd (cc)
    made_now (suc k) c o none e = made_more (solved s k) (solved s (suc k)) (one_more k) c o (rw none at e)

    pub fixed : (k : ℕ) (c : C) → IsSome (solved s k c) → solved s k c ≡ option_or (s.given c) (made s (solved s k) c)
    fixed k c some = by (s.given c) refl
      where
        by : (g : Option O) → s.given c ≡ g → solved s k c ≡ option_or g (made s (solved s k) c)
        by None none = some_value (solved s k c) some (λ o e. e ∙ sym (made_now k c o none e))
        by (Some x) here = given_stays k c x here

    -- enough rounds
    module _ (cells : List C) (before : C → C → Bool) (ranked : AreRanked s cells before) where
      -- how many of the cells stand before
      abbrev rank : C → ℕ
      rank c = counted (λ d. before d c) cells

      lower : (r c : C) → Contains cells r → before r c ≡ true → rank r < rank c
      lower r c among first =
          counted_lt (λ d. before d r) (λ d. before d c) (λ d h. ranked.transitive d r c h first) cells among.0 r among.1 among.2 (ranked.irreflexive r) first

      abbrev AreKnown : ℕ → Type 0
      AreKnown k = (c : C) → Contains cells c → rank c < k → IsSome (solved s k c)

      next_known : (k : ℕ) → AreKnown k → AreKnown (suc k)
      next_known k ih c among few = by (s.given c) refl
        where
          read : (r : C) → IsGivenOr s (λ r. Contains cells r × IsTrue (before r c)) r → IsSome (solved s k r)
          read r (inl some) = some_value (s.given r) some (λ o e. rw (given_stays k r o e) refl)
          read r (inr first) = ih r first.0 (omega (arith, lower r c first.0 first.1))

          by : (g : Option O) → s.given c ≡ g → IsSome (option_or g (made s (solved s k) c))
          by None none =
              map_is_some (s.equation c) (all_there (map (solved s k) (s.reads c)))
              (all_some (solved s k) (s.reads c)
              (all_weaker (IsGivenOr s (λ r. Contains cells r × IsTrue (before r c))) (λ r. IsSome (solved s k r)) read (s.reads c) (ranked.falls c among none)))
          by (Some x) here = refl

      are_known : (k : ℕ) → AreKnown k
      are_known zero = λ c among few. absurd (omega arith)
      are_known (suc k) = next_known k (are_known k)

      pub enough : (c : C) → Contains cells c → IsSome (solved s (suc (length cells)) c)
      enough c among = are_known (suc (length cells)) c among (omega (arith, counted_most (λ d. before d c) cells))

      pub closed : IsClosed s (Contains cells)
      closed c among none =
          all_weaker (IsGivenOr s (λ r. Contains cells r × IsTrue (before r c))) (IsGivenOr s (Contains cells)) (λ r. elim [ inl some ↦ inl some | inr first ↦ inr first.0 ])
          (s.reads c) (ranked.falls c among none)

    -- what obeys
    module _ (Inside : C → Type 0) where
      pub solution : (k : ℕ) (default : O) → ((c : C) → Inside c → IsSome (solved s k c)) → Obeys s Inside (outcome s k default)
      solution k default all = record { given = λ c o e. rw (given_stays k c o e) refl; equation = by }
        where
          by : (c : C) → Inside c → s.given c ≡ None → outcome s k default c ≡ s.equation c (map (outcome s k default) (s.reads c))
          by c inside none = some_value (solved s k c) (all c inside) (λ o e. map_some (s.equation c) (all_there (map (solved s k) (s.reads c))) o (made_now k c o none e)
              (λ os there same. rw (e, all_agree (solved s k) (outcome s k default) (λ _. Unit {0}) (λ r x _ known. rw known refl) (s.reads c) os (everywhere (λ _. Unit {0}) (λ _. tt) (s.reads c)) there) (sym same)))

      module _ (a : C → O) (obeys : Obeys s Inside a) where
        pub alone : IsClosed s Inside → (k : ℕ) (c : C) (o : O) → IsGivenOr s Inside c → solved s k c ≡ Some o → a c ≡ o
        alone closed zero c o held e = obeys.given c o e
        alone closed (suc k) c o held e = by (s.given c) refl held e (alone closed k)
          where
            by : (g : Option O) → s.given c ≡ g → IsGivenOr s Inside c → option_or g (made s (solved s k) c) ≡ Some o
                → ((r : C) (x : O) → IsGivenOr s Inside r → solved s k r ≡ Some x → a r ≡ x) → a c ≡ o
            by (Some x) here held e ih = obeys.given c o (here ∙ e)
            by None none (inl some) e ih = absurd (let h = rw none at some in cc)
            by None none (inr inside) e ih =
                map_some (s.equation c) (all_there (map (solved s k) (s.reads c))) o e
                (λ os there same. obeys.equation c inside none
                ∙ ap (s.equation c) (all_agree (solved s k) a (IsGivenOr s Inside) ih (s.reads c) os (closed c inside none) there) ∙ same)

        pub made_right : (known : C → Option O) (c : C) → Inside c → s.given c ≡ None → AllByRecursion (λ r. known r ≡ Some (a r)) (s.reads c) → made s known c ≡ Some (a c)
        made_right known c inside none all = rw (all_right known a (s.reads c) all) (ap Some (sym (obeys.equation c inside none)))
