-- How many numbers of a list pass a test.
use Rattle.std.proofs.Common.{◌≡◌, ◌∙◌, refl, sym, ap, subst, inl, inr, ℕ, zero, suc, ◌+◌, ◌≤◌, Bool, true, false, List, [], ◌∷◌, length, arith}
use Rattle.std.specs.Prelude.{filter}
use Rattle.std.specs.List.{Contains}
use Rattle.std.proofs.Math.Bool.{cond}
use Rattle.std.proofs.lemmas.Bool.Decides.{nat_tests}
use Rattle.std.proofs.lemmas.List.{get_or_default}
use Rattle.pb_base.proofs.ListLemmas.{filter_in, in_cases, in_head, in_none, in_tail}
use Rattle.pb_taskgraph.specs.Graphs.{EachOnce}
use Rattle.pb_core.specs.States.{counted}

abbrev pub one_if : Bool → ℕ
one_if b = cond b 1 0

pub once-rest : (x : ℕ) (xs : List ℕ) → EachOnce (x ∷ xs) → EachOnce xs
once-rest x xs once i j below inside same = let next : suc i ≡ suc j = once (suc i) (suc j) (omega arith) (omega arith) same in omega arith

pub once-head : (x : ℕ) (xs : List ℕ) → EachOnce (x ∷ xs) → Contains xs x → ⊥
once-head x xs once (k, below, is) = let wrong : zero ≡ suc k = once zero (suc k) (omega arith) (omega arith) (sym (get_or_default xs k 0 x below ∙ is)) in omega arith

pub one-more : (x : ℕ) (xs : List ℕ) → EachOnce xs → (Contains xs x → ⊥) → EachOnce (x ∷ xs)
one-more x xs once never zero zero a b same = refl
one-more x xs once never zero (suc j) a b same = absurd (never (j, omega arith, get_or_default xs j x 0 (omega arith) ∙ sym same))
one-more x xs once never (suc i) zero a b same = absurd (never (i, omega arith, get_or_default xs i x 0 (omega arith) ∙ same))
one-more x xs once never (suc i) (suc j) a b same = let rest : i ≡ j = once i j (omega arith) (omega arith) same in omega arith

pub once-filter : (test : ℕ → Bool) (xs : List ℕ) → EachOnce xs → EachOnce (filter test xs)
once-filter test [] once = once
once-filter test (x ∷ xs) once = go (test x) (once-filter test xs (once-rest x xs once))
  where
    go : (b : Bool) → EachOnce (filter test xs) → EachOnce (cond b (x ∷ filter test xs) (filter test xs))
    go false rest = rest
    go true rest = one-more x (filter test xs) rest (λ h. once-head x xs once (filter_in test xs x h).0)

module _ (old new : ℕ → Bool) where
  pub count-same : (xs : List ℕ) → ((x : ℕ) → Contains xs x → old x ≡ new x) → counted old xs ≡ counted new xs
  count-same [] same = refl
  count-same (x ∷ xs) same =
      let here = same x (in_head x xs) in
      let rest = count-same xs (λ y h. same y (in_tail x y xs h)) in
      ap (λ b. cond b 1 0 + counted old xs) here ∙ ap (λ n. cond (new x) 1 0 + n) rest

  -- one number more passes
  pub count-more : (n : ℕ) (xs : List ℕ) → EachOnce xs → Contains xs n → old n ≡ false → new n ≡ true → ((x : ℕ) → (x ≡ n → ⊥) → old x ≡ new x) → counted new xs ≡ counted old xs + 1
  count-more n [] once h was is same = absurd (in_none n h)
  count-more n (x ∷ xs) once h was is same = elim (in_cases x n xs h) [
    | inl here ↦
        let rest = count-same xs (λ y c. same y (λ e. once-head x xs once (subst (Contains xs) (e ∙ sym here) c))) in
        let before : old x ≡ false = ap old here ∙ was in
        let after : new x ≡ true = ap new here ∙ is in
        rw (before, after) (omega (arith, rest))
    | inr later ↦
        let rest = count-more n xs (once-rest x xs once) later was is same in
        let other : old x ≡ new x = same x (λ e. once-head x xs once (subst (Contains xs) (sym e) later)) in
        rw other (omega (arith, rest))
  ]

pub count-all : (test : ℕ → Bool) (xs : List ℕ) → ((x : ℕ) → Contains xs x → test x ≡ true) → counted test xs ≡ length xs
count-all test [] all = refl
count-all test (x ∷ xs) all = let here = all x (in_head x xs) in let rest = count-all test xs (λ y h. all y (in_tail x y xs h)) in rw here (omega (arith, rest))

pub count-most : (test : ℕ → Bool) (xs : List ℕ) → counted test xs ≤ length xs
count-most test [] = omega arith
count-most test (x ∷ xs) = let rest = count-most test xs in grind (arith, nat_tests)

-- none passes where none is counted
pub count-none : (test : ℕ → Bool) (xs : List ℕ) (x : ℕ) → counted test xs ≡ 0 → Contains xs x → test x ≡ false
count-none test [] x none h = absurd (in_none x h)
count-none test (y ∷ xs) x none h = elim (in_cases y x xs h) [
  | inl same ↦ ap test (sym same) ∙ first (test y) (counted test xs) none
  | inr later ↦ count-none test xs x (rest (test y) (counted test xs) none) later
]
  where
    first : (b : Bool) (n : ℕ) → cond b 1 0 + n ≡ 0 → b ≡ false
    first false n e = refl
    first true n e = absurd (omega arith)

    rest : (b : Bool) (n : ℕ) → cond b 1 0 + n ≡ 0 → n ≡ 0
    rest b n e = omega arith

pub none-count : (test : ℕ → Bool) (xs : List ℕ) → ((x : ℕ) → Contains xs x → test x ≡ false) → counted test xs ≡ 0
none-count test [] none = refl
none-count test (x ∷ xs) none = let here = none x (in_head x xs) in let rest = none-count test xs (λ y h. none y (in_tail x y xs h)) in rw here (omega (arith, rest))
