-- Functions that differ at one number.
use Rattle.std.proofs.Common.{◌≡◌, ◌∙◌, refl, sym, ap, subst, inl, inr, ◌⊎◌, ⊎_elim, ℕ, Bool, true, Option, Some, None, IsSome, arith}
use Rattle.std.specs.Prelude.{is_some}
use Rattle.std.proofs.lemmas.Bool.{cases_eq}
use Rattle.std.proofs.lemmas.Bool.Decides.{nat_tests}
use Rattle.pb_core.specs.States.{with}

module _ {X : Type 0} (f : ℕ → X) (n : ℕ) (x : X) (k : ℕ) where
  pub with-same : k ≡ n → with f n x k ≡ x
  with-same same = grind (arith, nat_tests)

  pub with-other : (k ≡ n → ⊥) → with f n x k ≡ f k
  with-other other = grind (arith, nat_tests)

  -- a fact of both is one of the changed function
  pub with-each : (P : X → Type 0) → (k ≡ n → P x) → ((k ≡ n → ⊥) → P (f k)) → P (with f n x k)
  with-each P here other = ⊎_elim
      (λ (same : k ≡ n). subst P (sym (with-same same)) (here same))
      (λ (apart : k ≡ n → ⊥). subst P (sym (with-other apart)) (other apart))
      (cases_eq k n)

-- what is there stays, and what is there was there or is new
module _ {X : Type 0} (f : ℕ → Option X) (n : ℕ) (x : X) (k : ℕ) where
  pub some-stays : IsSome (f k) → IsSome (with f n (Some x) k)
  some-stays some = with-each f n (Some x) k IsSome (λ same. refl) (λ other. some)

  pub some-was : IsSome (with f n (Some x) k) → (k ≡ n) ⊎ IsSome (f k)
  some-was = with-each f n (Some x) k (λ o. IsSome o → (k ≡ n) ⊎ IsSome (f k)) (λ same some. inl same) (λ other some. inr some)

  pub is-stays : (y : X) → f n ≡ None → f k ≡ Some y → with f n (Some x) k ≡ Some y
  is-stays y none is = with-each f n (Some x) k (λ o. o ≡ Some y) (λ same. let wrong : None ≡ Some y = sym none ∙ subst (λ j. f j ≡ Some y) same is in absurd (cc)) (λ other. is)

-- a link more
module _ (f : ℕ → ℕ → Bool) (n m : ℕ) where
  abbrev pub with_link : ℕ → ℕ → Bool
  with_link = with f n (with (f n) m true)

  pub link-new : with_link n m ≡ true
  link-new = ap (λ (row : ℕ → Bool). row m) (with-same f n (with (f n) m true) n refl) ∙ with-same (f n) m true m refl

  pub link-row : (j k : ℕ) → (j ≡ n → ⊥) → with_link j k ≡ f j k
  link-row j k other = ap (λ (row : ℕ → Bool). row k) (with-other f n (with (f n) m true) j other)

  pub link-column : (j k : ℕ) → (k ≡ m → ⊥) → with_link j k ≡ f j k
  link-column j k other = with-each f n (with (f n) m true) j (λ row. row k ≡ f j k)
      (λ same. with-other (f n) m true k other ∙ ap (λ i. f i k) (sym same))
      (λ apart. refl)

-- something is something
module _ {X : Type 0} where
  pub some-of : (o : Option X) (x : X) → o ≡ Some x → IsSome o
  some-of o x is = let some : IsSome (Some x) = refl in subst IsSome (sym is) some

  pub of-some : (o : Option X) → IsSome o → (x : X) × (o ≡ Some x)
  of-some None some = let wrong : is_some {T = X} None ≡ true = some in absurd (cc)
  of-some (Some x) some = (x, refl)

  pub none-of : (o : Option X) → (IsSome o → ⊥) → o ≡ None
  none-of None never = refl
  none-of (Some x) never = absurd (never refl)

  pub not-none : (o : Option X) → o ≡ None → IsSome o → ⊥
  not-none o none some = let there = of-some o some in let wrong : None ≡ Some there.0 = sym none ∙ there.1 in absurd (cc)
