-- How many numbers below a bound have a property, and one more than the greatest value at them.
use Rattle.std.proofs.Common.{◌≡◌, ◌⊎◌, refl, sym, ap, subst, inl, inr, ⊎_elim, ℕ, zero, suc, ◌+◌, ◌<◌, ◌≤◌, arith}
use Rattle.std.proofs.lemmas.Bool.{cases_eq, cases_lt}
use Rattle.pb_base.proofs.WayLemmas.{Decided}

abbrev one : {P : Type 0} → Decided P → ℕ
one d = ⊎_elim (λ _. 1) (λ _. 0) d

one-is : {P : Type 0} (d : Decided P) → (P × (one d ≡ 1)) ⊎ ((P → ⊥) × (one d ≡ 0))
one-is (inl h) = inl (h, refl)
one-is (inr h) = inr (h, refl)

module _ (A : ℕ → Type 0) (dec : (b : ℕ) → Decided (A b)) where
  -- how many below a bound
  abbrev pub rank : ℕ → ℕ
  rank zero = 0
  rank (suc b) = rank b + one (dec b)

  pub rank-small : (b : ℕ) → rank b ≤ b
  rank-small zero = omega arith
  rank-small (suc b) = let rest = rank-small b in ⊎_elim (λ h. omega (arith, h.1)) (λ h. omega (arith, h.1)) (one-is (dec b))

  pub rank-grows : (b c : ℕ) → b ≤ c → rank b ≤ rank c
  rank-grows b zero l = let e : b ≡ 0 = omega arith in let same = ap rank e in omega arith
  rank-grows b (suc c) l = ⊎_elim
      (λ (e : b ≡ suc c). let same = ap rank e in omega arith)
      (λ (ne : b ≡ suc c → ⊥). let rest = rank-grows b c (omega arith) in omega arith)
      (cases_eq b (suc c))

  pub rank-less : (b c : ℕ) → A b → b < c → rank b < rank c
  rank-less b c a l =
      let up = rank-grows (suc b) c l in
      ⊎_elim (λ h. omega (arith, h.1)) (λ h. absurd (h.0 a)) (one-is (dec b))

  -- no rank below that of the bound is left out
  pub rank-gap : (p b : ℕ) → p < rank b → (v : ℕ) × (v < b) × A v × (rank v ≡ p)
  rank-gap p zero l = absurd (omega arith)
  rank-gap p (suc b) l = ⊎_elim
      (λ (low : p < rank b). let v = rank-gap p b low in (v.0, omega (arith, v.1), v.2, v.3))
      (λ (high : rank b ≤ p). ⊎_elim (λ h. (b, omega arith, h.0, omega (arith, h.1))) (λ h. absurd (omega (arith, h.1))) (one-is (dec b)))
      (cases_lt p (rank b))

-- fewer have a stronger property
module _ (A B : ℕ → Type 0) (dec_a : (b : ℕ) → Decided (A b)) (dec_b : (b : ℕ) → Decided (B b)) (sub : (b : ℕ) → A b → B b) where
  pub rank-sub : (b : ℕ) → rank A dec_a b ≤ rank B dec_b b
  rank-sub zero = omega arith
  rank-sub (suc b) =
      let rest = rank-sub b in
      ⊎_elim
      (λ h. ⊎_elim (λ k. omega (arith, h.1, k.1)) (λ k. absurd (k.0 (sub b h.0))) (one-is (dec_b b)))
      (λ h. omega (arith, h.1))
      (one-is (dec_a b))

  pub rank-sub_less : (b w : ℕ) → w < b → B w → (A w → ⊥) → rank A dec_a b < rank B dec_b b
  rank-sub_less zero w l yes_b not_a = absurd (omega arith)
  rank-sub_less (suc b) w l yes_b not_a = ⊎_elim
      (λ (e : w ≡ b).
      let rest = rank-sub b in
      ⊎_elim (λ h. absurd (not_a (let P : ℕ → Type 0 = λ x. A x in subst P (sym e) h.0)))
      (λ h. ⊎_elim (λ k. omega (arith, h.1, k.1)) (λ k. absurd (k.0 (let P : ℕ → Type 0 = λ x. B x in subst P e yes_b))) (one-is (dec_b b)))
      (one-is (dec_a b)))
      (λ (ne : w ≡ b → ⊥).
      let rest = rank-sub_less b w (omega arith) yes_b not_a in
      ⊎_elim
      (λ h. ⊎_elim (λ k. omega (arith, h.1, k.1)) (λ k. absurd (k.0 (sub b h.0))) (one-is (dec_b b)))
      (λ h. omega (arith, h.1))
      (one-is (dec_a b)))
      (cases_eq w b)

-- ---- one more than the greatest value
pub record IsAbove (P : ℕ → Type 0) (f : ℕ → ℕ) (bound m : ℕ) : Type 0 where
  pub above : (k : ℕ) → k < bound → P k → f k < m
  pub reached : (m ≡ 0) ⊎ ((k : ℕ) × (k < bound) × P k × (m ≡ f k + 1))

pub greatest : (P : ℕ → Type 0) → ((k : ℕ) → Decided (P k)) → (f : ℕ → ℕ) (bound : ℕ) → (m : ℕ) × IsAbove P f bound m
greatest P dec f zero = (0, record { above = λ k below p. absurd (omega arith); reached = inl refl })
greatest P dec f (suc bound) =
    with_rest (greatest P dec f bound)
  where
    with_rest : ((m : ℕ) × IsAbove P f bound m) → (m : ℕ) × IsAbove P f (suc bound) m
    with_rest g = ⊎_elim
        (λ (p : P bound). ⊎_elim
        (λ (low : f bound < g.0). (g.0, record { above = λ k below q. up k below q (λ e. omega (arith, ap f e)); reached = older }))
        (λ (high : g.0 ≤ f bound). (f bound + 1, record { above = λ k below q. ⊎_elim (λ (e : k ≡ bound). omega (arith, ap f e)) (λ (ne : k ≡ bound → ⊥). let low = g.1.above k (omega arith) q in omega arith) (cases_eq k bound); reached = inr (bound, omega arith, p, refl) }))
        (cases_lt (f bound) g.0))
        (λ none. (g.0, record { above = λ k below q. up k below q (λ e. let Q : ℕ → Type 0 = P in absurd (none (subst Q e q))); reached = older }))
        (dec bound)
      where
        up : (k : ℕ) → k < suc bound → P k → (k ≡ bound → f k < g.0) → f k < g.0
        up k below q last = ⊎_elim (λ (e : k ≡ bound). last e) (λ (ne : k ≡ bound → ⊥). g.1.above k (omega arith) q) (cases_eq k bound)

        older : (g.0 ≡ 0) ⊎ ((k : ℕ) × (k < suc bound) × P k × (g.0 ≡ f k + 1))
        older = ⊎_elim (λ z. inl z) (λ r. inr (r.0, omega (arith, r.1), r.2, r.3)) g.1.reached

greatest-most : (P Q : ℕ → Type 0) (f h : ℕ → ℕ) (bound m n : ℕ) → ((k : ℕ) → k < bound → P k → Q k × (f k ≡ h k)) → IsAbove P f bound m → IsAbove Q h bound n → m ≤ n
greatest-most P Q f h bound m n like p q = ⊎_elim (λ z. omega arith) (λ r. let same = like r.0 r.1 r.2 in let low = q.above r.0 r.1 same.0 in omega (arith, r.3, same.1)) p.reached

pub greatest-same : (P Q : ℕ → Type 0) (f h : ℕ → ℕ) (bound m n : ℕ) → ((k : ℕ) → k < bound → P k → Q k × (f k ≡ h k)) → ((k : ℕ) → k < bound → Q k → P k × (h k ≡ f k)) → IsAbove P f bound m → IsAbove Q h bound n → m ≡ n
greatest-same P Q f h bound m n there back p q =
    let a = greatest-most P Q f h bound m n there p q in
    let b = greatest-most Q P h f bound n m back q p in
    omega arith
