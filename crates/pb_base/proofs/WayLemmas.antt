-- Whether links lead from one node to another is decided, where all links are among so many nodes.
use Rattle.std.proofs.Common.{◌≡◌, ◌⊎◌, refl, subst, inl, inr, ⊎_elim, ℕ, zero, suc, ◌<◌, arith}
use Rattle.std.proofs.lemmas.Bool.{cases_eq}
use Rattle.pb_base.specs.Reach.{Reach}
use Rattle.pb_base.specs.Reach.Reach.{here, along}
use Rattle.pb_base.proofs.ReachLemmas.{reach-link, reach-trans}

-- a fact holds or doesn't
abbrev pub Decided : Type 0 → Type 0
Decided P = P ⊎ (P → ⊥)

pub decided-and : {P Q : Type 0} → Decided P → Decided Q → Decided (P × Q)
decided-and p q = ⊎_elim (λ a. ⊎_elim (λ b. inl (a, b)) (λ no_b. inr (λ h. no_b h.1)) q) (λ no_a. inr (λ h. no_a h.0)) p

pub decided-or : {P Q : Type 0} → Decided P → Decided Q → Decided (P ⊎ Q)
decided-or p q = ⊎_elim (λ a. inl (inl a)) (λ no_a. ⊎_elim (λ b. inl (inr b)) (λ no_b. inr (λ h. ⊎_elim no_a no_b h)) q) p

pub decided-not : {P : Type 0} → Decided P → Decided (P → ⊥)
decided-not p = ⊎_elim (λ a. inr (λ no_a. no_a a)) (λ no_a. inl no_a) p

-- some number below a bound has a property, or none has; and there is a first
pub first-below : (P : ℕ → Type 0) → ((k : ℕ) → Decided (P k)) → (bound : ℕ) → ((k : ℕ) × (k < bound) × P k × ((j : ℕ) → j < k → P j → ⊥)) ⊎ ((k : ℕ) → k < bound → P k → ⊥)
first-below P dec zero = inr (λ k below p. absurd (omega arith))
first-below P dec (suc bound) = ⊎_elim
    (λ f. inl (f.0, omega (arith, f.1), f.2, f.3))
    (λ none. ⊎_elim
    (λ p. inl (bound, omega arith, p, none))
    (λ not_here. inr (λ k below p. ⊎_elim (λ (e : k ≡ bound). not_here (subst P e p)) (λ (ne : k ≡ bound → ⊥). none k (omega arith) p) (cases_eq k bound)))
    (dec bound))
    (first-below P dec bound)

pub decided-below : (P : ℕ → Type 0) → ((k : ℕ) → Decided (P k)) → (bound : ℕ) → Decided ((k : ℕ) × (k < bound) × P k)
decided-below P dec bound = ⊎_elim (λ f. inl (f.0, f.1, f.2)) (λ none. inr (λ h. none h.0 h.1 h.2)) (first-below P dec bound)

-- ---- ways whose nodes between the ends are below a bound (Warshall 1962)
module _ (L : ℕ → ℕ → Type 0) (dec : (u v : ℕ) → Decided (L u v)) where
  abbrev Way : ℕ → ℕ → ℕ → Type 0
  Way zero u v = (u ≡ v) ⊎ L u v
  Way (suc k) u v = Way k u v ⊎ (Way k u k × Way k k v)

  decided-way : (k u v : ℕ) → Decided (Way k u v)
  decided-way zero u v = decided-or (cases_eq u v) (dec u v)
  decided-way (suc k) u v = decided-or (decided-way k u v) (decided-and (decided-way k u k) (decided-way k k v))

  way-sound : (k u v : ℕ) → Way k u v → Reach ℕ L u v
  way-sound zero u v w = ⊎_elim (λ e. let P : ℕ → Type 0 = λ x. Reach ℕ L u x in subst P e here) (λ l. reach-link L u v l) w
  way-sound (suc k) u v w = ⊎_elim (λ p. way-sound k u v p) (λ p. reach-trans L u k v (way-sound k u k p.0) (way-sound k k v p.1)) w

  way-start : (k u v : ℕ) → ((u ≡ v) ⊎ L u v) → Way k u v
  way-start zero u v w = w
  way-start (suc k) u v w = inl (way-start k u v w)

  -- through a node below the bound
  way-through : (k u w v : ℕ) → w < k → Way k u w → Way k w v → Way k u v
  way-through zero u w v below p q = absurd (omega arith)
  way-through (suc k) u w v below p q = ⊎_elim
      (λ (e : w ≡ k).
      let P : ℕ → Type 0 = λ x. Way (suc k) u x in
      let Q : ℕ → Type 0 = λ x. Way (suc k) x v in
      inr (⊎_elim (λ a. a) (λ a. a.0) (subst P e p), ⊎_elim (λ a. a) (λ a. a.1) (subst Q e q)))
      (λ (ne : w ≡ k → ⊥).
      let low : w < k = omega arith in
      ⊎_elim
      (λ a. ⊎_elim (λ b. inl (way-through k u w v low a b)) (λ b. inr (way-through k u w k low a b.0, b.1)) q)
      (λ a. ⊎_elim (λ b. inr (a.0, way-through k k w v low a.1 b)) (λ b. inr (a.0, b.1)) q)
      p)
      (cases_eq w k)

  way-all : (nodes : ℕ) → ((u v : ℕ) → L u v → v < nodes) → (u v : ℕ) → Reach ℕ L u v → Way nodes u v
  way-all nodes inside u v here = way-start nodes u v (inl refl)
  way-all nodes inside u v (along {v = w} l p) = way-through nodes u w v (inside u w l) (way-start nodes u w (inr l)) (way-all nodes inside w v p)

  pub decided-reach : (nodes : ℕ) → ((u v : ℕ) → L u v → v < nodes) → (u v : ℕ) → Decided (Reach ℕ L u v)
  decided-reach nodes inside u v = ⊎_elim (λ w. inl (way-sound nodes u v w)) (λ none. inr (λ p. none (way-all nodes inside u v p))) (decided-way nodes u v)
