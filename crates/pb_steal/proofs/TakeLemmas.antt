-- Tries to steal, one after another.
use Rattle.std.proofs.Common.{◌≡◌, ◌∙◌, ap, sym, subst, ⊎_elim, ℕ, suc, ◌+◌, ◌<◌, ◌≤◌, List, [], ◌∷◌, length, get_or, set, arith}
use Rattle.std.specs.List.{AllZip, sum_by}
use Rattle.std.proofs.Math.Seq.{map-set_same}
use Rattle.std.proofs.lemmas.Bool.{cases_eq}
use Rattle.std.proofs.lemmas.List.{get_or_default, get_or-set_other, get_or-set_same}
use Rattle.std.proofs.lemmas.List.Sums.{sum_by-set}
use Rattle.pb_steal.specs.Deques.{FindsNone, SourceValue}
use Rattle.pb_steal.specs.Turns.{AreSame}

abbrev pub took : SourceValue → ℕ
took s = s.took

-- one source was tried
module _ (first xs : List SourceValue) (k : ℕ) (old new : SourceValue) (below : k < length xs) (is : old ≡ get_or xs k old) where
  pub tried-same : AreSame first xs → new.deque ≡ old.deque → AreSame first (set xs k new)
  tried-same same deque = map-set_same (λ (s : SourceValue). s.deque) xs k new old (deque ∙ ap (λ (s : SourceValue). s.deque) is) ∙ same

  pub tried-took : (n : ℕ) → sum_by took xs ≡ sum_by took first → new.took ≡ old.took + n → sum_by took (set xs k new) ≡ sum_by took first + n
  tried-took n before now =
      let here : old.took ≡ (get_or xs k old).took = ap took is in
      omega (arith, sum_by-set took xs k new old below, before, now, here)

  -- it found none, as those before
  pub tried-more : ((i : ℕ) (d : SourceValue) → i < k → FindsNone (get_or first i d) (get_or xs i d)) → ((i : ℕ) (d : SourceValue) → k ≤ i → get_or xs i d ≡ get_or first i d) → FindsNone old new
      → (i : ℕ) (d : SourceValue) → i < k + 1 → FindsNone (get_or first i d) (get_or (set xs k new) i d)
  tried-more before rest none i d within = ⊎_elim
      (λ (this : i ≡ k). subst (λ j. FindsNone (get_or first j d) (get_or (set xs k new) j d)) (sym this)
      (subst (λ s. FindsNone s (get_or (set xs k new) k d)) (is ∙ get_or_default xs k old d below ∙ rest k d (omega arith))
      (subst (FindsNone old) (sym (get_or-set_same xs k new d below)) none)))
      (λ (other : i ≡ k → ⊥). subst (FindsNone (get_or first i d)) (sym (get_or-set_other xs k i new d other)) (before i d (omega (arith, other, within))))
      (cases_eq i k)

-- each pair at one place
pub zip-each : {A : Type 0} (R : A → A → Type 0) (xs ys : List A) → length ys ≡ length xs → ((i : ℕ) (d : A) → i < length xs → R (get_or xs i d) (get_or ys i d)) → AllZip R xs ys
zip-each R [] [] size each = tt
zip-each R [] (y ∷ ys) size each = absurd (omega (arith, size))
zip-each R (x ∷ xs) [] size each = absurd (omega (arith, size))
zip-each R (x ∷ xs) (y ∷ ys) size each = (each 0 x (omega arith), zip-each R xs ys (omega (arith, size)) (λ i d below. each (suc i) d (omega (arith, below))))
