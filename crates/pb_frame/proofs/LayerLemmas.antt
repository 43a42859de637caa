-- Parts by their layers.
use Rattle.std.proofs.Common.{◌≡◌, ◌≢◌, ◌∙◌, refl, sym, ap, ℕ, zero, suc, ◌+◌, ◌<◌, ◌≤◌, Bool, true, false, List, [], ◌∷◌, ◌++◌, map, arith}
use Rattle.std.specs.Prelude.{◌==◌, slice_index, slice_index_or, slice_set}
use Rattle.std.specs.List.{range_with_len}
use Rattle.std.proofs.Math.Bool.{cond}
use Rattle.std.proofs.lemmas.Bool.{eq-eqb, eqb-true}
use Rattle.pb_graph.specs.Layerings.{LayeringValue}
use Rattle.pb_frame.specs.Frames.{in_layer, is_in_layer}
use Rattle.pb_frame.specs.declared.part.FramePart.{FramePart}

-- ---- one element of a list that is made from a range
module _ {A : Type 0} (f g : ℕ → A) where
  same_from : (s n : ℕ) → ((j : ℕ) → s ≤ j → f j ≡ g j) → map f (range_with_len s n) ≡ map g (range_with_len s n)
  same_from s zero same = refl
  same_from s (suc n) same = rw (same s (omega arith), same_from (s + 1) n (λ j h. same j (omega (arith, h)))) refl

  set_at : (s n l : ℕ) (v : A) → l < n → v ≡ g (s + l) → ((j : ℕ) → (j ≢ s + l) → f j ≡ g j) → slice_set (map f (range_with_len s n)) l v ≡ map g (range_with_len s n)
  set_at s zero l v below here other = absurd (omega (arith, below))
  set_at s (suc n) zero v below here other = rw (here ∙ (let e : s + 0 ≡ s = omega arith in ap g e), same_from (s + 1) n (λ j h. other j (λ e. omega (arith, h, e)))) refl
  set_at s (suc n) (suc l) v below here other = rw (other s (λ e. omega (arith, e)), set_at (s + 1) n l v (omega (arith, below)) (here ∙ (let e : s + suc l ≡ (s + 1) + l = omega arith in ap g e)) (λ j h. other j (λ e. h (omega (arith, e))))) refl

  pub at_of : (s n l : ℕ) (d : A) → l < n → slice_index_or (map f (range_with_len s n)) l d ≡ f (s + l)
  at_of s zero l d below = absurd (omega (arith, below))
  at_of s (suc n) zero d below = let e : s ≡ s + 0 = omega arith in ap f e
  at_of s (suc n) (suc l) d below = at_of (s + 1) n l d (omega (arith, below)) ∙ (let e : (s + 1) + l ≡ s + suc l = omega arith in ap f e)

-- ---- a part more
module _ (order : LayeringValue) where
  one_more : (ps : List FramePart) (p : FramePart) (j : ℕ) → in_layer order (ps ++ p ∷ []) j ≡ in_layer order ps j ++ cond (is_in_layer order j p) (p ∷ []) []
  one_more [] p j = refl
  one_more (q ∷ ps) p j = by (is_in_layer order j q) (one_more ps p j)
    where
      by : (b : Bool) → in_layer order (ps ++ p ∷ []) j ≡ in_layer order ps j ++ cond (is_in_layer order j p) (p ∷ []) [] → cond b (q ∷ in_layer order (ps ++ p ∷ []) j) (in_layer order (ps ++ p ∷ []) j) ≡ cond b (q ∷ in_layer order ps j) (in_layer order ps j) ++ cond (is_in_layer order j p) (p ∷ []) []
      by true e = ap (λ l. q ∷ l) e
      by false e = e

  pub put_more : (n : ℕ) (ps qs : List FramePart) (p : FramePart) (old new : List (List FramePart)) → qs ≡ ps ++ p ∷ [] → slice_index order.layer p.node < n → old ≡ map (in_layer order ps) (range_with_len 0 n)
      → new ≡ slice_set old (slice_index order.layer p.node) (slice_index_or old (slice_index order.layer p.node) [] ++ p ∷ []) → new ≡ map (in_layer order qs) (range_with_len 0 n)
  put_more n ps qs p old new more below is e =
      let l = slice_index order.layer p.node in
      let here : in_layer order (ps ++ p ∷ []) l ≡ in_layer order ps l ++ p ∷ [] = one_more ps p l ∙ ap (λ b. in_layer order ps l ++ cond b (p ∷ []) []) (eq-eqb l l refl) in
      let other : (j : ℕ) → (j ≢ 0 + l) → in_layer order ps j ≡ in_layer order (ps ++ p ∷ []) j = λ j h. sym (one_more ps p j ∙ ap (λ b. in_layer order ps j ++ cond b (p ∷ []) []) (isnt l j (λ k. h (omega (arith, k)))) ∙ append-nil (in_layer order ps j)) in
      e ∙ ap (λ o. slice_set o l (slice_index_or o l [] ++ p ∷ [])) is
      ∙ ap (λ v. slice_set (map (in_layer order ps) (range_with_len 0 n)) l (v ++ p ∷ [])) (at_of (in_layer order ps) (in_layer order ps) 0 n l [] below ∙ (let e : 0 + l ≡ l = omega arith in ap (in_layer order ps) e))
      ∙ set_at (in_layer order ps) (in_layer order (ps ++ p ∷ [])) 0 n l (in_layer order ps l ++ p ∷ []) below (sym here ∙ (let e : l ≡ 0 + l = omega arith in ap (in_layer order (ps ++ p ∷ [])) e)) other
      ∙ ap (λ q. map (in_layer order q) (range_with_len 0 n)) (sym more)
    where
      isnt : (m j : ℕ) → (m ≢ j) → (m == j) ≡ false
      isnt m j h = by (m == j) refl
        where
          by : (b : Bool) → (m == j) ≡ b → b ≡ false
          by true e = absurd (h (eqb-true m j e))
          by false e = refl

      append-nil : {A : Type 0} (xs : List A) → xs ++ [] ≡ xs
      append-nil [] = refl
      append-nil (x ∷ xs) = ap (λ l. x ∷ l) (append-nil xs)
