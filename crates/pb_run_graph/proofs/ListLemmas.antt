-- Lists that are gone through side by side, and what is made of them one after another.
use Rattle.std.proofs.Common.{◌≡◌, ◌∙◌, refl, sym, ap, subst, ⊎_elim, inl, inr, ◌⊎◌, ℕ, zero, suc, ◌+◌, ◌≤◌, ◌<◌, List, [], ◌∷◌, ◌++◌, drop, length, map, slice_get, Some, None, arith}
use Rattle.std.specs.List.{AllZip, range_with_len}
use Rattle.pb_check.proofs.FirstLemmas.{some_same}

-- ---- what is left of a list
left_here : {A : Type 0} (n : ℕ) (xs : List A) (x : A) (rest : List A) → drop n xs ≡ x ∷ rest → (slice_get xs n ≡ Some x) × (drop (n + 1) xs ≡ rest)
left_here zero [] x rest e = absurd (omega (arith, ap length e))
left_here zero (y ∷ xs) x rest e = (ap (λ l. slice_get l 0) e, ap (drop 1) e)
left_here (suc n) [] x rest e = absurd (omega (arith, ap length e))
left_here (suc n) (y ∷ xs) x rest e = let h = left_here n xs x rest e in (h.0, (let at : suc n + 1 ≡ suc (n + 1) = omega arith in ap (λ k. drop k (y ∷ xs)) at) ∙ h.1)

none_left : {A : Type 0} (n : ℕ) (xs : List A) → length (drop n xs) ≡ 0 → length xs ≤ n
none_left zero xs e = omega (arith, e)
none_left (suc n) [] e = omega arith
none_left (suc n) (y ∷ xs) e = omega (arith, none_left n xs e)

pub below_length : {A : Type 0} (xs : List A) (k : ℕ) (x : A) → slice_get xs k ≡ Some x → k < length xs
below_length [] k x e = absurd (let wrong : None ≡ Some x = e in cc)
below_length (y ∷ xs) zero x e = omega arith
below_length (y ∷ xs) (suc k) x e = omega (arith, below_length xs k x e)

last_or_before : {A : Type 0} (ys : List A) (y z : A) (k : ℕ) → slice_get (ys ++ y ∷ []) k ≡ Some z → (slice_get ys k ≡ Some z) ⊎ ((k ≡ length ys) × (y ≡ z))
last_or_before [] y z zero e = inr (refl, some_same y z e)
last_or_before [] y z (suc k) e = absurd (cc)
last_or_before (x ∷ ys) y z zero e = inl e
last_or_before (x ∷ ys) y z (suc k) e = ⊎_elim (λ early. inl early) (λ late. inr (omega (arith, late.0), late.1)) (last_or_before ys y z k e)

longer : {A : Type 0} (ys : List A) (y : A) → length (ys ++ y ∷ []) ≡ length ys + 1
longer [] y = omega arith
longer (x ∷ ys) y = omega (arith, longer ys y)

-- ---- three lists side by side
module _ {A B C D : Type 0} (R : A → B → C → D → Type 0) (xs : List A) (ys : List B) (zs : List C) where
  -- what is made of the first of each, and what is left
  pub record AreSome (xs_left : List A) (ys_left : List B) (zs_left : List C) (made : List D) : Type 0 where
    pub short : length made ≤ length xs
    pub of_xs : drop (length made) xs ≡ xs_left
    pub of_ys : drop (length made) ys ≡ ys_left
    pub of_zs : drop (length made) zs ≡ zs_left
    pub each : (k : ℕ) (x : A) (y : B) (z : C) (d : D) → slice_get xs k ≡ Some x → slice_get ys k ≡ Some y → slice_get zs k ≡ Some z → slice_get made k ≡ Some d → R x y z d

  pub none_yet : AreSome xs ys zs []
  none_yet = record { short = omega arith; of_xs = refl; of_ys = refl; of_zs = refl; each = λ k x y z d at_x at_y at_z none. absurd (let wrong : None ≡ Some d = none in cc) }

  pub one_more : (xs_left xs_rest : List A) (ys_left ys_rest : List B) (zs_left zs_rest : List C) (made more : List D) (x : A) (y : B) (z : C) (d : D) → AreSome xs_left ys_left zs_left made
      → xs_left ≡ x ∷ xs_rest → ys_left ≡ y ∷ ys_rest → zs_left ≡ z ∷ zs_rest → more ≡ made ++ d ∷ [] → R x y z d → AreSome xs_rest ys_rest zs_rest more
  one_more xs_left xs_rest ys_left ys_rest zs_left zs_rest made more x y z d h of_x of_y of_z e is =
      let n = length made in
      let long : length (made ++ d ∷ []) ≡ n + 1 = longer made d in
      let at_x = left_here n xs x xs_rest (h.of_xs ∙ of_x) in
      let at_y = left_here n ys y ys_rest (h.of_ys ∙ of_y) in
      let at_z = left_here n zs z zs_rest (h.of_zs ∙ of_z) in
      subst (AreSome xs_rest ys_rest zs_rest) (sym e) (record {
        short = omega (arith, long, below_length xs n x at_x.0);
        of_xs = ap (λ k. drop k xs) long ∙ at_x.1;
        of_ys = ap (λ k. drop k ys) long ∙ at_y.1;
        of_zs = ap (λ k. drop k zs) long ∙ at_z.1;
        each = λ k x2 y2 z2 d2 there_x there_y there_z there. ⊎_elim
            (λ early. h.each k x2 y2 z2 d2 there_x there_y there_z early)
            (λ late.
            let same_x = some_same x x2 (sym at_x.0 ∙ ap (slice_get xs) (sym late.0) ∙ there_x) in
            let same_y = some_same y y2 (sym at_y.0 ∙ ap (slice_get ys) (sym late.0) ∙ there_y) in
            let same_z = some_same z z2 (sym at_z.0 ∙ ap (slice_get zs) (sym late.0) ∙ there_z) in
            subst (λ q. R q y2 z2 d2) same_x (subst (λ q. R x q z2 d2) same_y (subst (λ q. R x y q d2) same_z (subst (R x y z) late.1 is))))
            (last_or_before made d d2 k there);
      })

  pub as_many : (xs_left : List A) (ys_left : List B) (zs_left : List C) (made : List D) → AreSome xs_left ys_left zs_left made → ((length xs_left ≡ 0) ⊎ (length ys_left ≡ 0)) ⊎ (length zs_left ≡ 0) → length xs ≤ length ys → length xs ≤ length zs → length xs ≤ length made
  as_many xs_left ys_left zs_left made h (inl (inl e)) ys_long zs_long = none_left (length made) xs (ap length h.of_xs ∙ e)
  as_many xs_left ys_left zs_left made h (inl (inr e)) ys_long zs_long = omega (arith, none_left (length made) ys (ap length h.of_ys ∙ e), ys_long)
  as_many xs_left ys_left zs_left made h (inr e) ys_long zs_long = omega (arith, none_left (length made) zs (ap length h.of_zs ∙ e), zs_long)

-- ---- numbers from 0 on
pub numbered : {A : Type 0} (f : ℕ → A) (m n k : ℕ) → k < n → slice_get (map f (range_with_len m n)) k ≡ Some (f (m + k))
numbered f m zero k below = absurd (omega (arith, below))
numbered f m (suc n) zero below = ap (λ j. Some (f j)) (omega arith)
numbered f m (suc n) (suc k) below = numbered f (m + 1) n k (omega (arith, below)) ∙ ap (λ j. Some (f j)) (let e : (m + 1) + k ≡ m + suc k = omega arith in e)

pub mapped_zip : {A B C : Type 0} (f : A → B) (R : B → C → Type 0) (xs : List A) (ys : List C) → AllZip (λ x y. R (f x) y) xs ys → AllZip R (map f xs) ys
mapped_zip f R [] [] h = tt
mapped_zip f R [] (y ∷ ys) h = absurd h
mapped_zip f R (x ∷ xs) [] h = absurd h
mapped_zip f R (x ∷ xs) (y ∷ ys) h = (h.0, mapped_zip f R xs ys h.1)
