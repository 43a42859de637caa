-- Sums of products, from a place on.
use Rattle.std.proofs.Common.{◌≡◌, ◌∙◌, refl, sym, ap, ℕ, zero, suc, ◌+◌, ◌^◌, ◌<◌, ◌≤◌, ℤ, pos, negsuc, unsigned_abs, ◌+ℤ◌, ◌*ℤ◌, List, [], ◌∷◌, length, drop, Ok, Err, Result, Bool, true, false, arith, drop-cons, add-one}
use Rattle.std.specs.Prelude.{slice_index_or, ◌==◌, if◌then◌else◌}
use Rattle.std.proofs.lemmas.Bool.{lt-ltb}
use Rattle.std.proofs.lemmas.Bool.Decides.{nat_tests}
use Rattle.pb_values.specs.Checked.{checked_result}
use Rattle.pb_values.specs.declared.outcome.Kind.{Kind}
use Rattle.pb_values.specs.declared.outcome.Kind.TheVariants.{BadShape}
use Rattle.pb_model.specs.Bodies.{dot_product, if_ok, products}
use Rattle.pb_numbers.proofs.SmallLemmas.{product_small, sum_small}
use Rattle.pb_statements.specs.Places.{plus_product}

next : (l : List ℤ) (i : ℕ) → i < length l → drop i l ≡ slice_index_or l i (pos 0) ∷ drop (i + 1) l
next l i below = rw (add-one, drop-cons l i (pos 0)) refl

nested : (r : Result ℤ Kind) (g : ℤ → Result ℤ Kind) (k : ℤ → Result ℤ Kind) → if_ok r (λ p. if_ok (g p) k) ≡ if_ok (if_ok r g) k
nested (Ok a) g k = refl
nested (Err e) g k = refl

module _ (vs ws : List ℤ) where
  products_next : (i : ℕ) (total a b : ℤ) → length vs ≡ length ws → i < length vs → a ≡ slice_index_or vs i (pos 0) → b ≡ slice_index_or ws i (pos 0)
      → products total (drop i vs) (drop i ws) ≡ if_ok (plus_product total a b) (λ t. products t (drop (i + 1) vs) (drop (i + 1) ws))
  unfolding products
  products_next i total a b same below av bw =
      let bw' : i < length ws = omega arith in
      rw (next vs i below, next ws i bw', ← av, ← bw) (nested (checked_result (a *ℤ b)) (λ p. checked_result (total +ℤ p)) (λ t. products t (drop (i + 1) vs) (drop (i + 1) ws)))

  pub dot_ok : (i : ℕ) (total a b t u : ℤ) → length vs ≡ length ws → i < length vs → a ≡ slice_index_or vs i (pos 0) → b ≡ slice_index_or ws i (pos 0) → u ≡ t → plus_product total a b ≡ Ok t
      → products u (drop (i + 1) vs) (drop (i + 1) ws) ≡ products total (drop i vs) (drop i ws)
  dot_ok i total a b t u same below av bw e made = ap (λ v. products v (drop (i + 1) vs) (drop (i + 1) ws)) e ∙ sym (products_next i total a b same below av bw ∙ ap (λ r. if_ok r (λ v. products v (drop (i + 1) vs) (drop (i + 1) ws))) made)

  pub dot_err : (i : ℕ) (total a b : ℤ) (k : Kind) → length vs ≡ length ws → i < length vs → a ≡ slice_index_or vs i (pos 0) → b ≡ slice_index_or ws i (pos 0) → plus_product total a b ≡ Err k
      → Err k ≡ products total (drop i vs) (drop i ws)
  dot_err i total a b k same below av bw made = sym (products_next i total a b same below av bw ∙ ap (λ r. if_ok r (λ v. products v (drop (i + 1) vs) (drop (i + 1) ws))) made)

  pub dot_end : (i : ℕ) (total : ℤ) → length vs ≤ i → products total (drop i vs) (drop i ws) ≡ Ok total
  unfolding products
  dot_end i total past = ap (λ l. products total l (drop i ws)) (none vs i past)
    where
      none : (l : List ℤ) (i : ℕ) → length l ≤ i → drop i l ≡ []
      none [] zero past = refl
      none [] (suc i) past = refl
      none (n ∷ l) zero past = absurd (omega arith)
      none (n ∷ l) (suc i) past = none l i (omega arith)

  pub dot_start : length vs ≡ length ws → products (pos 0) (drop 0 vs) (drop 0 ws) ≡ dot_product vs ws
  dot_start same = by (length vs == length ws) (grind (arith, nat_tests))
    where
      by : (b : Bool) → b ≡ true → products (pos 0) vs ws ≡ (if b then products (pos 0) vs ws else Err BadShape)
      by b e = rw e refl

  pub dot_other : (length vs ≡ length ws → ⊥) → Err BadShape ≡ dot_product vs ws
  dot_other other = by (length vs == length ws) (grind (arith, nat_tests))
    where
      by : (b : Bool) → b ≡ false → Err BadShape ≡ (if b then products (pos 0) vs ws else Err BadShape)
      by b e = rw e refl

-- ---- small numbers
fits : (z : ℤ) → unsigned_abs z < 2 ^ 63 → checked_result z ≡ Ok z
fits (pos n) h = rw (lt-ltb n (2 ^ 63) h) refl
fits (negsuc n) h = rw (lt-ltb n (2 ^ 63) (omega (arith, h))) refl

-- a product of small numbers, added to a small sum
plus_small : (total a b : ℤ) (m : ℕ) → unsigned_abs total ≤ m → m + 2 ^ 40 < 2 ^ 63 → unsigned_abs a ≤ 2 ^ 20 → unsigned_abs b ≤ 2 ^ 20 → plus_product total a b ≡ Ok (total +ℤ a *ℤ b)
plus_small total a b m ht room ha hb =
    let p = product_small a b ha hb in
    let s = sum_small total (a *ℤ b) m (2 ^ 40) ht p in
    rw (fits (a *ℤ b) (omega (arith, p))) (fits (total +ℤ a *ℤ b) (omega (arith, s, room)))

-- and two of them
pub dot_two : (vs ws : List ℤ) (i next : ℕ) (total a b c d u : ℤ) (m : ℕ) → length vs ≡ length ws → next ≡ i + 1 + 1 → next ≤ length vs
    → a ≡ slice_index_or vs i (pos 0) → b ≡ slice_index_or ws i (pos 0) → c ≡ slice_index_or vs (i + 1) (pos 0) → d ≡ slice_index_or ws (i + 1) (pos 0)
    → unsigned_abs total ≤ m → m + 2 ^ 41 < 2 ^ 63 → unsigned_abs a ≤ 2 ^ 20 → unsigned_abs b ≤ 2 ^ 20 → unsigned_abs c ≤ 2 ^ 20 → unsigned_abs d ≤ 2 ^ 20
    → u ≡ total +ℤ a *ℤ b +ℤ c *ℤ d → products u (drop next vs) (drop next ws) ≡ products total (drop i vs) (drop i ws)
dot_two vs ws i next total a b c d u m same at within av bw cv dw ht room ha hb hc hd e =
    let half = sum_small total (a *ℤ b) m (2 ^ 40) ht (product_small a b ha hb) in
    ap (λ n. products u (drop n vs) (drop n ws)) at
    ∙ dot_ok vs ws (i + 1) (total +ℤ a *ℤ b) c d (total +ℤ a *ℤ b +ℤ c *ℤ d) u same (omega (arith, at, within)) cv dw e (plus_small (total +ℤ a *ℤ b) c d (m + 2 ^ 40) half (omega (arith, room)) hc hd)
    ∙ dot_ok vs ws i total a b (total +ℤ a *ℤ b) (total +ℤ a *ℤ b) same (omega (arith, at, within)) av bw refl (plus_small total a b m ht (omega (arith, room)) ha hb)
