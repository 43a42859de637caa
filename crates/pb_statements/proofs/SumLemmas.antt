-- Sums over rows, from a place on.
use Rattle.std.proofs.Common.{◌≡◌, ◌∙◌, refl, sym, ap, ℕ, zero, suc, ◌+◌, ◌-◌, ◌<◌, ◌≤◌, ℤ, pos, ◌+ℤ◌, List, [], ◌∷◌, ◌++◌, map, Ok, Err, Result, arith}
use Rattle.std.specs.List.{flat_map, range_with_len}
use Rattle.pb_values.specs.Checked.{checked_result}
use Rattle.pb_values.specs.declared.outcome.Kind.{Kind}
use Rattle.pb_model.specs.Bodies.{if_ok, summed}
use Rattle.pb_statements.specs.Places.{row_from, row_of, rows_from, rows_of}

pub range_next : (x w : ℕ) → x < w → range_with_len x (w - x) ≡ x ∷ range_with_len (x + 1) (w - (x + 1))
range_next x w below = let e : w - x ≡ suc (w - (x + 1)) = omega arith in rw e refl

pub range_end : (x w : ℕ) → w ≤ x → range_with_len x (w - x) ≡ []
range_end x w past = let e : w - x ≡ 0 = omega arith in rw e refl

module _ (f : ℕ → ℕ → ℤ) (w : ℕ) where
  row_next : (y x : ℕ) → x < w → row_from f w y x ≡ f x y ∷ row_from f w y (x + 1)
  unfolding row_from
  row_next y x below = ap (map (λ i. f i y)) (range_next x w below)

  pub row_start : (y : ℕ) → row_from f w y 0 ≡ row_of f w y
  unfolding row_from row_of
  row_start y = let e : w - 0 ≡ w = omega arith in ap (λ n. map (λ i. f i y) (range_with_len 0 n)) e

  pub row_end : (y x : ℕ) (total : ℤ) → w ≤ x → summed total (row_from f w y x) ≡ Ok total
  unfolding summed row_from
  row_end y x total past = ap (λ l. summed total (map (λ i. f i y) l)) (range_end x w past)

  row_sum : (y x : ℕ) (total n : ℤ) → x < w → n ≡ f x y → summed total (row_from f w y x) ≡ if_ok (checked_result (total +ℤ n)) (λ t. summed t (row_from f w y (x + 1)))
  unfolding summed
  row_sum y x total n below is = ap (summed total) (row_next y x below) ∙ ap (λ m. if_ok (checked_result (total +ℤ m)) (λ t. summed t (row_from f w y (x + 1)))) (sym is)

  pub row_ok : (y x : ℕ) (total n t u : ℤ) → x < w → n ≡ f x y → u ≡ t → checked_result (total +ℤ n) ≡ Ok t → summed u (row_from f w y (x + 1)) ≡ summed total (row_from f w y x)
  row_ok y x total n t u below is same made = ap (λ v. summed v (row_from f w y (x + 1))) same ∙ sym (row_sum y x total n below is ∙ ap (λ r. if_ok r (λ v. summed v (row_from f w y (x + 1)))) made)

  pub row_err : (y x : ℕ) (total n : ℤ) (k : Kind) → x < w → n ≡ f x y → checked_result (total +ℤ n) ≡ Err k → Err k ≡ summed total (row_from f w y x)
  row_err y x total n k below is made = sym (row_sum y x total n below is ∙ ap (λ r. if_ok r (λ v. summed v (row_from f w y (x + 1)))) made)

  appended : (l rest : List ℤ) (r : Result ℤ Kind) → ((t : ℤ) → summed t (l ++ rest) ≡ if_ok (summed t l) (λ u. summed u rest)) → if_ok r (λ t. summed t (l ++ rest)) ≡ if_ok (if_ok r (λ t. summed t l)) (λ t. summed t rest)
  appended l rest (Ok t) h = h t
  appended l rest (Err k) h = refl

  summed-append : (total : ℤ) (l rest : List ℤ) → summed total (l ++ rest) ≡ if_ok (summed total l) (λ t. summed t rest)
  unfolding summed
  summed-append total [] rest = refl
  summed-append total (n ∷ l) rest = appended l rest (checked_result (total +ℤ n)) (λ t. summed-append t l rest)

  module _ (h : ℕ) where
    rows_next : (y : ℕ) → y < h → rows_from f w h y ≡ row_of f w y ++ rows_from f w h (y + 1)
    unfolding rows_from
    rows_next y below = ap (flat_map (row_of f w)) (range_next y h below)

    pub rows_start : rows_from f w h 0 ≡ rows_of f w h
    unfolding rows_from rows_of
    rows_start = let e : h - 0 ≡ h = omega arith in ap (λ n. flat_map (row_of f w) (range_with_len 0 n)) e

    pub rows_end : (y : ℕ) (total : ℤ) → h ≤ y → summed total (rows_from f w h y) ≡ Ok total
    unfolding summed rows_from
    rows_end y total past = ap (λ l. summed total (flat_map (row_of f w) l)) (range_end y h past)

    rows_sum : (y : ℕ) (total : ℤ) → y < h → summed total (rows_from f w h y) ≡ if_ok (summed total (row_of f w y)) (λ t. summed t (rows_from f w h (y + 1)))
    rows_sum y total below = ap (summed total) (rows_next y below) ∙ summed-append total (row_of f w y) (rows_from f w h (y + 1))

    pub rows_ok : (y : ℕ) (total t u : ℤ) → y < h → u ≡ t → summed total (row_of f w y) ≡ Ok t → summed u (rows_from f w h (y + 1)) ≡ summed total (rows_from f w h y)
    rows_ok y total t u below same made = ap (λ v. summed v (rows_from f w h (y + 1))) same ∙ sym (rows_sum y total below ∙ ap (λ r. if_ok r (λ v. summed v (rows_from f w h (y + 1)))) made)

    pub rows_err : (y : ℕ) (total : ℤ) (k : Kind) → y < h → summed total (row_of f w y) ≡ Err k → Err k ≡ summed total (rows_from f w h y)
    rows_err y total k below made = sym (rows_sum y total below ∙ ap (λ r. if_ok r (λ v. summed v (rows_from f w h (y + 1)))) made)

  pub rows_none : (h : ℕ) → w ≡ 0 → summed (pos 0) (rows_of f w h) ≡ Ok (pos 0)
  unfolding summed rows_of row_of
  rows_none h e = none 0 h
    where
      none : (k n : ℕ) → summed (pos 0) (flat_map (row_of f w) (range_with_len k n)) ≡ Ok (pos 0)
      none k zero = refl
      none k (suc n) = ap (λ m. summed (pos 0) (map (λ i. f i k) (range_with_len 0 m) ++ flat_map (row_of f w) (range_with_len (k + 1) n))) e ∙ none (k + 1) n

pub summed_same : (a b : ℤ) (l : List ℤ) (r : Result ℤ Kind) → a ≡ b → r ≡ summed a l → r ≡ summed b l
summed_same a b l r e h = h ∙ ap (λ v. summed v l) e
