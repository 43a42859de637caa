-- Whether a form is at most 0 at all sizes in range, by a count of few sizes.
use Rattle.std.proofs.Common.{◌≡◌, refl, sym, ◌∙◌, subst, ℕ, zero, suc, ◌+◌, ◌-◌, ◌≤◌, ◌<◌, min, max, Bool, true, false, if◌then◌else◌, List, [], ◌∷◌, length, get_or, ℤ, pos, negsuc, int_le, int_lt, ◌≤ℤ◌, ◌<ℤ◌, IsTrue, arith}
use Rattle.std.specs.Prelude.{nat_le}
use Rattle.std.specs.List.{list_all}
use Rattle.std.proofs.lemmas.Int.{ints}
use Rattle.std.proofs.lemmas.Bool.Decides.{nat_tests}
use Rattle.pb_syntax.proofs.TestLemmas.{and_parts}
use Rattle.pb_linear.specs.Form.{numbers, value}
use Rattle.pb_linear.specs.Most.{FirstGreatest}
use Rattle.pb_linear.specs.Numbers.{Numbers, coefficient, difference, exact_value, multiple, part_of, value_before}
use Rattle.pb_linear.specs.Sizes.{InRange, le_everywhere}
use Rattle.pb_linear.specs.declared.form.Form.{Form}
use Rattle.pb_linear.specs.declared.sizes.TheConstants.{SIZE_TOP}
use Rattle.pb_linear.proofs.Parts.{first_alone, first_kept, first_taken, most_is, most_test, part-steps}
use Rattle.pb_linear.proofs.Periods.{Steps, far_is_first, near_is_first}
use Rattle.pb_linear.proofs.SizesLemmas.{le_everywhere-at, le_everywhere-difference}
use Rattle.pb_linear.proofs.Values.{exact_value-multiple, exact_value-sum}
use Rattle.pb_grid.specs.Cuts.{le}

-- the better of two sizes, and the best of so many more after the first
abbrev pub better : (ℕ → ℤ) → ℕ → ℕ → ℕ
better g b v = if int_lt (g b) (g v) then v else b

abbrev pub best : (ℕ → ℤ) → ℕ → ℕ → ℕ
best g start zero = start
best g start (suc k) = better g (best g start k) (start + suc k)

-- the best size from a least one to the top
abbrev pub place : (ℕ → ℤ) → ℕ → ℕ
place g least = better g (best g least 11) (best g (SIZE_TOP - 11) 11)

abbrev pub places : Numbers → ℕ → List ℕ → List ℕ
places n i [] = []
places n i (least ∷ ls) = place (part_of n i) least ∷ places n (suc i) ls

-- the greatest value is at most 0
abbrev pub is_low : List ℕ → Numbers → Bool
is_low ls n = int_le (value_before 8 n (places n 0 ls)) (pos 0)

-- sizes that are far from the top
abbrev pub Far : List ℕ → Type 0
Far ls = IsTrue (list_all (λ least. nat_le least (SIZE_TOP - 11)) ls)

best_is : (g : ℕ → ℤ) (start k : ℕ) → FirstGreatest g start (start + suc k) (best g start k)
best_is g start zero = first_alone g start
best_is g start (suc k) = go (int_lt (g (best g start k)) (g (start + suc k))) refl (best_is g start k)
  where
    go : (c : Bool) → int_lt (g (best g start k)) (g (start + suc k)) ≡ c → FirstGreatest g start (start + suc k) (best g start k)
        → FirstGreatest g start (start + suc (suc k)) (better g (best g start k) (start + suc k))
    go true e f =
        let less : g (best g start k) <ℤ g (start + suc k) = grind (arith, ints, e) in
        subst (λ stop. FirstGreatest g start stop (better g (best g start k) (start + suc k))) (omega arith) (first_taken g start (start + suc k) (best g start k) (better g (best g start k) (start + suc k)) f less (rw e refl))
    go false e f =
        let most : g (start + suc k) ≤ℤ g (best g start k) = grind (arith, ints, e) in
        subst (λ stop. FirstGreatest g start stop (better g (best g start k) (start + suc k))) (omega arith) (first_kept g start (start + suc k) (best g start k) (better g (best g start k) (start + suc k)) f most (rw e refl))

module _ (g : ℕ → ℤ) (c : ℤ) (least : ℕ) (steps : Steps g c) (low : least ≤ SIZE_TOP - 11) where
  first_twelve : FirstGreatest g least (min (least + 12) (SIZE_TOP + 1)) (best g least 11)
  first_twelve = subst (λ stop. FirstGreatest g least stop (best g least 11)) (omega (arith, low)) (best_is g least 11)

  last_twelve : FirstGreatest g (max least (SIZE_TOP + 1 - 12)) (SIZE_TOP + 1) (best g (SIZE_TOP - 11) 11)
  last_twelve = subst (λ start. FirstGreatest g start (SIZE_TOP + 1) (best g (SIZE_TOP - 11) 11)) (omega (arith, low)) (best_is g (SIZE_TOP - 11) 11)

  place_by : (near far : ℕ) → FirstGreatest g least (min (least + 12) (SIZE_TOP + 1)) near → FirstGreatest g (max least (SIZE_TOP + 1 - 12)) (SIZE_TOP + 1) far
      → (b : Bool) → int_lt (g near) (g far) ≡ b → FirstGreatest g least (SIZE_TOP + 1) (better g near far)
  place_by near far first last true e = rw e (far_is_first g c steps least (SIZE_TOP + 1) near far first last (grind (arith, ints, e)))
  place_by near far first last false e = rw e (near_is_first g c steps least (SIZE_TOP + 1) near far first last (grind (arith, ints, e)))

  place_is : FirstGreatest g least (SIZE_TOP + 1) (place g least)
  place_is = place_by (best g least 11) (best g (SIZE_TOP - 11) 11) first_twelve last_twelve (int_lt (g (best g least 11)) (g (best g (SIZE_TOP - 11) 11))) refl

part_place : (n : Numbers) (i least : ℕ) → least ≤ SIZE_TOP - 11 → FirstGreatest (part_of n i) least (SIZE_TOP + 1) (place (part_of n i) least)
part_place n i least low = place_is (part_of n i) _ least (part-steps (coefficient n.whole i) (coefficient n.half i) (coefficient n.third i) (coefficient n.quarter i)) low

low_of : (least : ℕ) (ls : List ℕ) → Far (least ∷ ls) → (least ≤ SIZE_TOP - 11) × Far ls
low_of least ls far =
    let both = and_parts (nat_le least (SIZE_TOP - 11)) (list_all (λ l. nat_le l (SIZE_TOP - 11)) ls) far in
    (grind (arith, nat_tests, both.0), both.1)

inside : (n : Numbers) (i : ℕ) (ls : List ℕ) → Far ls → InRange ls (places n i ls)
inside n i [] far = tt
inside n i (least ∷ ls) far =
    let both = low_of least ls far in
    let f = part_place n i least both.0 in
    (f.low, omega (arith, f.high), inside n (suc i) ls both.1)

placed : (n : Numbers) (i : ℕ) (ls : List ℕ) → Far ls → (k : ℕ) → k < length ls → FirstGreatest (part_of n (i + k)) (get_or ls k 0) (SIZE_TOP + 1) (get_or (places n i ls) k 0)
placed n i [] far k below = absurd (omega (arith, below))
placed n i (least ∷ ls) far zero below = subst (λ j. FirstGreatest (part_of n j) least (SIZE_TOP + 1) (place (part_of n i) least)) (omega arith) (part_place n i least (low_of least ls far).0)
placed n i (least ∷ ls) far (suc k) below =
    subst (λ j. FirstGreatest (part_of n j) (get_or ls k 0) (SIZE_TOP + 1) (get_or (places n (suc i) ls) k 0)) (omega arith) (placed n (suc i) ls (low_of least ls far).1 k (omega (arith, below)))

module _ (ls : List ℕ) (few : length ls ≤ 8) (far : Far ls) where
  pub low_is : (n : Numbers) → is_low ls n ≡ le_everywhere ls (exact_value n) (λ _. pos 0)
  low_is n =
      most_test (exact_value n) ls (value_before 8 n (places n 0 ls)) (places n 0 ls)
      (most_is n ls (places n 0 ls) few (inside n 0 ls far) (λ k below. subst (λ j. FirstGreatest (part_of n j) (get_or ls k 0) (SIZE_TOP + 1) (get_or (places n 0 ls) k 0)) (omega arith) (placed n 0 ls far k below)) (value_before 8 n (places n 0 ls)) refl)

  pub le_is : (a b : Form) → le ls a b ≡ is_low ls (difference (numbers a) (numbers b))
  unfolding le
  le_is a b =
      let d = difference (numbers a) (numbers b) in
      sym (le_everywhere-difference ls (value a) (value b) (exact_value d)
      (λ sizes. omega (arith, ints, exact_value-sum (numbers a) (multiple (negsuc 0) (numbers b)) sizes, exact_value-multiple (negsuc 0) (numbers b) sizes)))
      ∙ sym (low_is d)

  -- a form whose negative is at most 0 is never negative
  pub never_negative : (n : Numbers) → is_low ls (multiple (negsuc 0) n) ≡ true → (sizes : List ℕ) → InRange ls sizes → pos 0 ≤ℤ exact_value n sizes
  never_negative n e sizes range =
      let low = le_everywhere-at ls (exact_value (multiple (negsuc 0) n)) (λ _. pos 0) (sym (low_is (multiple (negsuc 0) n)) ∙ e) sizes range in
      omega (arith, ints, low, exact_value-multiple (negsuc 0) n sizes)

-- a trial
test : is_low (1 ∷ 1 ∷ 1 ∷ []) (record { constant = negsuc 0; whole = pos 0 ∷ negsuc 0 ∷ pos 0 ∷ pos 0 ∷ pos 0 ∷ pos 0 ∷ pos 0 ∷ pos 0 ∷ []; half = pos 0 ∷ pos 1 ∷ pos 0 ∷ pos 0 ∷ pos 0 ∷ pos 0 ∷ pos 0 ∷ pos 0 ∷ []; third = pos 0 ∷ pos 0 ∷ pos 0 ∷ pos 0 ∷ pos 0 ∷ pos 0 ∷ pos 0 ∷ pos 0 ∷ []; quarter = pos 0 ∷ pos 0 ∷ pos 0 ∷ pos 0 ∷ pos 0 ∷ pos 0 ∷ pos 0 ∷ pos 0 ∷ [] }) ≡ true
unfolding value_before
test = refl
