-- Sizes as a list, sizes in range, and tests at every sizes in range.
use Rattle.std.proofs.Common.{inl, inr, ◌≡◌, ℕ, zero, suc, ◌+◌, ◌-◌, ◌<◌, ◌≤◌, Bool, IsTrue, List, [], ◌∷◌, get_or, take, length, ℤ, pos, ◌-ℤ◌, ◌≤ℤ◌, int_le, refl, sym, ap, ◌∙◌, arith}
use Rattle.std.specs.List.{range_with_len, All}
use Rattle.std.proofs.lemmas.Bool.{cases_lt}
use Rattle.std.proofs.lemmas.Bool.Decides.{same_from_decides}
use Rattle.std.proofs.lemmas.Grind.{get_or_default_zero}
use Rattle.std.proofs.lemmas.List.{get_or-take, get_or_past, length-take-le}
use Rattle.std.proofs.lemmas.List.FromFn.{get_or-range_with_len, length-range_with_len}
use Rattle.std.proofs.lemmas.List.Sums.{AllPass-from_list_all, list_all-from_AllPass}
use Rattle.pb_linear.specs.Limits.{is_zero_from}
use Rattle.std.proofs.lemmas.Int.{ints}
use Rattle.pb_linear.specs.Sizes.{InRange, everywhere, le_everywhere, sizes_of}
use Rattle.pb_linear.specs.declared.sizes.Sizes.{Sizes}
use Rattle.pb_linear.specs.declared.sizes.TheConstants.{SIZE_TOP}

-- ---- zeros past the count
zero_everywhere : (xs : List ℕ) → IsTrue (is_zero_from 0 xs) → (i : ℕ) → get_or xs i 0 ≡ 0
zero_everywhere [] z i = refl
zero_everywhere (x ∷ xs) z zero = grind arith
zero_everywhere (x ∷ xs) z (suc i) = zero_everywhere xs (grind arith) i

-- the list of the sizes has the entries of the whole array
pub size_at : (count : ℕ) (of : List ℕ) → IsTrue (is_zero_from count of) → (i : ℕ) → get_or (take count of) i 0 ≡ get_or of i 0
size_at zero of z i = sym (zero_everywhere of z i)
size_at (suc n) [] z i = refl
size_at (suc n) (x ∷ xs) z zero = refl
size_at (suc n) (x ∷ xs) z (suc i) = size_at n xs z i

pub zeros_from : (count : ℕ) (of : List ℕ) → ((k : ℕ) → count ≤ k → get_or of k 0 ≡ 0) → IsTrue (is_zero_from count of)
zeros_from zero [] z = refl
zeros_from zero (x ∷ xs) z = let here : x ≡ 0 = z 0 (omega arith) in rw here (zeros_from zero xs (λ k h. z (suc k) (omega arith)))
zeros_from (suc n) [] z = refl
zeros_from (suc n) (x ∷ xs) z = zeros_from n xs (λ k h. z (suc k) (omega arith))

-- ---- sizes in range
pub InRange-length : (ls vs : List ℕ) → InRange ls vs → length vs ≡ length ls
InRange-length [] [] r = refl
InRange-length [] (v ∷ vs) r = absurd r
InRange-length (l ∷ ls) [] r = absurd r
InRange-length (l ∷ ls) (v ∷ vs) r = ap suc (InRange-length ls vs r.2)

pub InRange-at : (ls vs : List ℕ) → InRange ls vs → (i : ℕ) → i < length ls → (get_or ls i 0 ≤ get_or vs i 0) × (get_or vs i 0 ≤ SIZE_TOP)
InRange-at [] vs r i h = absurd (omega arith)
InRange-at (l ∷ ls) [] r i h = absurd r
InRange-at (l ∷ ls) (v ∷ vs) r zero h = (r.0, r.1)
InRange-at (l ∷ ls) (v ∷ vs) r (suc i) h = InRange-at ls vs r.2 i (omega arith)

pub InRange-from : (ls vs : List ℕ) → length vs ≡ length ls → ((i : ℕ) → i < length ls → (get_or ls i 0 ≤ get_or vs i 0) × (get_or vs i 0 ≤ SIZE_TOP)) → InRange ls vs
InRange-from [] [] e h = tt
InRange-from [] (v ∷ vs) e h = absurd (omega arith)
InRange-from (l ∷ ls) [] e h = absurd (omega arith)
InRange-from (l ∷ ls) (v ∷ vs) e h = ((h 0 (omega arith)).0, (h 0 (omega arith)).1, InRange-from ls vs (omega arith) (λ i k. h (suc i) (omega arith)))

-- ---- tests at every sizes
pub everywhere-at : (ls : List ℕ) (test : List ℕ → Bool) → IsTrue (everywhere ls test) → (vs : List ℕ) → InRange ls vs → IsTrue (test vs)
unfolding everywhere
everywhere-at [] test h [] r = h
everywhere-at [] test h (v ∷ vs) r = absurd r
everywhere-at (l ∷ ls) test h [] r = absurd r
everywhere-at (l ∷ ls) test h (v ∷ vs) r =
    let n : ℕ = suc SIZE_TOP - l in
    let at = get_or-range_with_len l n (v - l) 0 (omega arith) in
    let here : l + (v - l) ≡ v = omega arith in
    let pass = AllPass-from_list_all (λ size. everywhere ls (λ sizes. test (size ∷ sizes))) (range_with_len l n) h (v - l) 0 (omega (arith, length-range_with_len l n)) in
    everywhere-at ls (λ sizes. test (v ∷ sizes)) (rw (at ∙ here) at pass) vs r.2

pub everywhere-from : (ls : List ℕ) (test : List ℕ → Bool) → ((vs : List ℕ) → InRange ls vs → IsTrue (test vs)) → IsTrue (everywhere ls test)
unfolding everywhere
everywhere-from [] test h = h [] tt
everywhere-from (l ∷ ls) test h =
    let n : ℕ = suc SIZE_TOP - l in
    list_all-from_AllPass (λ size. everywhere ls (λ sizes. test (size ∷ sizes))) (range_with_len l n) (λ k d below.
    let fits : k < n = omega (arith, length-range_with_len l n) in
    rw (get_or-range_with_len l n k d fits) (everywhere-from ls (λ sizes. test ((l + k) ∷ sizes)) (λ vs r. h ((l + k) ∷ vs) (omega arith, omega arith, r))))

-- a test that is true exactly where another passes at every sizes in range
pub everywhere_is : (answer : Bool) (ls : List ℕ) (test : List ℕ → Bool) → (IsTrue answer → (vs : List ℕ) → InRange ls vs → IsTrue (test vs)) → (((vs : List ℕ) → InRange ls vs → IsTrue (test vs)) → IsTrue answer) → answer ≡ everywhere ls test
everywhere_is answer ls test sound complete =
    same_from_decides answer (everywhere ls test) (sound, complete) (everywhere-at ls test, everywhere-from ls test)

pub top_of : (count : ℕ) (of : List ℕ) → IsTrue (is_zero_from count of) → ((i : ℕ) → i < count → get_or of i 0 ≤ SIZE_TOP) → All (λ size. size ≤ SIZE_TOP) of
top_of zero of z h k d in_of = omega (arith, get_or_default_zero of k d in_of, zero_everywhere of z k)
top_of (suc n) [] z h k d in_of = absurd (omega arith)
top_of (suc n) (x ∷ xs) z h zero d in_of = h 0 (omega arith)
top_of (suc n) (x ∷ xs) z h (suc k) d in_of = top_of n xs z (λ i b. h (suc i) (omega arith)) k d (omega arith)

-- ranges and sizes as arrays with their counts
module _ (count size_count : ℕ) (least of : List ℕ) (same : count ≡ size_count) (few : size_count ≤ 8) (small : length least ≡ 8) (full : length of ≡ 8) where
  pub hold_from : ((k : ℕ) → k < count → (get_or least k 0 ≤ get_or of k 0) × (get_or of k 0 ≤ SIZE_TOP)) → InRange (take count least) (take size_count of)
  hold_from h =
      InRange-from (take count least) (take size_count of) (omega (arith, length-take-le count least (omega arith), length-take-le size_count of (omega arith))) (λ i below.
      let here : i < count = omega (arith, length-take-le count least (omega arith)) in
      let there : i < size_count = omega arith in
      rw (get_or-take count least i 0 here, get_or-take size_count of i 0 there) (h i here))

  pub hold_at : InRange (take count least) (take size_count of) → (k : ℕ) → k < count → (get_or least k 0 ≤ get_or of k 0) × (get_or of k 0 ≤ SIZE_TOP)
  hold_at r k here =
      let there : k < size_count = omega arith in
      rw (get_or-take count least k 0 here, get_or-take size_count of k 0 there) at (InRange-at (take count least) (take size_count of) r k (omega (arith, length-take-le count least (omega arith))))

-- sizes in range are at most the top, as `at` asks of them
pub in_range_top : (ls : List ℕ) (s : Sizes) → InRange ls (sizes_of s) → All (λ size. size ≤ SIZE_TOP) s.of
in_range_top ls s r =
    top_of s.count s.of s.zero_past_count (λ i below.
    let same = size_at s.count s.of s.zero_past_count i in
    elim (cases_lt i (length ls)) [
      | inl here ↦ omega (arith, same, InRange-at ls (sizes_of s) r i here)
      | inr over ↦ omega (arith, same, get_or_past (sizes_of s) i 0 (omega (arith, InRange-length ls (sizes_of s) r)))
    ])

-- ---- one value at most another everywhere
pub le_everywhere-at : (ls : List ℕ) (low high : List ℕ → ℤ) → IsTrue (le_everywhere ls low high) → (vs : List ℕ) → InRange ls vs → low vs ≤ℤ high vs
le_everywhere-at ls low high h vs r = let here = everywhere-at ls (λ s. int_le (low s) (high s)) h vs r in grind (arith, ints)

pub le_everywhere-from : (ls : List ℕ) (low high : List ℕ → ℤ) → ((vs : List ℕ) → InRange ls vs → low vs ≤ℤ high vs) → IsTrue (le_everywhere ls low high)
le_everywhere-from ls low high h = everywhere-from ls (λ s. int_le (low s) (high s)) (λ vs r. let here : low vs ≤ℤ high vs = h vs r in grind (arith, ints))

pub le_everywhere-refl : (ls : List ℕ) (f : List ℕ → ℤ) → IsTrue (le_everywhere ls f f)
le_everywhere-refl ls f = le_everywhere-from ls f f (λ vs r. omega (arith, ints))

pub le_everywhere-trans : (ls : List ℕ) (f g h : List ℕ → ℤ) → IsTrue (le_everywhere ls f g) → IsTrue (le_everywhere ls g h) → IsTrue (le_everywhere ls f h)
le_everywhere-trans ls f g h a b =
    le_everywhere-from ls f h (λ vs r. omega (arith, ints, le_everywhere-at ls f g a vs r, le_everywhere-at ls g h b vs r))

-- the test of a difference against 0 is the test of the two values
pub le_everywhere-difference : (ls : List ℕ) (f g d : List ℕ → ℤ) → ((vs : List ℕ) → d vs ≡ f vs -ℤ g vs) → le_everywhere ls d (λ _. pos 0) ≡ le_everywhere ls f g
le_everywhere-difference ls f g d same =
    everywhere_is (le_everywhere ls d (λ _. pos 0)) ls (λ s. int_le (f s) (g s)) (λ h vs r. let below = le_everywhere-at ls d (λ _. pos 0) h vs r in let e = same vs in grind (arith, ints)) (λ h. le_everywhere-from ls d (λ _. pos 0) (λ vs r. let here : IsTrue (int_le (f vs) (g vs)) = h vs r in let below : f vs ≤ℤ g vs = grind (arith, ints) in omega (arith, ints, same vs)))
