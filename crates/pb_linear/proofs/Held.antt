-- Exact numbers have one list of least sizes at which they are greatest, and it can be held.
use Rattle.std.proofs.Common.{◌≡◌, ◌∙◌, refl, sym, ap, subst, inl, inr, ◌⊎◌, ℕ, zero, suc, ◌+◌, ◌-◌, ◌<◌, ◌≤◌, Bool, true, false, IsTrue, nat_eq, List, [], ◌∷◌, ◌++◌, length, get_or, ℤ, ◌≤ℤ◌, ◌<ℤ◌, int_le, arith}
use Rattle.std.specs.List.{list_all}
use Rattle.std.proofs.Math.Bool.{Bool-set}
use Rattle.std.proofs.Math.Bridge.{le_prop}
use Rattle.std.proofs.Math.Path.{to_path_p}
use Rattle.std.proofs.Math.Seq.{take-append_seam, drop-append_seam}
use Rattle.std.proofs.lemmas.Int.{ints}
use Rattle.std.proofs.lemmas.List.{ext_get_or, get_or-take, length-append, length-take}
use Rattle.pb_linear.specs.Held.{AreHeld}
use Rattle.pb_linear.specs.Limits.{is_zero_from}
use Rattle.pb_linear.specs.Most.{FirstGreatest, Most}
use Rattle.pb_linear.specs.Numbers.{Numbers, exact_value, part_of}
use Rattle.pb_linear.specs.Sizes.{InRange, IsRanges, leasts_of, sizes_of}
use Rattle.pb_linear.specs.declared.sizes.Ranges.{Ranges}
use Rattle.pb_linear.specs.declared.sizes.Sizes.{Sizes}
use Rattle.pb_linear.specs.declared.sizes.TheConstants.{SIZE_TOP}
use Rattle.pb_linear.proofs.Parts.{first_alone, first_kept, first_taken, most_is}
use Rattle.pb_linear.proofs.SizesLemmas.{InRange-length, size_at}

-- ---- there are such sizes
pub le_or_lt : (a b : ℤ) → (a ≤ℤ b) ⊎ (b <ℤ a)
le_or_lt a b = by_test (int_le a b) refl
  where
    by_test : (t : Bool) → int_le a b ≡ t → (a ≤ℤ b) ⊎ (b <ℤ a)
    by_test true e = inl (grind (arith, ints))
    by_test false e = inr (grind (arith, ints))

-- a part has a greatest value among some sizes
one_more : (g : ℕ → ℤ) (start v best : ℕ) → FirstGreatest g start v best → (g v ≤ℤ g best) ⊎ (g best <ℤ g v) → (place : ℕ) × FirstGreatest g start (v + 1) place
one_more g start v best b (inl less) = (best, first_kept g start v best best b less refl)
one_more g start v best b (inr more) = (v, first_taken g start v best v b more refl)

greatest_among : (g : ℕ → ℤ) (start k : ℕ) → (place : ℕ) × FirstGreatest g start (start + k + 1) place
greatest_among g start zero = (start, let e : start + 0 + 1 ≡ start + 1 = omega arith in rw e (first_alone g start))
greatest_among g start (suc k) =
    let rest = greatest_among g start k in
    let e : start + suc k + 1 ≡ start + k + 1 + 1 = omega arith in
    rw e (one_more g start (start + k + 1) rest.0 rest.1 (le_or_lt (g (start + k + 1)) (g rest.0)))

greatest_to : (g : ℕ → ℤ) (start k end : ℕ) → start + k + 1 ≡ end → (place : ℕ) × FirstGreatest g start end place
greatest_to g start k end e = let found = greatest_among g start k in (found.0, subst (λ n. FirstGreatest g start n found.0) e found.1)

-- sizes at each of which its part is greatest
record AreGreatest (n : Numbers) (from : ℕ) (leasts sizes : List ℕ) : Type 0 where
  inside : InRange leasts sizes
  each : (i : ℕ) → i < length leasts → FirstGreatest (part_of n (from + i)) (get_or leasts i 0) (SIZE_TOP + 1) (get_or sizes i 0)

with_first : (n : Numbers) (from least size : ℕ) (leasts sizes : List ℕ) → FirstGreatest (part_of n from) least (SIZE_TOP + 1) size → AreGreatest n (from + 1) leasts sizes
    → AreGreatest n from (least ∷ leasts) (size ∷ sizes)
with_first n from least size leasts sizes first rest = record {
  inside = (first.low, omega (arith, first.high), rest.inside);
  each = λ i below. at i below;
}
  where
    at : (i : ℕ) → i < length (least ∷ leasts) → FirstGreatest (part_of n (from + i)) (get_or (least ∷ leasts) i 0) (SIZE_TOP + 1) (get_or (size ∷ sizes) i 0)
    at zero below = let e : from + 0 ≡ from = omega arith in rw e first
    at (suc i) below = let e : from + suc i ≡ from + 1 + i = omega arith in rw e (rest.each i (omega arith))

all_greatest : (n : Numbers) (from : ℕ) (leasts : List ℕ) → ((i : ℕ) → i < length leasts → get_or leasts i 0 ≤ SIZE_TOP) → (sizes : List ℕ) × AreGreatest n from leasts sizes
all_greatest n from [] low = ([], record { inside = tt; each = λ i below. absurd (omega arith) })
all_greatest n from (least ∷ leasts) low =
    let first : least ≤ SIZE_TOP = low 0 (omega arith) in
    let one = greatest_to (part_of n from) least (SIZE_TOP - least) (SIZE_TOP + 1) (omega arith) in
    let rest = all_greatest n (from + 1) leasts (λ i below. low (suc i) (omega arith)) in
    (one.0 ∷ rest.0, with_first n from least one.0 leasts rest.0 one.1 rest.1)

-- a form has a greatest value
pub some_most : (n : Numbers) (leasts : List ℕ) → length leasts ≤ 8 → ((i : ℕ) → i < length leasts → get_or leasts i 0 ≤ SIZE_TOP) → (sizes : List ℕ) × Most (exact_value n) leasts (exact_value n sizes) sizes
some_most n leasts few low =
    let found = all_greatest n 0 leasts low in
    (found.0, most_is n leasts found.0 few found.1.inside (λ i below. let e : 0 + i ≡ i = omega arith in subst (λ k. FirstGreatest (part_of n k) (get_or leasts i 0) (SIZE_TOP + 1) (get_or found.0 i 0)) e (found.1.each i below)) (exact_value n found.0) refl)

-- sizes as they are held
zeros : ℕ → List ℕ
zeros zero = []
zeros (suc k) = 0 ∷ zeros k

zeros_long : (k : ℕ) → length (zeros k) ≡ k
unfolding zeros
zeros_long zero = refl
zeros_long (suc k) = ap suc (zeros_long k)

zeros_all : (k : ℕ) → list_all (λ v. nat_eq v 0) (zeros k) ≡ true
unfolding zeros
zeros_all zero = refl
zeros_all (suc k) = zeros_all k

pub hold : (s : List ℕ) → length s ≤ 8 → Sizes
hold s few = record {
  count = length s;
  of = s ++ zeros (8 - length s);
  few = few;
  zero_past_count = rw (drop-append_seam s (zeros (8 - length s))) (zeros_all (8 - length s));
}

pub hold_is : (s : List ℕ) (few : length s ≤ 8) → sizes_of (hold s few) ≡ s
unfolding hold
hold_is s few = take-append_seam s (zeros (8 - length s))

pub hold_held : (s : List ℕ) (few : length s ≤ 8) → AreHeld (length s) (hold s few)
unfolding hold
hold_held s few = record { counted = refl; full = omega (arith, length-append s (zeros (8 - length s)), zeros_long (8 - length s)) }

-- ranges have few least sizes, which are low enough
pub least_low : (r : Ranges) → IsRanges r → (i : ℕ) → i < length (leasts_of r) → get_or (leasts_of r) i 0 ≤ SIZE_TOP
least_low r ok i below =
    let within : i < r.count = omega (arith, length-take r.count r.least) in
    omega (arith, get_or-take r.count r.least i 0 within, ok.low_enough i within)

pub few_leasts : (r : Ranges) → IsRanges r → length (leasts_of r) ≤ 8
few_leasts r ok = omega (arith, ok.few, length-take r.count r.least)

-- ---- and no others
-- the sizes are the least that reach the greatest value
pub same_most : (leasts : List ℕ) (f : List ℕ → ℤ) (m n : ℤ) (s u : List ℕ) → Most f leasts m s → Most f leasts n u → s ≡ u
same_most leasts f m n s u h k =
    let same : m ≡ n = omega (arith, ints, h.greatest u k.in_range, k.greatest s h.in_range, h.reached, k.reached) in
    ext_get_or 0 s u (omega (arith, InRange-length leasts s h.in_range, InRange-length leasts u k.in_range)) (λ i below. omega (arith, h.least u k.in_range (k.reached ∙ sym same) i, k.least s h.in_range (h.reached ∙ same) i))

sizes_same : (a b : Sizes) → a.count ≡ b.count → a.of ≡ b.of → a ≡ b
sizes_same a b counts entries = λ i. record {
  count = counts i;
  of = entries i;
  few = to_path_p (λ k. counts k ≤ 8) {a = a.few} {b = b.few} (le_prop _ _) i;
  zero_past_count = to_path_p (λ k. IsTrue (is_zero_from (counts k) (entries k))) {a = a.zero_past_count} {b = b.zero_past_count} (Bool-set _ _ _ _) i;
}

pub held_same : (count : ℕ) (s u : Sizes) → AreHeld count s → AreHeld count u → sizes_of s ≡ sizes_of u → s ≡ u
held_same count s u h k e = sizes_same s u (h.counted ∙ sym k.counted) (ext_get_or 0 s.of u.of (h.full ∙ sym k.full)
    (λ i below. sym (size_at s.count s.of s.zero_past_count i) ∙ ap (λ l. get_or l i 0) e ∙ size_at u.count u.of u.zero_past_count i))
