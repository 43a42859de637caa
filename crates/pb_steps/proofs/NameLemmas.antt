-- Names of a plan.
use Rattle.std.proofs.Common.{◌≡◌, ◌∙◌, refl, sym, ap, ℕ, zero, suc, ◌+◌, ◌-◌, ◌<◌, ◌≤◌, true, false, List, [], ◌∷◌, ◌++◌, drop, get_or, length, map, min, take, arith}
use Rattle.std.specs.List.{All, enumerate_from, zip}
use Rattle.std.proofs.lemmas.List.Elements.{All-push, All-same}
use Rattle.pb_program.specs.declared.plan.Slot.{Slot}
use Rattle.pb_program.specs.declared.plan.Slot.TheVariants as slot
use Rattle.pb_recursion.specs.Plans.{Names, named, names_of_reads, same_slot}
use Rattle.pb_views.specs.Seats.{IsSmall}
use Rattle.pb_views.specs.declared.seat.Seat.{Seat}
use Rattle.pb_steps.specs.Stands.{AreSmall}
use Rattle.pb_steps.proofs.ListLemmas.{take_at}

-- ---- looking a name up
pub named_next : (none : Seat) (l : Names Seat) (k : ℕ) (d : Slot × Seat) (s : Slot) → k < length l → same_slot (get_or l k d).0 s ≡ false → named none (drop k l) s ≡ named none (drop (k + 1) l) s
named_next none [] k d s below other = absurd (omega (arith, below))
named_next none (n ∷ l) zero d s below other = rw other refl
named_next none (n ∷ l) (suc k) d s below other = let next : suc k + 1 ≡ suc (k + 1) = omega arith in rw next (named_next none l k d s (omega (arith, below)) other)

pub named_here : (none : Seat) (l : Names Seat) (k : ℕ) (d : Slot × Seat) (s : Slot) → k < length l → same_slot (get_or l k d).0 s ≡ true → named none (drop k l) s ≡ (get_or l k d).1
named_here none [] k d s below same = absurd (omega (arith, below))
named_here none (n ∷ l) zero d s below same = rw same refl
named_here none (n ∷ l) (suc k) d s below same = named_here none l k d s (omega (arith, below)) same

pub named_end : (none : Seat) (l : Names Seat) (k : ℕ) (s : Slot) → length l ≤ k → named none (drop k l) s ≡ none
named_end none [] zero s h = refl
named_end none [] (suc k) s h = refl
named_end none (n ∷ l) zero s h = absurd (omega (arith, h))
named_end none (n ∷ l) (suc k) s h = named_end none l k s (omega (arith, h))

-- ---- reads
numbered_last : (n : ℕ) (xs : List Seat) (x : Seat) → enumerate_from n (xs ++ x ∷ []) ≡ enumerate_from n xs ++ (n + length xs, x) ∷ []
numbered_last n [] x = let none : n + 0 ≡ n = omega arith in rw none refl
numbered_last n (y ∷ xs) x = let sum : n + suc (length xs) ≡ n + 1 + length xs = omega arith in rw sum (ap (λ l. (n, y) ∷ l) (numbered_last (n + 1) xs x))

take_length : (xs : List Seat) (k : ℕ) → k < length xs → length (take k xs) ≡ k
take_length [] k below = absurd (omega (arith, below))
take_length (x ∷ xs) zero below = refl
take_length (x ∷ xs) (suc k) below = ap suc (take_length xs k (omega (arith, below)))

map_last : {A B : Type 0} (f : A → B) (xs : List A) (x : A) → map f (xs ++ x ∷ []) ≡ map f xs ++ f x ∷ []
map_last f [] x = refl
map_last f (y ∷ xs) x = ap (λ l. f y ∷ l) (map_last f xs x)

pub next_read : (reads : List Seat) (k : ℕ) (d : Seat) → k < length reads → (old new : Names Seat) → old ≡ names_of_reads (take k reads) → new ≡ old ++ (slot.Read k, get_or reads k d) ∷ [] → new ≡ names_of_reads (take (k + 1) reads)
next_read reads k d below old new before added =
    let f : ℕ × Seat → Slot × Seat = λ m. (slot.Read m.0, m.1) in
    let xs = take k reads in
    let x = get_or reads k d in
    let number : 0 + length xs ≡ k = omega (arith, take_length reads k below) in
    added ∙ (λ i. before i ++ (slot.Read (sym number i), x) ∷ []) ∙ sym (ap names_of_reads (take_at reads k d below) ∙ ap (map f) (numbered_last 0 xs x) ∙ map_last f (enumerate_from 0 xs) (0 + length xs, x))

pub next_small : (reads : List Seat) (k : ℕ) (d : Seat) (s : Slot) → k < length reads → All IsSmall reads → (old new : Names Seat) → AreSmall old → new ≡ old ++ (s, get_or reads k d) ∷ [] → AreSmall new
next_small reads k d s below small old new before added = All-same (λ (n : Slot × Seat). IsSmall n.1) _ _ added (All-push (λ (n : Slot × Seat). IsSmall n.1) old (s, get_or reads k d) before (small k d below))

-- ---- names that are given
pub zip_drop : (slots : List Slot) (seats : List Seat) (k : ℕ) (d : Slot) (e : Seat) → k < length slots → k < length seats → drop k (zip slots seats) ≡ (get_or slots k d, get_or seats k e) ∷ drop (k + 1) (zip slots seats)
zip_drop [] seats k d e a b = absurd (omega (arith, a))
zip_drop (s ∷ slots) [] k d e a b = absurd (omega (arith, b))
zip_drop (s ∷ slots) (t ∷ seats) zero d e a b = refl
zip_drop (s ∷ slots) (t ∷ seats) (suc k) d e a b = let next : suc k + 1 ≡ suc (k + 1) = omega arith in rw next (zip_drop slots seats k d e (omega (arith, a)) (omega (arith, b)))

pub zip_end : (slots : List Slot) (seats : List Seat) (n : ℕ) → n ≡ min (length slots) (length seats) → drop n (zip slots seats) ≡ []
zip_end [] seats n e = let none : n ≡ 0 = omega (arith, e) in rw none refl
zip_end (s ∷ slots) [] n e = let none : n ≡ 0 = omega (arith, e) in rw none refl
zip_end (s ∷ slots) (t ∷ seats) zero e = absurd (omega (arith, e))
zip_end (s ∷ slots) (t ∷ seats) (suc n) e = zip_end slots seats n (omega (arith, e))

-- the name before those that are there already
pub next_given : (slots : List Slot) (seats : List Seat) (count given k : ℕ) (d : Slot) (e : Seat) (first old new : Names Seat) → count ≡ min (length slots) (length seats) → given < count → k ≡ count - 1 - given
    → old ≡ drop (count - given) (zip slots seats) ++ first → new ≡ (get_or slots k d, get_or seats k e) ∷ old → new ≡ drop (count - (given + 1)) (zip slots seats) ++ first
next_given slots seats count given k d e first old new all less is before added =
    let this : count - (given + 1) ≡ k = omega (arith, is, less) in
    let next : count - given ≡ k + 1 = omega (arith, is, less) in
    let here = zip_drop slots seats k d e (omega (arith, is, less, all)) (omega (arith, is, less, all)) in
    added ∙ (λ i. (get_or slots k d, get_or seats k e) ∷ before i) ∙ ap (λ n. (get_or slots k d, get_or seats k e) ∷ (drop n (zip slots seats) ++ first)) next ∙ ap (λ l. l ++ first) (sym here) ∙ ap (λ n. drop n (zip slots seats) ++ first) (sym this)

pub given_small : (s : Slot) (x : Seat) (old new : Names Seat) → AreSmall old → IsSmall x → new ≡ (s, x) ∷ old → AreSmall new
given_small s x old new small is added = All-same (λ (n : Slot × Seat). IsSmall n.1) _ _ added (λ k d below. at k d below)
  where
    at : (k : ℕ) (d : Slot × Seat) → k < length ((s, x) ∷ old) → IsSmall (get_or ((s, x) ∷ old) k d).1
    at zero d below = is
    at (suc k) d below = small k d (omega (arith, below))
