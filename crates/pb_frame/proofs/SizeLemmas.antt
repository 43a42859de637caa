-- The greatest of some numbers, and the size of an instance.
use Rattle.std.proofs.Common.{◌≡◌, ◌∙◌, sym, ap, ℕ, suc, ◌+◌, ◌<◌, List, [], ◌∷◌, ◌++◌, length, map, max, take, arith}
use Rattle.std.specs.Prelude.{get_or}
use Rattle.std.proofs.Math.Seq.{take-suc}
use Rattle.pb_model.specs.Chosen.{instance_size}
use Rattle.pb_frame.specs.Frames.{greatest}

size_of_some : (s : ℕ) (rest : List ℕ) → instance_size (s ∷ rest) ≡ greatest (s ∷ rest)
size_of_some s [] = omega arith
size_of_some s (t ∷ rest) = ap (max s) (size_of_some t rest)

pub greatest_next : (xs : List ℕ) (x : ℕ) → greatest (xs ++ x ∷ []) ≡ max (greatest xs) x
greatest_next [] x = omega arith
greatest_next (y ∷ xs) x = omega (arith, greatest_next xs x)

pub greatest_taken : {A : Type 0} (f : A → ℕ) (xs : List A) (x : A) → greatest (map f (xs ++ x ∷ [])) ≡ max (greatest (map f xs)) (f x)
greatest_taken f [] x = omega arith
greatest_taken f (y ∷ xs) x = omega (arith, greatest_taken f xs x)

pub greatest_step : {A : Type 0} (f : A → ℕ) (xs : List A) (k : ℕ) (d : A) → k < length xs → max (greatest (map f (take k xs))) (f (get_or xs k d)) ≡ greatest (map f (take (k + 1) xs))
greatest_step f xs k d below = sym ((let e : k + 1 ≡ suc k = omega arith in ap (λ n. greatest (map f (take n xs))) e) ∙ ap (λ l. greatest (map f l)) (take-suc xs k d below) ∙ greatest_taken f (take k xs) (get_or xs k d))

pub greatest_plain : (xs : List ℕ) (k d : ℕ) → k < length xs → max (greatest (take k xs)) (get_or xs k d) ≡ greatest (take (k + 1) xs)
greatest_plain xs k d below = sym ((let e : k + 1 ≡ suc k = omega arith in ap (λ n. greatest (take n xs)) e) ∙ ap greatest (take-suc xs k d below) ∙ greatest_next (take k xs) (get_or xs k d))

pub size_is : (sizes : List ℕ) → 0 < length sizes → greatest sizes ≡ instance_size sizes
size_is [] some = absurd (omega (arith, some))
size_is (s ∷ rest) some = sym (size_of_some s rest)
