-- The table of the signs' places is the list of the signs.
use Rattle.std.proofs.Common.{◌≡◌, ℕ, ◌&&◌, ◌==◌, inl, inr, [], ◌∷◌, get_or, Option, Some, cond, refl}
use Rattle.std.proofs.lemmas.Option.{none-some, same_Some}
use Rattle.pb_syntax.proofs.TestLemmas.{is_byte, if_parts, and_parts}
use Rattle.pb_syntax.specs.Signs.{long_sign, short_sign, signs}

one_row : (a k place found : ℕ) (others : Option ℕ) → get_or signs place [] ≡ k ∷ [] → (others ≡ Some found → get_or signs found [] ≡ a ∷ [])
    → cond (a == k) (Some place) others ≡ Some found → get_or signs found [] ≡ a ∷ []
one_row a k place found others here there e =
    elim (if_parts (a == k) (Some place) others (Some found) e) [
      | inl p ↦ rw (is_byte a k p.0, ← same_Some place found p.1) here
      | inr p ↦ there p.1
    ]

two_row : (a b k l place found : ℕ) (others : Option ℕ) → get_or signs place [] ≡ k ∷ l ∷ [] → (others ≡ Some found → get_or signs found [] ≡ a ∷ b ∷ [])
    → cond (a == k && b == l) (Some place) others ≡ Some found → get_or signs found [] ≡ a ∷ b ∷ []
two_row a b k l place found others here there e =
    elim (if_parts (a == k && b == l) (Some place) others (Some found) e) [
      | inl p ↦ let both = and_parts (a == k) (b == l) p.0 in rw (is_byte a k both.0, is_byte b l both.1, ← same_Some place found p.1) here
      | inr p ↦ there p.1
    ]

pub long_listed : (a b n : ℕ) → long_sign a b ≡ Some n → get_or signs n [] ≡ a ∷ b ∷ []
long_listed a b n =
    two_row a b 46 46 9 n _ refl
    (two_row a b 61 61 11 n _ refl
    (two_row a b 33 61 12 n _ refl
    (two_row a b 60 61 14 n _ refl
    (two_row a b 62 61 16 n _ refl
    (two_row a b 38 38 22 n _ refl
    (two_row a b 124 124 23 n _ refl
    (λ e. absurd (none-some n e))))))))

pub short_listed : (a n : ℕ) → short_sign a ≡ Some n → get_or signs n [] ≡ a ∷ []
short_listed a n =
    one_row a 40 0 n _ refl
    (one_row a 41 1 n _ refl
    (one_row a 123 2 n _ refl
    (one_row a 125 3 n _ refl
    (one_row a 91 4 n _ refl
    (one_row a 93 5 n _ refl
    (one_row a 44 6 n _ refl
    (one_row a 59 7 n _ refl
    (one_row a 46 8 n _ refl
    (one_row a 61 10 n _ refl
    (one_row a 60 13 n _ refl
    (one_row a 62 15 n _ refl
    (one_row a 43 17 n _ refl
    (one_row a 45 18 n _ refl
    (one_row a 42 19 n _ refl
    (one_row a 47 20 n _ refl
    (one_row a 37 21 n _ refl
    (one_row a 33 24 n _ refl
    (λ e. absurd (none-some n e)))))))))))))))))))
