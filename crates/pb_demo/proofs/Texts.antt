-- The tokens of a text without comments, found from left to right; and that they spell it.
use Rattle.std.proofs.Common.{◌≡◌, refl, ap, subst, ℕ, zero, suc, ◌+◌, ◌≤◌, Bool, true, false, ◌&&◌, if◌then◌else◌, inl, inr, List, [], ◌∷◌, ◌++◌, length, drop, Option, Some, None, arith}
use Rattle.std.specs.Prelude.{nat_le}
use Rattle.std.specs.List.{list_all}
use Rattle.std.specs.Char.{is_ascii_digit}
use Rattle.std.specs.Str.Parse.{digits_value}
use Rattle.std.proofs.lemmas.Option.{none-some, same_Some}
use Rattle.std.proofs.lemmas.Bool.Decides.{nat_tests}
use Rattle.pb_syntax.proofs.TestLemmas.{if_parts, and_parts}
use Rattle.pb_syntax.specs.Bytes.{is_blank, begins_name, is_in_name, EndsBefore}
use Rattle.pb_syntax.specs.Signs.{long_sign, short_sign, begins_comment}
use Rattle.pb_syntax.specs.declared.token.Token.{Token}
use Rattle.pb_syntax.specs.declared.token.TokenWhat.{TokenWhat}
use Rattle.pb_syntax.specs.declared.token.TokenWhat.TheVariants as what
use Rattle.pb_syntax.specs.declared.limits.TheConstants.{MOST_VALUE}
use Rattle.pb_syntax.specs.Tokens.{Piece, Pieces, Spells, blank, word, number, two_byte_sign, one_byte_sign, none, one_more}

-- the bytes at the front that pass a test, and those that are left
abbrev pub front : (ℕ → Bool) → List ℕ → List ℕ
front test [] = []
front test (b ∷ rest) = if test b then b ∷ front test rest else []

abbrev pub back : (ℕ → Bool) → List ℕ → List ℕ
back test [] = []
back test (b ∷ rest) = if test b then back test rest else b ∷ rest

-- a token before others
abbrev pub put : ℕ → TokenWhat → Option (List Token) → Option (List Token)
put at w None = None
put at w (Some ts) = Some (record { at = at; what = w } ∷ ts)

-- the sign that a byte begins, with its size
abbrev pub sized : ℕ → Option ℕ → Option (ℕ × ℕ)
sized size None = None
sized size (Some p) = Some (p, size)

abbrev pub two : Option ℕ → Bool → Option ℕ → Option (ℕ × ℕ)
two (Some p) comment short = Some (p, 2)
two None true short = None
two None false short = sized 1 short

abbrev pub sign : ℕ → List ℕ → Option (ℕ × ℕ)
sign a [] = sized 1 (short_sign a)
sign a (b ∷ rest) = two (long_sign a b) (begins_comment a b) (short_sign a)

abbrev pub signed : ℕ → Option (ℕ × ℕ) → (ℕ → Option (List Token)) → Option (List Token)
signed at None further = None
signed at (Some s) further = put at (what.Sign s.0) (further s.1)

-- the tokens of a text from a place on
abbrev pub lex : ℕ → ℕ → List ℕ → Option (List Token)
lex zero at [] = Some []
lex zero at (b ∷ rest) = None
lex (suc n) at [] = Some []
lex (suc n) at (b ∷ rest) =
    if is_blank b then lex n (at + 1) rest
    else if begins_name b then put at (what.Word (record { bytes = b ∷ front is_in_name rest; at = at })) (lex n (at + length (b ∷ front is_in_name rest)) (back is_in_name rest))
    else if is_ascii_digit b && nat_le (digits_value 10 (b ∷ front is_ascii_digit rest)) MOST_VALUE
    then put at (what.Number (digits_value 10 (b ∷ front is_ascii_digit rest))) (lex n (at + length (b ∷ front is_ascii_digit rest)) (back is_ascii_digit rest))
    else signed at (sign b rest) (λ size. lex n (at + size) (drop size (b ∷ rest)))

-- ---- that they spell it
module _ (test : ℕ → Bool) where
  run_parts : (xs : List ℕ) → front test xs ++ back test xs ≡ xs
  run_parts [] = refl
  run_parts (b ∷ rest) = go (test b) refl (run_parts rest)
    where
      go : (c : Bool) → test b ≡ c → front test rest ++ back test rest ≡ rest → front test (b ∷ rest) ++ back test (b ∷ rest) ≡ b ∷ rest
      go true e before = rw e (ap (λ (l : List ℕ). b ∷ l) before)
      go false e before = rw e refl

  run_passes : (xs : List ℕ) → list_all test (front test xs) ≡ true
  run_passes [] = refl
  run_passes (b ∷ rest) = go (test b) refl (run_passes rest)
    where
      go : (c : Bool) → test b ≡ c → list_all test (front test rest) ≡ true → list_all test (front test (b ∷ rest)) ≡ true
      go true e before = rw (e, e) before
      go false e before = rw e refl

  run_ends : (xs : List ℕ) → EndsBefore test (back test xs ++ [])
  run_ends [] = tt
  run_ends (b ∷ rest) = go (test b) refl (run_ends rest)
    where
      go : (c : Bool) → test b ≡ c → EndsBefore test (back test rest ++ []) → EndsBefore test (back test (b ∷ rest) ++ [])
      go true e before = rw e before
      go false e before = rw e e

-- what a token before others says of them
record Before (at : ℕ) (w : TokenWhat) (o : Option (List Token)) (ts : List Token) : Type 0 where
  others : List Token
  are : o ≡ Some others
  all : record { at = at; what = w } ∷ others ≡ ts

before : (at : ℕ) (w : TokenWhat) (o : Option (List Token)) (ts : List Token) → put at w o ≡ Some ts → Before at w o ts
before at w None ts e = absurd (none-some ts e)
before at w (Some us) ts e = record { others = us; are = refl; all = same_Some _ _ e }

-- a piece that is a token, and what is after it
after_piece : (at : ℕ) (first rest : List ℕ) (w : TokenWhat) (ts us : List Token) → Piece at first (rest ++ []) (record { at = at; what = w } ∷ []) → record { at = at; what = w } ∷ us ≡ ts
    → Pieces (at + length first) rest [] us → Pieces at (first ++ rest) [] ts
after_piece at first rest w ts us p e later = subst (Pieces at (first ++ rest) []) e (one_more p later)

abbrev Sound : ℕ → Type 0
Sound n = (at : ℕ) (text : List ℕ) (ts : List Token) → lex n at text ≡ Some ts → Pieces at text [] ts

module _ (n : ℕ) (further : Sound n) (at b : ℕ) (ts : List Token) where
  sign_spells : (rest : List ℕ) → signed at (sign b rest) (λ size. lex n (at + size) (drop size (b ∷ rest))) ≡ Some ts → Pieces at (b ∷ rest) [] ts
  sign_spells [] e = go (short_sign b) refl e
    where
      go : (s : Option ℕ) → short_sign b ≡ s → signed at (sized 1 s) (λ size. lex n (at + size) (drop size (b ∷ []))) ≡ Some ts → Pieces at (b ∷ []) [] ts
      go None is e = absurd (none-some ts e)
      go (Some p) is e =
          let f = before at (what.Sign p) _ ts e in
          after_piece at (b ∷ []) [] (what.Sign p) ts f.others (one_byte_sign is tt) f.all (further (at + 1) [] f.others f.are)
  sign_spells (c ∷ rest) e = go (long_sign b c) (begins_comment b c) (short_sign b) refl refl refl e
    where
      go : (l : Option ℕ) (comment : Bool) (s : Option ℕ) → long_sign b c ≡ l → begins_comment b c ≡ comment → short_sign b ≡ s
          → signed at (two l comment s) (λ size. lex n (at + size) (drop size (b ∷ c ∷ rest))) ≡ Some ts → Pieces at (b ∷ c ∷ rest) [] ts
      go (Some p) comment s is k j e =
          let f = before at (what.Sign p) _ ts e in
          after_piece at (b ∷ c ∷ []) rest (what.Sign p) ts f.others (two_byte_sign is) f.all (further (at + 2) rest f.others f.are)
      go None true s is k j e = absurd (none-some ts e)
      go None false None is k j e = absurd (none-some ts e)
      go None false (Some p) is k j e =
          let f = before at (what.Sign p) _ ts e in
          after_piece at (b ∷ []) (c ∷ rest) (what.Sign p) ts f.others (one_byte_sign j (rw (is, k) refl)) f.all (further (at + 1) (c ∷ rest) f.others f.are)

  number_spells : (rest : List ℕ) → (is_ascii_digit b && nat_le (digits_value 10 (b ∷ front is_ascii_digit rest)) MOST_VALUE) ≡ true
      → put at (what.Number (digits_value 10 (b ∷ front is_ascii_digit rest))) (lex n (at + length (b ∷ front is_ascii_digit rest)) (back is_ascii_digit rest)) ≡ Some ts → Pieces at (b ∷ rest) [] ts
  number_spells rest is e =
      let more = front is_ascii_digit rest in
      let both = and_parts (is_ascii_digit b) (nat_le (digits_value 10 (b ∷ more)) MOST_VALUE) is in
      let few : digits_value 10 (b ∷ more) ≤ MOST_VALUE = grind (arith, nat_tests, both.1) in
      let f = before at _ _ ts e in
      subst (λ l. Pieces at (b ∷ l) [] ts) (run_parts is_ascii_digit rest)
      (after_piece at (b ∷ more) (back is_ascii_digit rest) (what.Number (digits_value 10 (b ∷ more))) ts f.others
      (number both.0 (run_passes is_ascii_digit rest) (run_ends is_ascii_digit rest) few) f.all (further (at + length (b ∷ more)) (back is_ascii_digit rest) f.others f.are))

  word_spells : (rest : List ℕ) → begins_name b ≡ true
      → put at (what.Word (record { bytes = b ∷ front is_in_name rest; at = at })) (lex n (at + length (b ∷ front is_in_name rest)) (back is_in_name rest)) ≡ Some ts → Pieces at (b ∷ rest) [] ts
  word_spells rest is e =
      let more = front is_in_name rest in
      let f = before at _ _ ts e in
      subst (λ l. Pieces at (b ∷ l) [] ts) (run_parts is_in_name rest)
      (after_piece at (b ∷ more) (back is_in_name rest) (what.Word (record { bytes = b ∷ more; at = at })) ts f.others
      (word is (run_passes is_in_name rest) (run_ends is_in_name rest)) f.all (further (at + length (b ∷ more)) (back is_in_name rest) f.others f.are))

  piece_spells : (rest : List ℕ) → lex (suc n) at (b ∷ rest) ≡ Some ts → Pieces at (b ∷ rest) [] ts
  piece_spells rest e =
      elim (if_parts (is_blank b) _ _ (Some ts) e) [
        | inl p ↦ one_more (blank p.0) (further (at + 1) rest ts p.1)
        | inr p ↦ elim (if_parts (begins_name b) _ _ (Some ts) p.1) [
          | inl q ↦ word_spells rest q.0 q.1
          | inr q ↦ elim (if_parts (is_ascii_digit b && nat_le (digits_value 10 (b ∷ front is_ascii_digit rest)) MOST_VALUE) _ _ (Some ts) q.1) [
            | inl r ↦ number_spells rest r.0 r.1
            | inr r ↦ sign_spells rest r.1
          ]
        ]
      ]

lexed : (n : ℕ) → Sound n
lexed zero at [] ts e = subst (Pieces at [] []) (same_Some [] ts e) none
lexed zero at (b ∷ rest) ts e = absurd (none-some ts e)
lexed (suc n) at [] ts e = subst (Pieces at [] []) (same_Some [] ts e) none
lexed (suc n) at (b ∷ rest) ts e = piece_spells n (lexed n) at b ts rest e

-- tokens that are found spell the text
pub spells : (n : ℕ) (text : List ℕ) (ts : List Token) → lex n 0 text ≡ Some ts → Spells text ts
spells n text ts e = lexed n 0 text ts e
