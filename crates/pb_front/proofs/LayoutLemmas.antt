-- The text in which tokens are laid out has just these tokens.
use Rattle.std.proofs.Common.{◌≡◌, ℕ, zero, suc, ◌+◌, ◌<◌, ◌≤◌, Bool, true, false, ◌||◌, ◌==◌, not, List, [], ◌∷◌, ◌++◌, length, Option, Some, None, slice_index_or, cond, decimal, refl, sym, true≢false, ◌∙◌, ap, subst, arith, append_assoc, append-nil, inl, inr}
use Rattle.std.specs.List.{list_all}
use Rattle.std.specs.Char.{is_ascii_digit, digit_value}
use Rattle.std.specs.Str.Parse.{IsNumeral, AllDigits, digits_value}
use Rattle.std.proofs.lemmas.Bool.{not-true, or_cases, or_parts}
use Rattle.std.proofs.lemmas.Bool.Decides.{nat_tests}
use Rattle.std.proofs.lemmas.Fmt.{decimal_is_IsNumeral}
use Rattle.std.proofs.lemmas.Str.Parse.{digit_from_value}
use Rattle.pb_syntax.proofs.TestLemmas.{below, each, is_byte}
use Rattle.pb_syntax.specs.declared.token.Token.{Token}
use Rattle.pb_syntax.specs.declared.token.TokenWhat.{TokenWhat}
use Rattle.pb_syntax.specs.declared.kind.TokenKind.{TokenKind}
use Rattle.pb_syntax.specs.declared.kind.TokenKind.TheVariants as k
use Rattle.pb_syntax.specs.Bytes.{is_blank, is_in_name, EndsBefore}
use Rattle.pb_syntax.specs.Signs.{long_sign, short_sign, goes_on, signs, sign_place}
use Rattle.pb_syntax.specs.Kinds.{sign_kind}
use Rattle.pb_prog.specs.Spelling.{Written, word, numeral, sign_at}
use Rattle.pb_syntax.specs.Tokens as piece
use Rattle.pb_syntax.specs.Tokens.{Piece, Pieces, none, one_more, Spells}
use Rattle.pb_prog.specs.Canonical.{written_kind, written_bytes, ends_line, joins_before, joins_after, joins_both, joined, outside, indentation, space, line_end, depth_after, layout}
use Rattle.pb_syntax.specs.Lexemes.{IsWordText}
use Rattle.pb_front.proofs.Written.{written_as, Takes, nothing, one, CanBe, is_dot, Plain, plain, member}
use Rattle.pb_syntax.specs.Lexemes.{IsWordText}
use Rattle.pb_front.proofs.Written as plainly

pub record Laid (text : List ℕ) (ws : List Written) : Type 0 where
  pub tokens : List Token
  pub spelled : Spells text tokens
  pub written : Takes ws tokens []

record LaidAt (at : ℕ) (text : List ℕ) (ws : List Written) : Type 0 where
  tokens : List Token
  spelled : Pieces at text [] tokens
  written : Takes ws tokens []

-- the same at any place
abbrev Lays : List ℕ → List Written → Type 0
Lays text ws = (at : ℕ) → LaidAt at text ws

pick : (P : List ℕ → Type 0) (b : Bool) (x y : List ℕ) → (b ≡ true → P x) → (b ≡ false → P y) → P (cond b x y)
pick P true x y here there = here refl
pick P false x y here there = there refl

blank_first : {text : List ℕ} {ws : List Written} (b : ℕ) → is_blank b ≡ true → Lays text ws → Lays (b ∷ text) ws
blank_first b e l at = let r = l (at + 1) in record { tokens = r.tokens; spelled = one_more {first = b ∷ []} (piece.blank e) r.spelled; written = r.written }

-- blanks before what is laid out
module _ (text : List ℕ) (ws : List Written) (l : Lays text ws) where
  abbrev Before : List ℕ → Type 0
  Before blanks = Lays (blanks ++ text) ws

  indented : (n : ℕ) → Before (indentation n)
  indented zero = l
  indented (suc n) = blank_first 32 refl (blank_first 32 refl (indented n))

  spaced : (depth : ℕ) (last : Option TokenKind) (b : TokenKind) → Before (space depth last b)
  unfolding space
  spaced depth None b = indented (outside depth b)
  spaced depth (Some a) b = pick Before (ends_line a) _ _ (λ e. indented (outside depth b)) (λ e. pick Before (joined a b) _ _ (λ j. l) (λ j. blank_first 32 refl l))

  ended : (a : TokenKind) → Before (line_end a)
  ended a = pick Before (ends_line a) _ _ (λ e. blank_first 10 refl l) (λ e. l)

abbrev sign_bytes : ℕ → List ℕ
sign_bytes p = slice_index_or signs p []

-- what stands after a sign goes on with it
abbrev goes : List ℕ → ℕ → Bool
goes [] b = false
goes (a ∷ []) b = goes_on a b
goes (a ∷ c ∷ _) b = false

abbrev shuts : (ℕ → Bool) → List ℕ → Bool
shuts test [] = false
shuts test (b ∷ _) = not (test b)

abbrev is_at : Option ℕ → ℕ → Bool
is_at None p = false
is_at (Some q) p = q == p

abbrev ends_at : ℕ → ℕ → Bool
ends_at p q = not (joined (sign_kind p) (sign_kind q)) || shuts (goes (sign_bytes p)) (sign_bytes q)

-- the bytes that would go on with a token
abbrev goes_with : Written → ℕ → Bool
goes_with (word w) b = is_in_name b
goes_with (numeral n) b = is_in_name b
goes_with (sign_at p) b = goes (sign_bytes p) b

-- these bytes are that token
abbrev IsPiece : ℕ → List ℕ → List ℕ → Written → Type 0
IsPiece at bytes after w = (what : TokenWhat) × Piece at bytes after (record { at = at; what = what } ∷ []) × (written_as what ≡ w)

a_word : (at : ℕ) (w after : List ℕ) → IsWordText w → EndsBefore is_in_name after → IsPiece at w after (word w)
a_word at [] after c e = absurd c
a_word at (b ∷ more) after c e = (_, piece.word c.0 c.1 e, refl)

is_digit : (c : ℕ) → digit_value c < 10 → is_ascii_digit c ≡ true
is_digit c h = let r = digit_from_value c h in grind (arith, nat_tests)

are_digits : (ds : List ℕ) → AllDigits 10 ds → list_all is_ascii_digit ds ≡ true
are_digits [] h = refl
are_digits (c ∷ cs) h = rw (is_digit c h.0) (are_digits cs h.1)

no_digit : (l : List ℕ) → EndsBefore is_in_name l → EndsBefore is_ascii_digit l
no_digit [] e = tt
no_digit (b ∷ l) e = grind (arith, nat_tests)

a_number : (at : ℕ) (ds after : List ℕ) → IsNumeral 10 ds → digits_value 10 ds ≤ 9223372036854775807 → EndsBefore is_in_name after
    → IsPiece at ds after (numeral (digits_value 10 ds))
a_number at [] after i c e = absurd (omega arith)
a_number at (d ∷ more) after i c e = (_, piece.number (is_digit d i.1.0) (are_digits more i.1.1) (no_digit after e) c, refl)

is_place : (o : Option ℕ) (p : ℕ) → is_at o p ≡ true → o ≡ Some p
is_place None p e = absurd (cc)
is_place (Some q) p e = ap (λ (i : ℕ). Some i) (is_byte q p e)

a_sign : (at p : ℕ) (s after : List ℕ) → is_at (sign_place s) p ≡ true → EndsBefore (goes s) after → IsPiece at s after (sign_at p)
a_sign at p [] after i e = absurd (cc)
a_sign at p (a ∷ []) after i e = (_, piece.one_byte_sign (is_place (short_sign a) p i) e, refl)
a_sign at p (a ∷ b ∷ []) after i e = (_, piece.two_byte_sign (is_place (long_sign a b) p i), refl)
a_sign at p (a ∷ b ∷ c ∷ _) after i e = absurd (cc)

a_piece : (at : ℕ) (w : Written) (after : List ℕ) → CanBe w → EndsBefore (goes_with w) after → IsPiece at (written_bytes w) after w
a_piece at (word w) after c e = a_word at w after c e
a_piece at (numeral n) after c e =
    let i = decimal_is_IsNumeral n (omega arith) in
    subst (λ m. IsPiece at (decimal n) after (numeral m)) i.1 (a_number at (decimal n) after i.0 (omega arith) e)
a_piece at (sign_at p) after c e = a_sign at p (sign_bytes p) after (each (λ q. is_at (sign_place (sign_bytes q)) q) 25 p refl c) e

token_first : {text : List ℕ} {ws : List Written} (w : Written) → CanBe w → EndsBefore (goes_with w) text → Lays text ws → Lays (written_bytes w ++ text) (w ∷ ws)
token_first {text} w c e l at =
    let r = l (at + length (written_bytes w)) in
    let here : IsPiece at (written_bytes w) (text ++ []) w = rw append-nil (a_piece at w text c e) in
    record { tokens = _; spelled = one_more here.1 r.spelled; written = one here.2 r.written }

-- where no blank stands before the next token, its first byte doesn't go on with this one
abbrev Apart : (ℕ → Bool) → TokenKind → List Written → Type 0
Apart test a [] = Unit
Apart test a (v ∷ vs) = joined a (written_kind v) ≡ true → (x : List ℕ) → EndsBefore test (written_bytes v ++ x)

module _ (test : ℕ → Bool) (a : TokenKind) (depth : ℕ) (blank : test 32 ≡ false) where
  ends_after : (ws : List Written) → ends_line a ≡ false → Apart test a ws → EndsBefore test (layout depth (Some a) ws)
  unfolding space
  ends_after [] e next = tt
  ends_after (v ∷ vs) e next =
      let P = λ (s : List ℕ). EndsBefore test ((s ++ (written_bytes v ++ line_end (written_kind v))) ++ layout (depth_after depth (written_kind v)) (Some (written_kind v)) vs) in
      rw e (pick P (joined a (written_kind v)) [] (32 ∷ []) (λ j. rw (append_assoc, append_assoc) (next j _)) (λ j. blank))

  ends : (ws : List Written) → test 10 ≡ false → Apart test a ws → EndsBefore test (line_end a ++ layout depth (Some a) ws)
  ends ws line next = pick (λ s. EndsBefore test (s ++ layout depth (Some a) ws)) (ends_line a) _ _ (λ e. line) (λ e. ends_after ws e next)

other_way : (a b : Bool) → a ≡ false → (a || b) ≡ true → b ≡ true
other_way true b e h = absurd (cc)
other_way false b e h = h

shut : (test : ℕ → Bool) (s x : List ℕ) → shuts test s ≡ true → EndsBefore test (s ++ x)
shut test [] x e = absurd (cc)
shut test (b ∷ s) x e = not-true (test b) e

never : (test : ℕ → Bool) (l : List ℕ) → ((b : ℕ) → test b ≡ false) → EndsBefore test l
never test [] h = tt
never test (b ∷ l) h = h b

-- a blank may be missing at this
abbrev joins : TokenKind → Bool
joins a = joins_after a || joins_before a

abbrev is_sign : Written → Bool
is_sign (sign_at p) = true
is_sign _ = false

joins_no : (w : Written) → is_sign w ≡ false → joins (written_kind w) ≡ false
joins_no (word w) e = grind (arith, nat_tests)
joins_no (numeral n) e = refl
joins_no (sign_at p) e = absurd (cc)

joins_no_two : (a b : TokenKind) → joins b ≡ false → joins_both a b ≡ false
joins_no_two k.Name k.Open e = absurd (cc)
joins_no_two k.Priority k.Open e = absurd (cc)
joins_no_two _ _ e = refl

joins_alone : (a b : TokenKind) → joins b ≡ false → joined a b ≡ true → joins_after a ≡ true
joins_alone a b e j = let two = joins_no_two a b e in grind (arith, nat_tests)

-- `(` and `[` go on with nothing
opens : (p : ℕ) (l : List ℕ) → (p == 8 || (p == 0 || (p == 4 || not (joins_after (sign_kind p))))) ≡ true → (p == 8) ≡ false → joins_after (sign_kind p) ≡ true
    → EndsBefore (goes (sign_bytes p)) l
opens p l e n j =
    elim (or_cases _ _ (other_way _ _ n e)) [
      | inl at ↦ rw (is_byte p 0 at) (never (goes_on 40) l (λ c. refl))
      | inr other ↦ elim (or_cases _ _ other) [
        | inl at ↦ rw (is_byte p 4 at) (never (goes_on 91) l (λ c. refl))
        | inr neither ↦ absurd (true≢false (sym j ∙ not-true _ neither))
      ]
    ]

beside : (w v : Written) → CanBe w → CanBe v → is_dot w ≡ false → joined (written_kind w) (written_kind v) ≡ true → (x : List ℕ) → EndsBefore (goes_with w) (written_bytes v ++ x)
beside (sign_at p) (sign_at q) c d n j x =
    let table : below (ends_at p) 25 ≡ true = other_way _ _ n (each (λ i. i == 8 || below (ends_at i) 25) 25 p refl c) in
    shut (goes (sign_bytes p)) (sign_bytes q) x (other_way _ _ (ap not j) (each (ends_at p) 25 q table d))
beside (sign_at p) v c d n j x =
    opens p _ (each (λ i. i == 8 || (i == 0 || (i == 4 || not (joins_after (sign_kind i))))) 25 p refl c) n (joins_alone _ (written_kind v) (joins_no v refl) j)
beside w (sign_at q) c d n j x = shut is_in_name (sign_bytes q) x (each (λ i. shuts is_in_name (sign_bytes i)) 25 q refl d)
beside w v c d n j x = absurd (true≢false (sym (joins_alone (written_kind w) (written_kind v) (joins_no v refl) j) ∙ (or_parts _ _ (joins_no w refl)).0))

ends_so : (w : Written) → CanBe w → (goes_with w 10 ≡ false) × (goes_with w 32 ≡ false)
ends_so (sign_at p) c =
    (not-true _ (each (λ i. not (goes (sign_bytes i) 10)) 25 p refl c), not-true _ (each (λ i. not (goes (sign_bytes i) 32)) 25 p refl c))
ends_so _ c = (refl, refl)

-- a token before what is laid out
put : (w : Written) (ws : List Written) (depth : ℕ) (last : Option TokenKind) → CanBe w → Apart (goes_with w) (written_kind w) ws
    → ((n : ℕ) (a : Option TokenKind) → Lays (layout n a ws) ws) → Lays (layout depth last (w ∷ ws)) (w ∷ ws)
put w ws depth last c apart l =
    let a = written_kind w in
    let n = depth_after depth a in
    let rest : List ℕ = layout n (Some a) ws in
    let token : Lays (written_bytes w ++ (line_end a ++ rest)) (w ∷ ws) =
    token_first w c (ends (goes_with w) a n (ends_so w c).1 ws (ends_so w c).0 apart) (ended rest ws (l n (Some a)) a) in
    rw (append_assoc, append_assoc) (spaced _ (w ∷ ws) token depth last a)

apart : (w : Written) {ws : List Written} → CanBe w → is_dot w ≡ false → Plain ws → Apart (goes_with w) (written_kind w) ws
apart w c n plainly.none = tt
apart w c n (plain d m p) = beside w _ c d n
apart w c n (member d p) = beside w (sign_at 8) c (omega arith) n

dot_ends : (w x : List ℕ) → IsWordText w → EndsBefore (goes_on 46) (w ++ x)
dot_ends [] x c = absurd c
dot_ends (b ∷ more) x c = grind (arith, nat_tests)

lay : {ws : List Written} → Plain ws → (depth : ℕ) (last : Option TokenKind) → Lays (layout depth last ws) ws
lay plainly.none depth last = λ at. record { tokens = []; spelled = none; written = nothing }
lay (plain {w} {ws} c n p) depth last = put w ws depth last c (apart w c n p) (lay p)
lay (member {w} {ws} c p) depth last =
    put (sign_at 8) (word w ∷ ws) depth last (omega arith) (λ j x. dot_ends w x c) (λ n a. put (word w) ws n a c (apart (word w) c refl p) (lay p))

pub laid : (ws : List Written) → Plain ws → Laid (layout 0 None ws) ws
laid ws p = let l = lay p 0 None 0 in record { tokens = l.tokens; spelled = l.spelled; written = l.written }
