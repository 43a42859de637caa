-- What the first bytes of a text say is a blank, a comment or a token, and each of these is found by them.
use Rattle.std.proofs.Common.{◌≡◌, ℕ, suc, ◌+◌, ◌≤◌, Bool, true, false, ◌&&◌, ◌||◌, ◌==◌, nat_le, inl, inr, List, [], ◌∷◌, ◌++◌, length, Option, Some, None, is_some, cond, refl, sym, true≢false, ◌∙◌, ap, subst, arith, length-append}
use Rattle.std.specs.List.{list_all, prefix_len}
use Rattle.std.specs.Char.{is_ascii_digit}
use Rattle.std.specs.Str.Parse.{digits_value}
use Rattle.std.proofs.Math.Numerals.{one-add}
use Rattle.std.proofs.Math.Seq.{take-append_seam}
use Rattle.std.proofs.lemmas.Option.{none-some, same_Some}
use Rattle.std.proofs.lemmas.Bool.Decides.{nat_tests}
use Rattle.pb_syntax.proofs.TestLemmas.{is_byte, if_parts, and_parts}
use Rattle.pb_syntax.specs.declared.token.Token.{Token}
use Rattle.pb_syntax.specs.Bytes.{is_blank, begins_name, is_in_name, is_in_line, EndsBefore, begins_slash, has_close}
use Rattle.pb_syntax.specs.Signs.{long_sign, short_sign, begins_comment, goes_on}
use Rattle.pb_syntax.specs.Tokens.{Piece, blank, line_comment, block_comment, word, number, two_byte_sign, one_byte_sign}
use Rattle.pb_lexer.specs.declared.piece.Front.{Front}
use Rattle.pb_lexer.specs.declared.piece.PieceKind.{PieceKind}
use Rattle.pb_lexer.specs.declared.piece.PieceKind.TheVariants.{Gap, Word, Number, Sign}
use Rattle.pb_lexer.specs.Reading.{close_from, value_within, number_of, number_read, word_read, closed, comment_read, sign_of, two_read, sign_read, piece_read, tokens_of}

or_parts : (a b : Bool) → (a || b) ≡ false → (a ≡ false) × (b ≡ false)
or_parts true b e = absurd (cc)
or_parts false b e = (refl, e)

-- a byte is the known one, or another
at_byte : (P : ℕ → Type 0) (a k : ℕ) → P k → ((a == k) ≡ false → P a) → P a
at_byte P a k here there = step (a == k) refl
  where
    step : (b : Bool) → (a == k) ≡ b → P a
    step true e = subst P (sym (is_byte a k e)) here
    step false e = there e

-- no blank, letter, `_` or digit
abbrev Plain : ℕ → Type 0
Plain a = (is_blank a ≡ false) × (begins_name a ≡ false) × (is_ascii_digit a ≡ false)

long_plain : (a b p : ℕ) → long_sign a b ≡ Some p → Plain a
long_plain a b p =
    let Q = λ (a : ℕ). (long_sign a b ≡ Some p → Plain a) in
    at_byte Q a 46 (λ e. (refl, refl, refl)) (λ n0.
    (at_byte Q a 61 (λ e. (refl, refl, refl)) (λ n1.
    (at_byte Q a 33 (λ e. (refl, refl, refl)) (λ n2.
    (at_byte Q a 60 (λ e. (refl, refl, refl)) (λ n3.
    (at_byte Q a 62 (λ e. (refl, refl, refl)) (λ n4.
    (at_byte Q a 38 (λ e. (refl, refl, refl)) (λ n5.
    (at_byte Q a 124 (λ e. (refl, refl, refl)) (λ n6.
    λ e. absurd (none-some p (rw (n0, n1, n2, n3, n4, n5, n6) at e)))))))))))))))

short_plain : (a p : ℕ) → short_sign a ≡ Some p → Plain a
short_plain a p =
    let Q = λ (a : ℕ). (short_sign a ≡ Some p → Plain a) in
    at_byte Q a 40 (λ e. (refl, refl, refl)) (λ n0.
    (at_byte Q a 41 (λ e. (refl, refl, refl)) (λ n1.
    (at_byte Q a 123 (λ e. (refl, refl, refl)) (λ n2.
    (at_byte Q a 125 (λ e. (refl, refl, refl)) (λ n3.
    (at_byte Q a 91 (λ e. (refl, refl, refl)) (λ n4.
    (at_byte Q a 93 (λ e. (refl, refl, refl)) (λ n5.
    (at_byte Q a 44 (λ e. (refl, refl, refl)) (λ n6.
    (at_byte Q a 59 (λ e. (refl, refl, refl)) (λ n7.
    (at_byte Q a 46 (λ e. (refl, refl, refl)) (λ n8.
    (at_byte Q a 61 (λ e. (refl, refl, refl)) (λ n9.
    (at_byte Q a 60 (λ e. (refl, refl, refl)) (λ n10.
    (at_byte Q a 62 (λ e. (refl, refl, refl)) (λ n11.
    (at_byte Q a 43 (λ e. (refl, refl, refl)) (λ n12.
    (at_byte Q a 45 (λ e. (refl, refl, refl)) (λ n13.
    (at_byte Q a 42 (λ e. (refl, refl, refl)) (λ n14.
    (at_byte Q a 47 (λ e. (refl, refl, refl)) (λ n15.
    (at_byte Q a 37 (λ e. (refl, refl, refl)) (λ n16.
    (at_byte Q a 33 (λ e. (refl, refl, refl)) (λ n17.
    λ e. absurd (none-some p (rw (n0, n1, n2, n3, n4, n5, n6, n7, n8, n9, n10, n11, n12, n13, n14, n15, n16, n17) at e)))))))))))))))))))))))))))))))))))))

name_no_blank : (b : ℕ) → begins_name b ≡ true → is_blank b ≡ false
name_no_blank b e = grind (arith, nat_tests)

digit_no_blank : (b : ℕ) → is_ascii_digit b ≡ true → is_blank b ≡ false
digit_no_blank b e = grind (arith, nat_tests)

digit_no_name : (b : ℕ) → is_ascii_digit b ≡ true → begins_name b ≡ false
digit_no_name b e = grind (arith, nat_tests)

-- bytes that pass, as many as there are
record IsRun (test : ℕ → Bool) (text : List ℕ) : Type 0 where
  front : List ℕ
  back : List ℕ
  parts : text ≡ front ++ back
  pass : list_all test front ≡ true
  ends : EndsBefore test back

module _ (test : ℕ → Bool) where
  run_is : (xs back : List ℕ) → list_all test xs ≡ true → EndsBefore test back → prefix_len test (xs ++ back) ≡ length xs
  run_is [] [] h e = refl
  run_is [] (b ∷ back) h e = rw e refl
  run_is (x ∷ xs) back h e = let p = and_parts (test x) (list_all test xs) h in rw (p.0, run_is xs back p.1 e, one-add) refl

  run_found : (text : List ℕ) → IsRun test text
  run_found [] = record { front = []; back = []; parts = refl; pass = refl; ends = tt }
  run_found (b ∷ rest) = step (test b) refl (run_found rest)
    where
      step : (r : Bool) → test b ≡ r → IsRun test rest → IsRun test (b ∷ rest)
      step true e f = record { front = b ∷ f.front; back = f.back; parts = ap (λ (l : List ℕ). b ∷ l) f.parts; pass = rw e f.pass; ends = f.ends }
      step false e f = record { front = []; back = b ∷ rest; parts = refl; pass = refl; ends = e }

-- the bytes before the first `*/`, and what stands after it
record IsClosed (text : List ℕ) (size : ℕ) : Type 0 where
  inside : List ℕ
  back : List ℕ
  parts : text ≡ inside ++ 42 ∷ 47 ∷ [] ++ back
  open_yet : has_close inside ≡ false
  count : size ≡ length inside

slash_after : (xs back : List ℕ) → begins_slash (xs ++ 42 ∷ 47 ∷ [] ++ back) ≡ begins_slash xs
slash_after [] back = refl
slash_after (x ∷ xs) back = refl

close_is : (n : ℕ) (xs back : List ℕ) → has_close xs ≡ false → close_from n (xs ++ 42 ∷ 47 ∷ [] ++ back) ≡ Some (n + length xs)
close_is n [] back h = ap (λ (k : ℕ). Some k) (omega arith)
close_is n (x ∷ xs) back h =
    let p = or_parts (x == 42 && begins_slash xs) (has_close xs) h in
    let not_here : (x == 42 && begins_slash (xs ++ 42 ∷ 47 ∷ [] ++ back)) ≡ false = rw slash_after p.0 in
    rw not_here (close_is (n + 1) xs back p.1 ∙ ap (λ (k : ℕ). Some k) (omega arith))

close_found : (n : ℕ) (text : List ℕ) (size : ℕ) → close_from n text ≡ Some size → (k : ℕ) × (size ≡ n + k) × IsClosed text k
close_found n [] size e = absurd (none-some size e)
close_found n (b ∷ rest) size e =
    elim (if_parts (b == 42 && begins_slash rest) (Some n) (close_from (n + 1) rest) (Some size) e) [
      | inl p ↦ here rest (and_parts (b == 42) (begins_slash rest) p.0) (same_Some n size p.1)
      | inr p ↦ later p.0 (close_found (n + 1) rest size p.1)
    ]
  where
    here : (rest : List ℕ) → ((b == 42) ≡ true) × (begins_slash rest ≡ true) → n ≡ size → (k : ℕ) × (size ≡ n + k) × IsClosed (b ∷ rest) k
    here [] p s = absurd (cc)
    here (c ∷ back) p s = (0, omega arith, record { inside = []; back = back; parts = rw (is_byte b 42 p.0, is_byte c 47 p.1) refl; open_yet = refl; count = refl })

    later : (b == 42 && begins_slash rest) ≡ false → (k : ℕ) × (size ≡ n + 1 + k) × IsClosed rest k → (k : ℕ) × (size ≡ n + k) × IsClosed (b ∷ rest) k
    later h f =
        let g = f.2 in
        let same : begins_slash g.inside ≡ begins_slash rest = sym (ap begins_slash g.parts ∙ slash_after g.inside g.back) in
        let not_here : (b == 42 && begins_slash g.inside) ≡ false = rw same h in
        (suc f.0, omega (arith, f.1), record { inside = b ∷ g.inside; back = g.back; parts = ap (λ (l : List ℕ). b ∷ l) g.parts; open_yet = rw not_here g.open_yet; count = ap suc g.count })

abbrev front : PieceKind → ℕ → Front
front k n = record { kind = k; size = n }

sized : (k : PieceKind) (n m : ℕ) → n ≡ m → Some (front k n) ≡ Some (front k m)
sized k n m e = ap (λ (i : ℕ). Some (front k i)) e

name_front : (b : ℕ) (rest : List ℕ) → begins_name b ≡ true → piece_read (b ∷ rest) ≡ word_read rest
name_front b rest e = rw (name_no_blank b e, e) refl

digit_front : (b : ℕ) (rest : List ℕ) → is_ascii_digit b ≡ true → piece_read (b ∷ rest) ≡ number_read (b ∷ rest)
digit_front b rest e = rw (digit_no_blank b e, digit_no_name b e, e) refl

plain_front : (b : ℕ) (rest : List ℕ) → Plain b → piece_read (b ∷ rest) ≡ sign_read b rest
plain_front b rest p = rw (p.0, p.1, p.2) refl

number_is : (xs back : List ℕ) → list_all is_ascii_digit xs ≡ true → EndsBefore is_ascii_digit back → number_read (xs ++ back) ≡ number_of (length xs) (value_within xs)
number_is xs back all ends = rw (run_is is_ascii_digit xs back all ends, take-append_seam) refl

value_is : (xs : List ℕ) → list_all is_ascii_digit xs ≡ true → digits_value 10 xs ≤ 9223372036854775807 → value_within xs ≡ Some (digits_value 10 xs)
value_is xs all most = let fits : nat_le (digits_value 10 xs) 9223372036854775807 ≡ true = grind (arith, nat_tests) in rw (all, fits) refl

-- what stands first is found, with its token
pub record IsTaken (at : ℕ) (spelled after : List ℕ) (here : List Token) : Type 0 where
  pub kind : PieceKind
  pub read : piece_read (spelled ++ after) ≡ Some (front kind (length spelled))
  pub says : here ≡ tokens_of at spelled kind

one_sign : (a : ℕ) (after : List ℕ) → EndsBefore (goes_on a) after → sign_read a after ≡ sign_of 1 (short_sign a)
one_sign a [] e = refl
one_sign a (b ∷ after) e = step (long_sign a b) (begins_comment a b) (or_parts (is_some (long_sign a b)) (begins_comment a b) e) refl refl
  where
    step : (o : Option ℕ) (c : Bool) → (is_some (long_sign a b) ≡ false) × (begins_comment a b ≡ false) → long_sign a b ≡ o → begins_comment a b ≡ c
        → two_read a b after (long_sign a b) ≡ sign_of 1 (short_sign a)
    step (Some p) c h o d = absurd (true≢false (sym (ap is_some o) ∙ h.0))
    step None true h o d = absurd (true≢false (sym d ∙ h.1))
    step None false h o d = ap (two_read a b after) o ∙ ap (λ (t : Bool). cond t (comment_read (b ∷ after)) (sign_of 1 (short_sign a))) d

pub taken : {at : ℕ} {spelled after : List ℕ} {here : List Token} → Piece at spelled after here → IsTaken at spelled after here
taken (blank {b = b} e) = record { kind = Gap; read = rw e refl; says = refl }
taken (line_comment {inside = inside} {after = after} h e) =
    record { kind = Gap; read = sized Gap _ _ (omega (arith, run_is is_in_line inside after h e)); says = refl }
taken (block_comment {after = after} inside h) =
    let same : close_from 0 (inside ++ 42 ∷ 47 ∷ [] ++ after) ≡ Some (0 + length inside) = close_is 0 inside after h in
    record { kind = Gap; read = ap closed same ∙ sized Gap _ _ (omega (arith, length-append inside (42 ∷ 47 ∷ []))); says = refl }
taken (word {b = b} {more = more} {after = after} n h e) =
    record { kind = Word; read = name_front b (more ++ after) n ∙ sized Word _ _ (omega (arith, run_is is_in_name more after h e)); says = refl }
taken (number {d = d} {more = more} {after = after} n h e m) =
    let all : list_all is_ascii_digit (d ∷ more) ≡ true = rw n h in
    record { kind = Number (digits_value 10 (d ∷ more)); read = digit_front d (more ++ after) n ∙ number_is (d ∷ more) after all e ∙ ap (number_of (length (d ∷ more))) (value_is (d ∷ more) all m); says = refl }
taken (two_byte_sign {a = a} {b = b} {place = place} {after = after} e) =
    record { kind = Sign place; read = plain_front a (b ∷ after) (long_plain a b place e) ∙ ap (two_read a b after) e; says = refl }
taken (one_byte_sign {a = a} {place = place} {after = after} e ends) =
    record { kind = Sign place; read = plain_front a after (short_plain a place e) ∙ one_sign a after ends ∙ ap (sign_of 1) e; says = refl }

-- what is found stands first, and is a piece
pub record IsFound (at : ℕ) (text : List ℕ) (f : Front) : Type 0 where
  pub spelled : List ℕ
  pub after : List ℕ
  pub parts : text ≡ spelled ++ after
  pub size : f.size ≡ length spelled
  pub piece : Piece at spelled after (tokens_of at spelled f.kind)

says : (at : ℕ) (text : List ℕ) (f g : Front) → Some f ≡ Some g → IsFound at text f → IsFound at text g
says at text f g e h = subst (IsFound at text) (same_Some f g e) h

number_some : (xs : List ℕ) (f : Front) → list_all is_ascii_digit xs ≡ true → number_of (length xs) (value_within xs) ≡ Some f
    → (digits_value 10 xs ≤ 9223372036854775807) × (Some (front (Number (digits_value 10 xs)) (length xs)) ≡ Some f)
number_some xs f all e = step (nat_le (digits_value 10 xs) 9223372036854775807) refl
  where
    step : (b : Bool) → nat_le (digits_value 10 xs) 9223372036854775807 ≡ b
        → (digits_value 10 xs ≤ 9223372036854775807) × (Some (front (Number (digits_value 10 xs)) (length xs)) ≡ Some f)
    step true q = (grind (arith, nat_tests), rw (all, q) at e)
    step false q = absurd (none-some f (rw (all, q) at e))

number_found : (at b : ℕ) (rest : List ℕ) (f : Front) → is_ascii_digit b ≡ true → number_read (b ∷ rest) ≡ Some f → IsFound at (b ∷ rest) f
number_found at b rest f d e =
    let r = run_found is_ascii_digit rest in
    let all : list_all is_ascii_digit (b ∷ r.front) ≡ true = rw d r.pass in
    let read : number_of (length (b ∷ r.front)) (value_within (b ∷ r.front)) ≡ Some f =
    sym (number_is (b ∷ r.front) r.back all r.ends) ∙ ap (λ (l : List ℕ). number_read (b ∷ l)) (sym r.parts) ∙ e in
    let s = number_some (b ∷ r.front) f all read in
    says at (b ∷ rest) _ f s.1 (record { spelled = b ∷ r.front; after = r.back; parts = ap (λ (l : List ℕ). b ∷ l) r.parts; size = refl; piece = number d r.pass r.ends s.0 })

word_found : (at b : ℕ) (rest : List ℕ) (f : Front) → begins_name b ≡ true → word_read rest ≡ Some f → IsFound at (b ∷ rest) f
word_found at b rest f n e =
    let r = run_found is_in_name rest in
    let size : prefix_len is_in_name rest ≡ length r.front = ap (prefix_len is_in_name) r.parts ∙ run_is is_in_name r.front r.back r.pass r.ends in
    says at (b ∷ rest) _ f e (record { spelled = b ∷ r.front; after = r.back; parts = ap (λ (l : List ℕ). b ∷ l) r.parts; size = omega (arith, size); piece = word n r.pass r.ends })

line_found : (at : ℕ) (inside : List ℕ) → IsFound at (47 ∷ 47 ∷ inside) (front Gap (2 + prefix_len is_in_line inside))
line_found at inside =
    let r = run_found is_in_line inside in
    let size : prefix_len is_in_line inside ≡ length r.front = ap (prefix_len is_in_line) r.parts ∙ run_is is_in_line r.front r.back r.pass r.ends in
    record { spelled = 47 ∷ 47 ∷ r.front; after = r.back; parts = ap (λ (l : List ℕ). 47 ∷ 47 ∷ l) r.parts; size = omega (arith, size); piece = line_comment r.pass r.ends }

block_found : (at : ℕ) (inside : List ℕ) (o : Option ℕ) (f : Front) → close_from 0 inside ≡ o → closed o ≡ Some f → IsFound at (47 ∷ 42 ∷ inside) f
block_found at inside None f c e = absurd (none-some f e)
block_found at inside (Some size) f c e =
    let k = close_found 0 inside size c in
    let g = k.2 in
    says at (47 ∷ 42 ∷ inside) _ f e (record {
      spelled = 47 ∷ 42 ∷ (g.inside ++ 42 ∷ 47 ∷ []);
      after = g.back;
      parts = ap (λ (l : List ℕ). 47 ∷ 42 ∷ l) g.parts;
      size = omega (arith, k.1, g.count, length-append g.inside (42 ∷ 47 ∷ []));
      piece = block_comment g.inside g.open_yet;
    })

comment_found : (at a : ℕ) (after : List ℕ) (f : Front) → (a == 47) ≡ true → comment_read after ≡ Some f → IsFound at (a ∷ after) f
comment_found at a [] f s e = absurd (none-some f e)
comment_found at a (b ∷ inside) f s e =
    elim (if_parts (b == 47) (Some (front Gap (2 + prefix_len is_in_line inside))) (cond (b == 42) (closed (close_from 0 inside)) None) (Some f) e) [
      | inl p ↦ rw (is_byte a 47 s, is_byte b 47 p.0) (says at (47 ∷ 47 ∷ inside) _ f p.1 (line_found at inside))
      | inr p ↦ elim (if_parts (b == 42) (closed (close_from 0 inside)) None (Some f) p.1) [
        | inl q ↦ rw (is_byte a 47 s, is_byte b 42 q.0) (block_found at inside (close_from 0 inside) f refl q.1)
        | inr q ↦ absurd (none-some f q.1)
      ]
    ]

short_found : (at a : ℕ) (after : List ℕ) (o : Option ℕ) (f : Front) → EndsBefore (goes_on a) after → short_sign a ≡ o → sign_of 1 o ≡ Some f → IsFound at (a ∷ after) f
short_found at a after None f ends s e = absurd (none-some f e)
short_found at a after (Some place) f ends s e =
    says at (a ∷ after) _ f e (record { spelled = a ∷ []; after = after; parts = refl; size = refl; piece = one_byte_sign s ends })

two_found : (at a b : ℕ) (after : List ℕ) (o : Option ℕ) (f : Front) → long_sign a b ≡ o → two_read a b after o ≡ Some f → IsFound at (a ∷ b ∷ after) f
two_found at a b after (Some place) f s e =
    says at (a ∷ b ∷ after) _ f e (record { spelled = a ∷ b ∷ []; after = after; parts = refl; size = refl; piece = two_byte_sign s })
two_found at a b after None f s e =
    elim (if_parts (begins_comment a b) (comment_read (b ∷ after)) (sign_of 1 (short_sign a)) (Some f) e) [
      | inl p ↦ comment_found at a (b ∷ after) f (and_parts (a == 47) (b == 47 || b == 42) p.0).0 p.1
      | inr p ↦ short_found at a (b ∷ after) (short_sign a) f (rw (s, p.0) refl) refl p.1
    ]

sign_found : (at a : ℕ) (after : List ℕ) (f : Front) → sign_read a after ≡ Some f → IsFound at (a ∷ after) f
sign_found at a [] f e = short_found at a [] (short_sign a) f tt refl e
sign_found at a (b ∷ after) f e = two_found at a b after (long_sign a b) f refl e

pub found : (at : ℕ) (text : List ℕ) (f : Front) → piece_read text ≡ Some f → IsFound at text f
found at [] f e = absurd (none-some f e)
found at (b ∷ rest) f e =
    elim (if_parts (is_blank b) (Some (front Gap 1)) (cond (begins_name b) (word_read rest) (cond (is_ascii_digit b) (number_read (b ∷ rest)) (sign_read b rest))) (Some f) e) [
      | inl p ↦ says at (b ∷ rest) _ f p.1 (record { spelled = b ∷ []; after = rest; parts = refl; size = refl; piece = blank p.0 })
      | inr p ↦ elim (if_parts (begins_name b) (word_read rest) (cond (is_ascii_digit b) (number_read (b ∷ rest)) (sign_read b rest)) (Some f) p.1) [
        | inl q ↦ word_found at b rest f q.0 q.1
        | inr q ↦ elim (if_parts (is_ascii_digit b) (number_read (b ∷ rest)) (sign_read b rest) (Some f) q.1) [
          | inl r ↦ number_found at b rest f r.0 r.1
          | inr r ↦ sign_found at b rest f r.1
        ]
      ]
    ]
