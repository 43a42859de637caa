-- The text that is written spells its matrix.
use Rattle.std.proofs.Common.{◌≡◌, ℕ, zero, suc, ◌-◌, ◌*◌, ◌^◌, ◌<◌, ◌≤◌, Bool, true, false, nat_lt, ◌==◌, List, [], ◌∷◌, ◌++◌, length, get_or, take, drop, map, flat_map, codes, decimal, ℤ, pos, negsuc, Some, Ok, IsTrue, All, ◌⊎◌, lit<, inl, inr, refl, sym, ap, ◌∙◌, subst, arith, rules}
use Rattle.std.specs.Fmt.{signed_decimal}
use Rattle.std.specs.List.{AllByRecursion, join_with_byte, slice_split}
use Rattle.std.specs.Str.{all_ascii_digits}
use Rattle.std.specs.Str.Lines.{lines}
use Rattle.std.specs.Str.Parse.{IsNumeral, AllDigits, digits_value}
use Rattle.std.proofs.lemmas.Bool.{and_right, cases_lt, ltb-true, le-leb, ne_eqb}
use Rattle.std.proofs.lemmas.Bool.Decides.{nat_tests}
use Rattle.std.proofs.lemmas.Fmt.{decimal_is_IsNumeral, decimal_digit, first_decimal}
use Rattle.std.proofs.lemmas.List.{append_assoc, take-append-drop, map-append, length-drop, nil_from_length, get_or_past}
use Rattle.std.proofs.lemmas.List.Elements.{All-from_recursion, recursion_from_All, All-nil, All-cons, All-append, All-weaker, All-map, All-take, All-drop}
use Rattle.std.proofs.lemmas.List.Splits.{slice_split_none, slice_split_at}
use Rattle.std.proofs.lemmas.Str.Parse.{digit_from_value, numerals_by_value, tells_all_ascii_digits}
use Rattle.pb_values.specs.declared.shape.Shape.{Shape}
use Rattle.pb_values.specs.Checked.{fits_i64}
use Rattle.pb_matrix.specs.Words.{is_blank, is_gap, is_line_end, has_bytes, words, is_digits, in_cell, cell_number}
use Rattle.pb_matrix.specs.Header.{has_leading_zero, side, header_shape, IsMatrixShape, cell_count}
use Rattle.pb_matrix.specs.declared.header.TheConstants.{MAX_CELLS}
use Rattle.pb_matrix.specs.Reading.{matrix_read}
use Rattle.pb_matrix.specs.Spelling.{SpellsCells, LinesSpell, header}
use Rattle.pb_matrix.specs.Text.{header_words, rows, matrix_rows, row_text, matrix_text}
use Rattle.pb_matrix.proofs.LineLemmas.{body_words}
use Rattle.pb_matrix.proofs.SpellLemmas.{spelled_lines}
use Rattle.pb_matrix.proofs.TextLemmas.{AllFit}
use Rattle.pb_matrix.proofs.WordLemmas.{some_bytes, words-append, first_part}

-- bytes that are no gap, at least one
record IsWord (w : List ℕ) : Type 0 where
  bytes : All (λ b. 32 < b) w
  some : has_bytes w ≡ true

no_blank : (b : ℕ) → 32 < b → is_blank b ≡ false
no_blank b h = grind (arith, nat_tests)

no_gap : (b : ℕ) → 32 < b → is_gap b ≡ false
no_gap b h = grind (arith, nat_tests)

no_line_end : (b : ℕ) → 31 < b → is_line_end b ≡ false
no_line_end b h = grind (arith, nat_tests)

module _ (p : ℕ → Bool) (passes_over : (b : ℕ) → 32 < b → p b ≡ false) where
  word_alone : (w : List ℕ) → IsWord w → words p w ≡ w ∷ []
  word_alone w word = rw (slice_split_none p w (All-weaker (λ b. 32 < b) (λ b. p b ≡ false) passes_over w word.bytes), word.some) refl

  -- words with single blanks between them
  words_joined : p 32 ≡ true → (ws : List (List ℕ)) → AllByRecursion IsWord ws → words p (join_with_byte 32 ws) ≡ ws
  words_joined cut [] all = refl
  words_joined cut (w ∷ []) all = word_alone w all.0
  words_joined cut (w ∷ v ∷ vs) all = words-append p w (join_with_byte 32 (v ∷ vs)) 32 cut ∙ rw (word_alone w all.0, words_joined cut (v ∷ vs) all.1) refl

-- a line of words has no LF, and no CR at its end
joined_above : (ws : List (List ℕ)) → AllByRecursion IsWord ws → All (λ b. 31 < b) (join_with_byte 32 ws)
joined_above [] all = All-nil (λ b. 31 < b)
joined_above (w ∷ []) all = All-weaker (λ b. 32 < b) (λ b. 31 < b) (λ b h. omega arith) w all.0.bytes
joined_above (w ∷ v ∷ vs) all =
    All-append (λ b. 31 < b) w (32 ∷ join_with_byte 32 (v ∷ vs)) (All-weaker (λ b. 32 < b) (λ b. 31 < b) (λ b h. omega arith) w all.0.bytes)
    (All-cons (λ b. 31 < b) 32 (join_with_byte 32 (v ∷ vs)) (omega arith) (joined_above (v ∷ vs) all.1))

no_return : (l : List ℕ) (k : ℕ) → All (λ b. 31 < b) l → get_or l k 0 ≡ 13 → ⊥
no_return l k above e = elim (cases_lt k (length l)) [ inl within ↦ omega (arith, above k 0 within, e) | inr past ↦ omega (arith, get_or_past l k 0 past, e) ]

-- a line, and what follows it
first_of_lines : (l rest : List ℕ) → All (λ b. 31 < b) l → lines ((l ++ 10 ∷ []) ++ rest) ≡ l ∷ lines rest
first_of_lines l rest above =
    let parts : slice_split is_line_end (l ++ 10 ∷ rest) ≡ l ∷ slice_split is_line_end rest =
    slice_split_at is_line_end l 10 rest (All-weaker (λ b. 31 < b) (λ b. is_line_end b ≡ false) no_line_end l above) refl in
    let plain : (get_or l (length l - 1) 0 == 13) ≡ false = ne_eqb (get_or l (length l - 1) 0) 13 (no_return l (length l - 1) above) in
    rw (append_assoc l (10 ∷ []) rest, parts, first_part is_line_end rest, plain) refl

-- numbers
digit_bytes : (ds : List ℕ) → AllDigits 10 ds → All (λ b. 32 < b) ds
digit_bytes [] h = All-nil (λ b. 32 < b)
digit_bytes (c ∷ cs) h = let digit = digit_from_value c h.0 in All-cons (λ b. 32 < b) c cs (omega arith) (digit_bytes cs h.1)

decimal_word : (n : ℕ) → n < 2 ^ 64 → IsWord (decimal n)
decimal_word n h = let numeral = (decimal_is_IsNumeral n h).0 in record { bytes = digit_bytes (decimal n) numeral.1; some = some_bytes (decimal n) numeral.0 }

cell_word : (z : ℤ) → IsTrue (fits_i64 z) → IsWord (signed_decimal z)
cell_word (pos n) fits = decimal_word n (omega (arith, ltb-true n (2 ^ 63) fits))
cell_word (negsuc n) fits =
    let digits = decimal_word (suc n) (omega (arith, ltb-true n (2 ^ 63) fits)) in
    record { bytes = All-cons (λ b. 32 < b) 45 (decimal (suc n)) (omega arith) digits.bytes; some = refl }

digits_from : (ds : List ℕ) → IsNumeral 10 ds → is_digits ds ≡ true
digits_from [] n = absurd (omega arith)
digits_from (c ∷ cs) n = (numerals_by_value (λ ds. all_ascii_digits ds ≡ true) tells_all_ascii_digits).from (c ∷ cs) n.1

in_cell_fits : (ds : List ℕ) (z : ℤ) → IsNumeral 10 ds → IsTrue (fits_i64 z) → in_cell ds z ≡ Some z
in_cell_fits ds z n fits = rw (digits_from ds n, fits) refl

plain_number : (ds : List ℕ) → IsNumeral 10 ds → IsTrue (fits_i64 (pos (digits_value 10 ds))) → cell_number ds ≡ Some (pos (digits_value 10 ds))
plain_number [] n fits = absurd (omega arith)
plain_number (c ∷ cs) n fits =
    let digit = digit_from_value c n.1.0 in
    rw (ne_eqb c 45 (λ e. omega arith)) (in_cell_fits (c ∷ cs) (pos (digits_value 10 (c ∷ cs))) n fits)

number_written : (z : ℤ) → IsTrue (fits_i64 z) → cell_number (signed_decimal z) ≡ Some z
number_written (pos n) fits =
    let is = decimal_is_IsNumeral n (omega (arith, ltb-true n (2 ^ 63) fits)) in
    rw is.1 at (plain_number (decimal n) is.0 (rw is.1 fits))
number_written (negsuc n) fits =
    let is = decimal_is_IsNumeral (suc n) (omega (arith, ltb-true n (2 ^ 63) fits)) in
    rw is.1 (in_cell_fits (decimal (suc n)) (negsuc n) is.0 fits)

numbers_written : (cells : List ℤ) → AllByRecursion (λ z. IsTrue (fits_i64 z)) cells → SpellsCells (map signed_decimal cells) cells
numbers_written [] fits = refl
numbers_written (z ∷ zs) fits = rw (number_written z fits.0, numbers_written zs fits.1) refl

-- rows
row_words : (row : List ℤ) → AllFit row → AllByRecursion IsWord (map signed_decimal row)
row_words row fits = recursion_from_All IsWord (map signed_decimal row) (All-map IsWord signed_decimal row (All-weaker (λ z. IsTrue (fits_i64 z)) (λ z. IsWord (signed_decimal z)) cell_word row fits))

rows_words : (h w : ℕ) (cells : List ℤ) → length cells ≡ h * w → AllFit cells → words is_gap (flat_map row_text (rows h w cells)) ≡ map signed_decimal cells
rows_words zero w cells count fits = rw (nil_from_length cells (omega (arith, count))) refl
rows_words (suc h) w cells count fits =
    let row = map signed_decimal (take w cells) in
    let after = flat_map row_text (rows h w (drop w cells)) in
    let later = rows_words h w (drop w cells) (omega (arith, length-drop w cells, count)) (All-drop (λ z. IsTrue (fits_i64 z)) w cells fits) in
    ap (words is_gap) (append_assoc (join_with_byte 32 row) (10 ∷ []) after) ∙ words-append is_gap (join_with_byte 32 row) after 10 refl
    ∙ rw (words_joined is_gap no_gap refl row (row_words (take w cells) (All-take (λ z. IsTrue (fits_i64 z)) w cells fits)), later)
    (sym (map-append signed_decimal (take w cells) (drop w cells)) ∙ ap (map signed_decimal) (take-append-drop w cells))

matrix_words : (s : Shape) (cells : List ℤ) → length cells ≡ cell_count s → AllFit cells → words is_gap (flat_map row_text (matrix_rows s cells)) ≡ map signed_decimal cells
matrix_words s [] count fits = refl
matrix_words s (c ∷ cs) count fits = rows_words s.h s.w (c ∷ cs) (omega (arith, count)) fits

-- the header
plain_decimal : (n : ℕ) → n < 2 ^ 64 → has_leading_zero (decimal n) ≡ false
plain_decimal zero h = rw (decimal_digit 0 (lit< tt)) refl
plain_decimal (suc n) h =
    let first : 48 < get_or (decimal (suc n)) 0 0 = first_decimal (suc n) (omega arith) h in
    and_right (nat_lt 1 (length (decimal (suc n)))) (get_or (decimal (suc n)) 0 0 == 48) (ne_eqb (get_or (decimal (suc n)) 0 0) 48 (λ e. omega arith))

side_written : (n : ℕ) → n ≤ MAX_CELLS → side (decimal n) ≡ Some n
side_written n most =
    let is = decimal_is_IsNumeral n (omega arith) in
    rw (digits_from (decimal n) is.0, plain_decimal n (omega arith), is.1, le-leb n MAX_CELLS most) refl

same_shape : (s : Shape) (d h : ℕ) → s.dims ≡ d → s.h ≡ h → record { dims = d; w = s.w; h = h } ≡ s
same_shape s d h e f = rw (← e, ← f) refl

record Written (s : Shape) : Type 0 where
  words : AllByRecursion IsWord (header_words s)
  shape : header_shape (header_words s) ≡ Some s

header_written : (s : Shape) → IsMatrixShape s → Written s
header_written s is = by_dims is.dims
  where
    name : IsWord (codes "matrix")
    name = record { bytes = All-from_recursion (λ b. 32 < b) (codes "matrix") (search rules); some = refl }

    width : IsWord (decimal s.w)
    width = decimal_word s.w (omega (arith, is.width))

    by_dims : ((s.dims ≡ 1) × (s.h ≡ 1)) ⊎ (s.dims ≡ 2) → Written s
    by_dims (inl (one, high)) =
        let ws : header_words s ≡ codes "matrix" ∷ decimal s.w ∷ [] = rw one refl in
        record {
          words = subst (λ list. AllByRecursion IsWord list) (sym ws) (name, (width, tt));
          shape = rw (ws, side_written s.w is.width) (ap Some (same_shape s 1 1 one high));
        }
    by_dims (inr two) =
        let ws : header_words s ≡ codes "matrix" ∷ decimal s.w ∷ decimal s.h ∷ [] = rw two refl in
        let height : IsWord (decimal s.h) = decimal_word s.h (omega (arith, is.height)) in
        record {
          words = subst (λ list. AllByRecursion IsWord list) (sym ws) (name, (width, (height, tt)));
          shape = rw (ws, side_written s.w is.width, side_written s.h is.height, le-leb (s.w * s.h) MAX_CELLS is.cells)
              (ap Some (same_shape s 2 s.h two refl));
        }

pub read_again : (s : Shape) (cells : List ℤ) → IsMatrixShape s → length cells ≡ cell_count s → AllFit cells
    → matrix_read (matrix_text s cells) ≡ Ok (record { shape = s; cells = cells })
read_again s cells is count fits =
    let written = header_written s is in
    let line = join_with_byte 32 (header_words s) in
    let body = flat_map row_text (matrix_rows s cells) in
    let named : words is_blank line ≡ header_words s = words_joined is_blank no_blank refl (header_words s) written.words in
    let numbers : flat_map (words is_gap) (lines body) ≡ map signed_decimal cells = body_words body ∙ matrix_words s cells count fits in
    let spelled : LinesSpell (line ∷ lines body) (record { shape = s; cells = cells }) =
    header (ap header_shape named ∙ written.shape) (ap (map cell_number) numbers ∙ numbers_written cells (recursion_from_All (λ z. IsTrue (fits_i64 z)) cells fits)) count in
    spelled_lines (subst (λ ls. LinesSpell ls (record { shape = s; cells = cells })) (sym (first_of_lines line body (joined_above (header_words s) written.words))) spelled)
