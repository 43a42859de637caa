-- What is read is what is spelled, and the other way round.
use Rattle.std.proofs.Common.{◌≡◌, ℕ, ◌+◌, Bool, true, false, ◌&&◌, ◌==◌, nat_lt, List, [], ◌∷◌, length, take, filter_map, flat_map, map, ℤ, pos, neg_ℤ, IsTrue, Option, Some, None, Result, Ok, Err, IfOk, refl, sym, ap, ◌∙◌, subst, arith}
use Rattle.std.specs.List.{All, AllByRecursion, position_from, list_all}
use Rattle.std.specs.Str.Lines.{lines}
use Rattle.std.specs.Str.Parse.{digits_value}
use Rattle.std.proofs.lemmas.Bool.{and_parts, le-ltb, ltb-false, false_from_ne_true}
use Rattle.std.proofs.lemmas.List.{take_all}
use Rattle.std.proofs.lemmas.List.Elements.{All-from_recursion}
use Rattle.pb_values.specs.Checked.{fits_i64}
use Rattle.pb_values.specs.declared.shape.Shape.{Shape}
use Rattle.pb_matrix.specs.Words.{is_blank, is_gap, words, cell_number, in_cell, is_digits, is_faulty}
use Rattle.pb_matrix.specs.Header.{header_shape, cell_count}
use Rattle.pb_matrix.specs.Value.{MatrixValue}
use Rattle.pb_matrix.specs.Reading.{body_read, after_header, lines_read, matrix_read, Reads}
use Rattle.pb_matrix.specs.Spelling.{SpellsCells, LinesSpell, blank, header, Spells}
use Rattle.pb_matrix.proofs.BodyLemmas.{same_length, at_end}
use Rattle.pb_matrix.specs.declared.matrix.MatrixRefusal.{MatrixRefusal}
use Rattle.pb_matrix.specs.declared.matrix.MatrixRefusal.TheVariants.{BadNumber, TooFew, TooMany}

-- where no word is faulty, each is a number
all_numbers : (ws : List (List ℕ)) (i : ℕ) → position_from is_faulty i ws ≡ None → SpellsCells ws (filter_map cell_number ws)
all_numbers [] i e = refl
all_numbers (w ∷ ws) i e = step (cell_number w) refl (all_numbers ws (i + 1))
  where
    step : (o : Option ℤ) → cell_number w ≡ o → (position_from is_faulty (i + 1) ws ≡ None → SpellsCells ws (filter_map cell_number ws))
        → SpellsCells (w ∷ ws) (filter_map cell_number (w ∷ ws))
    step None none rest = let some : Some i ≡ None = rw none at e in absurd (cc)
    step (Some z) number rest = rw (number, rest (rw number at e)) refl

-- what a body must be to be read
record BodySpells (s : Shape) (ws : List (List ℕ)) (matrix : MatrixValue) : Type 0 where
  shape : matrix.shape ≡ s
  numbers : SpellsCells ws matrix.cells
  count : length matrix.cells ≡ cell_count s

module _ (s : Shape) (ws : List (List ℕ)) (matrix : MatrixValue) where
  no_fault : body_read s ws ≡ Ok matrix → position_from is_faulty 0 (take (cell_count s) ws) ≡ None → BodySpells s ws matrix
  no_fault e none = by_few (nat_lt (length ws) (cell_count s)) refl
    where
      by_over : (b : Bool) → nat_lt (cell_count s) (length ws) ≡ b → nat_lt (length ws) (cell_count s) ≡ false → BodySpells s ws matrix
      by_over true over few = let some : Err (TooMany (cell_count s)) ≡ Ok matrix = rw (none, few, over) at e in absurd (cc)
      by_over false over few =
          let is : Ok (record { shape = s; cells = filter_map cell_number ws }) ≡ Ok matrix = rw (none, few, over) at e in
          let most = ltb-false (cell_count s) (length ws) over in
          let numbers = all_numbers ws 0 (rw (take_all (cell_count s) ws most) at none) in
          let count : length (filter_map cell_number ws) ≡ cell_count s = omega (arith, same_length ws (filter_map cell_number ws) numbers, most, ltb-false (length ws) (cell_count s) few) in
          let same : record { shape = s; cells = filter_map cell_number ws } ≡ matrix = cc in
          subst (BodySpells s ws) same (record { shape = refl; numbers = numbers; count = count })

      by_few : (b : Bool) → nat_lt (length ws) (cell_count s) ≡ b → BodySpells s ws matrix
      by_few true few = let some : Err (TooFew (cell_count s) (length ws)) ≡ Ok matrix = rw (none, few) at e in absurd (cc)
      by_few false few = by_over (nat_lt (cell_count s) (length ws)) refl few

  body_spelled : body_read s ws ≡ Ok matrix → BodySpells s ws matrix
  body_spelled e = by_fault (position_from is_faulty 0 (take (cell_count s) ws)) refl
    where
      by_fault : (o : Option ℕ) → position_from is_faulty 0 (take (cell_count s) ws) ≡ o → BodySpells s ws matrix
      by_fault (Some k) fault = let some : Err (BadNumber k) ≡ Ok matrix = rw fault at e in absurd (cc)
      by_fault None none = no_fault e none

spelled_body : (ws : List (List ℕ)) (matrix : MatrixValue) → SpellsCells ws matrix.cells → length matrix.cells ≡ cell_count matrix.shape → body_read matrix.shape ws ≡ Ok matrix
spelled_body ws matrix numbers count =
    sym (at_end matrix.shape ws matrix.cells numbers (omega arith)) ∙ rw (le-ltb (length matrix.cells) (cell_count matrix.shape) (omega arith)) refl

-- a line of blanks has no words
no_words : (line : List ℕ) → list_all is_blank line ≡ true → words is_blank line ≡ []
no_words [] e = refl
no_words (b ∷ bs) e = let parts = and_parts (is_blank b) (list_all is_blank bs) e in rw parts.0 (no_words bs parts.1)

lines_spelled : (ls : List (List ℕ)) (matrix : MatrixValue) → lines_read ls ≡ Ok matrix → LinesSpell ls matrix
lines_spelled [] matrix e = absurd (cc)
lines_spelled (line ∷ rest) matrix e = by_blank (list_all is_blank line) refl (lines_spelled rest matrix)
  where
    by_shape : (o : Option Shape) → header_shape (words is_blank line) ≡ o → after_header o (flat_map (words is_gap) rest) ≡ Ok matrix → LinesSpell (line ∷ rest) matrix
    by_shape None none e = absurd (cc)
    by_shape (Some s) named e =
        let body = body_spelled s (flat_map (words is_gap) rest) matrix e in
        header (named ∙ ap Some (sym body.shape)) body.numbers (body.count ∙ ap cell_count (sym body.shape))

    by_blank : (b : Bool) → list_all is_blank line ≡ b → (lines_read rest ≡ Ok matrix → LinesSpell rest matrix) → LinesSpell (line ∷ rest) matrix
    by_blank true none later = blank none (later (rw none at e))
    by_blank false some later = by_shape (header_shape (words is_blank line)) refl (rw some at e)

pub spelled_lines : {ls : List (List ℕ)} {matrix : MatrixValue} → LinesSpell ls matrix → lines_read ls ≡ Ok matrix
spelled_lines (blank none rest) = rw none (spelled_lines rest)
spelled_lines (header {line} {rest} {matrix} named numbers count) = rw (some_words, named) (spelled_body (flat_map (words is_gap) rest) matrix numbers count)
  where
    some_words : list_all is_blank line ≡ false
    some_words = false_from_ne_true (list_all is_blank line) (λ none. let empty : None ≡ Some matrix.shape = rw (no_words line none) at named in absurd (cc))

-- ---- the numbers that are spelled are those of 64 bits
module _ (ds : List ℕ) (z y : ℤ) (e : in_cell ds z ≡ Some y) where
  number_fits : IsTrue (fits_i64 y)
  number_fits = by_test (is_digits ds && fits_i64 z) refl
    where
      by_test : (b : Bool) → (is_digits ds && fits_i64 z) ≡ b → IsTrue (fits_i64 y)
      by_test false fails = let none : None ≡ Some y = rw fails at e in absurd (cc)
      by_test true holds =
          let some : Some z ≡ Some y = rw holds at e in
          let same : z ≡ y = cc in
          subst (λ n. IsTrue (fits_i64 n)) same (and_parts (is_digits ds) (fits_i64 z) holds).1

word_fits : (word : List ℕ) (z : ℤ) → cell_number word ≡ Some z → IsTrue (fits_i64 z)
word_fits [] z e = absurd (cc)
word_fits (c ∷ cs) z e = by_sign (c == 45) refl
  where
    by_sign : (b : Bool) → (c == 45) ≡ b → IsTrue (fits_i64 z)
    by_sign true minus = number_fits cs (neg_ℤ (pos (digits_value 10 cs))) z (rw minus at e)
    by_sign false digit = number_fits (c ∷ cs) (pos (digits_value 10 (c ∷ cs))) z (rw digit at e)

cells_fit : (ws : List (List ℕ)) (cells : List ℤ) → SpellsCells ws cells → AllByRecursion (λ z. IsTrue (fits_i64 z)) cells
cells_fit ws [] e = tt
cells_fit [] (z ∷ cells) e = absurd (cc)
cells_fit (w ∷ ws) (z ∷ cells) e =
    let first : cell_number w ≡ Some z = cc in
    let rest : map cell_number ws ≡ map Some cells = cc in
    (word_fits w z first, cells_fit ws cells rest)

lines_fit : {ls : List (List ℕ)} {matrix : MatrixValue} → LinesSpell ls matrix → AllByRecursion (λ z. IsTrue (fits_i64 z)) matrix.cells
lines_fit (blank none rest) = lines_fit rest
lines_fit (header {line} {rest} {matrix} named numbers count) = cells_fit (flat_map (words is_gap) rest) matrix.cells numbers

-- ---- of what is answered
pub answer_fits : (text : List ℕ) (r : Result MatrixValue MatrixRefusal) → Reads r (matrix_read text) → IfOk r (λ matrix. All (λ z. IsTrue (fits_i64 z)) matrix.cells)
answer_fits text (Ok matrix) e = All-from_recursion (λ z. IsTrue (fits_i64 z)) matrix.cells (lines_fit (lines_spelled (lines text) matrix e))
answer_fits text (Err f) e = tt

pub answer_spelled : (text : List ℕ) (r : Result MatrixValue MatrixRefusal) → Reads r (matrix_read text) → IfOk r (λ matrix. Spells text matrix)
answer_spelled text (Ok matrix) e = lines_spelled (lines text) matrix e
answer_spelled text (Err f) e = tt

pub spelled_answer : (text : List ℕ) (r : Result MatrixValue MatrixRefusal) → Reads r (matrix_read text) → (matrix : MatrixValue) → Spells text matrix → Reads r (Ok matrix)
spelled_answer text r e matrix spelled = subst (Reads r) (spelled_lines spelled) e
