-- The lines of a text, one at a time, and the words of all lines.
use Rattle.std.proofs.Common.{◌≡◌, ℕ, ◌+◌, ◌-◌, ◌<◌, Bool, true, false, not, List, [], ◌∷◌, ◌++◌, length, get_or, take, drop, flat_map, ◌==◌, if◌then◌else◌, refl, sym, ap, ◌∙◌, arith}
use Rattle.std.specs.List.{slice_split, position_or_len, before_first, after_first, join_with_byte, list_all}
use Rattle.std.specs.Str.Lines.{lines, lines_of_parts, strip_carriage_return}
use Rattle.std.proofs.lemmas.List.{drop_more, take_all, drop_all, append-nil, take-append-drop, length-take-le}
use Rattle.std.proofs.lemmas.List.Splits.{join_with_byte-slice_split}
use Rattle.std.proofs.lemmas.List.Sums.{prefix_len-le-length}
use Rattle.std.proofs.lemmas.Bool.Decides.{nat_tests}
use Rattle.pb_matrix.specs.Words.{is_line_end, is_blank, is_gap, words}
use Rattle.pb_matrix.specs.Header.{header_shape}
use Rattle.pb_matrix.specs.Reading.{matrix_read, after_header}
use Rattle.pb_matrix.proofs.WordLemmas.{first_part, words-append}

not_zero : (n : ℕ) → 0 < n → (n == 0) ≡ false
not_zero n h = grind (arith, nat_tests)

-- a line that an LF ends
pub ended_line : (text line rest : List ℕ) → line ≡ before_first is_line_end text → rest ≡ after_first is_line_end text → (length line ≡ length text → ⊥)
    → lines text ≡ strip_carriage_return line ∷ lines rest
ended_line text line rest l r ended =
    let n = position_or_len is_line_end text in
    let most = prefix_len-le-length (λ b. not (is_line_end b)) text in
    let whole : length line ≡ n = rw l (length-take-le n text most) in
    let cut : drop n text ≡ get_or text n 0 ∷ drop (n + 1) text = drop_more text n 0 (omega (arith, most)) in
    rw (l, r, first_part is_line_end text, cut, first_part is_line_end (after_first is_line_end text)) refl

-- the last line, where no LF ends it
pub last_line : (text line rest : List ℕ) → line ≡ before_first is_line_end text → rest ≡ after_first is_line_end text → length line ≡ length text → 0 < length text
    → lines text ≡ line ∷ lines rest
last_line text line rest l r unended some =
    let n = position_or_len is_line_end text in
    let whole : length line ≡ n = rw l (length-take-le n text (prefix_len-le-length (λ b. not (is_line_end b)) text)) in
    let here : before_first is_line_end text ≡ text = take_all n text (omega arith) in
    rw (l, r, first_part is_line_end text, drop_all n text (omega arith), drop_all (n + 1) text (omega arith), here, not_zero (length text) some) refl

-- a CR at the end of a line is no part of a word
stripped_step : (line : List ℕ) (k : ℕ) → k + 1 ≡ length line → (b : Bool) → (get_or line k 0 == 13) ≡ b → words is_gap (if get_or line k 0 == 13 then take k line else line) ≡ words is_gap line
stripped_step line k e false other = rw other refl
stripped_step line k e true cr =
    let thirteen : get_or line k 0 ≡ 13 = grind (arith, nat_tests) in
    let last : drop k line ≡ 13 ∷ [] = drop_more line k 0 (omega arith) ∙ rw (thirteen, drop_all (k + 1) line (omega arith)) refl in
    let whole : line ≡ take k line ++ 13 ∷ [] = sym (take-append-drop k line) ∙ ap (λ end. take k line ++ end) last in
    rw cr (sym (ap (words is_gap) whole ∙ words-append is_gap (take k line) [] 13 refl ∙ append-nil _))

stripped_words : (line : List ℕ) → words is_gap (strip_carriage_return line) ≡ words is_gap line
stripped_words [] = refl
stripped_words (x ∷ xs) = stripped_step (x ∷ xs) (length (x ∷ xs) - 1) (omega arith) (get_or (x ∷ xs) (length (x ∷ xs) - 1) 0 == 13) refl

-- the words of the parts between LFs are those of the whole
joined_words : (parts : List (List ℕ)) → words is_gap (join_with_byte 10 parts) ≡ flat_map (words is_gap) (lines_of_parts parts)
joined_words [] = refl
joined_words ([] ∷ []) = refl
joined_words ((x ∷ xs) ∷ []) = rw (not_zero (length (x ∷ xs)) (omega arith)) (sym (append-nil _))
joined_words (part ∷ next ∷ more) =
    words-append is_gap part (join_with_byte 10 (next ∷ more)) 10 refl ∙ rw (stripped_words part, joined_words (next ∷ more)) refl

-- the words of a text are those of its lines
pub body_words : (text : List ℕ) → flat_map (words is_gap) (lines text) ≡ words is_gap text
body_words text = sym (joined_words (slice_split is_line_end text)) ∙ ap (words is_gap) (join_with_byte-slice_split 10 text)

pub blank_line : (text line rest : List ℕ) → lines text ≡ line ∷ lines rest → list_all is_blank line ≡ true → matrix_read rest ≡ matrix_read text
blank_line text line rest e blank = rw (e, blank) refl

pub header_line : (text line rest : List ℕ) → lines text ≡ line ∷ lines rest → list_all is_blank line ≡ false
    → matrix_read text ≡ after_header (header_shape (words is_blank line)) (words is_gap rest)
header_line text line rest e blank = rw (e, blank, body_words rest) refl
