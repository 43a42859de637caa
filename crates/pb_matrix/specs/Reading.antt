-- The matrix that a text spells, or the text's first fault.
use Rattle.std.specs.Prelude.{◌≡◌, ℕ, List, [], ◌∷◌, length, take, filter_map, flat_map, Option, Some, None, Result, Ok, Err, nat_lt, if◌then◌else◌}
use Rattle.std.specs.List.{position_from, list_all}
use Rattle.std.specs.Str.Lines.{lines}
use Rattle.pb_values.specs.declared.shape.Shape.{Shape}
use Rattle.pb_matrix.specs.Words.{is_blank, is_gap, words, cell_number, is_faulty}
use Rattle.pb_matrix.specs.Header.{header_shape, cell_count}
use Rattle.pb_matrix.specs.Value.{MatrixValue}
use Rattle.pb_matrix.specs.declared.matrix.MatrixRefusal.{MatrixRefusal}
use Rattle.pb_matrix.specs.declared.matrix.MatrixRefusal.TheVariants.{BadHeader, BadNumber, TooFew, TooMany, Memory}

-- by the first faulty word among those that are wanted; with none, by how many words there are
abbrev pub judged : Shape → List (List ℕ) → Option ℕ → Result MatrixValue MatrixRefusal
judged shape found (Some word) = Err (BadNumber word)
judged shape found None =
    if nat_lt (length found) (cell_count shape) then Err (TooFew (cell_count shape) (length found))
    else (if nat_lt (cell_count shape) (length found) then Err (TooMany (cell_count shape))
    else Ok (record { shape = shape; cells = filter_map cell_number found }))

-- the matrix of this shape whose cells these words spell, or their first fault
abbrev pub body_read : Shape → List (List ℕ) → Result MatrixValue MatrixRefusal
body_read shape found = judged shape found (position_from is_faulty 0 (take (cell_count shape) found))

abbrev pub after_header : Option Shape → List (List ℕ) → Result MatrixValue MatrixRefusal
after_header (Some shape) found = body_read shape found
after_header None found = Err BadHeader

-- the first line that isn't blank is the header; the words of all lines after it are the body
abbrev pub lines_read : List (List ℕ) → Result MatrixValue MatrixRefusal
lines_read [] = Err BadHeader
lines_read (line ∷ rest) =
    if list_all is_blank line then lines_read rest
    else after_header (header_shape (words is_blank line)) (flat_map (words is_gap) rest)

abbrev pub matrix_read : List ℕ → Result MatrixValue MatrixRefusal
matrix_read text = lines_read (lines text)

-- what is answered is what reading gives, unless memory ran out
abbrev pub Reads : Result MatrixValue MatrixRefusal → Result MatrixValue MatrixRefusal → Type 0
Reads (Ok matrix) read = read ≡ Ok matrix
Reads (Err Memory) read = Unit {0}
Reads (Err BadHeader) read = read ≡ Err BadHeader
Reads (Err (BadNumber word)) read = read ≡ Err (BadNumber word)
Reads (Err (TooFew wanted found)) read = read ≡ Err (TooFew wanted found)
Reads (Err (TooMany wanted)) read = read ≡ Err (TooMany wanted)
