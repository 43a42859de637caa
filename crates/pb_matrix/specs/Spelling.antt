-- How the lines of a text spell a matrix.
use Rattle.std.specs.Prelude.{◌≡◌, ℕ, List, ◌∷◌, length, map, flat_map, ℤ, Some, IsTrue}
use Rattle.std.specs.List.{list_all}
use Rattle.std.specs.Str.Lines.{lines}
use Rattle.pb_matrix.specs.Words.{is_blank, is_gap, words, cell_number}
use Rattle.pb_matrix.specs.Header.{header_shape, cell_count}
use Rattle.pb_matrix.specs.Value.{MatrixValue}

-- just the words that spell these cells, one for each
abbrev pub SpellsCells : List (List ℕ) → List ℤ → Type 0
SpellsCells found cells = map cell_number found ≡ map Some cells

-- blank lines may stand first; after the header, which names the shape, stand just the words that spell the cells
pub data LinesSpell : List (List ℕ) → MatrixValue → Type 0 where
  blank : {line : List ℕ} {rest : List (List ℕ)} {matrix : MatrixValue}
      → IsTrue (list_all is_blank line)
      → LinesSpell rest matrix → LinesSpell (line ∷ rest) matrix
  header : {line : List ℕ} {rest : List (List ℕ)} {matrix : MatrixValue}
      → header_shape (words is_blank line) ≡ Some matrix.shape
      → SpellsCells (flat_map (words is_gap) rest) matrix.cells
      → length matrix.cells ≡ cell_count matrix.shape
      → LinesSpell (line ∷ rest) matrix

-- the text spells the matrix
abbrev pub Spells : List ℕ → MatrixValue → Type 0
Spells text matrix = LinesSpell (lines text) matrix
