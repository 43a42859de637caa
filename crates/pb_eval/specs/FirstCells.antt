-- Terms that are numbers and first cells of reads alone, which need no more of the reads than the numbers of these cells.
use Rattle.std.specs.Prelude.{◌≡◌, ℕ, ◌<◌, ◌≤◌, nat_lt, Bool, true, false, IsTrue, List, length, map, slice_index}
use Rattle.std.specs.List.{All}
use Rattle.pb_values.specs.Cells.{Turn}
use Rattle.pb_values.specs.declared.view.View.{View}
use Rattle.pb_program.specs.declared.meaning.Meaning.TheVariants.{Read}
use Rattle.pb_model.specs.Bodies.{Bindings, Store, number_of}
use Rattle.pb_statements.specs.Shown.{number_told}
use Rattle.pb_eval.specs.Terms.{TermsValue}
use Rattle.pb_eval.specs.declared.terms.Term.{Term}
use Rattle.pb_eval.specs.declared.terms.Term.TheVariants.{Number, Cell, Sum}

-- whether a term is a number, or the first cell of one of so many reads
abbrev pub is_of_cell : ℕ → Term → Bool
is_of_cell reads (Number n) = true
is_of_cell reads (Cell k) = nat_lt k reads
is_of_cell reads (Sum k) = false

abbrev pub IsOfCell : ℕ → Term → Type 0
IsOfCell reads t = IsTrue (is_of_cell reads t)

-- there are terms, at most 16, and each is one of these
pub record AreOfCells (reads : ℕ) (t : TermsValue) : Type 0 where
  pub whole : IsTrue t.is_whole
  pub few : length t.rest ≤ 15
  pub first : IsOfCell reads t.first
  pub rest : All (λ s. IsOfCell reads s.1) t.rest

-- each view shows something, and begins at its cell of this list
pub record BeginAt (cells : List ℕ) (views : List View) : Type 0 where
  pub first : map (λ (v : View). v.first) views ≡ cells
  pub some : All (λ v. (0 < v.shape.w) × (0 < v.shape.h)) views

-- the reads have the numbers that are told of their first cells
abbrev pub TellsFirst : Turn → List ℕ → Bindings → Type 0
TellsFirst turn cells b = (k : ℕ) → k < length cells → (st : Store) → number_of b st (Read k) ≡ number_told turn (slice_index cells k)
