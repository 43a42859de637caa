-- The numbers of a body in a scratch: of its locals, by number, and of its outputs, one after the other, each row by row.
use Rattle.std.specs.Prelude.{◌≡◌, ℕ, ◌+◌, ◌*◌, ◌≤◌, ℤ, pos, ◌&&◌, nat_lt, if◌then◌else◌, List, [], ◌∷◌, length, map, Option, Some, None, slice_get, slice_index_or}
use Rattle.pb_program.specs.declared.statement.Stmt.{Stmt}
use Rattle.pb_model.specs.Bodies.{Bindings, Store, at_first, local, output}
use Rattle.pb_statements.specs.Shown.{Around}
use Rattle.pb_statements.specs.Working.{rooms_in}
use Rattle.pb_statements.specs.declared.scratch.Scratch.{Scratch}
use Rattle.pb_statements.specs.declared.spot.Spot.{Spot}

-- the number at a place of an output
abbrev pub in_spot : List ℤ → Option Spot → ℕ → ℕ → ℤ
in_spot numbers None x y = pos 0
in_spot numbers (Some s) x y = if nat_lt x s.width && nat_lt y s.height then slice_index_or numbers (s.first + (y * s.width + x)) (pos 0) else pos 0

-- the numbers in places
unfoldable pub stored : List ℤ → List ℤ → List Spot → Store
stored locals numbers spots (local k) = slice_index_or locals k (pos 0)
stored locals numbers spots (output k x y) = in_spot numbers (slice_get spots k) x y

abbrev pub sides_of : Spot → ℕ × ℕ
sides_of s = (s.width, s.height)

-- those of a scratch
unfoldable pub store_of : Scratch → Store
store_of s = stored s.locals.items s.numbers.items s.spots.items

-- the sides of the outputs of a scratch
abbrev pub sides_in : Scratch → List (ℕ × ℕ)
sides_in s = map sides_of s.spots.items

-- room for locals and for the numbers of outputs
unfoldable pub locals_of : Scratch → ℕ
locals_of s = length s.locals.items

unfoldable pub outs_of : Scratch → ℕ
outs_of s = length s.numbers.items

-- the numbers in the room for outputs
unfoldable pub numbers_of : Scratch → List ℤ
numbers_of s = s.numbers.items

-- each local that statements assign a number to has room
abbrev pub HasRoomFor : List Stmt → Scratch → Type 0
HasRoomFor ss s = rooms_in ss ≤ length s.locals.items

-- there is one output, of one cell, and 0 in every place
pub record IsBlank (s : Scratch) : Type 0 where
  pub sides : ◌≡◌ {A = List (ℕ × ℕ)} (map sides_of s.spots.items) ((1, 1) ∷ [])
  pub store : store_of s ≡ at_first

-- what the names of a body stand for
unfoldable pub bound : Around → Scratch → Bindings
bound a s = record { sizes = a.sizes; x = a.x; y = a.y; reads = a.reads; outs = map sides_of s.spots.items }

-- the same room
pub record SameRoom (before after : Scratch) : Type 0 where
  pub locals : length after.locals.items ≡ length before.locals.items
  pub numbers : length after.numbers.items ≡ length before.numbers.items
  pub spots : after.spots.items ≡ before.spots.items
