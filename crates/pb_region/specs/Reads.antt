-- The cells that a rule reads of the matrices that rules make.
use Rattle.std.specs.Prelude.{ℕ, nat_le, Bool, List, map, filter}
use Rattle.pb_linear.specs.declared.boxes.ReadBox.{ReadBox}
use Rattle.pb_program.specs.declared.view.Read.{Read}
use Rattle.pb_program.specs.Forms.{DeclValue}
use Rattle.pb_program.specs.Trees.{ProgRule, ProgTransform}
use Rattle.pb_region.specs.Boxes.{is_wide}
use Rattle.pb_region.specs.Ends.{Ends, coordinate_of, ends_of}

-- which rule reads, whether it computes more than a cell at once, and which cells of which matrix
pub record ReadValue : Type 0 where
  pub rule : ℕ
  pub wide : Bool
  pub matrix : ℕ
  pub ends : Ends

abbrev pub read_of : List DeclValue → ℕ → Bool → Read → ReadValue
read_of matrices number wide read = record { rule = number; wide = wide; matrix = read.matrix; ends = ends_of matrices read }

-- a matrix that isn't given
abbrev pub is_made : ℕ → Read → Bool
is_made inputs read = nat_le inputs read.matrix

-- those of the rule with this number, one for each read of a matrix that isn't given
unfoldable pub reads_of : ProgTransform → ℕ → ProgRule → List ReadValue
reads_of t number r = map (read_of t.matrices number (is_wide r.kind)) (filter (is_made t.inputs) r.reads)

-- what contracts see of one
abbrev pub read_value : ReadBox → ReadValue
read_value b = record {
  rule = b.rule;
  wide = b.wide;
  matrix = b.matrix;
  ends = record { x = record { low = coordinate_of b.x0; high = coordinate_of b.x1 }; y = record { low = coordinate_of b.y0; high = coordinate_of b.y1 } };
}
