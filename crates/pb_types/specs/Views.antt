-- The views that a rule binds, and what a body may do with their names.
use Rattle.std.specs.Prelude.{ℕ, Bool, true, false, ◌==◌, List, Option, Some, None, slice_get, is_some}
use Rattle.std.specs.Option.{option_and_then, option_map_or}
use Rattle.pb_program.specs.declared.meaning.Meaning.{Meaning}
use Rattle.pb_program.specs.declared.meaning.Meaning.TheVariants as meaning
use Rattle.pb_program.specs.declared.meaning.Named.{Named}
use Rattle.pb_program.specs.declared.view.Read.{Read}
use Rattle.pb_program.specs.declared.view.ReadView.{ReadView}
use Rattle.pb_program.specs.declared.view.ReadView.TheVariants as view
use Rattle.pb_program.specs.Forms.{DeclValue}
use Rattle.pb_types.specs.Least.{unless}

-- the outputs and the reads of a rule
pub record Bound : Type 0 where
  pub outs : List Read
  pub reads : List Read

-- by kind of view, where the view's form is for so many dimensions; a cell is no matrix
abbrev pub dims_by : ReadView → ℕ → Option ℕ
dims_by view.Cell dims = None
dims_by view.Row dims = Some 1
dims_by view.Column dims = Some 1
dims_by view.Region dims = Some dims
dims_by view.Whole dims = Some dims

-- the number of dimensions of what a view shows
abbrev pub view_dims : Read → Option ℕ
view_dims r = dims_by r.view r.dims

-- a view of one cell
abbrev pub is_cell : ReadView → Bool
is_cell view.Cell = true
is_cell _ = false

-- the view that a name names
abbrev pub bound : Bound → Meaning → Option Read
bound b (meaning.Output k) = slice_get b.outs k
bound b (meaning.Read k) = slice_get b.reads k
bound b _ = None

-- the number of dimensions of the bound view, if it isn't a cell
abbrev pub dims_of : Bound → Meaning → Option ℕ
dims_of b m = option_and_then view_dims (bound b m)

-- a name of a bound view that is a cell
abbrev pub is_bound_cell : Bound → Meaning → Bool
is_bound_cell b m = option_map_or (λ r. is_cell r.view) (bound b m) false

-- what may be used as a number: a size or rule variable, a cell, a number of the body
abbrev pub is_number : Bound → Meaning → Bool
is_number b (meaning.Size k) = true
is_number b meaning.RuleX = true
is_number b meaning.RuleY = true
is_number b (meaning.Number k) = true
is_number b m = is_bound_cell b m

-- so many dimensions are there
abbrev pub are_dims : Option ℕ → ℕ → Bool
are_dims None n = false
are_dims (Some d) n = d == n

-- a view has as many coordinates as its matrix has dimensions; to blame is the matrix's name
unfoldable pub view_broken : List DeclValue → Read → List ℕ
view_broken matrices r = unless (option_map_or (λ d. d.dims == r.dims) (slice_get matrices r.matrix) false) r.at

-- a name that is used as a number; to blame is the name
abbrev pub number_broken : Bound → Named → List ℕ
number_broken b n = unless (is_number b n.what) n.at

-- a view whose sides are asked for or whose cells are added up is bound and no cell; to blame is its name
abbrev pub matrix_broken : Bound → Named → List ℕ
matrix_broken b n = unless (is_some (dims_of b n.what)) n.at

-- a view one of whose cells is named is bound, is no cell, and has as many coordinates as dimensions; to blame is its name
abbrev pub cell_broken : Bound → Named → ℕ → List ℕ
cell_broken b n coordinates = unless (are_dims (dims_of b n.what) coordinates) n.at
