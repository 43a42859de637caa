-- Views and conditions of a rule: what they are resolved to, and what is wrong with their names.
use Rattle.std.specs.Prelude.{ℕ, ◌+◌, Bool, true, false, not, ◌&&◌, ◌||◌, nat_lt, if◌then◌else◌, List, [], ◌∷◌, ◌++◌, Option, Some, None, is_some}
use Rattle.std.specs.List.{flat_map, list_all}
use Rattle.std.specs.Option.{option_map_or}
use Rattle.std.specs.Str.{bytes_eq}
use Rattle.pb_values.specs.Name.{NameValue}
use Rattle.pb_syntax.specs.Limits.{alone}
use Rattle.pb_syntax.specs.Forms.{FormValue}
use Rattle.pb_syntax.specs.declared.tree.form.TermText.{TermText}
use Rattle.pb_syntax.specs.declared.tree.view.CondText.{CondText}
use Rattle.pb_syntax.specs.declared.tree.view.UseText.{UseText}
use Rattle.pb_syntax.specs.declared.tree.view.ViewText.{ViewText}
use Rattle.pb_syntax.specs.declared.tree.view.ViewText.TheVariants as text
use Rattle.pb_program.specs.declared.meaning.Meaning.{Meaning}
use Rattle.pb_program.specs.declared.meaning.Meaning.TheVariants as meaning
use Rattle.pb_program.specs.declared.view.Cond.{Cond}
use Rattle.pb_program.specs.declared.view.Read.{Read}
use Rattle.pb_program.specs.declared.view.ReadView.{ReadView}
use Rattle.pb_program.specs.declared.view.ReadView.TheVariants as to
use Rattle.pb_program.specs.Forms.{CoordinateValue, nothing}
use Rattle.pb_names.specs.declared.fault.Fault.{Fault}
use Rattle.pb_names.specs.declared.matrices.Matrix.{Matrix}
use Rattle.pb_names.specs.Names.{look}
use Rattle.pb_names.specs.Faults.{duplicate, unknown, bad_output}
use Rattle.pb_names.specs.Sums.{collected}
use Rattle.pb_names.specs.Turns.{after_turns, turns, turn_faults}
use Rattle.pb_names.specs.Bodies.{Visible, is_visible}

-- a name of a view or a condition is a size or a rule variable
abbrev pub is_in_views : Option Meaning → Bool
is_in_views (Some (meaning.Size k)) = true
is_in_views (Some meaning.RuleX) = true
is_in_views (Some meaning.RuleY) = true
is_in_views _ = false

abbrev pub view_name_faults : Visible → NameValue → List Fault
view_name_faults v n = unknown (not (is_in_views (look n.bytes v.names))) n

abbrev pub view_term_faults : Visible → TermText → List Fault
view_term_faults v t = option_map_or (view_name_faults v) t.name []

abbrev pub view_form_faults : Visible → FormValue → List Fault
view_form_faults v f = flat_map (view_term_faults v) f.terms

-- the forms of a view, as they are written
abbrev pub forms_of : ViewText → List FormValue
forms_of text.Whole = []
forms_of (text.Cell x None) = x ∷ []
forms_of (text.Cell x (Some y)) = x ∷ y ∷ []
forms_of (text.Row y) = y ∷ []
forms_of (text.Column x) = x ∷ []
forms_of (text.Between a b) = a ∷ b ∷ []
forms_of (text.Region a b c d) = a ∷ b ∷ c ∷ d ∷ []

abbrev pub kind_of : ViewText → ReadView
kind_of text.Whole = to.Whole
kind_of (text.Cell x y) = to.Cell
kind_of (text.Row y) = to.Row
kind_of (text.Column x) = to.Column
kind_of (text.Between a b) = to.Region
kind_of (text.Region a b c d) = to.Region

-- for how many dimensions a view of a matrix is written
abbrev pub dims_of : ViewText → ℕ → ℕ
dims_of text.Whole dims = dims
dims_of (text.Cell x None) dims = 1
dims_of (text.Cell x (Some y)) dims = 2
dims_of (text.Row y) dims = 2
dims_of (text.Column x) dims = 2
dims_of (text.Between a b) dims = 1
dims_of (text.Region a b c d) dims = 2

module _ (names : List (List ℕ × Meaning)) where
  abbrev pub x0_of : ViewText → CoordinateValue
  x0_of (text.Cell x y) = collected names x
  x0_of (text.Column x) = collected names x
  x0_of (text.Between a b) = collected names a
  x0_of (text.Region a b c d) = collected names a
  x0_of _ = nothing

  abbrev pub y0_of : ViewText → CoordinateValue
  y0_of (text.Cell x (Some y)) = collected names y
  y0_of (text.Row y) = collected names y
  y0_of (text.Region a b c d) = collected names b
  y0_of _ = nothing

  abbrev pub x1_of : ViewText → CoordinateValue
  x1_of (text.Between a b) = collected names b
  x1_of (text.Region a b c d) = collected names c
  x1_of _ = nothing

  abbrev pub y1_of : ViewText → CoordinateValue
  y1_of (text.Region a b c d) = collected names d
  y1_of _ = nothing

abbrev pub matrix_or : Option Matrix → Matrix
matrix_or (Some m) = m
matrix_or None = record { number = 0; dims = 1 }

-- what is visible around a rule's views: the matrices of the transform, of which the first `inputs` are given
pub record Matrices : Type 0 where
  pub names : List (List ℕ × Matrix)
  pub inputs : ℕ

abbrev pub is_matrix : Matrices → List ℕ → Bool
is_matrix ms n = is_some (look n ms.names)

abbrev pub view_of : List (List ℕ × Meaning) → Matrix → UseText → Read
view_of names m u = record {
  matrix = m.number;
  at = u.matrix.at;
  view = kind_of u.view;
  dims = dims_of u.view m.dims;
  x0 = x0_of names u.view;
  y0 = y0_of names u.view;
  x1 = x1_of names u.view;
  y1 = y1_of names u.view;
}

-- a view under a name
abbrev pub read_of : Matrices → Visible → UseText → Read
read_of ms v u = view_of v.names (matrix_or (look u.matrix.bytes ms.names)) u

-- the name of a view, after its matrix and its forms: no matrix and no name that is visible has it
abbrev pub bound_faults : Matrices → Visible → NameValue → List Fault
bound_faults ms v n = duplicate (is_matrix ms n.bytes || is_visible v n) n

-- with one more name
abbrev pub bind : Visible → NameValue → Meaning → Visible
bind v n what = record { transforms = v.transforms; names = v.names ++ (n.bytes, what) ∷ []; locals = v.locals }

abbrev pub read_faults : Matrices → Visible → UseText → List Fault
read_faults ms v u = unknown (not (is_matrix ms u.matrix.bytes)) u.matrix ++ flat_map (view_form_faults v) (forms_of u.view)

-- what is visible to a view, and the number of the view
pub record Place : Type 0 where
  pub visible : Visible
  pub number : ℕ

-- the reads of a rule in turn; each sees the names of those before it
abbrev pub after_read : Place → UseText → Place
after_read p u = record { visible = bind p.visible u.bound (meaning.Read p.number); number = p.number + 1 }

abbrev pub read_at : Matrices → Place → UseText → Read
read_at ms p u = read_of ms p.visible u

abbrev pub read_faults_at : Matrices → Place → UseText → List Fault
read_faults_at ms p u = read_faults ms p.visible u ++ bound_faults ms p.visible u.bound

-- the names that are a view's only coordinates
abbrev pub put_name : Option NameValue → Option (List NameValue) → Option (List NameValue)
put_name (Some n) (Some rest) = Some (n ∷ rest)
put_name _ _ = None

abbrev pub coordinate_names : ViewText → Option (List NameValue)
coordinate_names (text.Cell x None) = put_name (alone x) (Some [])
coordinate_names (text.Cell x (Some y)) = put_name (alone x) (put_name (alone y) (Some []))
coordinate_names _ = None

abbrev pub is_size : Option Meaning → Bool
is_size (Some (meaning.Size k)) = true
is_size _ = false

-- the rule variables that an output binds: a cell's coordinates, where each is one name alone that is no size
abbrev pub are_free : Visible → List NameValue → Bool
are_free v ns = list_all (λ n. not (is_size (look n.bytes v.names))) ns

abbrev pub binders_in : Visible → Option (List NameValue) → List NameValue
binders_in v (Some ns) = if are_free v ns then ns else []
binders_in v None = []

abbrev pub binders : Visible → UseText → List NameValue
binders v u = binders_in v (coordinate_names u.view)

-- with the rule variables x and y
abbrev pub with_variables : Visible → List NameValue → Visible
with_variables v [] = v
with_variables v (x ∷ []) = bind v x meaning.RuleX
with_variables v (x ∷ y ∷ rest) = bind (bind v x meaning.RuleX) y meaning.RuleY

abbrev pub variables_faults : Matrices → Visible → List NameValue → List Fault
variables_faults ms v [] = []
variables_faults ms v (x ∷ []) = bound_faults ms v x
variables_faults ms v (x ∷ y ∷ rest) = bound_faults ms v x ++ bound_faults ms (bind v x meaning.RuleX) y

-- a rule variable stands twice
abbrev pub repeats : List NameValue → Bool
repeats (x ∷ y ∷ rest) = bytes_eq x.bytes y.bytes
repeats _ = false

abbrev pub has_names : List NameValue → Bool
has_names [] = false
has_names (n ∷ rest) = true

abbrev pub is_row : ViewText → Bool
is_row (text.Row y) = true
is_row (text.Column x) = true
is_row _ = false

abbrev pub is_given : Matrices → Option Matrix → Bool
is_given ms (Some m) = nat_lt m.number ms.inputs
is_given ms None = false

-- an output can't be a matrix that is given, a row or a column, bind rule variables beside another output, or bind one twice
abbrev pub is_bad_output : Matrices → Bool → UseText → List NameValue → Bool
is_bad_output ms single u ns = is_given ms (look u.matrix.bytes ms.names) || is_row u.view || (not single && has_names ns) || repeats ns

-- in an output that binds no rule variable every name is a size
abbrev pub coordinates_faults : Matrices → Visible → UseText → List NameValue → List Fault
coordinates_faults ms v u [] = flat_map (view_form_faults v) (forms_of u.view)
coordinates_faults ms v u (n ∷ rest) = variables_faults ms v (n ∷ rest)

abbrev pub out_scope : Visible → UseText → Visible
out_scope v u = with_variables v (binders v u)

abbrev pub out_of : Matrices → Visible → UseText → Read
out_of ms v u = read_of ms (out_scope v u) u

abbrev pub out_faults : Matrices → Bool → Visible → UseText → List Fault
out_faults ms single v u =
    unknown (not (is_matrix ms u.matrix.bytes)) u.matrix ++ (bad_output (is_bad_output ms single u (binders v u)) u.matrix ++ coordinates_faults ms v u (binders v u))

-- the outputs of a rule in turn; each sees the names of those before it
abbrev pub after_out : Place → UseText → Place
after_out p u = record { visible = bind (out_scope p.visible u) u.bound (meaning.Output p.number); number = p.number + 1 }

abbrev pub out_at : Matrices → Place → UseText → Read
out_at ms p u = out_of ms p.visible u

abbrev pub out_faults_at : Matrices → Bool → Place → UseText → List Fault
out_faults_at ms single p u = out_faults ms single p.visible u ++ bound_faults ms (out_scope p.visible u) u.bound

abbrev pub start : Visible → Place
start v = record { visible = v; number = 0 }

abbrev pub outs_of : Matrices → Visible → List UseText → List Read
outs_of ms v us = turns after_out (out_at ms) (start v) us

abbrev pub outs_faults : Matrices → Bool → Visible → List UseText → List Fault
outs_faults ms single v us = turn_faults after_out (out_faults_at ms single) (start v) us

abbrev pub after_outs : Visible → List UseText → Visible
after_outs v us = (after_turns after_out (start v) us).visible

abbrev pub reads_of : Matrices → Visible → List UseText → List Read
reads_of ms v us = turns after_read (read_at ms) (start v) us

abbrev pub reads_faults : Matrices → Visible → List UseText → List Fault
reads_faults ms v us = turn_faults after_read (read_faults_at ms) (start v) us

abbrev pub after_reads : Visible → List UseText → Visible
after_reads v us = (after_turns after_read (start v) us).visible

-- a condition
abbrev pub cond_of : Visible → CondText → Cond
cond_of v c = record { left = collected v.names c.left; relation = c.relation; right = collected v.names c.right }

abbrev pub cond_faults : Visible → CondText → List Fault
cond_faults v c = view_form_faults v c.left ++ view_form_faults v c.right
