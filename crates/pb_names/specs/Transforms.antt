-- Transforms and programs: what each is resolved to, and what is wrong with its names.
use Rattle.std.specs.Prelude.{◌≡◌, ℕ, ◌+◌, max, not, ◌||◌, if◌then◌else◌, List, [], ◌∷◌, ◌++◌, map, length, Option, Some, None, is_some, slice_get}
use Rattle.std.specs.List.{flat_map}
use Rattle.std.specs.Option.{option_map_or}
use Rattle.pb_linear.specs.declared.sizes.Ranges.{Ranges}
use Rattle.pb_values.specs.Name.{NameValue}
use Rattle.pb_syntax.specs.Limits.{alone}
use Rattle.pb_syntax.specs.Forms.{FormValue, DeclValue as DeclText}
use Rattle.pb_syntax.specs.Trees.{TransformTree}
use Rattle.pb_syntax.specs.declared.tree.form.TermText.{TermText}
use Rattle.pb_program.specs.declared.meaning.Meaning.{Meaning}
use Rattle.pb_program.specs.declared.meaning.Meaning.TheVariants as meaning
use Rattle.pb_program.specs.Forms.{DeclValue}
use Rattle.pb_program.specs.Trees.{ProgTransform}
use Rattle.pb_syntax.specs.declared.refusal.Refusal.{Refusal}
use Rattle.pb_syntax.specs.declared.refusal.Refusal.TheVariants as refusal
use Rattle.pb_names.specs.declared.fault.Fault.{Fault}
use Rattle.pb_names.specs.declared.fault.Fault.TheVariants as fault
use Rattle.pb_names.specs.declared.matrices.Matrix.{Matrix}
use Rattle.pb_names.specs.Names.{look}
use Rattle.pb_names.specs.Faults.{duplicate, not_bound}
use Rattle.pb_names.specs.Turns.{after_turns, turns, turn_faults}
use Rattle.pb_names.specs.Bodies.{Visible, function_of}
use Rattle.pb_names.specs.Views.{Matrices, is_size}
use Rattle.pb_names.specs.Rules.{decl_of, rule_of, rule_faults}

-- size variables with their numbers, from the k-th on
abbrev pub entries : ℕ → List NameValue → List (List ℕ × Meaning)
entries k [] = []
entries k (n ∷ rest) = (n.bytes, meaning.Size k) ∷ entries (k + 1) rest

-- the names that stand alone as a dimension of a matrix that is given, each where it stands first
abbrev pub put_size : List NameValue → Option NameValue → List NameValue
put_size known None = known
put_size known (Some n) = if is_some (look n.bytes (entries 0 known)) then known else known ++ n ∷ []

abbrev pub sizes_in : List NameValue → List FormValue → List NameValue
sizes_in known [] = known
sizes_in known (f ∷ rest) = sizes_in (put_size known (alone f)) rest

abbrev pub sizes_of : List NameValue → List DeclText → List NameValue
sizes_of known [] = known
sizes_of known (d ∷ rest) = sizes_of (sizes_in known d.dims) rest

abbrev pub sizes : TransformTree → List NameValue
sizes t = sizes_of [] t.from

-- what the header of a transform sees
abbrev pub around : List (List ℕ × ℕ) → List NameValue → Visible
around transforms names = record { transforms = transforms; names = entries 0 names; locals = 0 }

-- a name of a header is a size variable
abbrev pub header_faults : Visible → NameValue → List Fault
header_faults v n = not_bound (not (is_size (look n.bytes v.names))) n

abbrev pub header_term_faults : Visible → TermText → List Fault
header_term_faults v t = option_map_or (header_faults v) t.name []

abbrev pub header_form_faults : Visible → FormValue → List Fault
header_form_faults v f = flat_map (header_term_faults v) f.terms

-- the least values of the sizes in turn: a size has one at most
abbrev pub Minimums : Type 0
Minimums = List (List ℕ × ℕ)

abbrev pub next_minimum : Minimums → (NameValue × ℕ) → Minimums
next_minimum known m = known ++ (m.0.bytes, m.1) ∷ []

abbrev pub minimum_faults : Visible → Minimums → (NameValue × ℕ) → List Fault
minimum_faults v known m = duplicate (is_some (look m.0.bytes known)) m.0 ++ header_faults v m.0

abbrev pub minimums_of : TransformTree → Minimums
minimums_of t = after_turns next_minimum [] t.minimums

-- the least value of a size is 1, or what the header says if that is greater; past the sizes it is 0
abbrev pub least_or : Option ℕ → ℕ
least_or (Some k) = max 1 k
least_or None = 1

abbrev pub least_by : Minimums → Option NameValue → ℕ
least_by known (Some n) = least_or (look n.bytes known)
least_by known None = 0

abbrev pub least_at : Minimums → List NameValue → ℕ → ℕ
least_at known names k = least_by known (slice_get names k)

abbrev pub ranges_of : Minimums → List NameValue → Ranges
ranges_of known names = record {
  count = length names;
  least = least_at known names 0 ∷ least_at known names 1 ∷ least_at known names 2 ∷ least_at known names 3
      ∷ least_at known names 4 ∷ least_at known names 5 ∷ least_at known names 6 ∷ least_at known names 7 ∷ [];
}

-- the matrices in turn: no earlier one and no size has the name
abbrev pub count_of : List FormValue → ℕ
count_of (w ∷ h ∷ rest) = 2
count_of _ = 1

abbrev pub next_matrix : List (List ℕ × Matrix) → DeclText → List (List ℕ × Matrix)
next_matrix known d = known ++ (d.name.bytes, record { number = length known; dims = count_of d.dims }) ∷ []

abbrev pub matrix_faults : Visible → List (List ℕ × Matrix) → DeclText → List Fault
matrix_faults v known d =
    duplicate (is_size (look d.name.bytes v.names) || is_some (look d.name.bytes known)) d.name ++ flat_map (header_form_faults v) d.dims

abbrev pub matrix_of : Visible → List (List ℕ × Matrix) → DeclText → DeclValue
matrix_of v known d = decl_of v.names d.name d.dims

-- the matrices that are given, those with the ones between, and all
abbrev pub given : TransformTree → List (List ℕ × Matrix)
given t = after_turns next_matrix [] t.from

abbrev pub between : TransformTree → List (List ℕ × Matrix)
between t = after_turns next_matrix (given t) t.through

abbrev pub all_matrices : TransformTree → List (List ℕ × Matrix)
all_matrices t = after_turns next_matrix (between t) t.to

abbrev pub matrices_of : TransformTree → Matrices
matrices_of t = record { names = all_matrices t; inputs = length t.from }

abbrev pub decls_of : Visible → TransformTree → List DeclValue
decls_of v t = turns next_matrix (matrix_of v) [] t.from ++ turns next_matrix (matrix_of v) (given t) t.through ++ turns next_matrix (matrix_of v) (between t) t.to

abbrev pub decls_faults : Visible → TransformTree → List Fault
decls_faults v t =
    turn_faults next_matrix (matrix_faults v) [] t.from
    ++ (turn_faults next_matrix (matrix_faults v) (given t) t.through ++ turn_faults next_matrix (matrix_faults v) (between t) t.to)

module _ (transforms : List (List ℕ × ℕ)) where
  abbrev pub seen : TransformTree → Visible
  seen t = around transforms (sizes t)

  abbrev pub transform_of : TransformTree → ProgTransform
  transform_of t = record {
    name = t.name;
    ranges = ranges_of (minimums_of t) (sizes t);
    sizes = sizes t;
    matrices = decls_of (seen t) t;
    inputs = length t.from;
    middles = length t.through;
    rules = map (rule_of (matrices_of t) (seen t)) t.rules;
  }

  abbrev pub transform_faults : TransformTree → List Fault
  transform_faults t =
      turn_faults next_minimum (minimum_faults (seen t)) [] t.minimums
      ++ (decls_faults (seen t) t
      ++ flat_map (rule_faults (matrices_of t) (seen t)) t.rules)

-- the transforms of a program with their numbers, from the k-th on: of equal names the first counts
abbrev pub put_first : ℕ → List (List ℕ × ℕ) → NameValue → List (List ℕ × ℕ)
put_first k known n = if is_some (look n.bytes known) then known else known ++ (n.bytes, k) ∷ []

abbrev pub first_names : ℕ → List (List ℕ × ℕ) → List TransformTree → List (List ℕ × ℕ)
first_names k known [] = known
first_names k known (t ∷ rest) = first_names (k + 1) (put_first k known t.name) rest

abbrev pub all_names : List TransformTree → List (List ℕ × ℕ)
all_names ts = first_names 0 [] ts

-- the transforms in turn: no earlier one and no function has the name
abbrev pub next_transform : List (List ℕ × ℕ) → TransformTree → List (List ℕ × ℕ)
next_transform known t = known ++ (t.name.bytes, 0) ∷ []

abbrev pub named_faults : List (List ℕ × ℕ) → List (List ℕ × ℕ) → TransformTree → List Fault
named_faults all known t = duplicate (is_some (function_of t.name.bytes) || is_some (look t.name.bytes known)) t.name ++ transform_faults all t

abbrev pub named_transform : List (List ℕ × ℕ) → List (List ℕ × ℕ) → TransformTree → ProgTransform
named_transform all known t = transform_of all t

-- the program that a tree is, with each name resolved
abbrev pub program_of : List TransformTree → List ProgTransform
program_of ts = map (transform_of (all_names ts)) ts

-- the faults of the names of a program, in the order of the text
abbrev pub faults_of : List TransformTree → List Fault
faults_of ts = turn_faults next_transform (named_faults (all_names ts)) [] ts

-- the refusal of a fault
abbrev pub refusal_of : Fault → Refusal
refusal_of (fault.Duplicate n) = refusal.DuplicateName n n.at
refusal_of (fault.Unknown n) = refusal.UnknownName n n.at
refusal_of (fault.NotBound n) = refusal.SizeNotBound n n.at
refusal_of (fault.BadOutput at) = refusal.BadOutput at
refusal_of fault.Memory = refusal.Memory

-- a tree without faults is this program
pub record IsResolved (tree : List TransformTree) (p : List ProgTransform) : Type 0 where
  pub faultless : faults_of tree ≡ []
  pub program : p ≡ program_of tree

-- a tree is refused for the first of its faults
abbrev pub IsRefusedFor : List Fault → Refusal → Type 0
IsRefusedFor [] e = ⊥
IsRefusedFor (f ∷ rest) e = e ≡ refusal_of f

abbrev pub IsRefused : List TransformTree → Refusal → Type 0
IsRefused tree e = IsRefusedFor (faults_of tree) e

pub record HasRefusal (tree : List TransformTree) : Type 0 where
  pub why : Refusal
  pub told : IsRefused tree why
