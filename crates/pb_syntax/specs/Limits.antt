-- The limits: how many there may be of each item, and which items of a program are too many.
use Rattle.std.specs.Prelude.{ℕ, Bool, true, false, ◌&&◌, ◌==◌, nat_le, nat_lt, List, [], ◌∷◌, ◌++◌, length, Option, Some, None, if◌then◌else◌}
use Rattle.std.specs.List.{list_any}
use Rattle.std.specs.Str.{bytes_eq}
use Rattle.pb_values.specs.Name.{NameValue}
use Rattle.pb_syntax.specs.declared.token.Token.{Token}
use Rattle.pb_syntax.specs.declared.refusal.Item.{Item}
use Rattle.pb_syntax.specs.declared.refusal.Item.TheVariants as item
use Rattle.pb_syntax.specs.declared.limits.TheConstants.{MOST_TRANSFORMS, MOST_RULES, MOST_MATRICES, MOST_SIZES, MOST_VIEWS, MOST_CONDITIONS, MOST_MINIMUMS, MOST_TARGETS, MOST_ARGUMENTS, MOST_TERMS, MOST_NUMBER, MOST_STATEMENTS, MOST_NESTING}
use Rattle.pb_syntax.specs.declared.tree.form.TermText.{TermText}
use Rattle.pb_syntax.specs.Kinds.{number_in}
use Rattle.pb_syntax.specs.Forms.{FormValue, DeclValue}

-- the most that there may be: transforms; rules, matrices and sizes of a transform; outputs, reads and conditions of a
-- rule; minimums of a header; targets and arguments of a call; terms of a form; statements of a body, nested ones too;
-- `(` and `{` that are open in a body, its own brace counted. A number of a form, a minimum or a mark is at most this
abbrev pub most : Item → ℕ
most item.Transforms = MOST_TRANSFORMS
most item.Rules = MOST_RULES
most item.Matrices = MOST_MATRICES
most item.Sizes = MOST_SIZES
most item.Outputs = MOST_VIEWS
most item.Reads = MOST_VIEWS
most item.Conditions = MOST_CONDITIONS
most item.Minimums = MOST_MINIMUMS
most item.Targets = MOST_TARGETS
most item.Arguments = MOST_ARGUMENTS
most item.Terms = MOST_TERMS
most item.Number = MOST_NUMBER
most item.Statements = MOST_STATEMENTS
most item.Nesting = MOST_NESTING

-- an item too many and the place where it begins
pub record Excess : Type 0 where
  pub what : Item
  pub at : ℕ

abbrev pub limited : ℕ → ℕ → Item → Option Item
limited top before what = if nat_le top before then Some what else None

-- the item is too many where `before` others stand before it
abbrev pub over : Item → ℕ → Option Item
over what before = limited (most what) before what

abbrev pub here : ℕ → Option Item → Option Excess
here at None = None
here at (Some what) = Some (record { what = what; at = at })

-- a number in a form, a minimum or a mark
abbrev pub too_great : Token → Option Excess
too_great t = if nat_lt (most item.Number) (number_in t) then Some (record { what = item.Number; at = t.at }) else None

-- the name that a form is, if it is a name alone
abbrev pub alone_term : TermText → Option NameValue
alone_term t = if t.factor == 1 && (t.quotient == 0) then t.name else None

abbrev pub alone_in : Bool → List TermText → Option NameValue
alone_in false (t ∷ []) = alone_term t
alone_in _ _ = None

abbrev pub alone : FormValue → Option NameValue
alone f = alone_in f.minus f.terms

-- the names that stand alone as dimensions, once each; none where they aren't counted
abbrev pub SizeNames : Type 0
SizeNames = Option (List (List ℕ))

abbrev pub is_known : List ℕ → List (List ℕ) → Bool
is_known n known = list_any (bytes_eq n) known

abbrev pub put_size : List (List ℕ) → Option NameValue → List (List ℕ)
put_size known None = known
put_size known (Some n) = if is_known n.bytes known then known else known ++ n.bytes ∷ []

abbrev pub after_form : SizeNames → FormValue → SizeNames
after_form None f = None
after_form (Some known) f = Some (put_size known (alone f))

abbrev pub sizes_in : List (List ℕ) → List FormValue → List (List ℕ)
sizes_in known [] = known
sizes_in known (f ∷ rest) = sizes_in (put_size known (alone f)) rest

abbrev pub sizes_of : List (List ℕ) → List DeclValue → List (List ℕ)
sizes_of known [] = known
sizes_of known (d ∷ rest) = sizes_of (sizes_in known d.dims) rest

-- those of some matrices, if these are the matrices after `from`
abbrev pub counted : Bool → List DeclValue → SizeNames
counted false ds = None
counted true ds = Some (sizes_of [] ds)

-- a size too many, once its dimension is closed
abbrev pub size_excess : List (List ℕ) → Option NameValue → Option Excess
size_excess known None = None
size_excess known (Some n) =
    if is_known n.bytes known then None
    else (if nat_le (most item.Sizes) (length known) then Some (record { what = item.Sizes; at = n.at }) else None)

abbrev pub excess_of : SizeNames → FormValue → Option Excess
excess_of None f = None
excess_of (Some known) f = size_excess known (alone f)
