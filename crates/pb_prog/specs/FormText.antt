-- How a form is printed: its parts that aren't 0 with their signs, without blanks; the first has no `+`.
use Rattle.std.specs.Prelude.{ℕ, ◌+◌, ◌==◌, List, [], ◌∷◌, ◌++◌, slice_index_or, ℤ, pos, negsuc, unsigned_abs, codes, decimal, if◌then◌else◌}
use Rattle.pb_values.specs.Name.{NameValue}
use Rattle.pb_linear.specs.declared.form.Form.{Form}

abbrev pub sign_text : ℤ → List ℕ
sign_text (pos n) = codes "+"
sign_text (negsuc n) = codes "-"

-- `n`, `2*n`, `n/2`, `2*(n/2)`: the factor 1 is left out
abbrev pub multiple_text : ℕ → List ℕ → List ℕ → List ℕ
multiple_text k alone grouped = if k == 1 then alone else decimal k ++ (codes "*" ++ grouped)

-- a part with its sign; nothing where its number is 0
unfoldable pub part_text : ℤ → List ℕ → List ℕ → List ℕ
part_text k alone grouped = if unsigned_abs k == 0 then [] else sign_text k ++ multiple_text (unsigned_abs k) alone grouped

-- `n/2` and the like
unfoldable pub share_text : ℤ → List ℕ → List ℕ → List ℕ
share_text k name share = part_text k (name ++ share) (codes "(" ++ ((name ++ share) ++ codes ")"))

abbrev pub coefficient_at : List ℤ → ℕ → ℤ
coefficient_at ks i = slice_index_or ks i (pos 0)

-- a size variable's own part, its half, its third and its quarter
abbrev pub parts_text : ℤ → ℤ → ℤ → ℤ → List ℕ → List ℕ
parts_text whole half third quarter name =
    part_text whole name name
    ++ (share_text half name (codes "/2") ++ (share_text third name (codes "/3") ++ share_text quarter name (codes "/4")))

unfoldable pub variable_text : Form → ℕ → List ℕ → List ℕ
variable_text f i name =
    parts_text (coefficient_at f.whole i) (coefficient_at f.half i) (coefficient_at f.third i) (coefficient_at f.quarter i) name

-- the parts of the variables from a number on, with these names
abbrev pub variables_text : Form → ℕ → List NameValue → List ℕ
variables_text f i [] = []
variables_text f i (n ∷ ns) = variable_text f i n.bytes ++ variables_text f (i + 1) ns

-- the constant, with its sign
abbrev pub constant_text : ℤ → List ℕ
constant_text k = if unsigned_abs k == 0 then [] else sign_text k ++ decimal (unsigned_abs k)

-- no `+` stands first, and nothing at all is `0`
abbrev pub tidied : List ℕ → List ℕ
tidied [] = codes "0"
tidied (c ∷ rest) = if c == 43 then rest else c ∷ rest

abbrev pub form_text : Form → List NameValue → List ℕ
form_text f names = tidied (variables_text f 0 names ++ constant_text f.constant)
