-- Forms with their terms collected: the coefficients of the rule variables, and numbers over the sizes.
use Rattle.std.specs.Prelude.{ℕ, ℤ, pos, ◌+ℤ◌, ◌-ℤ◌, Bool, true, ◌==◌, if◌then◌else◌, List, [], ◌∷◌, Option, Some, None, slice_set}
use Rattle.pb_linear.specs.Numbers.{Numbers, coefficient}
use Rattle.pb_values.specs.Name.{NameValue}
use Rattle.pb_syntax.specs.Forms.{FormValue}
use Rattle.pb_syntax.specs.declared.tree.form.TermText.{TermText}
use Rattle.pb_program.specs.declared.meaning.Meaning.{Meaning}
use Rattle.pb_program.specs.declared.meaning.Meaning.TheVariants as meaning
use Rattle.pb_program.specs.Forms.{CoordinateValue, nothing}
use Rattle.pb_names.specs.Names.{look}

-- the row with so much more of a coefficient
abbrev pub add_to : List ℤ → ℕ → ℤ → List ℤ
add_to row k d = slice_set row k (coefficient row k +ℤ d)

-- so much more of a size variable, or of its half, third or quarter
abbrev pub add_size : Numbers → ℕ → ℕ → ℤ → Numbers
add_size n k quotient d =
    if quotient == 0 then record n { whole = add_to n.whole k d } else
    if quotient == 2 then record n { half = add_to n.half k d } else
    if quotient == 3 then record n { third = add_to n.third k d } else
    record n { quarter = add_to n.quarter k d }

-- so much more of what a name names; of a quotient of a rule variable it is only kept that there is one
abbrev pub add_named : CoordinateValue → Meaning → ℕ → ℤ → CoordinateValue
add_named c (meaning.Size k) quotient d = record c { rest = add_size c.rest k quotient d }
add_named c meaning.RuleX quotient d = if quotient == 0 then record c { x = c.x +ℤ d } else record c { quotient = true }
add_named c meaning.RuleY quotient d = if quotient == 0 then record c { y = c.y +ℤ d } else record c { quotient = true }
add_named c _ quotient d = c

abbrev pub add_number : CoordinateValue → ℤ → CoordinateValue
add_number c d = record c { rest = record (c.rest) { constant = c.rest.constant +ℤ d } }

abbrev pub add_found : CoordinateValue → Option Meaning → ℕ → ℤ → CoordinateValue
add_found c (Some m) quotient d = add_named c m quotient d
add_found c None quotient d = c

abbrev pub signed : Bool → ℕ → ℤ
signed minus factor = if minus then pos 0 -ℤ pos factor else pos factor

module _ (names : List (List ℕ × Meaning)) where
  abbrev pub add_by_name : CoordinateValue → Option NameValue → ℕ → ℤ → CoordinateValue
  add_by_name c None quotient d = add_number c d
  add_by_name c (Some n) quotient d = add_found c (look n.bytes names) quotient d

  -- with one more term
  abbrev pub add_term : CoordinateValue → Bool → TermText → CoordinateValue
  add_term c minus t = add_by_name c t.name t.quotient (signed minus t.factor)

  abbrev pub add_terms : CoordinateValue → List TermText → CoordinateValue
  add_terms c [] = c
  add_terms c (t ∷ rest) = add_terms (add_term c t.minus t) rest

  abbrev pub sum_of_terms : Bool → List TermText → CoordinateValue
  sum_of_terms minus [] = nothing
  sum_of_terms minus (t ∷ rest) = add_terms (add_term nothing minus t) rest

  -- a form with its terms collected
  abbrev pub collected : FormValue → CoordinateValue
  collected f = sum_of_terms f.minus f.terms
