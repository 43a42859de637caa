-- Chains of numbers, of cells of reads and of their sums: what most formulas are, in a form that is quick to evaluate.
use Rattle.std.specs.Prelude.{◌≡◌, Bool, IsTrue, ℤ, pos, List, [], ◌∷◌, Result, Ok}
use Rattle.pb_syntax.specs.declared.tree.expression.Operator.{Operator}
use Rattle.pb_values.specs.declared.outcome.Kind.{Kind}
use Rattle.pb_program.specs.declared.expression.Expr.{Expr}
use Rattle.pb_program.specs.declared.meaning.Meaning.TheVariants.{Read}
use Rattle.pb_model.specs.Bodies.{Bindings, Store, by_operator, if_ok, number_of, summed, view_of}
use Rattle.pb_statements.specs.Working.{value_in, values_in}
use Rattle.pb_eval.specs.declared.terms.Term.{Term}
use Rattle.pb_eval.specs.declared.terms.Term.TheVariants.{Number, Cell, Sum}

-- `is_whole` says whether they stand for a formula
pub record TermsValue : Type 0 where
  pub is_whole : Bool
  pub first : Term
  pub rest : List (Operator × Term)

module _ (b : Bindings) (st : Store) where
  -- the value of a term: a number, the first cell of a read, or the sum of a read
  unfoldable pub term_value : Term → Result ℤ Kind
  term_value (Number n) = Ok n
  term_value (Cell k) = Ok (number_of b st (Read k))
  term_value (Sum k) = summed (pos 0) (view_of b st (Read k)).cells

  -- what operators make of a value and of terms, from left to right
  unfoldable pub steps_value : ℤ → List (Operator × Term) → Result ℤ Kind
  steps_value a [] = Ok a
  steps_value a (t ∷ ts) = if_ok (by_operator t.0 a (term_value t.1)) (λ next. steps_value next ts)

  unfoldable pub terms_value : TermsValue → Result ℤ Kind
  terms_value t = if_ok (term_value t.first) (λ a. steps_value a t.rest)

-- whatever its names stand for, an expression has the value of a term, and of terms
abbrev pub IsTerm : Expr → Term → Type 0
IsTerm e t = (b : Bindings) (st : Store) → value_in b st e ≡ term_value b st t

abbrev pub AreTerms : Expr → TermsValue → Type 0
AreTerms e t = (b : Bindings) (st : Store) → value_in b st e ≡ terms_value b st t

abbrev pub AreSteps : List (Operator × Expr) → List (Operator × Term) → Type 0
AreSteps rest ts = (b : Bindings) (st : Store) (a : ℤ) → values_in b st a rest ≡ steps_value b st a ts

-- the terms, if they are whole, are those of this formula
abbrev pub StandFor : Expr → TermsValue → Type 0
StandFor e t = IsTrue t.is_whole → AreTerms e t
