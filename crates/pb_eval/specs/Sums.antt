-- First cells of reads that are added and taken away along a line, in the place of terms.
use Rattle.std.specs.Prelude.{◌≡◌, ℕ, ◌<◌, Bool, IsTrue, List, length, get_or, is_some, Some, slice_get}
use Rattle.std.specs.List.{All}
use Rattle.pb_syntax.specs.declared.tree.expression.Operator.{Operator}
use Rattle.pb_values.specs.Cells.{Turn}
use Rattle.pb_eval.specs.Moving.{cell_at}
use Rattle.pb_eval.specs.Terms.{TermsValue}
use Rattle.pb_eval.specs.declared.moving.Moving.{Moving}
use Rattle.pb_eval.specs.declared.terms.Term.{Term}
use Rattle.pb_eval.specs.declared.terms.Term.TheVariants.{Cell}

-- `is_known` says whether they stand for terms
pub record SumValue : Type 0 where
  pub is_known : Bool
  pub first : Moving
  pub rest : List (Operator × Moving)

-- a term is the first cell of the read of which this one of the list tells how it moves
pub record IsFirstOf (ms : List Moving) (t : Term) (m : Moving) : Type 0 where
  pub k : ℕ
  pub term : t ≡ Cell k
  pub there : slice_get ms k ≡ Some m

-- and it stands after the same operator
pub record IsStepOf (ms : List Moving) (t : Operator × Term) (s : Operator × Moving) : Type 0 where
  pub operator : t.0 ≡ s.0
  pub first : IsFirstOf ms t.1 s.1

-- one by one
pub record AreStepsOf (ms : List Moving) (ts : List (Operator × Term)) (ss : List (Operator × Moving)) : Type 0 where
  pub count : length ss ≡ length ts
  pub each : (k : ℕ) (t : Operator × Term) (s : Operator × Moving) → k < length ts → IsStepOf ms (get_or ts k t) (get_or ss k s)

pub record IsSumOf (ms : List Moving) (t : TermsValue) (s : SumValue) : Type 0 where
  pub first : IsFirstOf ms t.first s.first
  pub rest : AreStepsOf ms t.rest s.rest

-- where it is known, it is that of these terms
abbrev pub StandsInFor : List Moving → TermsValue → SumValue → Type 0
StandsInFor ms t s = IsTrue s.is_known → IsSumOf ms t s

-- something is told of each of its cells at a place of the line
pub record IsToldAt (turn : Turn) (i : ℕ) (s : SumValue) : Type 0 where
  pub first : IsTrue (is_some (turn.outcomes (cell_at i s.first)))
  pub rest : All (λ p. IsTrue (is_some (turn.outcomes (cell_at i p.1)))) s.rest
