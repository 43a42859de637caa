-- Expressions as they are held, and as definitions see them.
use Rattle.std.proofs.Common.{◌≡◌, ◌∙◌, refl, sym, ap, ℕ, zero, suc, ◌+◌, ◌<◌, ◌≤◌, ℤ, List, [], ◌∷◌, length, drop, get_or, map, Ok, Err, Result, drop-cons, add-one, arith, rules}
use Rattle.std.specs.Global.{Box, Vec}
use Rattle.pb_syntax.specs.declared.tree.expression.Level.{Level}
use Rattle.pb_syntax.specs.declared.tree.expression.Operator.{Operator}
use Rattle.pb_syntax.specs.declared.tree.expression.Relation.{Relation}
use Rattle.pb_syntax.specs.declared.tree.expression.UnarySign.{UnarySign}
use Rattle.pb_values.specs.declared.outcome.Kind.{Kind}
use Rattle.pb_program.specs.declared.expression.Expr.{Expr, Call, Cell, Signed, Chain, Compare, the_lemmas}
use Rattle.pb_program.specs.declared.meaning.Called.{Called}
use Rattle.pb_program.specs.declared.meaning.Named.{Named}
use Rattle.pb_program.specs.Exprs.{bare, exprs, operands, call, cell, chain, compare, signed}
use Rattle.pb_model.specs.Bodies.{Bindings, Store, if_ok, operated, related, signed_by, truth, value, values}
use Rattle.pb_statements.specs.Working.{called_in, cell_in_list, operand_in, value_in, values_in}

module _ (b : Bindings) (st : Store) where
  pub call_in : (c : Called) (xs : Vec Expr) → value_in b st (Call c xs) ≡ called_in b st c.what xs.items
  unfolding value_in called_in value
  call_in c xs = ap (value b st) seen
    where
      seen : bare (Call c xs) ≡ call c (exprs (map bare xs.items))
      seen = search (rules, the_lemmas)

  pub cell_held : (v : Named) (xs : Vec Expr) → value_in b st (Cell v xs) ≡ cell_in_list b st v.what xs.items
  unfolding value_in cell_in_list value
  cell_held v xs = ap (value b st) seen
    where
      seen : bare (Cell v xs) ≡ cell v (exprs (map bare xs.items))
      seen = search (rules, the_lemmas)

  pub signed_in : (at : ℕ) (sign : UnarySign) (x : Box Expr) → value_in b st (Signed at sign x) ≡ if_ok (value_in b st x.value) (signed_by sign)
  unfolding value_in value
  signed_in at sign x = ap (value b st) seen
    where
      seen : bare (Signed at sign x) ≡ signed at sign (bare x.value)
      seen = search (rules, the_lemmas)

  pub chain_in : (level : Level) (first : Box Expr) (rest : Vec (Operator × Expr)) → value_in b st (Chain level first rest) ≡ if_ok (value_in b st first.value) (λ a. values_in b st a rest.items)
  unfolding value_in values_in value
  chain_in level first rest = ap (value b st) seen
    where
      seen : bare (Chain level first rest) ≡ chain level (bare first.value) (operands (map (λ o. (o.0, bare o.1)) rest.items))
      seen = search (rules, the_lemmas)

  pub compare_in : (left : Box Expr) (relation : Relation) (right : Box Expr) → value_in b st (Compare left relation right)
      ≡ if_ok (value_in b st left.value) (λ l. if_ok (value_in b st right.value) (λ r. Ok (truth (related l relation r))))
  unfolding value_in value
  compare_in left relation right = ap (value b st) seen
    where
      seen : bare (Compare left relation right) ≡ compare (bare left.value) relation (bare right.value)
      seen = search (rules, the_lemmas)

  -- ---- operands from a place on
  pub values_next : (rest : List (Operator × Expr)) (i : ℕ) (o : Operator × Expr) (total : ℤ) → i < length rest → o ≡ get_or rest i o
      → values_in b st total (drop i rest) ≡ if_ok (operand_in b st total o.0 o.1) (λ a. values_in b st a (drop (i + 1) rest))
  unfolding values_in operand_in value_in values
  values_next rest i o total below is = rw (add-one) (ap (values_in b st total) (drop-cons rest i o below ∙ ap (λ p. p ∷ drop (suc i) rest) (sym is)))

  pub values_ok : (rest : List (Operator × Expr)) (i : ℕ) (o : Operator × Expr) (total t u : ℤ) → i < length rest → o ≡ get_or rest i o → u ≡ t → operand_in b st total o.0 o.1 ≡ Ok t
      → values_in b st u (drop (i + 1) rest) ≡ values_in b st total (drop i rest)
  values_ok rest i o total t u below is same made = ap (λ v. values_in b st v (drop (i + 1) rest)) same ∙ sym (values_next rest i o total below is ∙ ap (λ r. if_ok r (λ a. values_in b st a (drop (i + 1) rest))) made)

  pub values_err : (rest : List (Operator × Expr)) (i : ℕ) (o : Operator × Expr) (total : ℤ) (k : Kind) → i < length rest → o ≡ get_or rest i o → operand_in b st total o.0 o.1 ≡ Err k
      → Err k ≡ values_in b st total (drop i rest)
  values_err rest i o total k below is made = sym (values_next rest i o total below is ∙ ap (λ r. if_ok r (λ a. values_in b st a (drop (i + 1) rest))) made)

  pub values_end : (rest : List (Operator × Expr)) (i : ℕ) (total : ℤ) → length rest ≤ i → values_in b st total (drop i rest) ≡ Ok total
  unfolding values_in values
  values_end rest i total past = ap (values_in b st total) (none rest i past)
    where
      none : (l : List (Operator × Expr)) (i : ℕ) → length l ≤ i → drop i l ≡ []
      none [] zero past = refl
      none [] (suc i) past = refl
      none (n ∷ l) zero past = absurd (omega arith)
      none (n ∷ l) (suc i) past = none l i (omega arith)

  pub values_same : (rest : List (Operator × Expr)) (a c : ℤ) (r : Result ℤ Kind) → a ≡ c → r ≡ values_in b st a rest → r ≡ values_in b st c rest
  values_same rest a c r e h = h ∙ ap (λ v. values_in b st v rest) e

  pub operated_same : (o : Operator) (x : Expr) (a c v w : ℤ) (r : Result ℤ Kind) → a ≡ c → v ≡ w → r ≡ operated o a v → value_in b st x ≡ Ok w → operand_in b st c o x ≡ if_ok (value_in b st x) (operated o c) → r ≡ operand_in b st c o x
  operated_same o x a c v w r e f made at open_ = made ∙ ap (λ n. operated o n v) e ∙ ap (operated o c) f ∙ ap (λ s. if_ok s (operated o c)) (sym at) ∙ sym open_
