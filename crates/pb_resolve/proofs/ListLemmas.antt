-- Lists of parts as they are held, and as definitions see them.
use Rattle.std.proofs.Common.{◌≡◌, ℕ, ◌+◌, ◌<◌, List, [], ◌∷◌, ◌++◌, length, get_or, drop, map, refl, ap, subst, ◌∙◌, sym}
use Rattle.std.proofs.Common.{rules, ◌≤◌}
use Rattle.std.specs.Global.{Box, Vec}
use Rattle.pb_syntax.specs.declared.tree.expression.Level.{Level}
use Rattle.pb_syntax.specs.declared.tree.expression.ExprText.{Chain, the_lemmas}
use Rattle.pb_names.specs.Bodies.{expr_of, expr_faults}
use Rattle.std.proofs.lemmas.List.{append-nil, drop_all}
use Rattle.std.specs.List.{flat_map}
use Rattle.pb_names.specs.Faults.{Fails}
use Rattle.pb_resolve.proofs.FaultLemmas.{fails_next, faultless_next}
use Rattle.pb_syntax.specs.declared.tree.expression.Operator.{Operator}
use Rattle.pb_syntax.specs.declared.tree.expression.ExprText.{ExprText}
use Rattle.pb_syntax.specs.Exprs.{bare}
use Rattle.pb_syntax.specs.Exprs as text
use Rattle.pb_program.specs.Exprs.{ExprValue}
use Rattle.pb_program.specs.Exprs as to
use Rattle.pb_names.specs.declared.fault.Fault.{Fault}
use Rattle.pb_names.specs.Bodies.{Visible}
use Rattle.pb_resolve.specs.Working.{expr_in, faults_in, exprs_in, exprs_faults_in, args_in, args_faults_in, operand_in, operand_faults_in, operands_in, operands_faults_in}

exprs_are : (v : Visible) (xs : List ExprText) → to.exprs (map (expr_in v) xs) ≡ exprs_in v xs
unfolding expr_in exprs_in
exprs_are v [] = refl
exprs_are v (x ∷ xs) = ap (to.an_expr (expr_in v x)) (exprs_are v xs)

pub exprs_listed : (v : Visible) (xs : List ExprText) (ys : List ExprValue) → ys ≡ map (expr_in v) xs → to.exprs ys ≡ exprs_in v xs
exprs_listed v xs ys e = ap to.exprs e ∙ exprs_are v xs

pub exprs_faults_listed : (v : Visible) (xs : List ExprText) → exprs_faults_in v xs ≡ flat_map (faults_in v) xs
unfolding faults_in exprs_faults_in
exprs_faults_listed v [] = refl
exprs_faults_listed v (x ∷ xs) = ap (λ rest. faults_in v x ++ rest) (exprs_faults_listed v xs)

args_are : (v : Visible) (xs : List ExprText) → map (expr_in v) xs ≡ args_in v xs
unfolding expr_in args_in
args_are v [] = refl
args_are v (x ∷ xs) = ap (λ rest. expr_in v x ∷ rest) (args_are v xs)

pub args_listed : (v : Visible) (xs : List ExprText) (ys : List ExprValue) → ys ≡ map (expr_in v) xs → ys ≡ args_in v xs
args_listed v xs ys e = e ∙ args_are v xs

pub args_faults_listed : (v : Visible) (xs : List ExprText) → args_faults_in v xs ≡ flat_map (faults_in v) xs
unfolding faults_in args_faults_in
args_faults_listed v [] = refl
args_faults_listed v (x ∷ xs) = ap (λ rest. faults_in v x ++ rest) (args_faults_listed v xs)

operands_are : (v : Visible) (xs : List (Operator × ExprText)) → to.operands (map (operand_in v) xs) ≡ operands_in v xs
unfolding expr_in operand_in operands_in
operands_are v [] = refl
operands_are v (x ∷ xs) = ap (to.an_operand x.0 (expr_in v x.1)) (operands_are v xs)

pub operands_listed : (v : Visible) (xs : List (Operator × ExprText)) (ys : List (Operator × ExprValue)) → ys ≡ map (operand_in v) xs
    → to.operands ys ≡ operands_in v xs
operands_listed v xs ys e = ap to.operands e ∙ operands_are v xs

pub operands_faults_listed : (v : Visible) (xs : List (Operator × ExprText)) → operands_faults_in v xs ≡ flat_map (operand_faults_in v) xs
unfolding faults_in operand_faults_in operands_faults_in
operands_faults_listed v [] = refl
operands_faults_listed v (x ∷ xs) = ap (λ rest. faults_in v x.1 ++ rest) (operands_faults_listed v xs)

-- a chain, as it is held
module _ (v : Visible) (level : Level) (first : Box ExprText) (rest : Vec (Operator × ExprText)) where
  seen : bare (Chain level first rest) ≡ text.chain level (bare first.value) (text.operands (map (λ o. (o.0, bare o.1)) rest.items))
  seen = search (rules, the_lemmas)

  pub chain_in : expr_in v (Chain level first rest) ≡ to.chain level (expr_in v first.value) (operands_in v rest.items)
  unfolding expr_in operands_in
  chain_in = ap (expr_of v) seen

  pub chain_faults_in : faults_in v (Chain level first rest) ≡ faults_in v first.value ++ operands_faults_in v rest.items
  unfolding faults_in operands_faults_in
  chain_faults_in = ap (expr_faults v) seen

-- the operands of a chain, one after the other
module _ (v : Visible) (xs : List (Operator × ExprText)) (i : ℕ) where
  pub operand_fails : (x : Operator × ExprText) (f : Fault) → flat_map (operand_faults_in v) (drop i xs) ≡ flat_map (operand_faults_in v) xs → Fails f (faults_in v x.1)
      → i < length xs → x ≡ get_or xs i x → Fails f (operands_faults_in v xs)
  unfolding operand_faults_in
  operand_fails x f left fails within here = subst (Fails f) (sym (operands_faults_listed v xs)) (fails_next (operand_faults_in v) xs i x f left fails within here)

  pub operand_passes : (x : Operator × ExprText) → flat_map (operand_faults_in v) (drop i xs) ≡ flat_map (operand_faults_in v) xs → faults_in v x.1 ≡ []
      → i < length xs → x ≡ get_or xs i x → flat_map (operand_faults_in v) (drop (i + 1) xs) ≡ flat_map (operand_faults_in v) xs
  unfolding operand_faults_in
  operand_passes x left none within here = faultless_next (operand_faults_in v) xs i x left none within here

  pub operands_end : (ys : List (Operator × ExprValue)) → ys ++ map (operand_in v) (drop i xs) ≡ map (operand_in v) xs → length xs ≤ i → to.operands ys ≡ operands_in v xs
  operands_end ys found end = operands_listed v xs ys (sym (append-nil ys) ∙ ap (λ l. ys ++ map (operand_in v) l) (sym (drop_all i xs end)) ∙ found)

  pub operands_faultless : flat_map (operand_faults_in v) (drop i xs) ≡ flat_map (operand_faults_in v) xs → length xs ≤ i → operands_faults_in v xs ≡ []
  operands_faultless left end = operands_faults_listed v xs ∙ sym left ∙ ap (flat_map (operand_faults_in v)) (drop_all i xs end)
