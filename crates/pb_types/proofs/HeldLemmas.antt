-- Lists of parts as they are held, and as definitions see them.
use Rattle.std.proofs.Common.{◌≡◌, ℕ, ◌+◌, List, [], ◌∷◌, ◌++◌, length, ◌<◌, drop, get_or, map, Option, refl, ap, ◌∙◌, arith, rules}
use Rattle.std.specs.Global.{Box, Vec}
use Rattle.pb_syntax.specs.declared.tree.expression.Level.{Level}
use Rattle.pb_syntax.specs.declared.tree.expression.Relation.{Relation}
use Rattle.pb_program.specs.declared.expression.Expr.{Chain, Compare, the_lemmas}
use Rattle.pb_types.specs.Sorts.{level_sort}
use Rattle.pb_types.specs.Numbers.{expr_broken, operand_broken}
use Rattle.pb_types.proofs.LeastLemmas.{least_next, least_append}
use Rattle.std.specs.List.{flat_map}
use Rattle.pb_syntax.specs.declared.tree.expression.Operator.{Operator}
use Rattle.pb_program.specs.declared.expression.Expr.{Expr}
use Rattle.pb_program.specs.Exprs.{bare, exprs, operands, chain, compare}
use Rattle.pb_program.specs.Plans.{items}
use Rattle.pb_types.specs.declared.sort.Sort.{Sort}
use Rattle.pb_types.specs.declared.sort.Sort.TheVariants.{Number}
use Rattle.pb_types.specs.Least.{least, least_of}
use Rattle.pb_types.specs.Views.{Bound}
use Rattle.pb_types.specs.Working.{count_in, expr_in, operand_in, numbers_in, listed_in, matrix_in, matrices_in, pair_in, operands_in}

pub counted : (xs : List Expr) → count_in xs ≡ length xs
unfolding count_in
counted [] = refl
counted (x ∷ xs) = omega (arith, counted xs)

pub items_are : (xs : List Expr) → items (exprs (map bare xs)) ≡ map bare xs
items_are [] = refl
items_are (x ∷ xs) = ap (λ rest. bare x ∷ rest) (items_are xs)

pub numbers_listed : (b : Bound) (xs : List Expr) → numbers_in b xs ≡ flat_map (operand_in b Number) xs
unfolding operand_in numbers_in
numbers_listed b [] = refl
numbers_listed b (x ∷ xs) = ap (λ rest. operand_in b Number x ++ rest) (numbers_listed b xs)

pub numbers_are_listed : (b : Bound) (xs : List Expr) → numbers_in b xs ≡ listed_in b xs
unfolding numbers_in listed_in
numbers_are_listed b [] = refl
numbers_are_listed b (x ∷ xs) = ap (λ rest. operand_broken b Number (bare x) ++ rest) (numbers_are_listed b xs)

pub matrices_listed : (b : Bound) (xs : List Expr) → matrices_in b xs ≡ flat_map (matrix_in b) xs
unfolding matrix_in matrices_in
matrices_listed b [] = refl
matrices_listed b (x ∷ xs) = ap (λ rest. matrix_in b x ++ rest) (matrices_listed b xs)

pub operands_listed : (b : Bound) (taken : Sort) (xs : List (Operator × Expr)) → operands_in b taken xs ≡ flat_map (pair_in b taken) xs
unfolding operand_in pair_in operands_in
operands_listed b taken [] = refl
operands_listed b taken (x ∷ xs) = ap (λ rest. pair_in b taken x ++ rest) (operands_listed b taken xs)

-- the operands of a chain, one after the other
pub pair_next : (b : Bound) (taken : Sort) (xs : List (Operator × Expr)) (i : ℕ) (x : Operator × Expr) (found next : Option ℕ)
    → least found (least_of (flat_map (pair_in b taken) (drop i xs))) ≡ least_of (flat_map (pair_in b taken) xs) → next ≡ least_of (operand_in b taken x.1)
    → i < length xs → x ≡ get_or xs i x → least (least found next) (least_of (flat_map (pair_in b taken) (drop (i + 1) xs))) ≡ least_of (flat_map (pair_in b taken) xs)
unfolding pair_in
pair_next b taken xs i x found next before is within here = least_next (pair_in b taken) xs i x found next before is within here

-- a chain and a comparison, as they are held
module _ (b : Bound) where
  pub chain_in : (level : Level) (first : Box Expr) (rest : Vec (Operator × Expr)) → least_of (expr_in b (Chain level first rest))
      ≡ least (least_of (operand_in b (level_sort level) first.value)) (least_of (operands_in b (level_sort level) rest.items))
  unfolding expr_in operand_in operands_in
  chain_in level first rest = ap (λ x. least_of (expr_broken b x)) seen ∙ least_append (operand_in b (level_sort level) first.value) (operands_in b (level_sort level) rest.items)
    where
      seen : bare (Chain level first rest) ≡ chain level (bare first.value) (operands (map (λ o. (o.0, bare o.1)) rest.items))
      seen = search (rules, the_lemmas)

  pub compare_in : (left : Box Expr) (relation : Relation) (right : Box Expr) → least_of (expr_in b (Compare left relation right))
      ≡ least (least_of (operand_in b Number left.value)) (least_of (operand_in b Number right.value))
  unfolding expr_in operand_in
  compare_in left relation right = ap (λ x. least_of (expr_broken b x)) seen ∙ least_append (operand_in b Number left.value) (operand_in b Number right.value)
    where
      seen : bare (Compare left relation right) ≡ compare (bare left.value) relation (bare right.value)
      seen = search (rules, the_lemmas)
