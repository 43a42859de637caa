-- Whether some part of a body calls a transform.
use Rattle.std.proofs.Common.{◌≡◌, ℕ, ◌+◌, ◌<◌, ◌≤◌, Bool, true, false, ◌||◌, List, [], ◌∷◌, length, get_or, drop, refl, ap, ◌∙◌, sym, add-one}
use Rattle.std.specs.List.{list_any}
use Rattle.std.proofs.Math.Seq.{drop-cons}
use Rattle.std.proofs.lemmas.List.{drop_all}
use Rattle.pb_syntax.specs.declared.tree.expression.Operator.{Operator}
use Rattle.pb_program.specs.declared.expression.Expr.{Expr}
use Rattle.pb_program.specs.declared.statement.Stmt.{Stmt}
use Rattle.pb_program.specs.Exprs.{bare}
use Rattle.pb_program.specs.Stmts.{bare_stmt}
use Rattle.pb_names.specs.Kinds.{calls, plans, calls_in, some_calls_in, args_call_in, operands_call_in, plans_in, some_plans_in}

pub exprs_any : (xs : List Expr) → some_calls_in xs ≡ list_any calls_in xs
unfolding calls_in some_calls_in
exprs_any [] = refl
exprs_any (x ∷ xs) = ap (λ b. calls (bare x) || b) (exprs_any xs)

pub args_any : (xs : List Expr) → args_call_in xs ≡ list_any calls_in xs
unfolding calls_in args_call_in
args_any [] = refl
args_any (x ∷ xs) = ap (λ b. calls (bare x) || b) (args_any xs)

pub operands_any : (xs : List (Operator × Expr)) → operands_call_in xs ≡ list_any (λ o. calls_in o.1) xs
unfolding calls_in operands_call_in
operands_any [] = refl
operands_any (x ∷ xs) = ap (λ b. calls (bare x.1) || b) (operands_any xs)

pub stmts_any : (ss : List Stmt) → some_plans_in ss ≡ list_any plans_in ss
unfolding plans_in some_plans_in
stmts_any [] = refl
stmts_any (s ∷ ss) = ap (λ b. plans (bare_stmt s) || b) (stmts_any ss)

module _ {A : Type 0} (p : A → Bool) (xs : List A) (i : ℕ) (x : A) (left : list_any p (drop i xs) ≡ list_any p xs) (within : i < length xs) (here : x ≡ get_or xs i x) where
  at : list_any p (drop i xs) ≡ (p x || list_any p (drop (i + 1) xs))
  at = rw (add-one, drop-cons xs i x) (rw (← here) refl)

  pub any_here : p x ≡ true → list_any p xs ≡ true
  any_here yes_it = sym left ∙ at ∙ ap (λ b. b || list_any p (drop (i + 1) xs)) yes_it

  pub any_next : p x ≡ false → list_any p (drop (i + 1) xs) ≡ list_any p xs
  any_next not_it = sym (ap (λ b. b || list_any p (drop (i + 1) xs)) not_it) ∙ sym at ∙ left

any_none : {A : Type 0} (p : A → Bool) (xs : List A) (i : ℕ) → list_any p (drop i xs) ≡ list_any p xs → length xs ≤ i → false ≡ list_any p xs
any_none p xs i left end = sym (ap (list_any p) (drop_all i xs end)) ∙ left

pub exprs_none : (xs : List Expr) (i : ℕ) → list_any calls_in (drop i xs) ≡ list_any calls_in xs → length xs ≤ i → false ≡ some_calls_in xs
exprs_none xs i left end = any_none calls_in xs i left end ∙ sym (exprs_any xs)

pub args_none : (xs : List Expr) (i : ℕ) → list_any calls_in (drop i xs) ≡ list_any calls_in xs → length xs ≤ i → false ≡ args_call_in xs
args_none xs i left end = any_none calls_in xs i left end ∙ sym (args_any xs)

pub operands_none : (xs : List (Operator × Expr)) (i : ℕ) → list_any (λ o. calls_in o.1) (drop i xs) ≡ list_any (λ o. calls_in o.1) xs → length xs ≤ i → false ≡ operands_call_in xs
operands_none xs i left end = any_none (λ o. calls_in o.1) xs i left end ∙ sym (operands_any xs)

pub stmts_none : (ss : List Stmt) (i : ℕ) → list_any plans_in (drop i ss) ≡ list_any plans_in ss → length ss ≤ i → false ≡ some_plans_in ss
stmts_none ss i left end = any_none plans_in ss i left end ∙ sym (stmts_any ss)
