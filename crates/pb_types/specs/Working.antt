-- Parts of a rule as they are held, and what is wrong in them.
use Rattle.std.specs.Prelude.{ℕ, List, map, Option}
use Rattle.std.specs.List.{flat_map}
use Rattle.pb_syntax.specs.declared.tree.expression.Operator.{Operator}
use Rattle.pb_program.specs.declared.expression.Expr.{Expr}
use Rattle.pb_program.specs.declared.statement.Stmt.{Stmt}
use Rattle.pb_program.specs.declared.meaning.Meaning.{Meaning}
use Rattle.pb_program.specs.declared.meaning.Named.{Named}
use Rattle.pb_program.specs.Exprs.{bare, exprs, operands}
use Rattle.pb_program.specs.Stmts.{bare_stmt, stmts}
use Rattle.pb_program.specs.Forms.{DeclValue}
use Rattle.pb_program.specs.Rules.{RuleValue}
use Rattle.pb_program.specs.Transforms.{TransformValue}
use Rattle.pb_program.specs.Trees.{ProgTransform, bare_rule, bare_transform}
use Rattle.pb_types.specs.declared.sort.Sort.{Sort}
use Rattle.pb_types.specs.declared.sort.Sort.TheVariants.{Number}
use Rattle.pb_types.specs.Sorts.{sort_of, place_of, lone_name}
use Rattle.pb_types.specs.Views.{Bound}
use Rattle.pb_types.specs.Numbers.{how_many, sort_broken, expr_broken, numbers_broken, operands_broken, operand_broken, matrix_argument, matrix_arguments}
use Rattle.pb_types.specs.Bodies.{stmt_broken, stmts_broken}
use Rattle.pb_types.specs.Plans.{Known, argument_misfit, numbered, assign_broken, made_assigned, after, plan_stmt_broken, plan_stmts_broken}
use Rattle.pb_types.specs.Types.{rule_broken, transform_broken}

unfoldable pub sort_in : Expr → Sort
sort_in x = sort_of (bare x)

unfoldable pub place_in : Expr → ℕ
place_in x = place_of (bare x)

unfoldable pub name_in : Expr → Option Named
name_in x = lone_name (bare x)

unfoldable pub wrong_in : Sort → Expr → List ℕ
wrong_in taken x = sort_broken taken (bare x)

unfoldable pub expr_in : Bound → Expr → List ℕ
expr_in b x = expr_broken b (bare x)

unfoldable pub operand_in : Bound → Sort → Expr → List ℕ
operand_in b taken x = operand_broken b taken (bare x)

unfoldable pub count_in : List Expr → ℕ
count_in xs = how_many (exprs (map bare xs))

unfoldable pub numbers_in : Bound → List Expr → List ℕ
numbers_in b xs = numbers_broken b (exprs (map bare xs))

unfoldable pub matrix_in : Bound → Expr → List ℕ
matrix_in b x = matrix_argument b (bare x)

unfoldable pub matrices_in : Bound → List Expr → List ℕ
matrices_in b xs = matrix_arguments b (exprs (map bare xs))

unfoldable pub pair_in : Bound → Sort → (Operator × Expr) → List ℕ
pair_in b taken o = operand_in b taken o.1

unfoldable pub operands_in : Bound → Sort → List (Operator × Expr) → List ℕ
operands_in b taken xs = operands_broken b taken (operands (map (λ o. (o.0, bare o.1)) xs))

-- the coordinates of an assigned cell, which statements have as a list
unfoldable pub listed_in : Bound → List Expr → List ℕ
listed_in b xs = flat_map (operand_broken b Number) (map bare xs)

unfoldable pub stmt_in : Bound → List Meaning → Stmt → List ℕ
stmt_in b loops x = stmt_broken b loops (bare_stmt x)

unfoldable pub stmts_in : Bound → List Meaning → List Stmt → List ℕ
stmts_in b loops xs = stmts_broken b loops (stmts (map bare_stmt xs))

-- in a plan
unfoldable pub argument_in : Known → List DeclValue → ℕ → Expr → List ℕ
argument_in k takes i x = argument_misfit k takes i (bare x)

unfoldable pub arguments_in : Known → List DeclValue → List Expr → List ℕ
arguments_in k takes xs = numbered (argument_misfit k takes) 0 (map bare xs)

unfoldable pub assigned_in : List ProgTransform → Known → Named → Expr → List ℕ
assigned_in ts k n x = assign_broken ts k n (bare x)

unfoldable pub made_in : Known → Named → Expr → Known
made_in k n x = made_assigned k n (bare x)

unfoldable pub step_in : List ProgTransform → Known → Stmt → List ℕ
step_in ts k x = plan_stmt_broken ts k (bare_stmt x)

unfoldable pub after_in : Known → Stmt → Known
after_in k x = after k (bare_stmt x)

unfoldable pub steps_in : List ProgTransform → Known → List Stmt → List ℕ
steps_in ts k xs = plan_stmts_broken ts k (map bare_stmt xs)

-- rules and transforms
unfoldable pub rule_in : List ProgTransform → List DeclValue → RuleValue → List ℕ
rule_in ts matrices r = rule_broken ts matrices (bare_rule r)

unfoldable pub transform_in : List ProgTransform → TransformValue → List ℕ
transform_in ts t = transform_broken ts (bare_transform t)
