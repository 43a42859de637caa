-- What is wrong in an expression. What is wrong inside a part that is itself to blame is never before it, so it need not
-- be looked for.
use Rattle.std.specs.Prelude.{ℕ, ◌+◌, ◌==◌, if◌then◌else◌, List, [], ◌∷◌, ◌++◌}
use Rattle.std.specs.Option.{option_map_or}
use Rattle.pb_program.specs.declared.meaning.Callee.{Callee}
use Rattle.pb_program.specs.declared.meaning.Callee.TheVariants as callee
use Rattle.pb_program.specs.declared.meaning.Function.{Function}
use Rattle.pb_program.specs.declared.meaning.Function.TheVariants as function
use Rattle.pb_program.specs.Exprs.{ExprValue, ExprValues, OperandValues, no_exprs, an_expr, no_operands, an_operand}
use Rattle.pb_program.specs.Exprs as e
use Rattle.pb_types.specs.declared.sort.Sort.{Sort}
use Rattle.pb_types.specs.declared.sort.Sort.TheVariants.{Number}
use Rattle.pb_types.specs.Least.{unless}
use Rattle.pb_types.specs.Sorts.{level_sort, sign_sort, sort_of, place_of, lone_name, is_sort}
use Rattle.pb_types.specs.Views.{Bound, number_broken, matrix_broken, cell_broken}

-- an operand has the sort that is taken; to blame is the operand
abbrev pub sort_broken : Sort → ExprValue → List ℕ
sort_broken taken x = unless (is_sort taken (sort_of x)) (place_of x)

-- how many arguments or coordinates there are
abbrev pub how_many : ExprValues → ℕ
how_many no_exprs = 0
how_many (an_expr x rest) = how_many rest + 1

-- how many arguments a function takes
abbrev pub arguments_of : Function → ℕ
arguments_of function.Sum = 1
arguments_of function.Dot = 2
arguments_of function.Min = 2
arguments_of function.Max = 2
arguments_of function.Abs = 1

-- `sum` and `dot` take views, the other functions numbers
abbrev pub by_function : Function → List ℕ → List ℕ → List ℕ
by_function function.Sum matrices numbers = matrices
by_function function.Dot matrices numbers = matrices
by_function _ matrices numbers = numbers

-- a function has as many arguments as it takes; to blame is its name. A body that calls a transform is a plan's
abbrev pub call_broken : Callee → ℕ → ℕ → List ℕ → List ℕ → List ℕ
call_broken (callee.Function f) at n matrices numbers = if n == arguments_of f then by_function f matrices numbers else at ∷ []
call_broken (callee.Transform t) at n matrices numbers = at ∷ []

module _ (b : Bound) where
  -- an argument of `sum` or `dot` is the name alone of a bound view that is no cell; to blame is the argument
  abbrev pub matrix_argument : ExprValue → List ℕ
  matrix_argument x = option_map_or (matrix_broken b) (lone_name x) (place_of x ∷ [])

  -- all arguments of `sum` or `dot`
  abbrev pub matrix_arguments : ExprValues → List ℕ
  matrix_arguments no_exprs = []
  matrix_arguments (an_expr x rest) = matrix_argument x ++ matrix_arguments rest

  abbrev mutual
    -- signs, operators and comparisons take operands of their sort; names, views and calls as above
    pub expr_broken : ExprValue → List ℕ
    expr_broken (e.number at n) = []
    expr_broken (e.name n) = number_broken b n
    expr_broken (e.call c xs) = call_broken c.what c.at (how_many xs) (matrix_arguments xs) (numbers_broken xs)
    expr_broken (e.parentheses at x) = expr_broken x
    expr_broken (e.cell v xs) = cell_broken b v (how_many xs) ++ numbers_broken xs
    expr_broken (e.width v) = matrix_broken b v
    expr_broken (e.height v) = matrix_broken b v
    expr_broken (e.signed at sign x) = sort_broken (sign_sort sign) x ++ expr_broken x
    expr_broken (e.chain level x rest) = (sort_broken (level_sort level) x ++ expr_broken x) ++ operands_broken (level_sort level) rest
    expr_broken (e.compare x relation y) = (sort_broken Number x ++ expr_broken x) ++ (sort_broken Number y ++ expr_broken y)

    -- arguments and coordinates that are numbers
    pub numbers_broken : ExprValues → List ℕ
    numbers_broken no_exprs = []
    numbers_broken (an_expr x rest) = (sort_broken Number x ++ expr_broken x) ++ numbers_broken rest

    -- the operands of a chain, which take the chain's sort
    pub operands_broken : Sort → OperandValues → List ℕ
    operands_broken taken no_operands = []
    operands_broken taken (an_operand o x rest) = (sort_broken taken x ++ expr_broken x) ++ operands_broken taken rest

  -- an expression from which an operand of this sort is taken
  abbrev pub operand_broken : Sort → ExprValue → List ℕ
  operand_broken taken x = sort_broken taken x ++ expr_broken x
