-- Where `&&` and `||` don't look at their right side.
use Rattle.std.specs.Prelude.{ℤ, pos, if◌then◌else◌, Option, Some, None}
use Rattle.pb_syntax.specs.declared.tree.expression.Operator.{Operator}
use Rattle.pb_syntax.specs.declared.tree.expression.Operator.TheVariants as operator
use Rattle.pb_model.specs.Bodies.{is_zero}

-- the value that a left side decides alone
abbrev pub decided : Operator → ℤ → Option ℤ
decided operator.And a = if is_zero a then Some (pos 0) else None
decided operator.Or a = if is_zero a then None else Some (pos 1)
decided _ a = None
