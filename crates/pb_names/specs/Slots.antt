-- What is found of the calls of a plan.
use Rattle.std.specs.Prelude.{Bool, List, Option, map}
use Rattle.std.specs.Option.{option_map}
use Rattle.std.specs.Global.{Vec}
use Rattle.pb_program.specs.declared.plan.Slot.{Slot}
use Rattle.pb_program.specs.declared.statement.Stmt.{Stmt}
use Rattle.pb_program.specs.Stmts.{bare_stmt}
use Rattle.pb_program.specs.declared.meaning.Named.{Named}
use Rattle.pb_program.specs.declared.expression.Expr.{Expr}
use Rattle.pb_program.specs.Exprs.{bare, exprs}
use Rattle.pb_program.specs.Plans.{PlanCallValue, argument_slots, call_of, called_by, is_call, items}

abbrev pub slots_in : Option (Vec Slot) → Option (List Slot)
slots_in found = option_map (λ v. v.items) found

-- the matrices that arguments name, as they are held
unfoldable pub arg_slots_in : List Expr → Option (List Slot)
arg_slots_in xs = argument_slots (map bare xs)

unfoldable pub item_slots_in : List Expr → Option (List Slot)
item_slots_in xs = argument_slots (items (exprs (map bare xs)))

-- the call that an assigned expression is
unfoldable pub called_in : Named → Expr → Option PlanCallValue
called_in target value = called_by target (bare value)

-- the call that a statement is, and whether it can be one
unfoldable pub call_in : Stmt → Option PlanCallValue
call_in s = call_of (bare_stmt s)

unfoldable pub is_call_in : Stmt → Bool
is_call_in s = is_call (bare_stmt s)

-- the calls of a plan, as they are found
abbrev pub calls_in : Option (Vec PlanCallValue) → Option (List PlanCallValue)
calls_in found = option_map (λ v. v.items) found
