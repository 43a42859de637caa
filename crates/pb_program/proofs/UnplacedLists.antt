-- Lists of expressions and statements with their places aside.
use Rattle.std.proofs.Common.{◌≡◌, List, [], ◌∷◌, map, refl}
use Rattle.pb_program.specs.Exprs.{ExprValues, no_exprs, an_expr}
use Rattle.pb_program.specs.Stmts.{StmtValue, stmts}
use Rattle.pb_program.specs.Plans.{items}
use Rattle.pb_program.specs.Places.{unplaced_value, unplaced_values, unplaced_statement, unplaced_statements}

pub items_kept : (xs : ExprValues) → items (unplaced_values xs) ≡ map unplaced_value (items xs)
items_kept no_exprs = refl
items_kept (an_expr x rest) = rw (items_kept rest) refl

pub listed_kept : (ss : List StmtValue) → stmts (map unplaced_statement ss) ≡ unplaced_statements (stmts ss)
listed_kept [] = refl
listed_kept (s ∷ ss) = rw (listed_kept ss) refl
