-- A resolved program with its places aside: each place in it is 0.
use Rattle.std.specs.Prelude.{List, map}
use Rattle.std.specs.Option.{option_map}
use Rattle.pb_syntax.specs.Places.{unplaced_name}
use Rattle.pb_program.specs.declared.meaning.Named.{Named}
use Rattle.pb_program.specs.declared.meaning.Called.{Called}
use Rattle.pb_program.specs.declared.statement.LocalTerm.{LocalTerm}
use Rattle.pb_program.specs.declared.view.Read.{Read}
use Rattle.pb_program.specs.Forms.{DeclValue, LocalFormValue}
use Rattle.pb_program.specs.Exprs.{ExprValue, ExprValues, OperandValues, number, name, call, parentheses, cell, width, height, signed, chain, compare, no_exprs, an_expr, no_operands, an_operand}
use Rattle.pb_program.specs.Stmts.{StmtValue, StmtValues, let_number, let_matrix, assign, call_stmt, assign_cell, if_stmt, if_else, for_stmt, no_stmts, a_stmt}
use Rattle.pb_program.specs.Plans.{PlanValue}
use Rattle.pb_program.specs.Trees.{ProgRule, ProgTransform}

abbrev pub unplaced_named : Named → Named
unplaced_named n = record { at = 0; what = n.what }

abbrev pub unplaced_called : Called → Called
unplaced_called c = record { at = 0; what = c.what }

abbrev pub unplaced_local_term : LocalTerm → LocalTerm
unplaced_local_term t = record { minus = t.minus; factor = t.factor; name = option_map unplaced_named t.name; quotient = t.quotient }

abbrev pub unplaced_local_form : LocalFormValue → LocalFormValue
unplaced_local_form f = record { minus = f.minus; terms = map unplaced_local_term f.terms }

abbrev mutual
  pub unplaced_value : ExprValue → ExprValue
  unplaced_value (number at n) = number 0 n
  unplaced_value (name n) = name (unplaced_named n)
  unplaced_value (call c xs) = call (unplaced_called c) (unplaced_values xs)
  unplaced_value (parentheses at x) = parentheses 0 (unplaced_value x)
  unplaced_value (cell v xs) = cell (unplaced_named v) (unplaced_values xs)
  unplaced_value (width v) = width (unplaced_named v)
  unplaced_value (height v) = height (unplaced_named v)
  unplaced_value (signed at sign x) = signed 0 sign (unplaced_value x)
  unplaced_value (chain level x rest) = chain level (unplaced_value x) (unplaced_operand_values rest)
  unplaced_value (compare x relation y) = compare (unplaced_value x) relation (unplaced_value y)

  pub unplaced_values : ExprValues → ExprValues
  unplaced_values no_exprs = no_exprs
  unplaced_values (an_expr x rest) = an_expr (unplaced_value x) (unplaced_values rest)

  pub unplaced_operand_values : OperandValues → OperandValues
  unplaced_operand_values no_operands = no_operands
  unplaced_operand_values (an_operand o x rest) = an_operand o (unplaced_value x) (unplaced_operand_values rest)

abbrev mutual
  pub unplaced_statement : StmtValue → StmtValue
  unplaced_statement (let_number at n x) = let_number 0 (unplaced_named n) (unplaced_value x)
  unplaced_statement (let_matrix at n dims) = let_matrix 0 (unplaced_named n) (map unplaced_local_form dims)
  unplaced_statement (assign n x) = assign (unplaced_named n) (unplaced_value x)
  unplaced_statement (call_stmt ns c xs) = call_stmt (map unplaced_named ns) (unplaced_called c) (map unplaced_value xs)
  unplaced_statement (assign_cell n xs x) = assign_cell (unplaced_named n) (map unplaced_value xs) (unplaced_value x)
  unplaced_statement (if_stmt at x ss) = if_stmt 0 (unplaced_value x) (unplaced_statements ss)
  unplaced_statement (if_else at x ss others) = if_else 0 (unplaced_value x) (unplaced_statements ss) (unplaced_statements others)
  unplaced_statement (for_stmt at n x y ss) = for_stmt 0 (unplaced_named n) (unplaced_value x) (unplaced_value y) (unplaced_statements ss)

  pub unplaced_statements : StmtValues → StmtValues
  unplaced_statements no_stmts = no_stmts
  unplaced_statements (a_stmt x rest) = a_stmt (unplaced_statement x) (unplaced_statements rest)

abbrev pub unplaced_matrix : DeclValue → DeclValue
unplaced_matrix d = record { name = unplaced_name d.name; dims = d.dims; w = d.w; h = d.h }

abbrev pub unplaced_read : Read → Read
unplaced_read r = record { matrix = r.matrix; at = 0; view = r.view; dims = r.dims; x0 = r.x0; y0 = r.y0; x1 = r.x1; y1 = r.y1 }

abbrev pub unplaced_plan : PlanValue → PlanValue
unplaced_plan p = record { locals = map unplaced_matrix p.locals; calls = p.calls }

abbrev pub unplaced_prog_rule : ProgRule → ProgRule
unplaced_prog_rule r = record {
  priority = r.priority;
  kind = r.kind;
  outs = map unplaced_read r.outs;
  names = map unplaced_name r.names;
  reads = map unplaced_read r.reads;
  conds = r.conds;
  body = map unplaced_statement r.body;
  plan = option_map unplaced_plan r.plan;
}

abbrev pub unplaced_prog_transform : ProgTransform → ProgTransform
unplaced_prog_transform t = record {
  name = unplaced_name t.name;
  ranges = t.ranges;
  sizes = map unplaced_name t.sizes;
  matrices = map unplaced_matrix t.matrices;
  inputs = t.inputs;
  middles = t.middles;
  rules = map unplaced_prog_rule t.rules;
}

abbrev pub unplaced_prog : List ProgTransform → List ProgTransform
unplaced_prog ts = map unplaced_prog_transform ts
