-- The faults of a body are told in the order of its tokens.
use Rattle.std.proofs.Common.{◌≡◌, not, List, [], ◌∷◌, ◌++◌, is_some, refl, ap, subst, sym}
use Rattle.std.specs.List.{flat_map}
use Rattle.pb_values.specs.Name.{NameValue}
use Rattle.pb_syntax.specs.declared.token.Token.{Token}
use Rattle.pb_syntax.specs.declared.tree.expression.Level.{Level}
use Rattle.pb_syntax.specs.declared.tree.expression.Operator.{Operator}
use Rattle.pb_syntax.specs.declared.kind.TokenKind.TheVariants as k
use Rattle.pb_syntax.specs.Kinds.{Is, name_in}
use Rattle.pb_syntax.specs.Exprs.{ExprTree, exprs, operands}
use Rattle.pb_syntax.specs.Stmts.{StmtTree, stmts}
use Rattle.pb_syntax.specs.Grammar.{Commas, IsArguments, IsBlock, IsComp, IsCoordinates, IsLine, IsName, IsOperand, IsOperands, IsPrim, IsStmt, IsStmts, IsUnary}
use Rattle.pb_syntax.specs.Grammar as g
use Rattle.pb_program.specs.declared.meaning.Meaning.TheVariants as meaning
use Rattle.pb_names.specs.declared.fault.Fault.{Fault}
use Rattle.pb_names.specs.Turns.{turn_faults}
use Rattle.pb_names.specs.Bodies.{Visible, after, called_faults, called_name, declare, declared_faults, expr_faults, exprs_faults, is_visible, operands_faults, stmt_faults, stmts_faults, use_faults}
use Rattle.pb_names.proofs.BodiesFit.{body_faults_are}
use Rattle.pb_names.proofs.ToldLemmas.{Of, Told, dims_told, duplicate_of, items_told, join, named, nothing, past, skip, stay, unknown_of}

listed : (v : Visible) (xs : List ExprTree) → exprs_faults v (exprs xs) ≡ flat_map (expr_faults v) xs
listed v [] = refl
listed v (x ∷ xs) = ap (λ l. expr_faults v x ++ l) (listed v xs)

module _ (v : Visible) where
  use_of : (n : NameValue) → Of n (use_faults v n)
  use_of n = unknown_of (not (is_visible v n)) n

  called_of : (n : NameValue) → Of n (called_faults v n)
  called_of n = unknown_of (not (is_some (called_name v n.bytes))) n

  declared_of : (n : NameValue) → Of n (declared_faults v n)
  declared_of n = duplicate_of (is_visible v n) n

  use_at : {t : Token} {fs : List Fault} {all rest : List Token} → Is k.Name t → Told fs (t ∷ all) rest → Told (use_faults v (name_in t) ++ fs) (t ∷ all) rest
  use_at {t = t} i h = stay (use_faults v (name_in t)) i (use_of (name_in t)) h

  call_at : {t : Token} {fs : List Fault} {all rest : List Token} → Is k.Name t → Told fs (t ∷ all) rest
      → Told (called_faults v (name_in t) ++ fs) (t ∷ all) rest
  call_at {t = t} i h = stay (called_faults v (name_in t)) i (called_of (name_in t)) h

  declare_at : {t : Token} {fs : List Fault} {all rest : List Token} → Is k.Name t → Told fs (t ∷ all) rest
      → Told (declared_faults v (name_in t) ++ fs) (t ∷ all) rest
  declare_at {t = t} i h = stay (declared_faults v (name_in t)) i (declared_of (name_in t)) h

  use_alone : {t : Token} {rest : List Token} → Is k.Name t → Told (use_faults v (name_in t)) (t ∷ rest) rest
  use_alone {t = t} i = named (use_faults v (name_in t)) i (use_of (name_in t))

  mutual
    line_told : {l : Level} {x : ExprTree} {all rest : List Token} → IsLine l x all rest → Told (expr_faults v x) all rest
    line_told (g.a_line {xs = []} i g.no_operand) = operand_told i
    line_told (g.a_line {xs = x ∷ xs} i j) = join (operand_told i) (operands_told j)

    operands_told : {l : Level} {xs : List (Operator × ExprTree)} {all rest : List Token} → IsOperands l xs all rest
        → Told (operands_faults v (operands xs)) all rest
    operands_told g.no_operand = nothing
    operands_told (g.an_operand e i j) = skip (join (operand_told i) (operands_told j))

    operand_told : {l : Level} {x : ExprTree} {all rest : List Token} → IsOperand l x all rest → Told (expr_faults v x) all rest
    operand_told (g.a_conj i) = line_told i
    operand_told (g.a_comp i) = comp_told i
    operand_told (g.a_prod i) = line_told i
    operand_told (g.a_unary i) = unary_told i

    comp_told : {x : ExprTree} {all rest : List Token} → IsComp x all rest → Told (expr_faults v x) all rest
    comp_told (g.a_sum i) = line_told i
    comp_told (g.two_sums i e j) = join (line_told i) (skip (line_told j))

    unary_told : {x : ExprTree} {all rest : List Token} → IsUnary x all rest → Told (expr_faults v x) all rest
    unary_told (g.unsigned i) = prim_told i
    unary_told (g.minus_prim i x) = skip (prim_told x)
    unary_told (g.not_prim i x) = skip (prim_told x)

    prim_told : {x : ExprTree} {all rest : List Token} → IsPrim x all rest → Told (expr_faults v x) all rest
    prim_told (g.a_number i) = skip nothing
    prim_told (g.the_name i) = use_alone i
    prim_told (g.call_of_none i o c) = call_at i (skip (skip (skip nothing)))
    prim_told (g.call_of i o xs) = call_at i (skip (skip (arguments_told xs)))
    prim_told (g.in_parentheses o x c) = skip (past (line_told x))
    prim_told (g.cell_of i d w o xs) = use_at i (skip (skip (skip (skip (coordinates_told xs)))))
    prim_told (g.width_of i d w o c) = past (past (past (past (use_alone i))))
    prim_told (g.height_of i d w o c) = past (past (past (past (use_alone i))))

    arguments_told : {xs : List ExprTree} {all rest : List Token} → IsArguments xs all rest → Told (exprs_faults v (exprs xs)) all rest
    arguments_told (g.last_argument x c) = join (line_told x) (skip nothing)
    arguments_told (g.an_argument x m xs) = join (line_told x) (skip (arguments_told xs))

    coordinates_told : {xs : List ExprTree} {all rest : List Token} → IsCoordinates xs all rest → Told (exprs_faults v (exprs xs)) all rest
    coordinates_told (g.one_coordinate x c) = join (line_told x) (skip nothing)
    coordinates_told (g.two_coordinates x m y c) = join (line_told x) (skip (join (line_told y) (skip nothing)))

  list_told : (xs : List ExprTree) {all rest : List Token} → Told (exprs_faults v (exprs xs)) all rest → Told (flat_map (expr_faults v) xs) all rest
  list_told xs {all = all} {rest = rest} h = subst (λ l. Told l all rest) (listed v xs) h

  name_told : (n : NameValue) (all rest : List Token) → IsName n all rest → Told (use_faults v n) all rest
  name_told n all rest (g.a_name i) = use_alone i

mutual
  stmt_told : (v : Visible) {s : StmtTree} {all rest : List Token} → IsStmt s all rest → Told (stmt_faults v s) all rest
  stmt_told v (g.let_a_number i j e x s) = skip (declare_at v j (skip (skip (past (line_told v x)))))
  stmt_told v (g.let_a_matrix i j b ds s) = skip (declare_at v j (skip (skip (past (dims_told (use_faults v) (use_of v) ds)))))
  stmt_told v (g.an_assignment i e x s) = use_at v i (skip (skip (past (line_told v x))))
  stmt_told v (g.a_call {xs = list} i m j ns e l o xs s) =
      join (use_at v i (skip (skip (use_at v j (skip (items_told (use_faults v) (name_told v) ns))))))
      (skip (call_at v l (skip (skip (past (list_told v list (arguments_told v xs)))))))
  stmt_told v (g.a_cell_assignment {xs = list} i d w o xs e x s) =
      use_at v i (skip (skip (skip (skip (join (list_told v list (coordinates_told v xs)) (skip (past (line_told v x))))))))
  stmt_told v (g.an_if i o x c ss) = skip (skip (join (line_told v x) (skip (block_told v ss))))
  stmt_told v (g.an_if_else i o x c ss l others) = skip (skip (join (line_told v x) (skip (join (block_told v ss) (skip (block_told v others))))))
  stmt_told v (g.a_for {n = n} i o j e a d b c ss) =
      let inner = declare v (name_in n) meaning.Number in
      skip (skip (declare_at v j (skip (skip (join (line_told v a) (skip (join (line_told v b) (skip (block_told inner ss)))))))))

  block_told : (v : Visible) {ss : List StmtTree} {all rest : List Token} → IsBlock ss all rest → Told (stmts_faults v (stmts ss)) all rest
  block_told v (g.a_block o ss) = skip (stmts_told v ss)

  stmts_told : (v : Visible) {ss : List StmtTree} {all rest : List Token} → IsStmts ss all rest → Told (stmts_faults v (stmts ss)) all rest
  stmts_told v (g.no_stmt c) = skip nothing
  stmts_told v (g.one_stmt {s = s} i more) = join (stmt_told v i) (stmts_told (after v s) more)

pub body_told : (v : Visible) {ss : List StmtTree} {all rest : List Token} → IsBlock ss all rest → Told (turn_faults after stmt_faults v ss) all rest
body_told v {ss = ss} {all = all} {rest = rest} i = subst (λ l. Told l all rest) (sym (body_faults_are v ss)) (block_told v i)
