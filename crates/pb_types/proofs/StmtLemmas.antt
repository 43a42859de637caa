-- Statements as they are held, and as definitions see them.
use Rattle.std.proofs.Common.{◌≡◌, ℕ, List, [], ◌∷◌, ◌++◌, map, Some, None, refl, ap, ◌∙◌, rules, Bor}
use Rattle.std.specs.Global.{Vec}
use Rattle.std.specs.List.{flat_map}
use Rattle.pb_program.specs.declared.expression.Expr.{Expr}
use Rattle.pb_program.specs.declared.meaning.Meaning.{Meaning}
use Rattle.pb_program.specs.declared.meaning.Named.{Named}
use Rattle.pb_program.specs.declared.statement.Stmt.{Stmt, If, For, the_lemmas}
use Rattle.pb_program.specs.Exprs.{bare}
use Rattle.pb_program.specs.Stmts.{bare_stmt, stmts, if_stmt, if_else, for_stmt}
use Rattle.pb_types.specs.declared.sort.Sort.TheVariants.{Number, Truth}
use Rattle.pb_types.specs.declared.loops.Loops.{Loops, Inside, the_lemmas as loops_lemmas}
use Rattle.pb_types.specs.Loops.{names}
use Rattle.pb_types.specs.Least.{least, least_of}
use Rattle.pb_types.specs.Views.{Bound}
use Rattle.pb_types.specs.Bodies.{stmt_broken}
use Rattle.pb_types.specs.Working.{operand_in, stmt_in, stmts_in}
use Rattle.pb_types.proofs.LeastLemmas.{least_append}

pub names_inside : (name : Named) (outer : Bor Loops) → names (Inside name.what outer) ≡ name.what ∷ names outer.now
names_inside name outer = search (rules, loops_lemmas)

module _ (b : Bound) (loops : List Meaning) where
  pub stmts_listed : (xs : List Stmt) → stmts_in b loops xs ≡ flat_map (stmt_in b loops) xs
  unfolding stmt_in stmts_in
  stmts_listed [] = refl
  stmts_listed (x ∷ xs) = ap (λ rest. stmt_in b loops x ++ rest) (stmts_listed xs)

  -- statements that have others inside, as they are held
  pub if_in : (at : ℕ) (test : Expr) (then : Vec Stmt) → least_of (stmt_in b loops (If at test then None))
      ≡ least (least_of (operand_in b Truth test)) (least_of (stmts_in b loops then.items))
  unfolding operand_in stmt_in stmts_in
  if_in at test then = ap (λ s. least_of (stmt_broken b loops s)) seen ∙ least_append (operand_in b Truth test) (stmts_in b loops then.items)
    where
      seen : bare_stmt (If at test then None) ≡ if_stmt at (bare test) (stmts (map bare_stmt then.items))
      seen = search (rules, the_lemmas)

  pub if_else_in : (at : ℕ) (test : Expr) (then otherwise : Vec Stmt) → least_of (stmt_in b loops (If at test then (Some otherwise)))
      ≡ least (least (least_of (operand_in b Truth test)) (least_of (stmts_in b loops then.items))) (least_of (stmts_in b loops otherwise.items))
  unfolding operand_in stmt_in stmts_in
  if_else_in at test then otherwise = ap (λ s. least_of (stmt_broken b loops s)) seen
      ∙ least_append (operand_in b Truth test ++ stmts_in b loops then.items) (stmts_in b loops otherwise.items)
      ∙ ap (λ n. least n (least_of (stmts_in b loops otherwise.items))) (least_append (operand_in b Truth test) (stmts_in b loops then.items))
    where
      seen : bare_stmt (If at test then (Some otherwise)) ≡ if_else at (bare test) (stmts (map bare_stmt then.items)) (stmts (map bare_stmt otherwise.items))
      seen = search (rules, the_lemmas)

  pub for_in : (at : ℕ) (name : Named) (start end : Expr) (body : Vec Stmt) → least_of (stmt_in b loops (For at name start end body))
      ≡ least (least_of (operand_in b Number start ++ operand_in b Number end)) (least_of (stmts_in b (name.what ∷ loops) body.items))
  unfolding operand_in stmt_in stmts_in
  for_in at name start end body = ap (λ s. least_of (stmt_broken b loops s)) seen
      ∙ least_append (operand_in b Number start ++ operand_in b Number end) (stmts_in b (name.what ∷ loops) body.items)
    where
      seen : bare_stmt (For at name start end body) ≡ for_stmt at name (bare start) (bare end) (stmts (map bare_stmt body.items))
      seen = search (rules, the_lemmas)
