use Rattle.std.proofs.Common.{◌≡◌, ◌∷◌, ◌++◌, Some, None, codes, map, ap, ◌∙◌, rules}
use Rattle.pb_syntax.specs.declared.tree.statement.StmtText.{If, For, the_lemmas}
use Rattle.pb_syntax.specs.Exprs.{bare}
use Rattle.pb_syntax.specs.Stmts.{bare_stmt, if_stmt, if_else, for_stmt, stmts}
use Rattle.pb_prog.specs.Spelling.{word, opening, closing, open_brace, close_brace, equals, dots, stmt_tokens}
use Rattle.pb_prog.specs.Writing.{expr_in, stmt_in, body_in, block_in}
use Rattle.pb_prog.proofs.WriterLemmas.{two_steps, three_steps}
use Rattle.pb_prog.proofs.print.writer.Writer.+statement.Goals as goal

pub statement-returns-in_ok-if_head-in-None : goal.statement-returns-in_ok-if_head-in-None
unfolding stmt_tokens stmt_in expr_in body_in
statement-returns-in_ok-if_head-in-None t c =
    let a = c.in-If in
    let whole : c.args.statement.now ≡ If a.at a.test a.then None = a.is ∙ ap (λ o. If a.at a.test a.then o) c.in-None.is in
    let seen : bare_stmt (If a.at a.test a.then None) ≡ if_stmt a.at (bare a.test) (stmts (map bare_stmt a.then.items)) = search (rules, the_lemmas) in
    let first = word (codes "if") ∷ opening ∷ expr_in a.test in
    let second = closing ∷ block_in a.then.items in
    let parts : stmt_in c.args.statement.now ≡ first ++ second = ap stmt_in whole ∙ ap stmt_tokens seen in
    two_steps c.after_head.result c.args.self.now c.if_head.new.self c.after_head.new.self first second (stmt_in c.args.statement.now) parts (search rules) (search rules)

pub statement-returns-in_ok-then-in-Some : goal.statement-returns-in_ok-then-in-Some
unfolding stmt_tokens stmt_in expr_in body_in
statement-returns-in_ok-then-in-Some t c =
    let a = c.in-If in
    let other = c.in-Some.otherwise in
    let whole : c.args.statement.now ≡ If a.at a.test a.then (Some other) = a.is ∙ ap (λ o. If a.at a.test a.then o) c.in-Some.is in
    let seen : bare_stmt (If a.at a.test a.then (Some other)) ≡ if_else a.at (bare a.test) (stmts (map bare_stmt a.then.items)) (stmts (map bare_stmt other.items)) = search (rules, the_lemmas) in
    let first = word (codes "if") ∷ opening ∷ expr_in a.test in
    let second = closing ∷ open_brace ∷ body_in a.then.items in
    let third = close_brace ∷ word (codes "else") ∷ block_in other.items in
    let parts : stmt_in c.args.statement.now ≡ first ++ (second ++ third) = ap stmt_in whole ∙ ap stmt_tokens seen in
    three_steps c.otherwise.result c.args.self.now c.if_head-in-Some.new.self c.then.new.self c.otherwise.new.self first second third (stmt_in c.args.statement.now)
    parts (search rules) (search rules) (search rules)

pub statement-returns-in_ok-for_end-in-For : goal.statement-returns-in_ok-for_end-in-For
unfolding stmt_tokens stmt_in expr_in body_in
statement-returns-in_ok-for_end-in-For t c =
    let a = c.in-For in
    let seen : bare_stmt (For a.at a.name a.start a.end a.body) ≡ for_stmt a.at a.name (bare a.start) (bare a.end) (stmts (map bare_stmt a.body.items)) = search (rules, the_lemmas) in
    let first = word (codes "for") ∷ opening ∷ word a.name.bytes ∷ equals ∷ expr_in a.start in
    let second = dots ∷ expr_in a.end in
    let third = closing ∷ block_in a.body.items in
    let parts : stmt_in c.args.statement.now ≡ first ++ (second ++ third) = ap stmt_in a.is ∙ ap stmt_tokens seen in
    three_steps c.after_head-in-For.result c.args.self.now c.for_head.new.self c.for_end.new.self c.after_head-in-For.new.self first second third (stmt_in c.args.statement.now)
    parts (search rules) (search rules) (search rules)
