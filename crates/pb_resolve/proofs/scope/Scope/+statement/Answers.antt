use Rattle.std.proofs.Common.{◌≡◌, rules, map, ap, ◌∙◌, sym}
use Rattle.pb_program.specs.Stmts.{bare_stmt}
use Rattle.pb_syntax.specs.declared.tree.statement.StmtText.{For, the_lemmas}
use Rattle.pb_program.specs.declared.meaning.Meaning.TheVariants.{Number}
use Rattle.pb_resolve.specs.declared.scope.Mark.{Mark}
use Rattle.pb_names.specs.Bodies.{declare}
use Rattle.pb_resolve.specs.Working.{after_in}
use Rattle.pb_resolve.proofs.ScopeLemmas.{back, back_loop, statement_fails}
use Rattle.pb_resolve.proofs.scope.Scope.+statement.Goals as goal

pub block-returns-clause-left : goal.block-returns-clause-left
block-returns-clause-left t c =
    back c.args.self.now c.statements.new.self c.leave.new.self c.args.ss.now c.mark-mark.result c.in_ok-found.ensures.left c.mark-mark.ensures c.leave.ensures

pub statement-returns-in_ok-body-in-For-clause-left : goal.statement-returns-in_ok-body-in-For-clause-left
unfolding after_in
statement-returns-in_ok-body-in-For-clause-left t c =
    let a = c.in-For in
    let fresh : c.locals.result ≡ c.args.self.now.locals = c.locals.ensures ∙ ap (λ (m : Mark). m.locals) c.mark-mark.ensures in
    let declared : c.declare.new.self ≡ declare c.args.self.now a.name Number = cc (c.in_ok-name-in-For.ensures.declared, fresh) in
    let same : c.leave.new.self ≡ c.args.self.now = back_loop c.args.self.now c.declare.new.self c.statements.new.self c.leave.new.self a.name c.deref-in-For.result.now c.mark-mark.result
    declared c.in_ok-body-in-For.ensures.left c.mark-mark.ensures c.leave.ensures in
    let stays : after_in c.args.self.now (For a.at a.name a.start a.end a.body) ≡ c.args.self.now = search (rules, the_lemmas) in
    same ∙ sym stays ∙ ap (after_in c.args.self.now) (sym a.is)

pub statements-returns-in_err-statement-clause-refused : goal.statements-returns-in_err-statement-clause-refused
statements-returns-in_err-statement-clause-refused t c =
    let h = statement_fails c.args.self.now c.loop-next.self (map bare_stmt c.loop-next.found.items) c.args.ss.now c.loop-next.next-index c.loop-next.invariant c.next-item.result
    c.loop-next-test.true c.next-item.is c.in_err-statement.field-0.0 c.in_err-statement.ensures.refused in search (rules, h)
