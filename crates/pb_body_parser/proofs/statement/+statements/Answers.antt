use Rattle.std.proofs.Common.{◌≡◌, ◌++◌, ◌∷◌, [], refl, ◌∙◌, arith}
use Rattle.std.proofs.lemmas.List.{map-append}
use Rattle.pb_syntax.specs.Stmts.{bare_stmt}
use Rattle.pb_body_parser.specs.Bare.{bare_stmts}
use Rattle.pb_body_parser.proofs.GrammarLemmas.{statement_read}
use Rattle.pb_body_parser.proofs.statement.+statements.Goals as goal

pub statements-loop-cursor-preserved : goal.statements-loop-cursor-preserved
statements-loop-cursor-preserved t c =
    let pushed : bare_stmts c.push.new.self.items ≡ bare_stmts c.loop-cursor.found.items ++ bare_stmt c.in_ok-next.next ∷ [] = grind (arith, map-append) in (
      λ f. c.loop-cursor.invariant.0 f
          ∙ statement_read c.loop-cursor.cursor c.next_statement.new.cursor c.args.depth c.loop-cursor.count c.next_statement.new.count
          (bare_stmts c.loop-cursor.found.items) (bare_stmt c.in_ok-next.next) f (λ e. c.in_default.not-CloseBrace (c.peek.ensures ∙ e)) c.in_ok-next.ensures.leads
          ∙ rw pushed refl,
      c.loop-cursor.invariant.1,
      c.in_ok-next.ensures.counted,
      omega (arith, c.loop-cursor.invariant.3, c.in_ok-next.ensures.shorter),
    )
