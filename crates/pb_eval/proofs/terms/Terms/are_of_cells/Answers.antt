use Rattle.std.proofs.Common.{◌∙◌, ap, length, sym, arith}
use Rattle.pb_eval.specs.FirstCells.{is_of_cell}
use Rattle.pb_eval.specs.Terms.{TermsValue}
use Rattle.pb_eval.proofs.FirstCellLemmas.{all_of, more_of}
use Rattle.pb_eval.proofs.terms.Terms.are_of_cells.Goals as goal

pub loop-next-preserved : goal.loop-next-preserved
loop-next-preserved c = more_of c.args.reads c.args.self.now.rest c.deref-next-items.result.now (c.deref-next-items.ensures.value ∙ ap (λ (t : TermsValue). t.rest) c.self.view_is) c.loop-next.next-index _ c.is_of_cell-in-loop-next.result c.loop-next-test.true c.loop-next.invariant c.is_of_cell-in-loop-next.ensures c.if-not-is_of_cell-2.false

pub returns : goal.returns
returns c = λ _. record {
  whole = ap (λ (t : TermsValue). t.is_whole) (sym c.self.view_is) ∙ c.if-not-self.false;
  few = omega (arith, ap (λ (t : TermsValue). length t.rest) c.self.view_is);
  first = ap (λ (t : TermsValue). is_of_cell c.args.reads t.first) (sym c.self.view_is) ∙ sym c.is_of_cell.ensures ∙ c.if-not-is_of_cell.false;
  rest = all_of c.args.reads c.args.self.now.rest c.deref-next-items.result.now (c.deref-next-items.ensures.value ∙ ap (λ (t : TermsValue). t.rest) c.self.view_is) c.loop-next.next-index c.loop-next-test.false c.loop-next.invariant;
}
