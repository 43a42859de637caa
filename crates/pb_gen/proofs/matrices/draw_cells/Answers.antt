use Rattle.pb_gen.proofs.StreamLemmas.{cells_on, generator_on, cells_end, generator_end}
use Rattle.pb_gen.proofs.matrices.draw_cells.Goals as goal

pub words-preserved : goal.words-preserved
words-preserved c = record {
  cells =
      cells_on c.args.count c.words.counter c.words.generator c.next_word.new.self c.next_word.result c.words-test.true c.next_word.ensures
      c.words.cells.items c.push.new.self.items _ c.cell.result c.cell.ensures c.in_ok-push.ensures.items c.words.invariant.cells;
  after =
      generator_on c.args.count c.words.counter c.words.generator c.next_word.new.self c.next_word.result c.words-test.true c.next_word.ensures
      _ c.words.invariant.after;
}

pub returns-clause-cells : goal.returns-clause-cells
returns-clause-cells c = cells_end c.args.count c.words.counter c.words.generator c.words-test.false c.words.cells.items _ c.words.invariant.cells

pub returns-clause-after : goal.returns-clause-after
returns-clause-after c = generator_end c.args.count c.words.counter c.words.generator c.words-test.false _ c.words.invariant.after
