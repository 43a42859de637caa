use Rattle.std.proofs.Common.{◌≡◌, ◌∙◌, ◌<◌, ◌+◌, sym, ap, subst, length, length-set, slice_get, arith}
use mathlib.Core.Option.{some}
use lib.ListN.{get_elem?}
use Rattle.std.specs.Mem.Slots.{slots_items}
use Rattle.pb_taskgraph.specs.Plans.{IsSmall}
use Rattle.pb_taskgraph.proofs.PlanLemmas.{outcome-small}
use Rattle.pb_taskgraph.proofs.SerialLemmas.{inputs-more}
use Rattle.pb_cells.proofs.EndLemmas.{end-outcome, outcomes-all}
use Rattle.pb_cells.proofs.close.told_outcomes.Goals as goal

pub set-requires-clause-small : goal.set-requires-clause-small
set-requires-clause-small g c =
    let p = g.N.NamesWork.plan in
    let below : c.loop-cell.cell < p.graph.cells = omega (arith, c.loop-cell-test.true, c.requires.cells) in
    let right = end-outcome p c.requires.plan (slots_items c.args.words.now.words) c.requires.last c.loop-cell.cell c.word.result c.word-in-loop-cell.result below
    (subst (λ n. get_elem? (slots_items c.args.words.now.words) (n + c.loop-cell.cell) ≡ some c.word.result) c.requires.cells c.word.ensures) c.word-in-loop-cell.ensures in
    subst IsSmall (sym (c.unpack-outcome.ensures ∙ right)) (outcome-small p c.requires.plan c.loop-cell.cell below)

pub loop-cell-preserved : goal.loop-cell-preserved
loop-cell-preserved g c =
    let p = g.N.NamesWork.plan in
    let below : c.loop-cell.cell < p.graph.cells = omega (arith, c.loop-cell-test.true, c.requires.cells) in
    let right = end-outcome p c.requires.plan (slots_items c.args.words.now.words) c.requires.last c.loop-cell.cell c.word.result c.word-in-loop-cell.result below
    (subst (λ n. get_elem? (slots_items c.args.words.now.words) (n + c.loop-cell.cell) ≡ some c.word.result) c.requires.cells c.word.ensures) c.word-in-loop-cell.ensures in
    record {
      size = ap length c.set.ensures ∙ (length-set c.loop-cell.outcomes c.loop-cell.cell c.unpack-outcome.result ∙ c.loop-cell.invariant.size);
      told = λ k inside. ap (λ l. slice_get l k) c.set.ensures
          ∙ inputs-more p.solution c.loop-cell.outcomes c.loop-cell.cell c.unpack-outcome.result (omega (arith, c.loop-cell.invariant.size, c.loop-cell-test.true)) (c.unpack-outcome.ensures ∙ right) c.loop-cell.invariant.told k inside;
    }

pub returns : goal.returns
returns g c = outcomes-all g.N.NamesWork.plan c.requires.plan c.loop-cell.outcomes c.loop-cell.cell (c.loop-cell.invariant.size ∙ c.requires.cells) (omega (arith, c.loop-cell-test.false, c.requires.cells)) c.loop-cell.invariant.told
