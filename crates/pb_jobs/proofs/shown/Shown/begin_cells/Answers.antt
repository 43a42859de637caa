use Rattle.std.proofs.Common.{◌≡◌, ◌∙◌, get_or, slice_get, Some, subst, arith}
use Rattle.pb_jobs.proofs.AdvanceLemmas.{index_there}
use Rattle.pb_jobs.proofs.FirstCellLemmas.{noted_by, noted_count, noted_first}
use Rattle.pb_jobs.proofs.shown.Shown.begin_cells.Goals as goal

pub loop-k-preserved : goal.loop-k-preserved
loop-k-preserved c =
    let views = c.args.self.now.views.items in
    let advs = c.args.self.now.advances.items in
    let old = c.loop-k.self.cells.items in
    let v = c.index.result.now in
    let a = c.index-in-loop-k.result.now in
    let same_v : slice_get views c.loop-k.k ≡ Some v = index_there views c.loop-k.k v (omega arith) (subst (λ l. v ≡ get_or l.items c.loop-k.k v) c.loop-k.invariant.views c.index.ensures) in
    let same_a : slice_get advs c.loop-k.k ≡ Some a = index_there advs c.loop-k.k a (omega arith) (subst (λ l. a ≡ get_or l.items c.loop-k.k a) c.loop-k.invariant.advances c.index-in-loop-k.ensures) in
    record {
      count = noted_count old _ _ c.loop-k.k c.loop-k.invariant.count c.put_cell.ensures.cells;
      first = noted_first views c.loop-k.k v old _ c.step.result same_v c.loop-k.invariant.first c.put_cell.ensures.cells;
      by = noted_by advs c.loop-k.k a old _ _ c.loop-k.invariant.count same_a c.loop-k.invariant.by c.step.ensures c.put_cell.ensures.cells;
      views = c.put_cell.ensures.views ∙ c.loop-k.invariant.views;
      advances = c.put_cell.ensures.advances ∙ c.loop-k.invariant.advances;
    }
