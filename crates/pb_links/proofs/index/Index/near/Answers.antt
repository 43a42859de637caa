use Rattle.std.proofs.Common.{◌∙◌, sym, ap, max}
use Rattle.std.proofs.Common.{length}
use Rattle.pb_links.specs.Owners.{hits}
use Rattle.pb_links.proofs.IndexLemmas.{near_found}
use Rattle.pb_links.proofs.index.Index.near.Goals as goal

pub returns : goal.returns
returns c task =
    let self = c.self.inside in
    near_found self.axis self.list.items c.deref-3.result.now self.ends.items self.starts.items c.deref.result.now c.deref-2.result.now c.deref-3.ensures.value c.deref.ensures.value c.deref-2.ensures.value c.self.invariant.0 c.self.invariant.1
    c.args.rect.now c.ended_by.result c.started_from.result c.start.result c.end.result c.min-first.result c.max-last.result c.len-count.result task
    (c.len-count.ensures ∙ sym c.deref-3.ensures.len ∙ ap length c.deref-3.ensures.value) c.start.ensures c.end.ensures c.ended_by.ensures c.started_from.ensures c.min-first.ensures (c.max-last.ensures ∙ ap (λ n. max n c.min-first.result) c.min.ensures)
    ∙ ap (hits task c.args.rect.now) c.self.view_is
