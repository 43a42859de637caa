use Rattle.std.proofs.Common.{◌∙◌, ◌++◌, ap, subst, sym}
use Rattle.pb_taskgraph.specs.Runs.{FinishedValue}
use Rattle.pb_unroll.specs.Handed.{run_plan}
use Rattle.pb_top.specs.Runs.{orders_of}
use Rattle.pb_top.proofs.FinishLemmas.{is_done}
use Rattle.pb_top.proofs.finish.finish.Goals as goal

pub returns : goal.returns
returns c pool allowed =
    let order = subst (λ order. orders_of pool (run_plan c.args.run.now).graph order) (sym (c.deref.ensures.value ∙ ap (λ (f : FinishedValue). f.order) c.finished.view_is)) allowed in (
      c.in_ok-text.text.items,
      c.in_ok-tail.tail.items,
      is_done pool c.args.run.now c.args.traced c.in_ok-text.text.items c.in_ok-tail.tail.items (sym c.first_trapped.ensures ∙ c.in_default.is) c.in_ok-text.ensures (c.in_ok-tail.ensures pool order),
      c.in_ok-extend_from_slice.ensures.items ∙ ap (λ xs. c.in_ok-text.text.items ++ xs) c.deref-2.ensures.value,
    )
