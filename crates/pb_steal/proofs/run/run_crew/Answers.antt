use Rattle.std.proofs.Common.{◌≡◌, ◌∙◌, ap, length, true}
use Rattle.pb_steal.specs.Hands.{CrewHandValue}
use Rattle.pb_steal.proofs.RunLemmas.{all-left}
use Rattle.pb_steal.proofs.run.run_crew.Goals as goal

pub close-requires-clause-done : goal.close-requires-clause-done
close-requires-clause-done g c κs within =
    all-left (λ (h : CrewHandValue). h.done ≡ true) c.args.hands.len c.work_all.new.hands c.args.hands.items (c.work_all.ensures.size ∙ ap length c.deref_mut.ensures.value) c.work_all.ensures.done
