use Rattle.std.proofs.Common.{[], ◌∷◌, sym, ap, subst, arith}
use Rattle.std.specs.List.{Contains}
use Rattle.std.proofs.lemmas.List.Elements.{Contains-append_left, Contains-push}
use Rattle.pb_cells.specs.Handles.{HandValue}
use Rattle.pb_run_trials.proofs.DrivenLemmas.{task-count}
use Rattle.pb_run_trials.proofs.cells.by_two_hands.Goals as goal

pub close-requires-clause-some : goal.close-requires-clause-some
close-requires-clause-some g c =
    let first = c.finished-again.new.hand in
    let pushed = subst (λ l. Contains l first) (sym c.in_ok-push.ensures.items) (Contains-push c.new-hands.result.items first) in (
      first,
      subst (λ l. Contains l first) (sym c.in_ok-push-2.ensures.items) (Contains-append_left c.push.new.self.items _ first pushed),
      omega (arith, ap (λ (h : HandValue). h.seen) c.finished-again.ensures.seen, c.if-again-ne2.false, task-count c.args.work.now g.N.NamesWork.plan c.requires.name, c.requires.tasks),
    )
