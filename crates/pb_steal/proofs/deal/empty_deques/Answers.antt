use Rattle.std.proofs.Common.{◌∙◌, ◌≡◌, ◌+◌, ◌++◌, ◌∷◌, [], All, ap, length, subst, sym}
use Rattle.std.proofs.lemmas.List.{length-append}
use Rattle.std.proofs.lemmas.List.Elements.{All-push}
use Rattle.pb_steal.specs.Crews.{IsEmpty}
use Rattle.pb_steal.specs.Deques.{OwnValue}
use Rattle.pb_steal.proofs.deal.empty_deques.Goals as goal

pub loop-preserved : goal.loop-preserved
loop-preserved g c =
    let own : OwnValue = c.in_ok-new.field-0 in
    let items : c.push.new.self.items ≡ c.loop.owns.items ++ own ∷ [] = c.in_ok-push.ensures.items in
    record {
      size = ap length items ∙ length-append c.loop.owns.items (own ∷ []) ∙ ap (λ n. n + 1) c.loop.invariant.size;
      empty = subst (All (IsEmpty c.args.room)) (sym items) (All-push (IsEmpty c.args.room) c.loop.owns.items own c.loop.invariant.empty (record { pushed = c.in_ok-new.ensures.pushed; took = c.in_ok-new.ensures.took; room_is = c.in_ok-new.ensures.room }));
    }
