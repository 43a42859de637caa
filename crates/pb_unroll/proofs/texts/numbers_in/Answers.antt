use Rattle.std.proofs.Common.{◌≡◌, ◌∙◌, to_z, of_z, w64, rules}
use Rattle.pb_unroll.proofs.TrapLemmas.{one_more}
use Rattle.pb_unroll.proofs.texts.numbers_in.Goals as goal

pub loop-k-preserved : goal.loop-k-preserved
loop-k-preserved c =
    let same : to_z w64 (of_z w64 c.number_in.result) ≡ c.number_in.result = search rules in
    record { numbers = one_more c.args.outcomes.now c.args.view.now.first c.loop-k.k c.get.result c.loop-k.numbers.items _ _ c.get.ensures c.in_ok-push.ensures.items (same ∙ c.number_in.ensures) c.loop-k.invariant.numbers }
