use Rattle.std.proofs.Common.{refl, arith, ◌-◌}
use Rattle.pb_config.proofs.ChoiceLemmas.{no_number, none_left, one_rule, last_rule, no_end}
use Rattle.pb_config.proofs.choice.read_rules.Goals as goal

pub returns-in_default : goal.returns-in_default
returns-in_default c = (refl, no_number _ _ (32 - c.loop.counter) _ c.loop.invariant c.in_default.ensures)

pub returns-in_default-after : goal.returns-in_default-after
returns-in_default-after c =
    last_rule _ _ (32 - c.loop.counter) _ _ _ _ _ c.loop.invariant (omega arith) c.in-Some.ensures c.in_default-after.ensures c.in-Some-after-2.ensures c.in_ok-push.ensures.items

pub returns-in_default-after-2 : goal.returns-in_default-after-2
returns-in_default-after-2 c =
    (refl, no_end _ _ (32 - c.loop.counter) _ _ _ c.loop.invariant (omega arith) c.in-Some.ensures c.in_default-after.ensures c.in_default-after-2.ensures)

pub loop-preserved : goal.loop-preserved
loop-preserved c = one_rule _ _ (32 - c.loop.counter) _ _ _ _ _ _ c.loop.invariant (omega arith) c.in-Some.ensures c.in-Some-after.ensures c.in_ok-push.ensures.items

pub returns : goal.returns
returns c = (refl, none_left _ _ (32 - c.loop.counter) _ c.loop.invariant (omega arith))
