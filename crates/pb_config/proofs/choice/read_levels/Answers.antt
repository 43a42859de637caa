use Rattle.std.proofs.Common.{refl, arith, ◌-◌}
use Rattle.pb_config.proofs.ChoiceLemmas.{line_ends, no_more, no_level, one_level}
use Rattle.pb_config.proofs.choice.read_levels.Goals as goal

pub returns-then-is_blank : goal.returns-then-is_blank
returns-then-is_blank c = line_ends _ _ (7 - c.loop.counter) _ c.loop.invariant (cc)

pub returns-in_default : goal.returns-in_default
returns-in_default c = (refl, no_level _ _ (7 - c.loop.counter) _ c.loop.invariant (cc) c.in_default.ensures)

pub loop-preserved : goal.loop-preserved
loop-preserved c = one_level _ _ (7 - c.loop.counter) _ _ _ _ _ c.loop.invariant (omega arith) (cc) c.in-Some.ensures c.in_ok-push.ensures.items

pub returns-then-is_blank-2 : goal.returns-then-is_blank-2
returns-then-is_blank-2 c = line_ends _ _ (7 - c.loop.counter) _ c.loop.invariant (cc)

pub returns-else-is_blank-2 : goal.returns-else-is_blank-2
returns-else-is_blank-2 c = (refl, no_more _ _ (7 - c.loop.counter) _ c.loop.invariant (omega arith) (cc))
