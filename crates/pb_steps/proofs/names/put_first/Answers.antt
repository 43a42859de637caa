use Rattle.std.proofs.Common.{◌≡◌, sym, ap, subst, ◌-◌, ◌++◌, drop, length, min, arith}
use Rattle.std.specs.List.{zip}
use Rattle.pb_steps.proofs.NameLemmas.{given_small, next_given, zip_end}
use Rattle.pb_steps.proofs.names.put_first.Goals as goal

pub loop-given-init : goal.loop-given-init
loop-given-init c =
    let all : c.min-count.result - 0 ≡ min (length c.args.slots.now) (length c.args.seats.now) = omega (arith, c.min-count.ensures) in
    record { names = sym (ap (λ l. l ++ c.args.list.now.items) (zip_end c.args.slots.now c.args.seats.now _ all)); small = λ h k. h }

pub loop-given-preserved : goal.loop-given-preserved
loop-given-preserved c =
    let added = c.in_ok-push_front.ensures.items in
    record {
      names = next_given c.args.slots.now c.args.seats.now c.min-count.result c.loop-given.given (c.min-count.result - 1 - c.loop-given.given) _ _ c.args.list.now.items c.loop-given.list.items _ c.min-count.ensures c.loop-given-test.true (omega arith) c.loop-given.invariant.names added;
      small = λ h k. given_small _ _ c.loop-given.list.items _ (c.loop-given.invariant.small h k) (k (c.min-count.result - 1 - c.loop-given.given) _ (omega (arith, c.min-count.ensures, c.loop-given-test.true))) added;
    }

pub returns-clause-names : goal.returns-clause-names
returns-clause-names c =
    let none : c.min-count.result - c.loop-given.given ≡ 0 = omega (arith, c.loop-given-test.false) in
    subst (λ n. c.loop-given.list.items ≡ drop n (zip c.args.slots.now c.args.seats.now) ++ c.args.list.now.items) none c.loop-given.invariant.names
