use Rattle.std.proofs.Common.{subst, sym, arith, rules, ◌∙◌}
use Rattle.std.specs.List.{AllByRecursion}
use Rattle.std.proofs.lemmas.List.Elements.{All-from_recursion}
use Rattle.pb_program.specs.Configs.{IsValid}
use Rattle.pb_program.specs.Trees.{bare_prog}
use Rattle.pb_tuner.specs.Tuned.{candidates}
use Rattle.pb_tuner.proofs.GenerationLemmas.{at_least, at_most, begins, is_size, members_valid, some_member}
use Rattle.pb_tuner.proofs.ValidLemmas.{candidates_valid}
use Rattle.pb_tuner.proofs.tuning.tune.Goals as goal

pub loop-size-init : goal.loop-size-init
loop-size-init g c =
    (begins _ _ _ _ _ _ c.new-population.ensures.items c.new.ensures.items c.new-journal.ensures.items c.in_ok-push.ensures.items, search rules, search rules)

pub generation-requires-clause-valid : goal.generation-requires-clause-valid
generation-requires-clause-valid g c =
    let p = bare_prog c.args.p.now in
    let few = at_most c.args.up_to c.requires.up_to in
    let after = c.loop-size.invariant.0 in
    let cutoff = is_size c.loop-size.size (at_least _ _ after) (omega (arith, few, c.loop-size-test.true)) in
    let valid = candidates_valid p c.loop-size.size cutoff c.args.sites.now c.loop-size.population.items c.requires.sites (members_valid _ _ p few c.requires.sites after) in
    subst (λ p. AllByRecursion (IsValid p) (candidates c.args.sites.now c.loop-size.size c.loop-size.population.items))
    (sym (c.loop-size.invariant.2.same_program ∙ c.requires.program)) valid

pub generation-requires-clause-size : goal.generation-requires-clause-size
generation-requires-clause-size g c =
    is_size _ (at_least _ _ c.loop-size.invariant.0) (omega (arith, at_most c.args.up_to c.requires.up_to, c.loop-size-test.true))

pub loop-size-smaller : goal.loop-size-smaller
loop-size-smaller g c = omega (arith, at_least _ _ c.loop-size.invariant.0, c.loop-size-test.true)

pub swap_remove-first-requires : goal.swap_remove-first-requires
swap_remove-first-requires g c = omega (arith, some_member _ _ c.loop-size.invariant.0, c.loop-size.population.ok.0)

pub returns-clause-valid : goal.returns-clause-valid
returns-clause-valid g c =
    let p = bare_prog c.args.p.now in
    let after = c.loop-size.invariant.0 in
    let valid = members_valid _ _ p (at_most c.args.up_to c.requires.up_to) c.requires.sites after in
    subst (IsValid p) (sym c.swap_remove-first.ensures.value) (All-from_recursion (IsValid p) _ valid 0 _ (some_member _ _ after))
