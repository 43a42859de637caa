use Rattle.std.proofs.Common.{◌∙◌, ap}
use Rattle.pb_program.specs.Trees.{bare_prog, bare_transform}
use Rattle.pb_check.proofs.FirstLemmas.{all_at}
use Rattle.pb_counts.specs.Callable.{IsCallable}
use Rattle.pb_counts.proofs.FittedLemmas.{called_at}
use Rattle.pb_counts.proofs.fitted.sizes_of_call.Goals as goal

pub fits-requires : goal.fits-requires
fits-requires c =
    let k = c.call.inside.transform in
    let called = c.in-Some.called.now in
    let lookup = c.in-Some.ensures.lookup in
    let there = called_at c.args.p.now c.deref.result.now k called (c.deref.ensures.value ∙ ap (λ p. p.transforms) c.p.view_is) lookup.3.0 lookup.1 in
    all_at IsCallable (bare_prog c.args.p.now) k (bare_transform called) c.requires.program there

pub bind-requires : goal.bind-requires
bind-requires c =
    let k = c.call.inside.transform in
    let called = c.in-Some.called.now in
    let lookup = c.in-Some.ensures.lookup in
    let there = called_at c.args.p.now c.deref.result.now k called (c.deref.ensures.value ∙ ap (λ p. p.transforms) c.p.view_is) lookup.3.0 lookup.1 in
    all_at IsCallable (bare_prog c.args.p.now) k (bare_transform called) c.requires.program there
