use Rattle.std.proofs.Common.{◌≡◌, ◌∙◌, sym, ap, subst, ⊎_elim, ◌+◌, ◌-◌, get_or, Some, None, arith}
use Rattle.pb_linear.specs.Sizes.{sizes_of}
use Rattle.pb_program.specs.Trees.{bare_prog}
use Rattle.pb_recursion.specs.Counts.{Counted}
use Rattle.pb_counts.specs.Gathered.{CanCome, Entered, GatheredValue}
use Rattle.pb_counts.specs.Memos.{IsKnown}
use Rattle.pb_counts.specs.Sized.{sized_count}
use Rattle.pb_counts.specs.Tallies.{capped, counted}
use Rattle.pb_counts.specs.Told.{Tells}
use Rattle.pb_counts.proofs.AddLemmas.{both_none}
use Rattle.pb_counts.proofs.TellLemmas.{can_enter, many_next, rest_suc, told_end, told_next, told_none, told_rest}
use Rattle.pb_counts.proofs.count.+counts.Goals as goal

pub count-returns-in_default-told-clause-told : goal.count-returns-in_default-told-clause-told
count-returns-in_default-told-clause-told m c =
    told_none c.args.a.now c.args.c.now c.args.t (sizes_of c.args.s.now) c.args.depth c.in_ok-gathered.gathered c.in_ok-gathered.ensures.whole c.args.before c.requires.before
    (let many = c.in_default-told.ensures.none in let same = ap (λ (g : GatheredValue). g.tally.calls) c.gathered.view_is in omega (arith, many, same))

pub count-returns-in_default-2-clause-told : goal.count-returns-in_default-2-clause-told
count-returns-in_default-2-clause-told m c =
    subst (Tells c.args.before (sized_count (bare_prog c.args.a.now.program) c.args.c.now c.args.depth c.args.t (sizes_of c.args.s.now))) c.in_default-2.is
    (told_rest c.args.a.now c.args.c.now c.args.t (sizes_of c.args.s.now) c.args.depth c.in_ok-gathered.gathered c.in_ok-gathered.ensures.whole (counted c.in-Some-told.own) c.deref.result.now
    (ap counted c.in-Some-told.ensures.some.0 ∙ ap (λ (g : GatheredValue). g.tally) c.gathered.view_is) (c.deref.ensures.value ∙ ap (λ (g : GatheredValue). g.next) c.gathered.view_is) c.args.before c.requires.before c.in_ok-tally.field-0 c.in_ok-tally.ensures.told)

pub count-returns-clause-told : goal.count-returns-clause-told
count-returns-clause-told m c =
    subst (Tells c.args.before (sized_count (bare_prog c.args.a.now.program) c.args.c.now c.args.depth c.args.t (sizes_of c.args.s.now))) c.in-Some-2.is
    (told_rest c.args.a.now c.args.c.now c.args.t (sizes_of c.args.s.now) c.args.depth c.in_ok-gathered.gathered c.in_ok-gathered.ensures.whole (counted c.in-Some-told.own) c.deref.result.now
    (ap counted c.in-Some-told.ensures.some.0 ∙ ap (λ (g : GatheredValue). g.tally) c.gathered.view_is) (c.deref.ensures.value ∙ ap (λ (g : GatheredValue). g.next) c.gathered.view_is) c.args.before c.requires.before c.in_ok-tally.field-0 c.in_ok-tally.ensures.told)

pub count-returns-clause-known : goal.count-returns-clause-known
count-returns-clause-known m c = λ k h.
    let told : Tells c.args.before (sized_count (bare_prog c.args.a.now.program) c.args.c.now c.args.depth c.args.t (sizes_of c.args.s.now)) (Some c.in-Some-2.tally) = subst (Tells c.args.before (sized_count (bare_prog c.args.a.now.program) c.args.c.now c.args.depth c.args.t (sizes_of c.args.s.now))) c.in-Some-2.is
    (told_rest c.args.a.now c.args.c.now c.args.t (sizes_of c.args.s.now) c.args.depth c.in_ok-gathered.gathered c.in_ok-gathered.ensures.whole (counted c.in-Some-told.own) c.deref.result.now
    (ap counted c.in-Some-told.ensures.some.0 ∙ ap (λ (g : GatheredValue). g.tally) c.gathered.view_is) (c.deref.ensures.value ∙ ap (λ (g : GatheredValue). g.next) c.gathered.view_is) c.args.before c.requires.before c.in_ok-tally.field-0 c.in_ok-tally.ensures.told) in
    ⊎_elim (λ old. c.in_ok-tally.ensures.known k old) (λ new. subst (IsKnown (bare_prog c.args.a.now.program) c.args.c.now) (sym new) (record { is = told.0; few = omega (arith, told.1) })) (c.in_ok-add.ensures k h)

pub rest-loop-entered-init : goal.rest-loop-entered-init
rest-loop-entered-init m c = (ap capped (both_none (counted c.args.own)), c.requires.before, c.requires.known)

pub rest-overflow_add-before : goal.rest-overflow_add-before
rest-overflow_add-before m c = let few = c.loop-entered.invariant.1 in omega (arith, few)

pub rest-count-requires : goal.rest-count-requires
rest-count-requires m c =
    let n : Entered = (c.entered.inside.transform, sizes_of c.entered.inside.sizes) in
    let at : c.entered-item.result ≡ n = sym c.entered.view_is in
    let can : CanCome (bare_prog c.args.a.now.program) n = subst (CanCome (bare_prog c.args.a.now.program)) (sym c.entered-item.is ∙ at) (c.requires.next c.loop-entered.entered-index c.entered-item.result c.loop-entered-test.true) in
    (omega (arith, c.decreases, c.if-depth-eq0.false), (c.requires.valid, (can_enter c.args.a.now c.prog.ensures.accepted n can, (c.loop-entered.invariant.1, c.loop-entered.invariant.2))))

pub rest-returns-in_default-clause-told : goal.rest-returns-in_default-clause-told
rest-returns-in_default-clause-told m c =
    let p = bare_prog c.args.a.now.program in
    let n : Entered = (c.entered.inside.transform, sizes_of c.entered.inside.sizes) in
    let f = sized_count p c.args.c.now (c.args.depth - 1) in
    let g : GatheredValue = record { tally = counted c.args.own; next = c.args.next.now } in
    let at : n ≡ get_or c.args.next.now c.loop-entered.entered-index n = subst (λ (r : Entered). r ≡ get_or c.args.next.now c.loop-entered.entered-index r) (sym c.entered.view_is) c.entered-item.is in
    let told : Tells (c.args.before + c.loop-entered.tally.calls) (f n.0 n.1) None = subst (Tells (c.args.before + c.loop-entered.tally.calls) (f n.0 n.1)) c.in_default.is c.in_ok-one.ensures.told in
    let many = many_next f g c.loop-entered.entered-index n (counted c.loop-entered.tally) c.args.before c.loop-entered-test.true at c.loop-entered.invariant.0 c.loop-entered.invariant.1 told in
    let same = ap (λ (z : Counted). z.calls) (rest_suc p c.args.c.now c.args.depth (counted c.args.own) c.args.next.now c.if-depth-eq0.false) in
    omega (arith, many, same)

pub rest-loop-entered-preserved : goal.rest-loop-entered-preserved
rest-loop-entered-preserved m c =
    let p = bare_prog c.args.a.now.program in
    let n : Entered = (c.entered.inside.transform, sizes_of c.entered.inside.sizes) in
    let f = sized_count p c.args.c.now (c.args.depth - 1) in
    let g : GatheredValue = record { tally = counted c.args.own; next = c.args.next.now } in
    let at : n ≡ get_or c.args.next.now c.loop-entered.entered-index n = subst (λ (r : Entered). r ≡ get_or c.args.next.now c.loop-entered.entered-index r) (sym c.entered.view_is) c.entered-item.is in
    let told : Tells (c.args.before + c.loop-entered.tally.calls) (f n.0 n.1) (Some c.in-Some.one) = subst (Tells (c.args.before + c.loop-entered.tally.calls) (f n.0 n.1)) c.in-Some.is c.in_ok-one.ensures.told in
    let calls = ap (λ (z : Counted). z.calls) c.both-tally.ensures in (
      told_next f g c.loop-entered.entered-index n c.loop-entered-test.true at (counted c.loop-entered.tally) (counted c.in-Some.one) (counted c.both-tally.result) c.loop-entered.invariant.0 told.0 c.both-tally.ensures,
      omega (arith, calls, told.1),
      c.in_ok-one.ensures.known,
    )

pub rest-returns-clause-told : goal.rest-returns-clause-told
rest-returns-clause-told m c =
    let p = bare_prog c.args.a.now.program in
    let f = sized_count p c.args.c.now (c.args.depth - 1) in
    let g : GatheredValue = record { tally = counted c.args.own; next = c.args.next.now } in (
      told_end f g c.loop-entered.entered-index (counted c.loop-entered.tally) c.loop-entered-test.false c.loop-entered.invariant.0 ∙ ap capped (rest_suc p c.args.c.now c.args.depth (counted c.args.own) c.args.next.now c.if-depth-eq0.false),
      c.loop-entered.invariant.1,
    )

pub rest-returns-clause-known : goal.rest-returns-clause-known
rest-returns-clause-known m c = c.loop-entered.invariant.2
