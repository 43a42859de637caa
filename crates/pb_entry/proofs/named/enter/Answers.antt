use Rattle.std.proofs.Common.{◌≡◌, Some, ap, refl, slice_get, subst}
use Rattle.pb_program.specs.Trees.{bare_prog, bare_transform}
use Rattle.pb_entry.proofs.NamedLemmas.{enters, takes_other}
use Rattle.pb_entry.proofs.named.enter.Goals as goal

pub returns-then-wanted-given-clause-found : goal.returns-then-wanted-given-clause-found
returns-then-wanted-given-clause-found c =
    let t = bare_transform c.transform_at.result.now in
    let at = subst (λ p. slice_get (bare_prog p) c.in-Some.t ≡ Some t) c.prog.ensures.program c.transform_at.ensures in
    enters (bare_prog c.args.a.now.program) c.args.name.now c.args.given c.in-Some.t c.behind-prog.inside.inputs t c.in-Some.ensures.found at (ap (λ x. x.inputs) c.behind-prog.view_is) c.if-wanted-given.true

pub returns-else-wanted-given-clause-refused : goal.returns-else-wanted-given-clause-refused
returns-else-wanted-given-clause-refused c =
    let t = bare_transform c.transform_at.result.now in
    let at = subst (λ p. slice_get (bare_prog p) c.in-Some.t ≡ Some t) c.prog.ensures.program c.transform_at.ensures in
    (refl, takes_other (bare_prog c.args.a.now.program) c.args.name.now c.args.given c.in-Some.t c.behind-prog.inside.inputs t c.in-Some.ensures.found at (ap (λ x. x.inputs) c.behind-prog.view_is) c.if-wanted-given.false)
