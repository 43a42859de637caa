use Rattle.std.proofs.Common.{rules, ◌≡◌, ◌∙◌, ◌⊎◌, ap, inl, inr, List, subst, sym}
use Rattle.pb_linear.specs.Sizes.{sizes_of}
use Rattle.pb_program.specs.Transforms.{ProgValue}
use Rattle.pb_program.specs.Trees.{bare_prog}
use Rattle.pb_region.specs.Dims.{HasTransform}
use Rattle.pb_matrix.specs.Value.{MatrixValue}
use Rattle.pb_entry.specs.Fitting.{AreBound, AreUnfit}
use Rattle.pb_entry.specs.declared.refusal.RunRefusal.TheVariants.{Memory}
use Rattle.pb_run_graph.specs.Linking.{IsTooMany}
use Rattle.pb_run_work.specs.Given.{given_as}
use Rattle.pb_run_work.specs.Holding.{CanBegin}
use Rattle.pb_run_work.specs.Limits.{run_steps}
use Rattle.pb_run_work.specs.Unrolled.{IsRefused}
use Rattle.pb_run_work.proofs.StartLemmas.{begin_is, code_there, fitted_is, many_are, range_is, too_many_are, unfit_is}
use Rattle.pb_run_work.proofs.unrolled.unroll.Goals as goal

pub returns-in_err-s-clause-refused : goal.returns-in_err-s-clause-refused
returns-in_err-s-clause-refused c =
    let a = c.args.a.now in
    let e = c.in_err-s.field-0.0 in
    let unfit = subst (λ (ms : List MatrixValue). HasTransform (bare_prog a.program) c.args.t (λ tr. AreUnfit tr ms e)) c.deref.ensures.value c.in_err-s.ensures.refused in
    let told : (e ≡ Memory) ⊎ IsRefused a c.args.c.now c.args.t c.args.inputs.items c.args.depth c.args.grain e = inr (unfit_is a c.prog.ensures.accepted c.args.c.now c.requires.valid c.args.grain c.args.depth c.args.t c.args.inputs.items c.requires.whole c.requires.count e unfit) in
    search (rules, told, c.from_residual.ensures)

pub check_counts-requires-clause-sizes : goal.check_counts-requires-clause-sizes
check_counts-requires-clause-sizes c =
    let a = c.args.a.now in
    let bound = subst (λ (ms : List MatrixValue). HasTransform (bare_prog a.program) c.args.t (λ tr. AreBound tr ms (sizes_of c.in_ok-s.s))) c.deref.ensures.value c.in_ok-s.ensures.found in
    range_is a c.prog.ensures.accepted c.args.c.now c.requires.valid c.args.grain c.args.depth c.args.t c.args.inputs.items c.requires.whole c.requires.count c.in_ok-s.s bound

pub returns-in_err-check_counts-clause-refused : goal.returns-in_err-check_counts-clause-refused
returns-in_err-check_counts-clause-refused c =
    let a = c.args.a.now in
    let e = c.in_err-check_counts.field-0.0 in
    let bound = subst (λ (ms : List MatrixValue). HasTransform (bare_prog a.program) c.args.t (λ tr. AreBound tr ms (sizes_of c.in_ok-s.s))) c.deref.ensures.value c.in_ok-s.ensures.found in
    let told : (e ≡ Memory) ⊎ IsRefused a c.args.c.now c.args.t c.args.inputs.items c.args.depth c.args.grain e = elim c.in_err-check_counts.ensures.many [
      | inl memory ↦ inl memory
      | inr many ↦ inr (many_are a c.prog.ensures.accepted c.args.c.now c.requires.valid c.args.grain c.args.depth c.args.t c.args.inputs.items c.requires.whole c.requires.count c.in_ok-s.s bound e many)
    ] in
    search (rules, told, c.from_residual-in_err-check_counts.ensures)

pub begin-requires : goal.begin-requires
begin-requires c =
    let a = c.args.a.now in
    let bound = subst (λ (ms : List MatrixValue). HasTransform (bare_prog a.program) c.args.t (λ tr. AreBound tr ms (sizes_of c.in_ok-s.s))) c.deref.ensures.value c.in_ok-s.ensures.found in
    subst (λ (ms : List MatrixValue). CanBegin a c.args.c.now c.args.grain c.args.depth c.args.t (given_as ms)) (sym c.deref-2.ensures.value)
    (begin_is a c.prog.ensures.accepted c.args.c.now c.requires.valid c.args.grain c.args.depth c.args.t c.args.inputs.items c.requires.whole c.requires.count c.in_ok-s.s bound c.in_ok-check_counts.ensures.few c.given_matrices_can_enter.ensures.enters)

pub returns-in_err-unrolled-clause-refused : goal.returns-in_err-unrolled-clause-refused
returns-in_err-unrolled-clause-refused c =
    let a = c.args.a.now in
    let e = c.in_err-unrolled.field-0.0 in
    let bound = subst (λ (ms : List MatrixValue). HasTransform (bare_prog a.program) c.args.t (λ tr. AreBound tr ms (sizes_of c.in_ok-s.s))) c.deref.ensures.value c.in_ok-s.ensures.found in
    let refused = subst (λ (ms : List MatrixValue). (e ≡ Memory) ⊎ IsTooMany (run_steps (bare_prog a.program) a.found c.args.c.now c.args.grain c.args.depth c.args.t (given_as ms)) e) c.deref-2.ensures.value c.in_err-unrolled.ensures.refused in
    let told : (e ≡ Memory) ⊎ IsRefused a c.args.c.now c.args.t c.args.inputs.items c.args.depth c.args.grain e = elim refused [
      | inl memory ↦ inl memory
      | inr many ↦ inr (too_many_are a c.prog.ensures.accepted c.args.c.now c.requires.valid c.args.grain c.args.depth c.args.t c.args.inputs.items c.requires.whole c.requires.count c.in_ok-s.s bound c.in_ok-check_counts.ensures.few e many)
    ] in
    search (rules, told, c.from_residual-in_err-unrolled.ensures)

pub run_of-requires-clause-there : goal.run_of-requires-clause-there
run_of-requires-clause-there c =
    code_there c.args.a.now c.prog.ensures.accepted c.args.c.now c.requires.valid c.args.grain c.args.depth c.args.t c.args.inputs.items c.requires.whole c.requires.count
    c.behind-a.inside.transforms.items (ap (λ (p : ProgValue). p.transforms) (c.behind-a.view_is ∙ c.prog.ensures.program)) c.index-transform.result.now c.index-transform.ensures

pub run_of-requires-clause-fitted : goal.run_of-requires-clause-fitted
run_of-requires-clause-fitted c =
    let a = c.args.a.now in
    let bound = subst (λ (ms : List MatrixValue). HasTransform (bare_prog a.program) c.args.t (λ tr. AreBound tr ms (sizes_of c.in_ok-s.s))) c.deref.ensures.value c.in_ok-s.ensures.found in
    fitted_is a c.prog.ensures.accepted c.args.c.now c.requires.valid c.args.grain c.args.depth c.args.t c.args.inputs.items c.requires.whole c.requires.count c.in_ok-s.s bound c.in_ok-check_counts.ensures.few c.given_matrices_can_enter.ensures.enters c.given_matrices_can_enter.ensures.sizes
