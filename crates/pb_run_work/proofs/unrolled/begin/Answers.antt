use Rattle.std.proofs.Common.{rules, ◌≡◌, ◌∙◌, ◌⊎◌, inl, inr, List, subst}
use Rattle.std.proofs.lemmas.Option.{slice_get_within}
use Rattle.pb_program.specs.Trees.{bare_prog}
use Rattle.pb_entry.specs.declared.refusal.RunRefusal.TheVariants.{Memory}
use Rattle.pb_recursion.specs.Shapes.{Sides}
use Rattle.pb_steps.specs.Handed.{unrolled_run}
use Rattle.pb_run_graph.specs.Linking.{IsTooMany}
use Rattle.pb_steps.specs.Stands.{AreSteps, met_of}
use Rattle.pb_run_work.specs.Given.{given_as}
use Rattle.pb_run_work.specs.Limits.{run_steps}
use Rattle.pb_run_work.proofs.BeginLemmas.{can_link, inputs_few, inputs_short, is_begun}
use Rattle.pb_run_work.proofs.unrolled.begin.Goals as goal

pub sides_of-requires : goal.sides_of-requires
sides_of-requires c = inputs_short c.args.a.now c.args.c.now c.args.grain c.args.depth c.args.t c.args.inputs.now c.requires

pub unroll-requires-clause-there : goal.unroll-requires-clause-there
unroll-requires-clause-there c = slice_get_within (bare_prog c.args.a.now.program) c.args.t c.requires.entered.transform c.requires.entered.there

pub count_cells-requires : goal.count_cells-requires
count_cells-requires c = inputs_few c.args.a.now c.args.c.now c.args.grain c.args.depth c.args.t c.args.inputs.now c.requires

pub graph_of-requires : goal.graph_of-requires
graph_of-requires c =
    let a = c.args.a.now in
    let p = bare_prog a.program in
    let u = c.in_ok-unrolled.unrolled in
    let sides = c.deref.ensures.value ∙ c.in_ok-sides.ensures in
    let steps = subst (λ (ss : List Sides). AreSteps p a.found u (unrolled_run p a.found c.args.c.now c.args.grain c.args.depth c.args.t ss).steps) sides c.in_ok-unrolled.ensures.steps in
    let met = subst (λ (ss : List Sides). met_of u.met ≡ (unrolled_run p a.found c.args.c.now c.args.grain c.args.depth c.args.t ss).next) sides c.in_ok-unrolled.ensures.met in
    record { ready = can_link a c.args.c.now c.args.grain c.args.depth c.args.t c.args.inputs.now c.requires u steps met c.in_ok-unrolled.ensures.seated c.count_cells.result c.count_cells.ensures }

pub returns-in_err-graph-clause-refused : goal.returns-in_err-graph-clause-refused
returns-in_err-graph-clause-refused c =
    let a = c.args.a.now in
    let p = bare_prog a.program in
    let u = c.in_ok-unrolled.unrolled in
    let e = c.in_err-graph.field-0.0 in
    let sides = c.deref.ensures.value ∙ c.in_ok-sides.ensures in
    let steps = subst (λ (ss : List Sides). AreSteps p a.found u (unrolled_run p a.found c.args.c.now c.args.grain c.args.depth c.args.t ss).steps) sides c.in_ok-unrolled.ensures.steps in
    let told : (e ≡ Memory) ⊎ IsTooMany (run_steps p a.found c.args.c.now c.args.grain c.args.depth c.args.t (given_as c.args.inputs.now)) e = elim c.in_err-graph.ensures.refused [
      | inl memory ↦ inl memory
      | inr many ↦ inr (many (run_steps p a.found c.args.c.now c.args.grain c.args.depth c.args.t (given_as c.args.inputs.now)) steps)
    ] in
    search (rules, told, c.from_residual-in_err-graph.ensures)

pub returns-clause-found : goal.returns-clause-found
returns-clause-found c =
    let a = c.args.a.now in
    let p = bare_prog a.program in
    let u = c.in_ok-unrolled.unrolled in
    let sides = c.deref.ensures.value ∙ c.in_ok-sides.ensures in
    let steps = subst (λ (ss : List Sides). AreSteps p a.found u (unrolled_run p a.found c.args.c.now c.args.grain c.args.depth c.args.t ss).steps) sides c.in_ok-unrolled.ensures.steps in
    let met = subst (λ (ss : List Sides). met_of u.met ≡ (unrolled_run p a.found c.args.c.now c.args.grain c.args.depth c.args.t ss).next) sides c.in_ok-unrolled.ensures.met in
    is_begun a c.args.c.now c.args.grain c.args.depth c.args.t c.args.inputs.now c.requires u steps met c.in_ok-unrolled.ensures.seated c.in_ok-graph.graph c.count_cells.result c.count_cells.ensures c.in_ok-graph.ensures.found c.in_ok-graph.ensures.graph c.in_ok-graph.ensures.within
