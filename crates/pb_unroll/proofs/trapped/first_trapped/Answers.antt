use Rattle.std.proofs.Common.{◌∙◌, refl, ap, sym, length, arith}
use Rattle.pb_program.specs.Transforms.{TransformValue}
use Rattle.pb_taskgraph.specs.Graphs.{GraphValue}
use Rattle.pb_unroll.specs.ShownCells.{cells_shown}
use Rattle.pb_unroll.proofs.AnswerLemmas.{IsLooked, has_place, is_first, is_small, is_there, no_number, none_trapped, watched_cells, watched_few, watched_short, within, within_limits}
use Rattle.pb_unroll.proofs.trapped.first_trapped.Goals as goal

pub count_cells-requires-clause-short : goal.count_cells-requires-clause-short
count_cells-requires-clause-short c = rw c.watched-views.ensures.views (watched_short c.args.run.now c.watched-views.ensures.running)

pub count_cells-requires-clause-few : goal.count_cells-requires-clause-few
count_cells-requires-clause-few c =
    let looked : IsLooked c.args.run.now c.args.outcomes.now c.inputs-inputs.result c.watched-views.result.now (cells_shown c.watched-views.result.now) =
    record { solved = c.requires; inputs = c.inputs-inputs.ensures ∙ ap (λ (g : GraphValue). g.inputs) c.task_graph.ensures.graph; views = c.watched-views.ensures.views; count = refl }
    in
    watched_cells c.args.run.now c.watched-views.ensures.running c.args.outcomes.now c.inputs-inputs.result c.watched-views.result.now (cells_shown c.watched-views.result.now) looked

pub first_trap-requires-clause-room : goal.first_trap-requires-clause-room
first_trap-requires-clause-room c =
    let looked : IsLooked c.args.run.now c.args.outcomes.now c.inputs-inputs.result c.watched-views.result.now c.count_cells.result =
    record { solved = c.requires; inputs = c.inputs-inputs.ensures ∙ ap (λ (g : GraphValue). g.inputs) c.task_graph.ensures.graph; views = c.watched-views.ensures.views; count = c.count_cells.ensures }
    in
    within c.args.run.now c.watched-views.ensures.running c.args.outcomes.now c.inputs-inputs.result c.watched-views.result.now c.count_cells.result looked

pub first_trap-requires-clause-few : goal.first_trap-requires-clause-few
first_trap-requires-clause-few c =
    let looked : IsLooked c.args.run.now c.args.outcomes.now c.inputs-inputs.result c.watched-views.result.now c.count_cells.result =
    record { solved = c.requires; inputs = c.inputs-inputs.ensures ∙ ap (λ (g : GraphValue). g.inputs) c.task_graph.ensures.graph; views = c.watched-views.ensures.views; count = c.count_cells.ensures }
    in
    within_limits c.args.run.now c.watched-views.ensures.running c.args.outcomes.now c.inputs-inputs.result c.watched-views.result.now c.count_cells.result looked

pub returns-in_err-cell : goal.returns-in_err-cell
returns-in_err-cell c =
    let looked : IsLooked c.args.run.now c.args.outcomes.now c.inputs-inputs.result c.watched-views.result.now c.count_cells.result =
    record { solved = c.requires; inputs = c.inputs-inputs.ensures ∙ ap (λ (g : GraphValue). g.inputs) c.task_graph.ensures.graph; views = c.watched-views.ensures.views; count = c.count_cells.ensures }
    in
    c.from_residual.ensures ∙ none_trapped c.args.run.now c.watched-views.ensures.running c.args.outcomes.now c.inputs-inputs.result c.watched-views.result.now c.count_cells.result looked (sym c.first_trap.ensures ∙ c.in_err-cell.was)

pub place_of-requires-clause-short : goal.place_of-requires-clause-short
place_of-requires-clause-short c = rw c.watched-views.ensures.views (watched_short c.args.run.now c.watched-views.ensures.running)

pub place_of-requires-clause-few : goal.place_of-requires-clause-few
place_of-requires-clause-few c =
    let from = ap (λ (t : TransformValue). t.inputs) (c.behind-run.view_is ∙ c.transform.ensures) in
    omega (arith, watched_few c.args.run.now c.watched-views.ensures.running, from, ap length c.watched-views.ensures.views)

pub returns-in_err-matrix : goal.returns-in_err-matrix
returns-in_err-matrix c =
    let looked : IsLooked c.args.run.now c.args.outcomes.now c.inputs-inputs.result c.watched-views.result.now c.count_cells.result =
    record { solved = c.requires; inputs = c.inputs-inputs.ensures ∙ ap (λ (g : GraphValue). g.inputs) c.task_graph.ensures.graph; views = c.watched-views.ensures.views; count = c.count_cells.ensures }
    in
    let from = ap (λ (t : TransformValue). t.inputs) (c.behind-run.view_is ∙ c.transform.ensures) in
    absurd (has_place c.args.run.now c.watched-views.ensures.running c.args.outcomes.now c.inputs-inputs.result c.watched-views.result.now c.count_cells.result looked c.in_ok-cell.cell (sym c.first_trap.ensures ∙ c.in_ok-cell.was) c.behind-run.inside.inputs from (sym c.place_of.ensures ∙ c.in_err-matrix.was))

pub overflow_add-number : goal.overflow_add-number
overflow_add-number c =
    let looked : IsLooked c.args.run.now c.args.outcomes.now c.inputs-inputs.result c.watched-views.result.now c.count_cells.result =
    record { solved = c.requires; inputs = c.inputs-inputs.ensures ∙ ap (λ (g : GraphValue). g.inputs) c.task_graph.ensures.graph; views = c.watched-views.ensures.views; count = c.count_cells.ensures }
    in
    let small = is_small c.args.run.now c.watched-views.ensures.running c.args.outcomes.now c.inputs-inputs.result c.watched-views.result.now c.count_cells.result looked c.in_ok-cell.cell (sym c.first_trap.ensures ∙ c.in_ok-cell.was) in
    omega (arith, small)

pub get-requires : goal.get-requires
get-requires c =
    let looked : IsLooked c.args.run.now c.args.outcomes.now c.inputs-inputs.result c.watched-views.result.now c.count_cells.result =
    record { solved = c.requires; inputs = c.inputs-inputs.ensures ∙ ap (λ (g : GraphValue). g.inputs) c.task_graph.ensures.graph; views = c.watched-views.ensures.views; count = c.count_cells.ensures }
    in
    is_there c.args.run.now c.watched-views.ensures.running c.args.outcomes.now c.inputs-inputs.result c.watched-views.result.now c.count_cells.result looked c.in_ok-cell.cell (sym c.first_trap.ensures ∙ c.in_ok-cell.was)

pub returns-in-Trapped : goal.returns-in-Trapped
returns-in-Trapped c =
    let looked : IsLooked c.args.run.now c.args.outcomes.now c.inputs-inputs.result c.watched-views.result.now c.count_cells.result =
    record { solved = c.requires; inputs = c.inputs-inputs.ensures ∙ ap (λ (g : GraphValue). g.inputs) c.task_graph.ensures.graph; views = c.watched-views.ensures.views; count = c.count_cells.ensures }
    in
    let from = ap (λ (t : TransformValue). t.inputs) (c.behind-run.view_is ∙ c.transform.ensures) in
    is_first c.args.run.now c.watched-views.ensures.running c.args.outcomes.now c.inputs-inputs.result c.watched-views.result.now c.count_cells.result looked c.in_ok-cell.cell (sym c.first_trap.ensures ∙ c.in_ok-cell.was) c.behind-run.inside.inputs from c.in-Trapped.trap c.get.result (c.in_ok-matrix.matrix, c.in_ok-matrix.x, c.in_ok-matrix.y) c.get.ensures c.in-Trapped.is (sym c.place_of.ensures ∙ c.in_ok-matrix.was)

pub returns-in-Value : goal.returns-in-Value
returns-in-Value c =
    let looked : IsLooked c.args.run.now c.args.outcomes.now c.inputs-inputs.result c.watched-views.result.now c.count_cells.result =
    record { solved = c.requires; inputs = c.inputs-inputs.ensures ∙ ap (λ (g : GraphValue). g.inputs) c.task_graph.ensures.graph; views = c.watched-views.ensures.views; count = c.count_cells.ensures }
    in
    absurd (no_number c.args.run.now c.watched-views.ensures.running c.args.outcomes.now c.inputs-inputs.result c.watched-views.result.now c.count_cells.result looked c.in_ok-cell.cell (sym c.first_trap.ensures ∙ c.in_ok-cell.was) c.in-Value.field-0 c.get.result c.get.ensures c.in-Value.is)
