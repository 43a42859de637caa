use Rattle.std.proofs.Common.{◌≡◌, ◌∙◌, ◌<◌, List, ap, length, subst, sym}
use Rattle.pb_matrix.specs.Value.{MatrixValue}
use Rattle.pb_solution.specs.Solutions.{outcomes_of}
use Rattle.pb_taskgraph.specs.Plans.{outcome_at}
use Rattle.pb_run_work.specs.Given.{given_as}
use Rattle.pb_run_work.specs.Running.{IsRunning, RunValue}
use Rattle.pb_run_work.proofs.RunningLemmas.{input_is, input_there}
use Rattle.pb_run_work.proofs.work.RunWork.input.Goals as goal

pub input_at-requires-clause-below : goal.input_at-requires-clause-below
input_at-requires-clause-below c =
    let inputs : c.args.self.now.inputs ≡ c.deref.result.now = sym (c.deref.ensures.value ∙ ap (λ (r : RunValue). r.inputs) c.self.view_is) in
    subst (λ (ms : List MatrixValue). c.args.cell < length (outcomes_of (given_as ms))) inputs (input_there c.args.self.now (subst IsRunning c.self.view_is c.self.invariant) c.args.cell c.requires)

pub returns : goal.returns
returns c =
    let is = subst IsRunning c.self.view_is c.self.invariant in
    c.input_at.ensures ∙ ap (λ (ms : List MatrixValue). outcome_at (outcomes_of (given_as ms)) c.args.cell) (c.deref.ensures.value ∙ ap (λ (r : RunValue). r.inputs) c.self.view_is)
    ∙ input_is c.args.self.now is c.args.cell (input_there c.args.self.now is c.args.cell c.requires)
