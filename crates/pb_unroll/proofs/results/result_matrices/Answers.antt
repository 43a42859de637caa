use Rattle.std.proofs.Common.{◌≡◌, ◌∙◌, List, map, subst}
use Rattle.std.specs.Prelude.{IfOk}
use Rattle.pb_matrix.specs.Value.{MatrixValue}
use Rattle.pb_unroll.specs.Answers.{results_in}
use Rattle.pb_unroll.specs.ShownCells.{matrix_in}
use Rattle.pb_unroll.proofs.AnswerLemmas.{results_are, results_writable}
use Rattle.pb_unroll.proofs.results.result_matrices.Goals as goal

pub matrices_in-requires : goal.matrices_in-requires
matrices_in-requires c = rw (c.requires, c.outputs.ensures.views) (results_writable c.args.run.now c.outputs.ensures.running)

pub returns : goal.returns
returns c =
    let same : map (matrix_in c.args.outcomes.now) c.outputs.result.now ≡ results_in c.args.run.now =
    (λ i. map (matrix_in (c.requires i)) (c.outputs.ensures.views i)) ∙ results_are c.args.run.now c.outputs.ensures.running
    in
    subst (λ (ms : List MatrixValue). IfOk c.matrices_in.result (λ matrices. matrices.items ≡ ms)) same c.matrices_in.ensures
