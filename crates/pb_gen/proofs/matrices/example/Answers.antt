use Rattle.std.proofs.Common.{◌≡◌, ◌*◌, ◌∙◌, ap, sym, subst, List, All, arith}
use Rattle.rand_pcg.specs.Lcg.{advance}
use Rattle.rand_pcg.specs.Pcg.{multiplier_64}
use Rattle.pb_matrix.specs.Value.{MatrixValue}
use Rattle.pb_gen.specs.Examples.{square, line, IsInput}
use Rattle.pb_gen.proofs.StreamLemmas.{not_advanced}
use Rattle.pb_gen.proofs.MatrixLemmas.{matrix_is, factors_are, line_is, examples_are_inputs}
use Rattle.pb_gen.proofs.matrices.example.Goals as goal

pub returns-then-which-eq0-clause-matrices : goal.returns-then-which-eq0-clause-matrices
returns-then-which-eq0-clause-matrices c =
    let seed = c.args.seed in
    let size = c.args.size in
    let g = c.new-generator.result in
    let new = c.new-generator.ensures in
    factors_are c.args.which seed size c.in_ok-vec.field-0.items c.in_ok-left.left c.in_ok-right.right c.if-which-eq0.true c.in_ok-vec.ensures.items
    (matrix_is seed 0 (square size) g g new (not_advanced g) c.in_ok-left.left c.in_ok-left.ensures.matrix)
    (matrix_is seed (size * size) (square size) g c.draw.new.generator new c.in_ok-left.ensures.after c.in_ok-right.right c.in_ok-right.ensures.matrix)

pub returns-then-which-eq0-clause-inputs : goal.returns-then-which-eq0-clause-inputs
returns-then-which-eq0-clause-inputs c =
    subst (λ (ms : List MatrixValue). All IsInput ms) (sym (returns-then-which-eq0-clause-matrices c)) (examples_are_inputs c.args.which c.args.seed c.args.size c.requires.most)

pub returns-clause-matrices : goal.returns-clause-matrices
returns-clause-matrices c =
    let seed = c.args.seed in
    let size = c.args.size in
    let g = c.new-generator.result in
    let steps : 2 * size * size ≡ 2 * (size * size) = omega arith in
    line_is c.args.which seed size c.in_ok-vec-2.field-0.items c.in_ok-input.input (omega arith) c.in_ok-vec-2.ensures.items
    (matrix_is seed (2 * (size * size)) (line size) g c.advance.new.self c.new-generator.ensures (c.advance.ensures ∙ ap (λ n. advance 64 multiplier_64 n g) steps) c.in_ok-input.input c.in_ok-input.ensures.matrix)

pub returns-clause-inputs : goal.returns-clause-inputs
returns-clause-inputs c =
    subst (λ (ms : List MatrixValue). All IsInput ms) (sym (returns-clause-matrices c)) (examples_are_inputs c.args.which c.args.seed c.args.size c.requires.most)
