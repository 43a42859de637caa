use Rattle.std.proofs.Common.{◌∙◌, ap}
use Rattle.pb_linear.specs.Sizes.{sizes_of}
use Rattle.pb_program.specs.Forms.{DeclValue}
use Rattle.pb_recursion.specs.Counts.{matrix_of}
use Rattle.pb_recursion.specs.Shapes.{Sides, sides_of_decl}
use Rattle.pb_counts.specs.Tallies.{capped, counted}
use Rattle.pb_counts.proofs.TallyLemmas.{count_next}
use Rattle.pb_counts.proofs.matrices.of_decls.Goals as goal

pub loop-decl-preserved : goal.loop-decl-preserved
loop-decl-preserved c =
    let sizes = sizes_of c.args.s.now in
    let sides = c.sides_of_decl.ensures ∙ ap (λ (d : DeclValue). sides_of_decl sizes d) c.decl-item.is in
    count_next (λ (d : DeclValue). matrix_of (sides_of_decl sizes d)) c.args.decls.now c.loop-decl.decl-index c.decl-item.result c.loop-decl-test.true (counted c.loop-decl.tally) (counted c.of_matrix.result) (counted c.both-tally.result) c.loop-decl.invariant
    (c.of_matrix.ensures ∙ ap (λ (s : Sides). capped (matrix_of s)) sides) c.both-tally.ensures
