use Rattle.std.proofs.Common.{◌≡◌, ◌-◌, ◌∙◌, ap, arith}
use Rattle.std.proofs.lemmas.Grind.{common_steps}
use Rattle.pb_matrix.specs.Reading.{matrix_read}
use Rattle.pb_matrix.specs.Text.{matrix_text}
use Rattle.pb_matrix.proofs.LawLemmas.{read_again}
use Rattle.pb_matrix.proofs.TextLemmas.{AllFit, row_more, rest_fits}
use Rattle.pb_matrix.proofs.write.write_matrix.Goals as goal

pub rows-preserved : goal.rows-preserved
rows-preserved c =
    let more = row_more c.args.shape.now.h c.rows.counter c.args.shape.now.w c.rows.rest.now c.split_at.result.0.now c.split_at.result.1.now c.rows.text.items c.write_row.new.text.items
    (omega arith) c.rows.invariant.0 c.split_at.ensures.front c.split_at.ensures.back c.in_ok-write_row.ensures.text in
    let fits = rest_fits c.args.shape.now.w c.rows.rest.now c.split_at.result.0.now c.split_at.result.1.now c.split_at.ensures.front c.split_at.ensures.back c.in_ok-write_row.ensures.fits in
    (more.0, more.1 ∙ c.rows.invariant.1, λ later. c.rows.invariant.2 (fits later))

pub returns-then-is_empty-clause-read_again : goal.returns-then-is_empty-clause-read_again
returns-then-is_empty-clause-read_again c =
    let text : c.write_header.new.text.items ≡ matrix_text c.args.shape.now c.args.cells.now = grind (arith, common_steps) in
    ap matrix_read text ∙ read_again c.args.shape.now c.args.cells.now c.requires.shape c.requires.cells (λ k d within. absurd (grind (arith, common_steps)))

pub returns-clause-read_again : goal.returns-clause-read_again
returns-clause-read_again c =
    let text : c.rows.text.items ≡ matrix_text c.args.shape.now c.args.cells.now = grind (arith, common_steps) in
    let done : c.args.shape.now.h - c.rows.counter ≡ 0 = omega arith in
    let none : AllFit c.rows.rest.now = λ k d within. absurd (omega (arith, rw done at c.rows.invariant.0)) in
    ap matrix_read text ∙ read_again c.args.shape.now c.args.cells.now c.requires.shape c.requires.cells (c.rows.invariant.2 none)
