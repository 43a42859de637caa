use Rattle.std.proofs.Common.{◌+◌, ◌*◌, ap, arith}
use Rattle.pb_linear.specs.Sizes.{sizes_of}
use Rattle.pb_values.specs.declared.shape.Shape.{Shape}
use Rattle.pb_views.proofs.LayoutLemmas.{count_next, count_within}
use Rattle.pb_plan.proofs.planned.cell_count.Goals as goal

pub overflow_add-count : goal.overflow_add-count
overflow_add-count c =
    let next = count_next (sizes_of c.args.s.now) 0 c.args.decls.now c.loop-decl.decl-index c.decl-item.result c.loop-decl-test.true c.decl-item.is in
    let within = count_within (sizes_of c.args.s.now) 0 c.args.decls.now c.loop-decl.decl-index c.decl-item.result c.loop-decl-test.true c.decl-item.is (c.loop-decl.decl-index + 1) in
    omega (arith, c.loop-decl.invariant, c.cells-count.ensures, ap (λ (s : Shape). s.w * s.h) c.shape_of.ensures, next, within, c.requires.cells)

pub loop-decl-preserved : goal.loop-decl-preserved
loop-decl-preserved c =
    let next = count_next (sizes_of c.args.s.now) 0 c.args.decls.now c.loop-decl.decl-index c.decl-item.result c.loop-decl-test.true c.decl-item.is in
    omega (arith, c.loop-decl.invariant, c.cells-count.ensures, ap (λ (s : Shape). s.w * s.h) c.shape_of.ensures, next)
