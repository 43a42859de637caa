use Rattle.std.proofs.Common.{◌+◌, ◌*◌, ap, subst, arith}
use Rattle.pb_linear.specs.Sizes.{sizes_of}
use Rattle.pb_values.specs.Views.{Shows}
use Rattle.pb_values.specs.declared.shape.Shape.{Shape}
use Rattle.pb_views.proofs.LayoutLemmas.{count_next, count_within, laid_all, laid_next}
use Rattle.pb_views.proofs.layout.lay_out.Goals as goal

pub loop-decl-init : goal.loop-decl-init
loop-decl-init c = record { next = omega arith; laid = c.new-views.ensures.items }

pub whole-requires-clause-first : goal.whole-requires-clause-first
whole-requires-clause-first c =
    let within = count_within (sizes_of c.args.s.now) c.args.first c.args.decls.now c.loop-decl.decl-index c.decl-item.result c.loop-decl-test.true c.decl-item.is c.loop-decl.decl-index in
    omega (arith, c.loop-decl.invariant.next, within, c.requires.cells)

pub overflow_add-next : goal.overflow_add-next
overflow_add-next c =
    let next = count_next (sizes_of c.args.s.now) c.args.first c.args.decls.now c.loop-decl.decl-index c.decl-item.result c.loop-decl-test.true c.decl-item.is in
    let within = count_within (sizes_of c.args.s.now) c.args.first c.args.decls.now c.loop-decl.decl-index c.decl-item.result c.loop-decl-test.true c.decl-item.is (c.loop-decl.decl-index + 1) in
    omega (arith, c.loop-decl.invariant.next, c.cells-next.ensures, ap (λ (s : Shape). s.w * s.h) c.shape_of-shape.ensures, next, within, c.requires.cells)

pub loop-decl-preserved : goal.loop-decl-preserved
loop-decl-preserved c =
    let sizes = sizes_of c.args.s.now in
    let decl = c.decl-item.result in
    let next = count_next sizes c.args.first c.args.decls.now c.loop-decl.decl-index decl c.loop-decl-test.true c.decl-item.is in
    record {
      next = omega (arith, c.loop-decl.invariant.next, c.cells-next.ensures, ap (λ (s : Shape). s.w * s.h) c.shape_of-shape.ensures, next);
      laid = laid_next sizes c.args.first c.args.decls.now c.loop-decl.decl-index decl c.loop-decl-test.true c.decl-item.is c.loop-decl.views.items _ c.whole.result c.loop-decl.next c.loop-decl.invariant.next c.loop-decl.invariant.laid c.in_ok-push.ensures.items
          (subst (λ (s : Shape). Shows c.whole.result s (λ x y. c.loop-decl.next + (y * s.w + x))) c.shape_of-shape.ensures c.whole.ensures);
    }

pub returns : goal.returns
returns c = laid_all (sizes_of c.args.s.now) c.args.first c.args.decls.now c.loop-decl.views.items c.loop-decl.decl-index (omega (arith, c.loop-decl-test.false)) c.loop-decl.invariant.laid
