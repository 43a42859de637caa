use Rattle.std.proofs.Common.{◌∙◌, sym, ap, get_or, pos, arith}
use Rattle.pb_linear.specs.Sizes.{sizes_of}
use Rattle.pb_recursion.specs.Shapes.{Sides, same_sides, sides_of_decl}
use Rattle.pb_counts.proofs.FittingLemmas.{other_count, other_side, same_next}
use Rattle.pb_counts.proofs.fitting.have_sides.Goals as goal

pub returns-then-decls-given : goal.returns-then-decls-given
returns-then-decls-given c = other_count (sides_of_decl (sizes_of c.args.s.now)) c.args.decls.now c.args.given.now c.if-decls-given.true

pub returns-then-not-same_sides : goal.returns-then-not-same_sides
returns-then-not-same_sides c =
    let side = get_or c.args.given.now c.loop-number.number (pos 0, pos 0) in
    let below = c.loop-number-test.true in
    other_side (sides_of_decl (sizes_of c.args.s.now)) c.args.decls.now c.args.given.now c.loop-number.number c.index-decls-number.result c.index-decls-number.is below (omega (arith, below, c.if-decls-given.false)) c.loop-number.invariant
    (sym (c.same_sides.ensures ∙ ap (λ (s : Sides). same_sides s side) c.sides_of_decl.ensures) ∙ c.if-not-same_sides.true)

pub loop-number-preserved : goal.loop-number-preserved
loop-number-preserved c =
    let side = get_or c.args.given.now c.loop-number.number (pos 0, pos 0) in
    let below = c.loop-number-test.true in
    same_next (sides_of_decl (sizes_of c.args.s.now)) c.args.decls.now c.args.given.now c.loop-number.number c.index-decls-number.result c.index-decls-number.is below (omega (arith, below, c.if-decls-given.false)) c.loop-number.invariant
    (sym (c.same_sides.ensures ∙ ap (λ (s : Sides). same_sides s side) c.sides_of_decl.ensures) ∙ c.if-not-same_sides.false)
