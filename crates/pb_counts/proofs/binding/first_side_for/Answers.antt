use Rattle.std.proofs.Common.{◌∙◌, sym, arith}
use Rattle.std.proofs.lemmas.Slice.Zip.{length-zip}
use Rattle.pb_counts.proofs.BindingLemmas.{found, none_found, passed}
use Rattle.pb_counts.proofs.binding.first_side_for.Goals as goal

pub returns-in-Some : goal.returns-in-Some
returns-in-Some c =
    let bound = c.min-number-end.ensures in
    found c.args.k c.args.decls.now c.args.given.now c.loop-number.number c.loop-number.invariant c.index-decls-number.result c.index-decls-number.is (omega (arith, c.loop-number-test.true, bound)) (omega (arith, c.loop-number-test.true, bound)) c.in-Some.side (sym c.side_for.ensures ∙ c.in-Some.is)

pub loop-number-preserved : goal.loop-number-preserved
loop-number-preserved c =
    let bound = c.min-number-end.ensures in
    passed c.args.k c.args.decls.now c.args.given.now c.loop-number.number c.loop-number.invariant c.index-decls-number.result c.index-decls-number.is (omega (arith, c.loop-number-test.true, bound)) (omega (arith, c.loop-number-test.true, bound)) c.in_default.ensures

pub returns : goal.returns
returns c = none_found c.args.k c.args.decls.now c.args.given.now c.loop-number.number c.loop-number.invariant (omega (arith, c.loop-number-test.false, c.min-number-end.ensures, length-zip c.args.decls.now c.args.given.now))
