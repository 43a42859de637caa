use Rattle.std.proofs.Common.{◌∙◌, ◌-◌, refl, sym, ap, length, map, take, drop, arith}
use Rattle.pb_values.specs.declared.outcome.Outcome.TheVariants.{Value}
use Rattle.pb_taskgraph.proofs.PackedLemmas.{length_in, part_none, part_values}
use Rattle.pb_taskgraph.proofs.outcomes.Outcomes.numbers.Goals.{else-self-via-then-self+else-contains, else-self-via-else-self}
use Rattle.pb_taskgraph.proofs.outcomes.Outcomes.numbers.Goals as goal

pub slice_bounds-contains-end : goal.slice_bounds-contains-end
slice_bounds-contains-end c =
    omega (arith, c.self.inside.trapped.ok.0, c.requires.order, c.requires.below, c.self.invariant.each c.if-self.true, length_in c.self.inside.words.items c.self.inside.trapped.items, ap length c.self.view_is, ap length c.deref.ensures.value)

pub offset_bounds-deref-first : goal.offset_bounds-deref-first
offset_bounds-deref-first c =
    omega (arith, c.self.inside.words.ok, c.requires.order, c.requires.below, length_in c.self.inside.words.items c.self.inside.trapped.items, ap length c.self.view_is, ap length c.deref-2.ensures.value)

pub slice_bounds-result-end : goal.slice_bounds-result-end
slice_bounds-result-end c =
    omega (arith, c.self.inside.words.ok.0, c.requires.order, c.requires.below, length_in c.self.inside.words.items c.self.inside.trapped.items, ap length c.self.view_is, ap length c.deref-2.ensures.value)

pub returns : goal.returns
returns c =
    let ws = c.self.inside.words.items in
    let bs = c.self.inside.trapped.items in
    let k = c.args.first in
    let n = c.args.end - c.args.first in
    ap (λ l. take n (drop k l)) (sym c.self.view_is)
    ∙ elim c.else-self.branch [
      | else-self-via-then-self+else-contains w ↦ part_values _ refl ws bs w.deref.result.now n k w.deref.ensures.value (sym w.contains.ensures.value ∙ w.if-contains.false)
      | else-self-via-else-self w ↦ part_none ws bs n k (c.self.invariant.none w.if-self.false)
    ]
    ∙ ap (λ l. map (λ z. Value z) (take n (drop k l))) (sym c.deref-2.ensures.value)
