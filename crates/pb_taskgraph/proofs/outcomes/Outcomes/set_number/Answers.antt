use Rattle.std.proofs.Common.{◌≡◌, ◌∙◌, sym, ap, Bool, List, slice_set, to_z, of_z, w64, false, rules, arith}
use Rattle.pb_values.specs.declared.outcome.Outcome.TheVariants.{Value}
use Rattle.pb_taskgraph.specs.Packed.{outcomes_in}
use Rattle.pb_taskgraph.proofs.PackedLemmas.{below_in, value_in}
use Rattle.pb_taskgraph.proofs.outcomes.Outcomes.set_number.Goals as goal

pub index_mut-requires : goal.index_mut-requires
index_mut-requires c = omega (arith, c.self.inside.words.ok.0, below_in c.self.inside.words.items c.self.inside.trapped.items _ c.self.view_is c.args.cell c.requires)

pub index_mut-requires-then-self : goal.index_mut-requires-then-self
index_mut-requires-then-self c = omega (arith, c.self.inside.trapped.ok.0, c.self.invariant.each c.if-self.true, below_in c.self.inside.words.items c.self.inside.trapped.items _ c.self.view_is c.args.cell c.requires)

pub returns-then-self : goal.returns-then-self
returns-then-self c =
    let number = c.args.number in
    let same : to_z w64 (of_z w64 number) ≡ number = search rules in
    ap (λ z. outcomes_in (slice_set c.self.inside.words.items c.args.cell z) (slice_set c.self.inside.trapped.items c.args.cell false)) same
    ∙ value_in c.self.inside.words.items c.self.inside.trapped.items c.args.cell number
    ∙ (λ i. slice_set (c.self.view_is i) c.args.cell (Value number))

pub returns-else-self : goal.returns-else-self
returns-else-self c =
    let number = c.args.number in
    let same : to_z w64 (of_z w64 number) ≡ number = search rules in
    let none = c.self.invariant.none c.if-self.false in
    let kept : c.self.inside.trapped.items ≡ slice_set c.self.inside.trapped.items c.args.cell false = none ∙ ap (λ (l : List Bool). slice_set l c.args.cell false) (sym none) in
    (λ i. outcomes_in (slice_set c.self.inside.words.items c.args.cell (same i)) (kept i))
    ∙ value_in c.self.inside.words.items c.self.inside.trapped.items c.args.cell number
    ∙ (λ i. slice_set (c.self.view_is i) c.args.cell (Value number))
