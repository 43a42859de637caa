use Rattle.std.proofs.Common.{◌≡◌, ◌∙◌, sym, ap, subst, List, Some, slice_get, to_z, of_z, w64, IsTrue, rules, arith}
use Rattle.pb_values.specs.Cells.{is_number}
use Rattle.pb_values.specs.declared.outcome.Outcome.{Outcome}
use Rattle.pb_values.specs.declared.outcome.Outcome.TheVariants.{Value}
use Rattle.pb_taskgraph.proofs.PackedLemmas.{number-in}
use Rattle.pb_taskgraph.proofs.outcomes.Outcomes.number.Goals as goal

pub index-requires : goal.index-requires
index-requires c =
    let there = number-in c.self.inside.words.items c.self.inside.trapped.items c.args.cell (subst (λ (l : List Outcome). IsTrue (is_number (slice_get l c.args.cell))) (sym c.self.view_is) c.requires) in
    omega (arith, c.self.inside.words.ok.0, there.0)

pub returns : goal.returns
returns c =
    let word = c.index.result.now in
    let there = number-in c.self.inside.words.items c.self.inside.trapped.items c.args.cell (subst (λ (l : List Outcome). IsTrue (is_number (slice_get l c.args.cell))) (sym c.self.view_is) c.requires) in
    let same : to_z w64 (of_z w64 word) ≡ word = search rules in
    ap (λ l. slice_get l c.args.cell) (sym c.self.view_is) ∙ there.1 word c.index.ensures ∙ ap (λ z. Some (Value z)) (sym same)
