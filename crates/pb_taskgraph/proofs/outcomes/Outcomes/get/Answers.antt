use Rattle.std.proofs.Common.{◌≡◌, ◌∙◌, sym, ap, Some, to_z, of_z, w64, rules, arith}
use Rattle.std.specs.Prelude.{unsigned_abs}
use Rattle.pb_values.specs.declared.outcome.Outcome.TheVariants.{Value, Trapped}
use Rattle.pb_taskgraph.specs.Packed.{outcome_in, trap_in}
use Rattle.pb_taskgraph.proofs.PackedLemmas.{below_in, get_flag, get_none}
use Rattle.pb_taskgraph.proofs.outcomes.Outcomes.get.Goals as goal

pub index-word-requires : goal.index-word-requires
index-word-requires c = omega (arith, c.self.inside.words.ok.0, below_in c.self.inside.words.items c.self.inside.trapped.items _ c.self.view_is c.args.cell c.requires)

pub returns-then-not-self : goal.returns-then-not-self
returns-then-not-self c =
    let word = c.index-word.result.now in
    let same : to_z w64 (of_z w64 word) ≡ word = search rules in
    get_none c.self.inside.words.items c.self.inside.trapped.items _ c.self.view_is c.args.cell word c.requires c.index-word.ensures (c.self.invariant.none c.if-not-self.true)
    ∙ ap (λ z. Some (Value z)) (sym same)

pub index-requires : goal.index-requires
index-requires c = omega (arith, c.self.inside.trapped.ok.0, c.self.invariant.each c.if-not-self.false, below_in c.self.inside.words.items c.self.inside.trapped.items _ c.self.view_is c.args.cell c.requires)

pub returns-then-index : goal.returns-then-index
unfolding outcome_in
returns-then-index c =
    let word = c.index-word.result.now in
    let same : to_z w64 (of_z w64 word) ≡ word = search rules in
    get_flag c.self.inside.words.items c.self.inside.trapped.items _ c.self.view_is c.args.cell word c.index.result.now c.requires c.index-word.ensures (c.self.invariant.each c.if-not-self.false) c.index.ensures
    ∙ ap (λ b. Some (outcome_in word b)) c.if-index.true
    ∙ ap (λ t. Some (Trapped t)) (sym (c.trap_in.ensures ∙ ap trap_in (c.unsigned_abs.ensures.value ∙ ap unsigned_abs same)))

pub returns-else-index : goal.returns-else-index
unfolding outcome_in
returns-else-index c =
    let word = c.index-word.result.now in
    let same : to_z w64 (of_z w64 word) ≡ word = search rules in
    get_flag c.self.inside.words.items c.self.inside.trapped.items _ c.self.view_is c.args.cell word c.index.result.now c.requires c.index-word.ensures (c.self.invariant.each c.if-not-self.false) c.index.ensures
    ∙ ap (λ b. Some (outcome_in word b)) c.if-index.false ∙ ap (λ z. Some (Value z)) (sym same)
