use Rattle.std.proofs.Common.{◌≡◌, ◌∙◌, ap, slice_set, to_z, of_z, w64, true, if◌then◌else◌, rules, arith}
use Rattle.pb_values.specs.declared.outcome.Outcome.TheVariants.{Trapped}
use Rattle.pb_taskgraph.specs.Packed.{outcome_in, outcomes_in}
use Rattle.pb_taskgraph.proofs.PackedLemmas.{below_in, filled_in, trap_put}
use Rattle.pb_taskgraph.proofs.outcomes.Outcomes.set_trap.Goals as goal

pub index_mut-requires : goal.index_mut-requires
index_mut-requires c = omega (arith, c.self.inside.words.ok.0, below_in c.self.inside.words.items c.self.inside.trapped.items _ c.self.view_is c.args.cell c.requires.below)

pub index_mut-requires-2 : goal.index_mut-requires-2
index_mut-requires-2 c =
    let went = c.resize.ensures.succeeds (omega (arith, c.self.inside.words.ok.0, c.len.ensures, c.self.invariant.room)) in
    let long = c.resize.ensures.len ∙ ap (λ b. if b then c.len.result else c.self.inside.trapped.len) went in
    omega (arith, c.self.inside.words.ok.0, c.len.ensures, long, below_in c.self.inside.words.items c.self.inside.trapped.items _ c.self.view_is c.args.cell c.requires.below)

pub returns : goal.returns
unfolding outcome_in
returns c =
    let word = c.word_of.result in
    let same : to_z w64 (of_z w64 word) ≡ word = search rules in
    let went = c.resize.ensures.succeeds (omega (arith, c.self.inside.words.ok.0, c.len.ensures, c.self.invariant.room)) in
    let filled = filled_in c.self.inside.any c.self.inside.words.items c.self.inside.trapped.items c.resize.new.self.items _ c.len.result _ _ c.self.invariant (omega (arith, c.self.inside.words.ok.0, c.len.ensures)) c.self.inside.trapped.ok.0 went c.resize.ensures.items in
    ap (λ z. outcomes_in (slice_set c.self.inside.words.items c.args.cell z) (slice_set c.resize.new.self.items c.args.cell true)) same
    ∙ trap_put c.self.inside.words.items c.resize.new.self.items c.args.cell word filled.0
    ∙ (λ i. slice_set ((filled.1 ∙ c.self.view_is) i) c.args.cell (Trapped (c.word_of.ensures i)))
