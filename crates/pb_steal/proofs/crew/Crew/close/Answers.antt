use Rattle.std.proofs.Common.{◌≡◌, ◌∙◌, ◌∷◌, List, inl, inr, [], sym, subst}
use Rattle.std.specs.List.{Contains}
use Rattle.pb_base.proofs.ListLemmas.{in_cases, in_head, in_none}
use Rattle.pb_cells.specs.Handles.{HandValue}
use Rattle.pb_steal.proofs.crew.Crew.close.Goals as goal

-- the one that is there
the-one : (ones : List HandValue) (all one : HandValue) → ones ≡ all ∷ [] → Contains ones one → all ≡ one
the-one ones all one is h = elim (in_cases all one [] (subst (λ l. Contains l one) is h)) [
  | inl e ↦ e
  | inr never ↦ absurd (in_none one never)
]

pub close-requires-clause-tables : goal.close-requires-clause-tables
close-requires-clause-tables g c hand h =
    let one = c.one_seat-seats.ensures in
    subst (λ (s : HandValue). s.table ≡ c.self.inside.cells) (the-one c.one_seat-seats.result.items one.all hand one.one h) (one.table ∙ sym c.self.invariant.1)

pub close-requires-clause-some : goal.close-requires-clause-some
close-requires-clause-some g c =
    let one = c.one_seat-seats.ensures in
    (one.all, subst (λ l. Contains l one.all) (sym one.one) (in_head one.all []), one.seen)

pub returns-clause-numbers : goal.returns-clause-numbers
returns-clause-numbers g c = λ seat there t n h.
    let one = c.one_seat-seats.ensures in
    c.close.ensures.numbers one.all (subst (λ l. Contains l one.all) (sym one.one) (in_head one.all [])) t n ((one.knows seat there).ran t n h)
