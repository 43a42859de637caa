use Rattle.std.proofs.Common.{◌≡◌, ◌∙◌, inl, inr, ⊎_elim, sym, ap, subst, arith}
use Rattle.std.specs.List.{Contains}
use Rattle.std.proofs.lemmas.List.Elements.{Contains-append_left, Contains-push}
use Rattle.pb_cells.specs.Ends.{Knows}
use Rattle.pb_cells.specs.Handles.{HandValue, gathered}
use Rattle.pb_cells.proofs.EndLemmas.{gathered-knows, gathered-other, knows-itself, left-or}
use Rattle.pb_cells.proofs.close.one_of_all.Goals as goal

pub loop-hand-init : goal.loop-hand-init
loop-hand-init g c =
    let hand = c.in-Some.hand in
    let rest = c.pop.new.self.items in record {
      table = c.requires.tables hand (subst (λ l. Contains l hand) (sym c.in-Some.ensures.items) (Contains-push rest hand));
      tables = λ other h. c.requires.tables other (subst (λ l. Contains l other) (sym c.in-Some.ensures.items) (Contains-append_left rest _ other h));
      known = λ other h. ⊎_elim
          (λ (left : Contains rest other). inl left)
          (λ (same : hand ≡ other). inr (subst (Knows hand) same (knows-itself hand)))
          (left-or c.args.hands.items rest hand other c.in-Some.ensures.items h);
    }

pub gather-requires-clause-other_table : goal.gather-requires-clause-other_table
gather-requires-clause-other_table g c =
    c.loop-hand.invariant.tables c.in-Some-pop.hand (subst (λ l. Contains l c.in-Some-pop.hand) (sym c.in-Some-pop.ensures.items) (Contains-push c.pop-in-loop-hand.new.self.items c.in-Some-pop.hand))

pub loop-hand-preserved : goal.loop-hand-preserved
loop-hand-preserved g c =
    let hand = c.in-Some-pop.hand in
    let rest = c.pop-in-loop-hand.new.self.items in
    let all = c.loop-hand.all in record {
      table = ap (λ (h : HandValue). h.table) c.gather.ensures ∙ c.loop-hand.invariant.table;
      tables = λ other h. c.loop-hand.invariant.tables other (subst (λ l. Contains l other) (sym c.in-Some-pop.ensures.items) (Contains-append_left rest _ other h));
      known = λ other h. ⊎_elim
          (λ (there : Contains c.loop-hand.hands.items other). ⊎_elim
          (λ (left : Contains rest other). inl left)
          (λ (same : hand ≡ other). inr (subst (λ a. Knows a other) (sym c.gather.ensures) (subst (Knows (gathered all hand)) same (gathered-other all hand))))
          (left-or c.loop-hand.hands.items rest hand other c.in-Some-pop.ensures.items there))
          (λ (knows : Knows all other). inr (subst (λ a. Knows a other) (sym c.gather.ensures) (gathered-knows all hand other knows)))
          (c.loop-hand.invariant.known other h);
    }

pub returns-clause-all : goal.returns-clause-all
returns-clause-all g c = λ hand h. ⊎_elim
    (λ (left : Contains c.loop-hand.hands.items hand). absurd (omega (arith, left.1, c.in_default-pop.ensures.cases.0, c.loop-hand.hands.ok.0)))
    (λ (knows : Knows c.loop-hand.all hand). knows)
    (c.loop-hand.invariant.known hand h)
