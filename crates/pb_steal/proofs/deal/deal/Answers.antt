use Rattle.std.proofs.Common.{◌≡◌, ◌∙◌, ◌+◌, ◌%◌, ◌<◌, ◌++◌, ◌∷◌, [], ℕ, List, ap, arith, get_or, length, length-set, set, subst, sym, take}
use Rattle.std.specs.List.{Contains}
use Rattle.std.proofs.Math.Nat.{mod-lt}
use Rattle.std.proofs.lemmas.List.{length-map}
use Rattle.std.proofs.lemmas.List.Elements.{Contains-get_or}
use Rattle.atomic_blocks.specs.Lent.{RowsId}
use Rattle.pb_taskgraph.specs.Graphs.{before_of}
use Rattle.pb_cells.specs.Handles.{JobValue, new_job}
use Rattle.pb_cells.specs.Views.{ready_tasks}
use Rattle.pb_cells.proofs.OpeningLemmas.{open-in, open-once}
use Rattle.pb_steal.specs.Crews.{AreDealtTo, own_deques}
use Rattle.pb_steal.specs.Hands.{CrewHandValue}
use Rattle.pb_steal.proofs.DealLemmas.{first-job, turn-dealt, turn-fresh}
use Rattle.pb_steal.proofs.deal.deal.Goals as goal

pub new-requires : goal.new-requires
new-requires g c =
    let p = g.N.NamesWork.plan in
    let ready : List ℕ = ready_tasks p in
    let l = c.loop-job in
    let k : ℕ = l.dealt in
    let front = first-job g.B.NamesTable.table ready k c.in-Some.job c.pop_front.new.self.items (sym l.invariant.rest ∙ c.in-Some.ensures.items) in
    front.1 ∙ ap (new_job g.B.NamesTable.table) (sym (ap (λ (j : JobValue). j.at.task) front.1))

pub deal-requires-clause-fresh : goal.deal-requires-clause-fresh
deal-requires-clause-fresh g c κs within =
    let p = g.N.NamesWork.plan in
    let ready : List ℕ = ready_tasks p in
    let l = c.loop-job in
    let k : ℕ = l.dealt in
    let front = first-job g.B.NamesTable.table ready k c.in-Some.job c.pop_front.new.self.items (sym l.invariant.rest ∙ c.in-Some.ensures.items) in
    let task : c.new.result ≡ get_or ready k 0 = c.new.ensures ∙ ap (λ (j : JobValue). j.at.task) front.1 in
    let hands : List CrewHandValue = l.hands.items in
    let deques : List RowsId = own_deques c.args.hands.now.items in
    let size : length deques ≡ length hands = length-map c.args.hands.now.items (λ (h : CrewHandValue). h.own.deque) ∙ sym l.invariant.size in
    let some : 0 < length hands = omega (arith, c.requires.some, l.invariant.size) in
    let len : c.len.result ≡ length hands = omega (arith, c.len.ensures) in
    let i : ℕ = k % c.len.result in
    let inside : i < length hands = subst (λ n. k % n < length hands) (sym len) (mod-lt k some) in
    let turn : i ≡ k % length deques = ap (λ n. k % n) (len ∙ sym size) in
    let old : CrewHandValue = c.index_mut.result.now in
    subst (λ t. Contains old.own.pushed t → ⊥) (sym task) (turn-fresh p ready (open-once p) deques hands k i front.0 inside turn l.invariant.dealt old c.index_mut.ensures.value)

pub deal-requires-clause-ready : goal.deal-requires-clause-ready
deal-requires-clause-ready g c κs within =
    let p = g.N.NamesWork.plan in
    let ready : List ℕ = ready_tasks p in
    let l = c.loop-job in
    let k : ℕ = l.dealt in
    let front = first-job g.B.NamesTable.table ready k c.in-Some.job c.pop_front.new.self.items (sym l.invariant.rest ∙ c.in-Some.ensures.items) in
    let task : c.new.result ≡ get_or ready k 0 = c.new.ensures ∙ ap (λ (j : JobValue). j.at.task) front.1 in
    subst (λ t. length (before_of p.graph t) ≡ 0) (sym task) (open-in p (get_or ready k 0) (Contains-get_or ready k 0 front.0)).1

pub loop-job-preserved : goal.loop-job-preserved
loop-job-preserved g c =
    let p = g.N.NamesWork.plan in
    let ready : List ℕ = ready_tasks p in
    let l = c.loop-job in
    let k : ℕ = l.dealt in
    let front = first-job g.B.NamesTable.table ready k c.in-Some.job c.pop_front.new.self.items (sym l.invariant.rest ∙ c.in-Some.ensures.items) in
    let task : c.new.result ≡ get_or ready k 0 = c.new.ensures ∙ ap (λ (j : JobValue). j.at.task) front.1 in
    let hands : List CrewHandValue = l.hands.items in
    let deques : List RowsId = own_deques c.args.hands.now.items in
    let size : length deques ≡ length hands = length-map c.args.hands.now.items (λ (h : CrewHandValue). h.own.deque) ∙ sym l.invariant.size in
    let some : 0 < length hands = omega (arith, c.requires.some, l.invariant.size) in
    let len : c.len.result ≡ length hands = omega (arith, c.len.ensures) in
    let i : ℕ = k % c.len.result in
    let inside : i < length hands = subst (λ n. k % n < length hands) (sym len) (mod-lt k some) in
    let turn : i ≡ k % length deques = ap (λ n. k % n) (len ∙ sym size) in
    let old : CrewHandValue = c.index_mut.result.now in
    let new : c.deal.new.self ≡ record old { own = record old.own { pushed = old.own.pushed ++ get_or ready k 0 ∷ [] } } = c.deal.ensures ∙ ap (λ t. record old { own = record old.own { pushed = old.own.pushed ++ t ∷ [] } }) task in
    record {
      size = length-set hands i c.deal.new.self ∙ l.invariant.size;
      rest = front.2;
      dealt = subst (λ (h : CrewHandValue). AreDealtTo (take (k + 1) ready) deques (set hands i h)) (sym new) (turn-dealt p ready (open-once p) deques hands k i front.0 inside turn l.invariant.dealt old c.index_mut.ensures.value);
    }
