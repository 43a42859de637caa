use Rattle.std.proofs.Common.{◌∷◌, ◌<◌, ap, arith, length, map, subst, sym, ℕ}
use Rattle.std.specs.BinaryHeap.{heap_capacity, heap_items, heap_len}
use Rattle.std.specs.List.Sorted.{IsPermutation}
use Rattle.std.specs.declared.cmp.Reverse.{Reverse}
use Rattle.std.proofs.lemmas.List.{length-map}
use Rattle.std.proofs.lemmas.List.Sorted.{IsPermutation-map}
use Rattle.pb_locked.specs.Ready.{ReadyValue}
use Rattle.pb_locked.proofs.ReadyLemmas.{on-ok}
use Rattle.pb_locked.proofs.ready.Ready.add.Goals as goal

pub returns-clause-tasks : goal.returns-clause-tasks
returns-clause-tasks c =
    let f : Reverse ℕ → ℕ = λ x. x.0 in
    let room : heap_len c.self.inside.heap < heap_capacity c.self.inside.heap =
    omega (arith, subst (λ (v : ReadyValue). length v.tasks < v.room) (sym c.self.view_is) c.requires, length-map (heap_items c.self.inside.heap) f, c.self.inside.heap.data.ok.0) in
    subst (λ l. IsPermutation (c.args.task ∷ l) (map f (heap_items c.push-pushed.new.self))) (ap (λ (v : ReadyValue). v.tasks) c.self.view_is)
    (IsPermutation-map f _ _ (on-ok c.push-pushed.result (c.push-pushed.ensures.succeeds room) c.push-pushed.ensures.permutation))

pub returns-clause-room : goal.returns-clause-room
returns-clause-room c = omega (arith, ap (λ (v : ReadyValue). v.room) c.self.view_is, c.push-pushed.ensures.capacity)

pub invariant_of-self : goal.invariant_of-self
invariant_of-self c =
    let f : Reverse ℕ → ℕ = λ x. x.0 in
    let room : heap_len c.self.inside.heap < heap_capacity c.self.inside.heap =
    omega (arith, subst (λ (v : ReadyValue). length v.tasks < v.room) (sym c.self.view_is) c.requires, length-map (heap_items c.self.inside.heap) f, c.self.inside.heap.data.ok.0) in
    on-ok c.push-pushed.result (c.push-pushed.ensures.succeeds room) c.push-pushed.ensures.heap_order c.self.invariant
