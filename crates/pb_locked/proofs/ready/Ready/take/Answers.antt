use Rattle.std.proofs.Common.{◌∷◌, ap, map, subst, ℕ}
use Rattle.std.specs.BinaryHeap.{heap_items}
use Rattle.std.specs.List.Sorted.{IsPermutation}
use Rattle.std.specs.declared.cmp.Reverse.{Reverse}
use Rattle.std.proofs.lemmas.List.Sorted.{IsPermutation-map}
use Rattle.pb_locked.specs.Ready.{ReadyValue}
use Rattle.pb_locked.proofs.ReadyLemmas.{least-below}
use Rattle.pb_locked.proofs.ready.Ready.take.Goals as goal

pub returns-clause-tasks : goal.returns-clause-tasks
returns-clause-tasks c =
    let f : Reverse ℕ → ℕ = λ x. x.0 in
    subst (λ l. IsPermutation l (c.in-Some.field-0.0 ∷ map f (heap_items c.pop.new.self))) (ap (λ (v : ReadyValue). v.tasks) c.self.view_is) (IsPermutation-map f _ _ c.in-Some.ensures.permutation)

pub returns-clause-least : goal.returns-clause-least
returns-clause-least c = least-below c.in-Some.field-0 _ (c.in-Some.ensures.below_top c.self.invariant)
