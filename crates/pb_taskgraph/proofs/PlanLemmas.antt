-- The order in which a task writes its cells.
use Rattle.std.proofs.Common.{◌≡◌, subst, ℕ, ◌<◌, ◌≤◌, ◌+◌, ◌^◌, List, length, drop, get_or, Some, slice_get, eqb, pos, arith}
use Rattle.std.specs.List.{Contains}
use Rattle.std.proofs.lemmas.Bool.{eqb-true}
use Rattle.std.proofs.lemmas.Bool.Decides.{nat_tests}
use Rattle.std.proofs.lemmas.List.{get_or_default}
use Rattle.std.proofs.lemmas.List.Elements.{All-get_or, Contains-get_or}
use Rattle.std.proofs.lemmas.Map.Keys.{IsDistinct-from_apart}
use Rattle.std.proofs.lemmas.Map.Steps.{length-le_from_distinct_below}
use Rattle.std.proofs.lemmas.Map.Views.{Contains-from_any}
use Rattle.pb_values.specs.declared.outcome.Outcome.{Outcome}
use Rattle.pb_taskgraph.specs.Graphs.{EachOnce}
use Rattle.pb_values.specs.declared.outcome.Outcome.TheVariants.{Value}
use Rattle.pb_taskgraph.specs.Plans.{IsPlan, IsSmall, Plan, outcome_at}
use Rattle.pb_taskgraph.specs.Turns.{entries_of}
use Rattle.pb_taskgraph.proofs.TurnLemmas.{next-is}

-- numbers below another, each once, are at most so many
few : (xs : List ℕ) (n : ℕ) → EachOnce xs → ((x : ℕ) → Contains xs x → x < n) → length xs ≤ n
few xs n once below = length-le_from_distinct_below xs n
    (IsDistinct-from_apart eqb xs (λ i j d before inside. grind (arith, nat_tests, once i j (omega arith) inside, get_or_default xs i 0 d (omega arith), get_or_default xs j 0 d inside)))
    (λ q h. below q (Contains-from_any eqb-true q xs h))

-- a task's own order has cells alone, and few
module _ (p : Plan) (is : IsPlan p) (t : ℕ) (task : t < length p.graph.tasks) where
  pub own-below : (c : ℕ) → Contains (p.order t) c → c < p.graph.cells
  own-below c h = (is.graph.partition.past t c ((is.listed t c task).0 h)).1

  pub own-few : length (p.order t) < 2 ^ 23
  own-few = let most = few (p.order t) p.graph.cells (is.once t task) own-below in omega (arith, is.graph.few_cells)

  -- the next cell to be written
  pub next-below : (k c : ℕ) (v : Outcome) → slice_get (drop k (entries_of p.solution (p.order t))) 0 ≡ Some (c, v) → (c < p.graph.cells) × (k + 1 < 2 ^ 64)
  next-below k c v at =
      let next = next-is p.solution (p.order t) k c v at in
      (subst (λ d. d < p.graph.cells) next.1 (own-below (get_or (p.order t) k 0) (Contains-get_or (p.order t) k 0 next.0)), omega (arith, own-few, next.0))

-- ---- outcomes are small
pub outcome-small : (p : Plan) → IsPlan p → (c : ℕ) → c < p.graph.cells → IsSmall (outcome_at p.solution c)
unfolding outcome_at
outcome-small p is c below = All-get_or IsSmall p.solution c (Value (pos 0)) (omega (arith, is.size, below)) is.small

pub next-small : (p : Plan) → IsPlan p → (t : ℕ) → t < length p.graph.tasks → (k c : ℕ) (v : Outcome) → slice_get (drop k (entries_of p.solution (p.order t))) 0 ≡ Some (c, v) → IsSmall v
next-small p is t task k c v at = subst IsSmall (next-is p.solution (p.order t) k c v at).2 (outcome-small p is c (next-below p is t task k c v at).0)
