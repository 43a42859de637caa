-- The two outcomes of a task.
use Rattle.std.proofs.Common.{◌≡◌, ◌∙◌, sym, ap, subst, ℕ, ◌<◌, ◌+◌, List, [], ◌∷◌, length, get_or, slice_get, Some, pos, arith}
use Rattle.std.proofs.lemmas.Option.{get_or_from_slice_get}
use Rattle.std.specs.List.{Contains}
use Rattle.pb_base.proofs.ListLemmas.{in_head, in_tail}
use Rattle.pb_values.specs.declared.outcome.Outcome.{Outcome}
use Rattle.pb_values.specs.declared.outcome.Outcome.TheVariants.{Value}
use Rattle.pb_taskgraph.specs.Graphs.{GraphValue, cells_of}
use Rattle.pb_taskgraph.specs.Plans.{IsPlan, Plan, outcome_at}
use Rattle.pb_locked.specs.Boards.{outcomes_of}
use Rattle.pb_run_trials.specs.Sums.{SumsValue, plan_of}

module _ (w : SumsValue) (p : Plan) (name : plan_of w ≡ p) where
  graph-is : w.graph ≡ p.graph
  unfolding plan_of
  graph-is = ap (λ (q : Plan). q.graph) name

  pub pair-task : (t : ℕ) → t < length p.graph.tasks → t < length w.graph.tasks
  pair-task t below = subst (λ (g : GraphValue). t < length g.tasks) (sym graph-is) below

  module _ (is : IsPlan (plan_of w)) (t first : ℕ) (cells : cells_of w.graph t ≡ first ∷ ((first + 1) ∷ [])) (outcomes : List Outcome) (are : outcomes ≡ p.solution) where
    plan : IsPlan p
    plan = subst (λ (q : Plan). IsPlan q) name is

    here : cells_of p.graph t ≡ first ∷ ((first + 1) ∷ [])
    here = ap (λ (g : GraphValue). cells_of g t) (sym graph-is) ∙ cells

    pub pair-below : first + 1 < length outcomes
    pair-below =
        let second : Contains (cells_of p.graph t) (first + 1) = subst (λ l. Contains l (first + 1)) (sym here) (in_tail first (first + 1) ((first + 1) ∷ []) (in_head (first + 1) [])) in
        omega (arith, (plan.graph.partition.past t (first + 1) second).1, plan.size, ap length are)

    pub pair-few : first + 1 < 4194304
    pair-few =
        let second : Contains (cells_of p.graph t) (first + 1) = subst (λ l. Contains l (first + 1)) (sym here) (in_tail first (first + 1) ((first + 1) ∷ []) (in_head (first + 1) [])) in
        omega (arith, (plan.graph.partition.past t (first + 1) second).1, plan.graph.few_cells)

    pub pair-values : (a b : Outcome) → slice_get outcomes first ≡ Some a → slice_get outcomes (first + 1) ≡ Some b → a ∷ (b ∷ []) ≡ outcomes_of p (cells_of p.graph t)
    unfolding outcome_at
    pair-values a b at next =
        let one : a ≡ get_or p.solution first (Value (pos 0)) = sym (get_or_from_slice_get outcomes first a (Value (pos 0)) at) ∙ ap (λ l. get_or l first (Value (pos 0))) are in
        let two : b ≡ get_or p.solution (first + 1) (Value (pos 0)) = sym (get_or_from_slice_get outcomes (first + 1) b (Value (pos 0)) next) ∙ ap (λ l. get_or l (first + 1) (Value (pos 0))) are in
        ap (λ x. x ∷ (b ∷ [])) one ∙ ap (λ x. get_or p.solution first (Value (pos 0)) ∷ (x ∷ [])) two ∙ ap (outcomes_of p) (sym here)
