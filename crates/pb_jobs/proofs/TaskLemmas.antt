-- When a task's turn begins, its job can be made.
use Rattle.std.proofs.Common.{◌≡◌, ◌∙◌, refl, sym, ap, ℕ, pos, List, [], ◌∷◌, length, map, slice_get, Some}
use Rattle.std.specs.List.{Contains}
use Rattle.std.specs.Option.{option_map_or}
use Rattle.std.proofs.lemmas.List.{length-map}
use Rattle.pb_values.specs.Cells.{Turn}
use Rattle.pb_values.specs.Views.{cell_of}
use Rattle.pb_values.specs.declared.outcome.Outcome.{Outcome}
use Rattle.pb_values.specs.declared.outcome.Outcome.TheVariants.{Value}
use Rattle.pb_base.proofs.ListLemmas.{in_head, in_tail}
use Rattle.pb_program.specs.Trees.{ProgRule}
use Rattle.pb_model.specs.Cells.{Cell, reads}
use Rattle.pb_model.specs.Equations.{own_outcome, rule_gives}
use Rattle.pb_eval.specs.CanRun.{at_variables}
use Rattle.pb_statements.specs.Shown.{outcome_of}
use Rattle.pb_taskgraph.specs.Plans.{Plan, outcome_at}
use Rattle.pb_taskgraph.specs.Turns.{Begins, after_some}
use Rattle.pb_taskgraph.proofs.TurnLemmas.{may-read, may-read_some, some-none}
use Rattle.pb_views.specs.Windows.{number_in}
use Rattle.pb_walk.specs.declared.stop.Stop.{Stop}
use Rattle.pb_jobs.specs.Instances.{InstanceValue, given_by, of_sizes, of_transform}
use Rattle.pb_jobs.specs.Jobs.{IsBlock, IsNext, IsWhole, stop_cell}
use Rattle.pb_jobs.specs.Shown.{CanRun}
use Rattle.pb_jobs.specs.Tasks.{IsAlone, IsBlockTask, IsListed, IsWholeTask, MayRun, solved_by}
use Rattle.pb_jobs.proofs.ListLemmas.{at_map}

map_same : {A B : Type 0} (f g : A → B) (xs : List A) → ((x : A) → Contains xs x → f x ≡ g x) → map f xs ≡ map g xs
map_same f g [] h = refl
map_same f g (x ∷ xs) h = rw (h x (in_head x xs), map_same f g xs (λ y k. h y (in_tail x y xs k))) refl

module _ (v : InstanceValue) (p : Plan) (task : ℕ) (start : Turn) (b : Begins p task start) where
  -- ---- what a rule reads is told, with the plan's outcomes
  module _ (n : ℕ) (turn : Turn) (now : turn ≡ after_some n start) (rule : ProgRule) (x y : ℕ) (runs : MayRun v p task n rule x y) where
    can_run : CanRun (of_transform v).matrices (of_sizes v) v.views rule x y turn
    can_run = record { reads = runs.reads; told = λ d h. may-read_some p task start b n turn now (number_in v.views d) (runs.may d h) }

    outcome_told : (d : Cell) → Contains (reads (of_transform v).matrices (of_sizes v) (at_variables x y) rule) d → outcome_of turn (number_in v.views d) ≡ outcome_at p.solution (number_in v.views d)
    unfolding outcome_of
    outcome_told d h = ap (λ o. option_map_or (λ (q : Outcome). q) o (Value (pos 0))) (may-read p task start b n turn now (number_in v.views d) (runs.may d h))

    given_is : (k : ℕ) → given_by v k rule x y turn ≡ solved_by v p k rule x y
    given_is k = ap (rule_gives (of_transform v).matrices (of_sizes v) (at_variables x y) v.number k rule) (map_same (λ d. outcome_of turn (number_in v.views d)) (λ d. outcome_at p.solution (number_in v.views d)) (reads (of_transform v).matrices (of_sizes v) (at_variables x y) rule) outcome_told)

  -- ---- the next cell
  next : (n : ℕ) (s : Stop) (o q : Outcome) → q ≡ o → IsListed v p task n s o → IsNext v.views start n s q
  next n s o q same l = record {
    view = l.view;
    at = l.at;
    inside = l.inside;
    next = ap (λ es. slice_get es n) b.left ∙ at_map (λ c. (c, outcome_at p.solution c)) (p.order task) n (cell_of l.view s.x s.y) l.listed ∙ ap (λ r. Some (cell_of l.view s.x s.y, r)) (l.solved ∙ sym same);
  }

  left_count : (stops : List Stop) → length (p.order task) ≡ length stops → length start.left ≡ length stops
  left_count stops count = ap length b.left ∙ length-map (p.order task) (λ c. (c, outcome_at p.solution c)) ∙ count

  pub as_block : (rules : List ℕ) (stops : List Stop) → IsBlockTask v p task rules stops → IsBlock v rules stops start
  as_block rules stops h = record {
    count = left_count stops h.count;
    each = λ n s at.
        let a : IsAlone v p task rules n s = h.each n s at in
        record {
          k = a.k;
          own = a.own;
          rule = a.rule;
          there = a.there;
          cell = a.cell;
          can = can_run n (after_some n start) refl a.rule s.x s.y a.runs;
          next = next n s _ _ (ap (own_outcome (of_transform v).matrices (of_sizes v) (at_variables s.x s.y) a.rule) (given_is n (after_some n start) refl a.rule s.x s.y a.runs a.k)) a.listed;
        };
  }

  pub as_whole : (k : ℕ) (stops : List Stop) → IsWholeTask v p task k stops → IsWhole v k stops start
  as_whole k stops h = record {
    rule = h.rule;
    there = h.there;
    wide = h.wide;
    can = can_run 0 start (sym (some-none start)) h.rule 0 0 h.runs;
    within = h.within;
    count = left_count stops h.count;
    each = λ n s at. next n s _ _ (ap (own_outcome (of_transform v).matrices (of_sizes v) (stop_cell s) h.rule) (given_is 0 start (sym (some-none start)) h.rule 0 0 h.runs k)) (h.each n s at);
  }
