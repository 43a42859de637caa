-- The machine before any event.
use Rattle.std.proofs.Common.{◌≡◌, ◌∙◌, refl, sym, ap, subst, ⊎_elim, ℕ, zero, suc, ◌+◌, ◌<◌, ◌≤◌, ◌^◌, eqb, Bool, true, false, List, [], ◌∷◌, ◌++◌, length, map, get_or, replicate, Some, None, zero-add, arith}
use Rattle.std.specs.List.{range_with_len}
use Rattle.std.proofs.Math.Bool.{cond}
use Rattle.std.proofs.Math.Path.{fun_ext}
use Rattle.std.proofs.lemmas.Bool.{cases_lt}
use Rattle.std.proofs.lemmas.Bool.Decides.{nat_tests}
use Rattle.std.proofs.lemmas.Grind.{common_steps}
use Rattle.std.proofs.lemmas.List.{get_or_past}
use Rattle.std.proofs.lemmas.List.FromFn.{get_or-map-range_with_len, length-map-range_with_len, map-range_with_len_more}
use Rattle.std.proofs.lemmas.List.Sums.{sum_by_more_le}
use Rattle.pb_values.specs.declared.outcome.Outcome.{Outcome}
use Rattle.pb_taskgraph.specs.Graphs.{GraphValue, IsGraph, TaskValue, after_of, before_of}
use Rattle.pb_taskgraph.specs.Plans.{IsPlan, Plan, outcome_at}
use Rattle.pb_taskgraph.proofs.GraphLemmas.{after-at, after-past, before-at, before-past}
use Rattle.pb_core.specs.declared.progress.Progress.{Progress}
use Rattle.pb_core.specs.States.{first_state}
use Rattle.pb_core.specs.Cores.{AreInputs, CoreValue, IsMachine, TellInputs, first_flags, first_progress, flag_of, progress_at, state_of, untouched}
use Rattle.pb_core.proofs.StateLemmas.{state-path}

-- no flag is set
no-flag : (numbers : List ℕ) (n k : ℕ) → flag_of numbers (replicate k false) n ≡ false
no-flag [] n k = refl
no-flag (x ∷ xs) n zero = refl
no-flag (x ∷ xs) n (suc k) = go (eqb x n) (no-flag xs n k)
  where
    go : (b : Bool) → flag_of xs (replicate k false) n ≡ false → cond b false (flag_of xs (replicate k false) n) ≡ false
    go true e = refl
    go false e = e

-- a predecessor list is short
pub few-before : (g : GraphValue) → IsGraph g → (t : ℕ) (task : TaskValue) → t < length g.tasks → task ≡ get_or g.tasks t task → length task.before < 2 ^ 32
few-before g is t task below at = omega (arith, is.few_links, sum_by_more_le (λ (x : TaskValue). length x.before) g.tasks t task below, ap (λ (x : TaskValue). length x.before) at)

module _ (g : GraphValue) (hands : ℕ) where
  pub task-more : (k : ℕ) (task : TaskValue) (before : List ℕ) (at : Progress) (xs : List Progress) → k < length g.tasks → task ≡ get_or g.tasks k task → before ≡ task.before → at ≡ progress_at before hands k
      → xs ≡ map (first_progress g hands) (range_with_len 0 k) → xs ++ at ∷ [] ≡ map (first_progress g hands) (range_with_len 0 (k + 1))
  task-more k task before at xs below is same at-is xs-are =
      ap (λ l. l ++ at ∷ []) xs-are
      ∙ ap (λ (a : Progress). map (first_progress g hands) (range_with_len 0 k) ++ a ∷ []) (at-is ∙ ap (λ l. progress_at l hands k) (same ∙ sym (before-at g k task below is)))
      ∙ sym (map-range_with_len_more (first_progress g hands) 0 k k (zero-add k))

module _ (g : GraphValue) where
  pub flags-more : (k n : ℕ) (task : TaskValue) (flags : List Bool) (xs : List (List Bool)) → k < length g.tasks → task ≡ get_or g.tasks k task → n ≡ length task.after → flags ≡ replicate n false
      → xs ≡ map (first_flags g) (range_with_len 0 k) → xs ++ flags ∷ [] ≡ map (first_flags g) (range_with_len 0 (k + 1))
  flags-more k n task flags xs below is same flags-are xs-are =
      ap (λ l. l ++ flags ∷ []) xs-are
      ∙ ap (λ (f : List Bool). map (first_flags g) (range_with_len 0 k) ++ f ∷ []) (flags-are ∙ ap (λ m. replicate m false) (same ∙ ap (λ (l : List ℕ). length l) (sym (after-at g k task below is))))
      ∙ sym (map-range_with_len_more (first_flags g) 0 k k (zero-add k))

module _ (p : Plan) (is : IsPlan p) (hands : ℕ) (v : CoreValue)
    (tasks : v.tasks ≡ map (first_progress p.graph hands) (range_with_len 0 (length p.graph.tasks)))
    (released : v.released ≡ map (first_flags p.graph) (range_with_len 0 (length p.graph.tasks)))
    (written : AreInputs p.graph.inputs p.graph.cells v.written) (finished : v.finished ≡ 0) where
  inside : (t : ℕ) → t < length p.graph.tasks → get_or v.tasks t untouched ≡ first_progress p.graph hands t
  inside t below = ap (λ l. get_or l t untouched) tasks ∙ get_or-map-range_with_len (first_progress p.graph hands) 0 (length p.graph.tasks) t t untouched below (zero-add t)

  outside : (t : ℕ) → length p.graph.tasks ≤ t → get_or v.tasks t untouched ≡ untouched
  outside t past = ap (λ l. get_or l t untouched) tasks ∙ get_or_past (map (first_progress p.graph hands) (range_with_len 0 (length p.graph.tasks))) t untouched (omega (arith, length-map-range_with_len (first_progress p.graph hands) 0 (length p.graph.tasks)))

  -- a part of each task's progress
  part : {X : Type 0} (f : Progress → X) (h : ℕ → X) → ((t : ℕ) → t < length p.graph.tasks → f (first_progress p.graph hands t) ≡ h t) → ((t : ℕ) → length p.graph.tasks ≤ t → f untouched ≡ h t)
      → ◌≡◌ {A = ℕ → X} (λ t. f (get_or v.tasks t untouched)) h
  part f h in_ out = fun_ext (λ t. ⊎_elim
      (λ (below : t < length p.graph.tasks). ap f (inside t below) ∙ in_ t below)
      (λ (past : length p.graph.tasks ≤ t). ap f (outside t past) ∙ out t past)
      (cases_lt t (length p.graph.tasks)))

  links : (t : ℕ) → t < length p.graph.tasks → get_or v.released t [] ≡ first_flags p.graph t
  links t below = ap (λ l. get_or l t []) released ∙ get_or-map-range_with_len (first_flags p.graph) 0 (length p.graph.tasks) t t [] below (zero-add t)

  pub new-state : state_of p v ≡ first_state p hands
  unfolding state_of
  new-state = state-path (state_of p v) (first_state p hands)
      (part (λ (a : Progress). a.count) (λ t. length (before_of p.graph t)) (λ t below. refl) (λ t past. sym (ap (λ (l : List ℕ). length l) (before-past p.graph t past))))
      (part (λ (a : Progress). a.holder) (first_state p hands).holder (λ t below. grind (arith, nat_tests)) (λ t past. grind (arith, nat_tests)))
      (part (λ (a : Progress). a.runner) (λ t. None) (λ t below. refl) (λ t past. refl))
      (part (λ (a : Progress). a.number) (λ t. None) (λ t below. refl) (λ t past. refl))
      (part (λ (a : Progress). a.given) (λ t. false) (λ t below. refl) (λ t past. refl))
      (fun_ext (λ t. fun_ext (λ n. ⊎_elim
      (λ (below : t < length p.graph.tasks). ap (λ l. flag_of (after_of p.graph t) l n) (links t below) ∙ no-flag (after_of p.graph t) n (length (after_of p.graph t)))
      (λ (past : length p.graph.tasks ≤ t). ap (λ l. flag_of l (get_or v.released t []) n) (after-past p.graph t past))
      (cases_lt t (length p.graph.tasks)))))
      (fun_ext (λ c. ap (λ b. cond b (Some (outcome_at p.solution c)) None) (written.each c)))
      finished

  pub new-machine : (work : Plan) (Fits : Type 0) (ran : List Bool) (outcomes : List Outcome) → work ≡ p → Fits → 1 ≤ hands → hands ≤ 64 → ran ≡ replicate (length p.graph.tasks) false → TellInputs p outcomes → IsMachine p work Fits v ran outcomes
  new-machine work Fits ran outcomes same fits some few none told = record {
    is_work = same;
    fits = fits;
    core = record {
      plan = is;
      tasks = ap (λ (l : List Progress). length l) tasks ∙ length-map-range_with_len (first_progress p.graph hands) 0 (length p.graph.tasks);
      released = ap (λ (l : List (List Bool)). length l) released ∙ length-map-range_with_len (first_flags p.graph) 0 (length p.graph.tasks);
      links = λ t below. ap (λ (l : List Bool). length l) (links t below) ∙ grind (arith, common_steps);
      written = written.room;
      reached = record { hands = hands; some = some; few = few; events = []; enabled = tt; is = new-state };
    };
    learned = record {
      room = told.room;
      tasks = ap (λ (l : List Bool). length l) none ∙ grind (arith, common_steps);
      run = λ t c run own. let wrong : false ≡ true = sym (never t) ∙ run in absurd (cc);
    };
    told = λ c w. told.inputs c (let e = sym (written.each c) ∙ w in grind (arith, nat_tests));
  }
    where
      never : (t : ℕ) → get_or ran t false ≡ false
      never t = ap (λ l. get_or l t false) none ∙ grind (arith, common_steps)

-- the same of a graph that is handed out
module _ (p work : Plan) (same : work ≡ p) (plan : IsPlan work) (h : GraphValue) (graph : h ≡ work.graph) (hands : ℕ) (v : CoreValue) (inputs cells : ℕ)
    (tasks : v.tasks ≡ map (first_progress h hands) (range_with_len 0 (length h.tasks)))
    (released : v.released ≡ map (first_flags h) (range_with_len 0 (length h.tasks)))
    (inputs-are : inputs ≡ h.inputs) (cells-are : cells ≡ h.cells) (written : AreInputs inputs cells v.written) (finished : v.finished ≡ 0) where
  is_plan : IsPlan p
  is_plan = subst (λ (q : Plan). IsPlan q) same plan

  is_graph : h ≡ p.graph
  is_graph = graph ∙ ap (λ (q : Plan). q.graph) same

  all_tasks : v.tasks ≡ map (first_progress p.graph hands) (range_with_len 0 (length p.graph.tasks))
  all_tasks = tasks ∙ ap (λ (x : GraphValue). map (first_progress x hands) (range_with_len 0 (length x.tasks))) is_graph

  all_links : v.released ≡ map (first_flags p.graph) (range_with_len 0 (length p.graph.tasks))
  all_links = released ∙ ap (λ (x : GraphValue). map (first_flags x) (range_with_len 0 (length x.tasks))) is_graph

  all_inputs : AreInputs p.graph.inputs p.graph.cells v.written
  all_inputs = subst (λ n. AreInputs n p.graph.cells v.written) (inputs-are ∙ ap (λ (x : GraphValue). x.inputs) is_graph)
      (subst (λ n. AreInputs inputs n v.written) (cells-are ∙ ap (λ (x : GraphValue). x.cells) is_graph) written)

  pub core-state : state_of p v ≡ first_state p hands
  core-state = new-state p is_plan hands v all_tasks all_links all_inputs finished

  pub core-machine : (Fits : Type 0) (ran : List Bool) (outcomes : List Outcome) (n : ℕ) → Fits → 1 ≤ hands → hands ≤ 64 → ran ≡ replicate n false → n ≡ length h.tasks → TellInputs work outcomes → IsMachine p work Fits v ran outcomes
  core-machine Fits ran outcomes n fits some few none all told =
      new-machine p is_plan hands v all_tasks all_links all_inputs finished work Fits ran outcomes same fits some few
      (none ∙ ap (λ m. replicate m false) (all ∙ ap (λ (x : GraphValue). length x.tasks) is_graph)) (subst (λ (q : Plan). TellInputs q outcomes) same told)
