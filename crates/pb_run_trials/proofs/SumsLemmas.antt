-- The graph of a row of sums.
use Rattle.std.proofs.Common.{◌≡◌, ◌∙◌, refl, sym, ap, subst, ◌⊎◌, inl, inr, ⊎_elim, ℕ, zero, suc, ◌<◌, ◌≤◌, ◌+◌, ◌-◌, ◌*◌, ◌/◌, List, [], ◌∷◌, length, get_or, arith}
use Rattle.std.specs.List.{All, Contains}
use Rattle.std.proofs.lemmas.Bool.{cases_lt}
use Rattle.std.proofs.lemmas.Bool.Decides.{nat_tests}
use Rattle.std.proofs.lemmas.List.{get_or_default}
use Rattle.std.proofs.lemmas.List.Sums.{sum_by-le}
use Rattle.pb_base.proofs.ListLemmas.{in_cases, in_head, in_none, in_tail}
use Rattle.pb_taskgraph.specs.declared.task.TaskKind.TheVariants.{Block}
use Rattle.pb_taskgraph.specs.Graphs.{EachOnce, GraphValue, IsGraph, TaskValue, after_of, before_of, cells_of}
use Rattle.pb_taskgraph.proofs.GraphLemmas.{after-at, after-past, before-at, before-past, cells-at, cells-past}
use Rattle.pb_run_trials.specs.Sums.{IsRow, IsStep, one_after, one_before}

-- lists of two numbers at most
pub none-once : EachOnce []
none-once i j below inside same = absurd (omega arith)

pub one-once : (a : ℕ) → EachOnce (a ∷ [])
one-once a i j below inside same = omega arith

two-once : (a b : ℕ) → a < b → EachOnce (a ∷ b ∷ [])
two-once a b less zero zero below inside same = refl
two-once a b less zero (suc zero) below inside same = absurd (omega arith)
two-once a b less (suc zero) zero below inside same = absurd (omega arith)
two-once a b less (suc zero) (suc zero) below inside same = refl
two-once a b less (suc (suc i)) j below inside same = absurd (omega arith)
two-once a b less i (suc (suc j)) below inside same = absurd (omega arith)

pub one-in : (a c : ℕ) → Contains (a ∷ []) c → a ≡ c
one-in a c h = ⊎_elim (λ (same : a ≡ c). same) (λ (none : Contains [] c). absurd (in_none c none)) (in_cases a c [] h)

pub in-one : (a c : ℕ) → a ≡ c → Contains (a ∷ []) c
in-one a c same = subst (Contains (a ∷ [])) same (in_head a [])

-- the cells of a task, and its links
cells : ℕ → List ℕ
cells t = (2 * t + 2) ∷ (2 * t + 3) ∷ []

in-cells : (t c : ℕ) → Contains (cells t) c → (2 * t + 2 ≤ c) × (c < 2 * t + 4)
unfolding cells
in-cells t c h = ⊎_elim
    (λ (first : 2 * t + 2 ≡ c). (omega arith, omega arith))
    (λ (second : Contains ((2 * t + 3) ∷ []) c). let e = one-in (2 * t + 3) c second in (omega arith, omega arith))
    (in_cases (2 * t + 2) c ((2 * t + 3) ∷ []) h)

cells-in : (t c : ℕ) → 2 * t + 2 ≤ c → c < 2 * t + 4 → Contains (cells t) c
unfolding cells
cells-in t c least most = ⊎_elim
    (λ (first : c < 2 * t + 3). subst (Contains (cells t)) (equal (2 * t + 2) c (omega arith) (omega arith)) (in_head (2 * t + 2) ((2 * t + 3) ∷ [])))
    (λ (second : 2 * t + 3 ≤ c). in_tail (2 * t + 2) c ((2 * t + 3) ∷ []) (in-one (2 * t + 3) c (omega arith)))
    (cases_lt c (2 * t + 3))
  where
    equal : (a b : ℕ) → a ≤ b → b ≤ a → a ≡ b
    equal a b p q = omega arith

before-once : (t : ℕ) → EachOnce (one_before t)
before-once zero = none-once
before-once (suc t) = one-once t

in-before : (t u : ℕ) → Contains (one_before t) u → u + 1 ≡ t
in-before zero u h = absurd (in_none u h)
in-before (suc t) u h = let e = one-in t u h in omega arith

before-in : (t u : ℕ) → u + 1 ≡ t → Contains (one_before t) u
before-in zero u e = absurd (omega arith)
before-in (suc t) u e = in-one t u (omega arith)

few-before : (t : ℕ) → length (one_before t) ≤ 1
few-before zero = omega arith
few-before (suc t) = omega arith

after-is : (n t : ℕ) → ((t + 1 < n) × (one_after n t ≡ (t + 1) ∷ [])) ⊎ ((n ≤ t + 1) × (one_after n t ≡ []))
after-is n t = ⊎_elim
    (λ (below : t + 1 < n). inl (below, grind (arith, nat_tests)))
    (λ (past : n ≤ t + 1). inr (past, grind (arith, nat_tests)))
    (cases_lt (t + 1) n)

after-once : (n t : ℕ) → EachOnce (one_after n t)
after-once n t = ⊎_elim
    (λ (is : (t + 1 < n) × (one_after n t ≡ (t + 1) ∷ [])). subst EachOnce (sym is.1) (one-once (t + 1)))
    (λ (is : (n ≤ t + 1) × (one_after n t ≡ [])). subst EachOnce (sym is.1) none-once)
    (after-is n t)

in-after : (n u t : ℕ) → Contains (one_after n u) t → (u + 1 ≡ t) × (t < n)
in-after n u t h = ⊎_elim
    (λ (is : (u + 1 < n) × (one_after n u ≡ (u + 1) ∷ [])). let e = one-in (u + 1) t (subst (λ ts. Contains ts t) is.1 h) in (e, omega arith))
    (λ (is : (n ≤ u + 1) × (one_after n u ≡ [])). absurd (in_none t (subst (λ ts. Contains ts t) is.1 h)))
    (after-is n u)

after-in : (n u t : ℕ) → u + 1 ≡ t → t < n → Contains (one_after n u) t
after-in n u t e below = ⊎_elim
    (λ (is : (u + 1 < n) × (one_after n u ≡ (u + 1) ∷ [])). subst (λ ts. Contains ts t) (sym is.1) (in-one (u + 1) t e))
    (λ (is : (n ≤ u + 1) × (one_after n u ≡ [])). absurd (omega arith))
    (after-is n u)

-- lists by number, of which those past an end are empty
module _ (n : ℕ) (f xs : ℕ → List ℕ) (is : (t : ℕ) → t < n → f t ≡ xs t) (none : (t : ℕ) → n ≤ t → f t ≡ []) where
  inside : (t c : ℕ) → Contains (f t) c → (t < n) × Contains (xs t) c
  inside t c h = ⊎_elim
      (λ (below : t < n). (below, subst (λ cs. Contains cs c) (is t below) h))
      (λ (past : n ≤ t). absurd (in_none c (subst (λ cs. Contains cs c) (none t past) h)))
      (cases_lt t n)

  holds : (t c : ℕ) → t < n → Contains (xs t) c → Contains (f t) c
  holds t c below = subst (λ cs. Contains cs c) (sym (is t below))

  all-once : ((t : ℕ) → EachOnce (xs t)) → (t : ℕ) → EachOnce (f t)
  all-once each t = ⊎_elim
      (λ (below : t < n). subst EachOnce (sym (is t below)) (each t))
      (λ (past : n ≤ t). subst EachOnce (sym (none t past)) none-once)
      (cases_lt t n)

module _ (n : ℕ) (g : GraphValue) (r : IsRow n g) where
  no_task : TaskValue
  no_task = record { call = 0; kind = Block; parts = []; before = []; after = [] }

  task : ℕ → TaskValue
  task t = get_or g.tasks t no_task

  read : (t : ℕ) → t < n → (t < length g.tasks) × (task t ≡ get_or g.tasks t (task t)) × IsStep n t (task t)
  unfolding task
  read t below = (omega (arith, r.tasks), get_or_default g.tasks t no_task (get_or g.tasks t no_task) (omega (arith, r.tasks)), r.steps t no_task below)

  pub row-cells : (t : ℕ) → t < n → cells_of g t ≡ (2 * t + 2) ∷ (2 * t + 3) ∷ []
  row-cells t below = let at = read t below in cells-at g t (task t) at.0 at.1 ∙ at.2.cells

  cells-are : (t : ℕ) → t < n → cells_of g t ≡ cells t
  unfolding cells
  cells-are = row-cells

  before-are : (t : ℕ) → t < n → before_of g t ≡ one_before t
  before-are t below = let at = read t below in before-at g t (task t) at.0 at.1 ∙ at.2.before

  after-are : (t : ℕ) → t < n → after_of g t ≡ one_after n t
  after-are t below = let at = read t below in after-at g t (task t) at.0 at.1 ∙ at.2.after

  past : (t : ℕ) → n ≤ t → length g.tasks ≤ t
  past t outside = omega (arith, r.tasks)

  pub row-in : (t c : ℕ) → t < n → 2 * t + 2 ≤ c → c < 2 * t + 4 → Contains (cells_of g t) c
  row-in t c below least most = holds n (cells_of g) cells cells-are (λ u outside. cells-past g u (past u outside)) t c below (cells-in t c least most)

  in-row : (t c : ℕ) → Contains (cells_of g t) c → (t < n) × (2 * t + 2 ≤ c) × (c < 2 * t + 4)
  in-row t c h =
      let at = inside n (cells_of g) cells cells-are (λ u outside. cells-past g u (past u outside)) t c h in
      let limits = in-cells t c at.1 in (at.0, limits.0, limits.1)

  in-links : (t u : ℕ) → Contains (before_of g t) u → (t < n) × (u + 1 ≡ t)
  in-links t u h = let at = inside n (before_of g) one_before before-are (λ v outside. before-past g v (past v outside)) t u h in (at.0, in-before t u at.1)

  pub links-in : (t u : ℕ) → t < n → u + 1 ≡ t → Contains (before_of g t) u
  links-in t u below e = holds n (before_of g) one_before before-are (λ v outside. before-past g v (past v outside)) t u below (before-in t u e)

  few-links : All (λ (t : TaskValue). length t.before ≤ 1) g.tasks
  few-links t d below = let is = (r.steps t d (omega (arith, r.tasks))).before in omega (arith, ap length is, few-before t)

  pub row-graph : IsGraph g
  unfolding cells
  row-graph = record {
    partition = record {
      inputs = omega (arith, r.inputs, r.cells);
      past = λ t c h. let at = in-row t c h in (omega (arith, r.inputs), omega (arith, r.cells));
      some = λ c least below. let t = (c - 2) / 2 in let few : t < n = omega (arith, r.inputs, r.cells) in
          (t, omega (arith, r.tasks), row-in t c few (omega (arith, r.inputs)) (omega (arith, r.inputs)));
      one = λ t u c h k. let at = in-row t c h in let too = in-row u c k in omega arith;
      once = all-once n (cells_of g) cells cells-are (λ u outside. cells-past g u (past u outside)) (λ t. two-once (2 * t + 2) (2 * t + 3) (omega arith));
    };
    linked = record {
      smaller = λ t u h. let at = in-links t u h in omega arith;
      mirrored = λ t u. (
        λ h. let at = in-links t u h in holds n (after_of g) (one_after n) after-are (λ v outside. after-past g v (past v outside)) u t (omega arith) (after-in n u t at.1 at.0),
        λ h. let at = inside n (after_of g) (one_after n) after-are (λ v outside. after-past g v (past v outside)) u t h in let is = in-after n u t at.1 in links-in t u is.1 is.0,
      );
      before_once = all-once n (before_of g) one_before before-are (λ v outside. before-past g v (past v outside)) before-once;
      after_once = all-once n (after_of g) (one_after n) after-are (λ v outside. after-past g v (past v outside)) (after-once n);
    };
    few_cells = omega (arith, r.cells, r.few);
    few_tasks = omega (arith, r.tasks, r.few);
    few_links = let most = sum_by-le (λ (t : TaskValue). length t.before) 1 g.tasks few-links in omega (arith, r.tasks, r.few);
  }
