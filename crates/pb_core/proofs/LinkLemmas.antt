-- Releases.
use Rattle.std.proofs.Common.{◌≡◌, ◌∙◌, refl, sym, ap, subst, ⊎_elim, ℕ, zero, suc, ◌<◌, ◌≤◌, Bool, true, false, not, List, [], ◌∷◌, length, get_or, slice_set, length-set, Option, Some, None, IsSome, Ok, arith}
use Rattle.std.specs.List.{Contains}
use Rattle.std.proofs.Math.Path.{fun_ext}
use Rattle.std.proofs.lemmas.Bool.{cases_eq, cases_lt}
use Rattle.std.proofs.lemmas.Bool.Decides.{nat_tests}
use Rattle.std.proofs.lemmas.List.{get_or-set_other, get_or-set_same, get_or_default}
use Rattle.pb_base.proofs.ListLemmas.{in_none}
use Rattle.pb_values.specs.declared.outcome.Outcome.{Outcome}
use Rattle.pb_taskgraph.specs.Graphs.{EachOnce, TaskValue, after_of, before_of}
use Rattle.pb_taskgraph.specs.Plans.{Plan}
use Rattle.pb_taskgraph.proofs.GraphLemmas.{after-at, before-past}
use Rattle.pb_core.specs.declared.event.Event.TheVariants.{Release}
use Rattle.pb_core.specs.declared.progress.Progress.{Progress}
use Rattle.pb_core.specs.States.{happens, with}
use Rattle.pb_core.specs.Cores.{CoreValue, FindsLink, FindsOpen, IsMachine, Steps, flag_of, freed, state_of, untouched}
use Rattle.pb_core.proofs.CountLemmas.{count-none, once-head, once-rest}
use Rattle.pb_core.proofs.StateLemmas.{field-kept, field-set, state-path}
use Rattle.pb_core.proofs.StepLemmas.{machine-after}
use Rattle.pb_core.proofs.WithLemmas.{with-each}
use Rattle.pb_core.proofs.WriteLemmas.{sound, task-of}

-- the flag at the first place of a number
pub flag-at : (numbers : List ℕ) (flags : List Bool) (n place : ℕ) → length flags ≡ length numbers → place < length numbers → ((k : ℕ) → k < place → get_or numbers k 0 ≡ n → ⊥) → get_or numbers place 0 ≡ n
    → flag_of numbers flags n ≡ get_or flags place false
flag-at [] flags n place same below none is = absurd (omega arith)
flag-at (x ∷ xs) [] n place same below none is = absurd (omega arith)
flag-at (x ∷ xs) (flag ∷ flags) n zero same below none is = grind (arith, nat_tests)
flag-at (x ∷ xs) (flag ∷ flags) n (suc place) same below none is =
    let other : x ≡ n → ⊥ = none 0 (omega arith) in
    let rest = flag-at xs flags n place (omega arith) (omega arith) (λ k less. none (suc k) (omega arith)) is in
    grind (arith, nat_tests)

-- a flag is set
pub flag-set : (numbers : List ℕ) (flags : List Bool) (place n m : ℕ) → EachOnce numbers → length flags ≡ length numbers → place < length numbers → get_or numbers place 0 ≡ n
    → flag_of numbers (slice_set flags place true) m ≡ with (flag_of numbers flags) n true m
flag-set [] flags place n m once same below is = absurd (omega arith)
flag-set (x ∷ xs) [] place n m once same below is = absurd (omega arith)
flag-set (x ∷ xs) (flag ∷ flags) zero n m once same below is = grind (arith, nat_tests)
flag-set (x ∷ xs) (flag ∷ flags) (suc place) n m once same below is =
    let rest = flag-set xs flags place n m (once-rest x xs once) (omega arith) (omega arith) is in
    let other : x ≡ n → ⊥ = λ e. once-head x xs once (place, omega arith, get_or_default xs place x 0 (omega arith) ∙ is ∙ sym e) in
    grind (arith, nat_tests)

-- what is found in a list of numbers
pub open-none : (numbers : List ℕ) (flags : List Bool) (n : ℕ) → ((k : ℕ) → k < length numbers → get_or numbers k 0 ≡ n → ⊥) → FindsOpen numbers flags n None
open-none numbers flags n none h e = none h.0 h.1 (get_or_default numbers h.0 0 n h.1 ∙ h.2)

module _ (numbers : List ℕ) (flags : List Bool) (n place : ℕ) (same : length flags ≡ length numbers) (below : place < length numbers)
    (none : (k : ℕ) → k < place → get_or numbers k 0 ≡ n → ⊥) (is : get_or numbers place 0 ≡ n) where
  pub open-some : get_or flags place false ≡ false → FindsOpen numbers flags n (Some place)
  open-some e = (below, is, flag-at numbers flags n place same below none is ∙ e)

  pub open-set : get_or flags place false ≡ true → FindsOpen numbers flags n None
  open-set e h open_ = let wrong : true ≡ false = sym e ∙ sym (flag-at numbers flags n place same below none is) ∙ open_ in absurd (cc)

-- the successors of a task and their flags
pub after-is : (p : Plan) (t : ℕ) (tasks : List TaskValue) (task : TaskValue) (after : List ℕ) → tasks ≡ p.graph.tasks → t < length p.graph.tasks → task ≡ get_or tasks t task → after ≡ task.after → after ≡ after_of p.graph t
after-is p t tasks task after are below is same = same ∙ sym (after-at p.graph t task below (is ∙ ap (λ (l : List TaskValue). get_or l t task) are))

pub row-is : (rows : List (List Bool)) (t : ℕ) (row : List Bool) → t < length rows → row ≡ get_or rows t row → row ≡ get_or rows t []
row-is rows t row below is = is ∙ get_or_default rows t row [] below

-- the machine after a release
module _ (p work : Plan) (Fits : Type 0) (v : CoreValue) (ran : List Bool) (outcomes : List Outcome) (is : IsMachine p work Fits v ran outcomes) (self : CoreValue) (same : v ≡ self) (hand t next : ℕ) where
  module _ (at : Progress) (at-is : at ≡ get_or v.tasks t untouched) where
    pub link-none : (IsSome at.number × (at.runner ≡ Some hand) → ⊥) → FindsLink p self hand t next None
    unfolding state_of
    link-none never enabled =
        let here : at ≡ get_or self.tasks t untouched = at-is ∙ ap (λ (x : CoreValue). get_or x.tasks t untouched) same in
        never (subst IsSome (ap (λ (a : Progress). a.number) (sym here)) enabled.0, ap (λ (a : Progress). a.runner) here ∙ enabled.1)

    pub link-task : IsSome at.number × (at.runner ≡ Some hand) → t < length p.graph.tasks
    unfolding state_of
    link-task can = task-of p work Fits v ran outcomes is t hand (ap (λ (a : Progress). a.runner) (sym at-is) ∙ can.1)

    -- what is found among the successors
    pub link-finds : (place : Option ℕ) → IsSome at.number × (at.runner ≡ Some hand) → FindsOpen (after_of p.graph t) (get_or v.released t []) next place → FindsLink p self hand t next place
    unfolding state_of
    link-finds (Some place) can (below, there, open_) =
        let here : get_or self.tasks t untouched ≡ at = sym (at-is ∙ ap (λ (x : CoreValue). get_or x.tasks t untouched) same) in (
          (subst (λ (a : Progress). IsSome a.number) (sym here) can.0, ap (λ (a : Progress). a.runner) here ∙ can.1, (place, below, get_or_default (after_of p.graph t) place next 0 below ∙ there), ap (λ (x : CoreValue). flag_of (after_of p.graph t) (get_or x.released t []) next) (sym same) ∙ open_),
          below,
          there,
        )
    link-finds None can none = λ enabled. none enabled.2 (ap (λ (x : CoreValue). flag_of (after_of p.graph t) (get_or x.released t []) next) same ∙ enabled.3)

  module _ (place : ℕ) (finds : FindsLink p self hand t next (Some place)) where
    mine : FindsLink p v hand t next (Some place)
    mine = subst (λ (w : CoreValue). FindsLink p w hand t next (Some place)) (sym same) finds

    pub link-below : t < length p.graph.tasks
    link-below = task-of p work Fits v ran outcomes is t hand mine.0.1

    before : Contains (before_of p.graph next) t
    before = (is.core.plan.graph.linked.mirrored next t).1 mine.0.2

    pub next-below : next < length v.tasks
    next-below = ⊎_elim
        (λ (inside : next < length p.graph.tasks). omega (arith, is.core.tasks))
        (λ (past : length p.graph.tasks ≤ next). absurd (in_none t (subst (λ l. Contains l t) (before-past p.graph next past) before)))
        (cases_lt next (length p.graph.tasks))

    pub next-waits : 0 < (get_or v.tasks next untouched).count
    unfolding state_of
    next-waits = ⊎_elim
        (λ (none : (get_or v.tasks next untouched).count ≡ 0). let s = sound p work Fits v ran outcomes is in
        let wrong : not ((state_of p v).released t next) ≡ false = count-none (λ u. not ((state_of p v).released u next)) (before_of p.graph next) t (sym (s.counts.counts next) ∙ none) before in
        let open_ : not ((state_of p v).released t next) ≡ true = ap not mine.0.3 in let clash : true ≡ false = sym open_ ∙ wrong in absurd (cc))
        (λ (some : (get_or v.tasks next untouched).count ≡ 0 → ⊥). omega arith)
        (cases_eq (get_or v.tasks next untouched).count 0)

    abbrev x : Progress
    x = freed hand (get_or v.tasks next untouched)

    abbrev set_row : List Bool
    set_row = slice_set (get_or v.released t []) place true

    abbrev pub after_release : CoreValue
    after_release = record v { tasks = slice_set v.tasks next x; released = slice_set v.released t set_row }

    rows : length (get_or v.released t []) ≡ length (after_of p.graph t)
    rows = is.core.links t link-below

    release-state : state_of p after_release ≡ happens p (state_of p v) (Release hand t next)
    unfolding state_of
    release-state = state-path (state_of p after_release) (happens p (state_of p v) (Release hand t next))
        (field-set (λ (a : Progress). a.count) untouched v.tasks next x next-below)
        (field-set (λ (a : Progress). a.holder) untouched v.tasks next x next-below)
        (field-kept (λ (a : Progress). a.runner) untouched v.tasks next x next-below refl)
        (field-kept (λ (a : Progress). a.number) untouched v.tasks next x next-below refl)
        (field-kept (λ (a : Progress). a.given) untouched v.tasks next x next-below refl)
        (fun_ext (λ u. with-each (state_of p v).released t (with ((state_of p v).released t) next true) u (λ (now : ℕ → Bool). flag_of (after_of p.graph u) (get_or (slice_set v.released t set_row) u []) ≡ now)
        (λ (this : u ≡ t). fun_ext (λ m. ap (λ k. flag_of (after_of p.graph k) (get_or (slice_set v.released t set_row) k []) m) this
        ∙ ap (λ l. flag_of (after_of p.graph t) l m) (get_or-set_same v.released t set_row [] (omega (arith, is.core.released, link-below)))
        ∙ flag-set (after_of p.graph t) (get_or v.released t []) place next m (is.core.plan.graph.linked.after_once t) rows mine.1 mine.2))
        (λ (other : u ≡ t → ⊥). ap (λ l. flag_of (after_of p.graph u) l) (get_or-set_other v.released t u set_row [] other))))
        refl refl

    pub link-place : place < length (get_or v.released t [])
    link-place = omega (arith, mine.1, rows)

    pub release-steps : Steps p self (Release hand t next) (Ok tt) after_release
    release-steps = (finds.0, release-state ∙ ap (λ (w : CoreValue). happens p (state_of p w) (Release hand t next)) same)

    pub release-machine : IsMachine p work Fits after_release ran outcomes
    release-machine = machine-after p work Fits v ran outcomes is (Release hand t next) (Ok tt) after_release (mine.0, release-state)
        (length-set v.tasks next x) (length-set v.released t set_row)
        (λ u. ⊎_elim
        (λ (this : u ≡ t). ap (λ k. length (get_or (slice_set v.released t set_row) k [])) this
        ∙ ap (λ (l : List Bool). length l) (get_or-set_same v.released t set_row [] (omega (arith, is.core.released, link-below)))
        ∙ length-set (get_or v.released t []) place true ∙ ap (λ k. length (get_or v.released k [])) (sym this))
        (λ (other : u ≡ t → ⊥). ap (λ (l : List Bool). length l) (get_or-set_other v.released t u set_row [] other))
        (cases_eq u t)) refl

    -- as the code has it
    module _ (tasks : List Progress) (tasks-are : tasks ≡ slice_set v.tasks next x) (now : List Bool) (now-is : now ≡ slice_set (get_or v.released t []) place true) where
      abbrev pub as_released : CoreValue
      as_released = record v { tasks = tasks; released = slice_set v.released t now }

      same_release : after_release ≡ as_released
      same_release = ap (λ (l : List Progress). record v { tasks = l; released = slice_set v.released t set_row }) (sym tasks-are) ∙ ap (λ (r : List Bool). record v { tasks = tasks; released = slice_set v.released t r }) (sym now-is)

      pub released-steps : Steps p self (Release hand t next) (Ok tt) as_released
      released-steps = subst (λ (w : CoreValue). Steps p self (Release hand t next) (Ok tt) w) same_release release-steps

      pub released-machine : IsMachine p work Fits as_released ran outcomes
      released-machine = subst (λ (w : CoreValue). IsMachine p work Fits w ran outcomes) same_release release-machine
