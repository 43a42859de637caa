-- What the calls of a table ask of its steps.
use Rattle.std.proofs.Common.{◌≡◌, ◌∙◌, refl, sym, ap, subst, inl, inr, ⊎_elim, ℕ, ◌+◌, ◌-◌, ◌%◌, ◌^◌, ◌<◌, ◌≤◌, true, false, is_some, List, [], length, get_or, pos, Some, None, IsSome, slice_get, arith}
use Rattle.std.specs.Prelude.{IsTrue, Option}
use Rattle.std.specs.Int.{cast_signed, w64}
use Rattle.std.specs.List.{Contains}
use Rattle.std.proofs.lemmas.Bool.{cases_lt}
use Rattle.std.proofs.lemmas.List.{get_or-take, get_or_past, length-take}
use Rattle.std.proofs.lemmas.List.Elements.{All-get_or, Contains-get_or}
use mathlib.Core.Option.{none}
use Rattle.atomic_table.specs.Table.{Allows, Joins, Splits, step}
use Rattle.atomic_table.specs.Seated.{TableId}
use Rattle.pb_base.proofs.ListLemmas.{in_none}
use Rattle.pb_values.specs.Cells.{TellsTrap, is_number}
use Rattle.pb_values.specs.declared.outcome.Outcome.{Outcome}
use Rattle.pb_values.specs.declared.outcome.Outcome.TheVariants.{Value}
use Rattle.pb_values.specs.declared.outcome.Trap.{Trap}
use Rattle.pb_taskgraph.specs.Graphs.{after_of}
use Rattle.pb_taskgraph.specs.Plans.{IsPlan, IsSmall, Plan, outcome_at}
use Rattle.pb_taskgraph.specs.Turns.{MayRead}
use Rattle.pb_taskgraph.proofs.GraphLemmas.{before-past}
use Rattle.pb_taskgraph.proofs.KnownLemmas.{known-next, some-known, told-known}
use Rattle.pb_taskgraph.proofs.PlanLemmas.{own-below}
use Rattle.pb_core.proofs.ListedLemmas.{not-true}
use Rattle.pb_core.proofs.WithLemmas.{of-some}
use Rattle.pb_cells.specs.declared.view.TaskView.{TaskView}
use Rattle.pb_cells.specs.Banks.{count_at, filed_at, finish_at, mark_at, number_at}
use Rattle.pb_cells.specs.Handles.{HandValue, IsHand, IsJob, IsTable, JobValue, task_of, turn_at}
use Rattle.pb_cells.specs.Steps.{AreTasks, CanRead, Draws, Files, IsFiledCount, IsPast, Looks, Marks, Me, Reads, Releases, Stores, StoresNumber}
use Rattle.pb_cells.specs.Stories.{Holds, is_listed}
use Rattle.pb_cells.specs.Views.{after_draw, after_keep, after_store, gathered_view, hand_view, job_view, joined_view, no_view, released_view, turn_view, with_task, without_turn}
use Rattle.pb_cells.specs.Words.{mark_of, outcome_in, word_of}
use Rattle.pb_cells.proofs.SeatLemmas.{in-listed, listed-in}
use Rattle.pb_cells.proofs.RuleLemmas.{draw-allows, file-allows, gather-joins, join-joins, look-allows, mark-allows, number-allows, read-allows, release-allows, turn-splits, value-allows}
use Rattle.pb_cells.proofs.LookLemmas.{look-few, look-past, look-tasks}
use Rattle.pb_cells.proofs.WordLemmas.{marked-number, number-back, outcome-back}

-- every outcome of a plan is small
pub any-small : (p : Plan) → IsPlan p → (c : ℕ) → IsSmall (outcome_at p.solution c)
unfolding outcome_at
any-small p is c = ⊎_elim
    (λ (inside : c < length p.solution). All-get_or IsSmall p.solution c (Value (pos 0)) inside is.small)
    (λ (past : length p.solution ≤ c). subst IsSmall (sym (get_or_past p.solution c (Value (pos 0)) past)) record { sfits = omega arith })
    (cases_lt c (length p.solution))

pub after-below : (p : Plan) → IsPlan p → (t next : ℕ) → Contains (after_of p.graph t) next → next < length p.graph.tasks
after-below p is t next after = ⊎_elim
    (λ (inside : next < length p.graph.tasks). inside)
    (λ (past : length p.graph.tasks ≤ next). absurd (in_none t (subst (λ l. Contains l t) (before-past p.graph next past) ((is.graph.linked.mirrored next t).1 after))))
    (cases_lt next (length p.graph.tasks))

module _ (p : Plan) (table : TableId) (cells tasks : ℕ) (is : IsTable p table cells tasks) where
  -- the places of words
  pub cell-place : (c : ℕ) → c < p.graph.cells → (c < table.words) × (cells + c < table.words) × (cells + c < 2 ^ 63)
  cell-place c below = let few = is.plan.graph.few_cells in
      (omega (arith, is.words), omega (arith, is.words, is.cells), omega (arith, is.cells))

  pub mark-place : (c : ℕ) → cells + c ≡ mark_at p.graph c
  mark-place c = omega (arith, is.cells)

  pub count-place : (t : ℕ) → cells + cells + t ≡ count_at p.graph t
  count-place t = omega (arith, is.cells)

  pub number-place : (t : ℕ) → cells + cells + tasks + t ≡ number_at p.graph t
  number-place t = omega (arith, is.cells, is.tasks)

  pub finish-place : cells + cells + tasks + tasks ≡ finish_at p.graph
  finish-place = omega (arith, is.cells, is.tasks)

  pub filed-place : cells + cells + tasks + tasks + 1 ≡ filed_at p.graph
  filed-place = omega (arith, is.cells, is.tasks)

  pub count-inside : (t : ℕ) → t < length p.graph.tasks → (cells + cells + t < table.words)
  count-inside t below = omega (arith, is.words, is.cells)

  pub number-inside : (t : ℕ) → t < length p.graph.tasks → cells + cells + tasks + t < table.words
  number-inside t below = omega (arith, is.words, is.cells, is.tasks)

  pub filed-inside : cells + cells + tasks + tasks + 1 < table.words
  filed-inside = omega (arith, is.words, is.cells, is.tasks)

  module _ (self own : TableId) (self_is : table ≡ self) (me : Me) (v : JobValue) (t : ℕ) (job : IsJob p me t) (view_is : record { table = own; at = task_of me.0.job; opened = me.0.opened } ≡ v) (same : v.table ≡ self) where
    pub own-is : own ≡ table
    own-is = ap (λ (w : JobValue). w.table) view_is ∙ (same ∙ sym self_is)

    pub me-is : me ≡ (job_view v.at v.opened, [])
    me-is = job.me_is ∙ (λ i. (job_view (view_is i).at (view_is i).opened, []))

    pub own-task : v.at.task < length p.graph.tasks
    own-task = subst (λ (w : JobValue). w.at.task < length p.graph.tasks) view_is job.task

    -- what may be read
    module _ (c : ℕ) (known : IsSome ((turn_at p v.at).outcomes c)) where
      pub may : MayRead p v.at.task v.at.written c
      may = some-known p v.at.task v.at.written c known

      pub may-below : c < p.graph.cells
      may-below = below may
        where
          below : MayRead p v.at.task v.at.written c → c < p.graph.cells
          below (inl input) = let all = is.plan.graph.partition.inputs in omega arith
          below (inr (inl (u, before, own_cell))) = (is.plan.graph.partition.past u c own_cell).1
          below (inr (inr (i, inside, at))) =
              let short = length-take v.at.written (p.order v.at.task) in
              let first : i < v.at.written = omega arith in
              own-below p is.plan v.at.task own-task c (i, omega arith, sym (get_or-take v.at.written (p.order v.at.task) i c first) ∙ at)

      pub can-read : (m : Me) → m ≡ me → CanRead p m.0.job c
      can-read m e = subst (λ (n : Me). CanRead p n.0.job c) (sym (e ∙ me-is)) may

    -- what is to be written next
    module _ (c : ℕ) (o : Outcome) (next : slice_get (turn_at p v.at).left 0 ≡ Some (c, o)) where
      pub next-facts : (v.at.written < length (p.order v.at.task)) × (get_or (p.order v.at.task) v.at.written 0 ≡ c) × (outcome_at p.solution c ≡ o)
      next-facts = known-next p v.at.task v.at.written c o next

      pub next-inside : c < p.graph.cells
      next-inside = subst (λ d. d < p.graph.cells) next-facts.1 (own-below p is.plan v.at.task own-task (get_or (p.order v.at.task) v.at.written 0) (Contains-get_or (p.order v.at.task) v.at.written 0 next-facts.0))

      pub store-asks : (id word : ℕ) → word ≡ word_of o → Allows (Holds p) table.slots id me c (λ n. word) (λ n. Stores p (step table.slots c word 0 none) me word)
      store-asks id word is_word = subst (λ (m : Me). Allows (Holds p) table.slots id m c (λ n. word) (λ n. Stores p (step table.slots c word 0 none) m word)) (sym me-is)
          (value-allows p table.slots id v.at v.opened c next-facts.1 word next-facts.0 (is_word ∙ ap word_of (sym next-facts.2)))

      pub mark-asks : (id mark : ℕ) (m : Me) → m ≡ (job_view (after_store v.at) v.opened, []) → mark ≡ mark_of o → Allows (Holds p) table.slots id m (cells + c) (λ n. mark) (λ n. Marks (step table.slots (cells + c) mark 0 none) m mark)
      mark-asks id mark m e is_mark = subst (λ i. Allows (Holds p) table.slots id m i (λ n. mark) (λ n. Marks (step table.slots i mark 0 none) m mark)) (sym (mark-place c))
          (subst (λ (k : Me). Allows (Holds p) table.slots id k (mark_at p.graph c) (λ n. mark) (λ n. Marks (step table.slots (mark_at p.graph c) mark 0 none) k mark)) (sym e)
          (mark-allows p table.slots id (after_store v.at) v.opened c next-facts.1 mark refl (is_mark ∙ ap mark_of (sym next-facts.2))))

    pub read-asks : (id word : ℕ) (m : Me) → m ≡ me → Allows (Holds p) table.slots id m word (λ n. n) (Reads p (step table.slots word 0 0 none) m)
    read-asks id word m e = subst (λ (k : Me). Allows (Holds p) table.slots id k word (λ n. n) (Reads p (step table.slots word 0 0 none) k)) (sym (e ∙ me-is)) (read-allows p table.slots id v.at v.opened word)

    -- an unfinished task isn't filed
    unfiled : v.at.number ≡ None → v.at.filed ≡ false
    unfiled unfinished = ap (λ (w : JobValue). w.at.filed) (sym view_is) ∙ (job.filed ∙ (ap (λ (w : JobValue). is_some w.at.number) view_is ∙ ap is_some unfinished))

    -- it is finished: the number is drawn, stored and filed
    pub task-is : t ≡ v.at.task
    task-is = job.task_is ∙ ap (λ (w : JobValue). w.at.task) view_is

    pub draw-asks : (id : ℕ) → v.at.number ≡ None → length (p.order v.at.task) ≤ v.at.written
        → Allows (Holds p) table.slots id me (cells + cells + tasks + tasks) (λ n. (n + 1) % 2 ^ 64) (Draws (step table.slots (cells + cells + tasks + tasks) 1 0 none) me)
    draw-asks id unfinished all = subst (λ i. Allows (Holds p) table.slots id me i (λ n. (n + 1) % 2 ^ 64) (Draws (step table.slots i 1 0 none) me)) (sym finish-place)
        (subst (λ (m : Me). Allows (Holds p) table.slots id m (finish_at p.graph) (λ n. (n + 1) % 2 ^ 64) (Draws (step table.slots (finish_at p.graph) 1 0 none) m)) (sym me-is)
        (draw-allows p table.slots id v.at v.opened unfinished all))

    module _ (n : ℕ) (m : Me) (drawn : Draws (step table.slots (cells + cells + tasks + tasks) 1 0 none) me n m) where
      drawn-me : m ≡ (job_view (after_draw n v.at) v.opened, [])
      drawn-me = drawn ∙ ap (λ (k : Me). (with_task (after_draw n) k.0, k.1)) me-is

      pub number-asks : (id place : ℕ) → place ≡ cells + cells + tasks + t → Allows (Holds p) table.slots id m place (λ x. n) (λ x. StoresNumber (step table.slots place n 0 none) m n)
      number-asks id place e = subst (λ i. Allows (Holds p) table.slots id m i (λ x. n) (λ x. StoresNumber (step table.slots i n 0 none) m n)) (sym (e ∙ (number-place t ∙ ap (number_at p.graph) task-is)))
          (subst (λ (k : Me). Allows (Holds p) table.slots id k (number_at p.graph v.at.task) (λ x. n) (λ x. StoresNumber (step table.slots (number_at p.graph v.at.task) n 0 none) k n)) (sym drawn-me)
          (number-allows p table.slots id (after_draw n v.at) v.opened n refl))

      module _ (place : ℕ) (k : Me) (stored : StoresNumber (step table.slots place n 0 none) m n k) where
        pub stored-me : k ≡ (job_view (after_keep (after_draw n v.at)) v.opened, [])
        stored-me = stored ∙ ap (λ (l : Me). (with_task after_keep l.0, l.1)) drawn-me

        pub file-asks : (id : ℕ) → v.at.number ≡ None → Allows (Holds p) table.slots id k (cells + cells + tasks + tasks + 1) (λ x. (x + 1) % 2 ^ 64) (Files (step table.slots (cells + cells + tasks + tasks + 1) 1 0 none) k)
        file-asks id unfinished = subst (λ i. Allows (Holds p) table.slots id k i (λ x. (x + 1) % 2 ^ 64) (Files (step table.slots i 1 0 none) k)) (sym filed-place)
            (subst (λ (l : Me). Allows (Holds p) table.slots id l (filed_at p.graph) (λ x. (x + 1) % 2 ^ 64) (Files (step table.slots (filed_at p.graph) 1 0 none) l)) (sym stored-me)
            (file-allows p table.slots id (after_keep (after_draw n v.at)) v.opened refl (unfiled unfinished)))

    module _ (next : ℕ) (finished : IsSome v.at.number) (after : Contains (after_of p.graph v.at.task) next) (owed : Contains v.at.released next → ⊥) where
      pub release-asks : (id : ℕ) → Allows (Holds p) table.slots id me (cells + cells + next) (λ n. (n + (2 ^ 64 - 1)) % 2 ^ 64) (Releases p (step table.slots (cells + cells + next) 1 0 none) me)
      release-asks id =
          let number = of-some v.at.number finished in
          subst (λ (m : Me). Allows (Holds p) table.slots id m (cells + cells + next) (λ n. (n + (2 ^ 64 - 1)) % 2 ^ 64) (Releases p (step table.slots (cells + cells + next) 1 0 none) m)) (sym me-is)
          (release-allows p table.slots id v.at v.opened number.0 next (cells + cells + next) number.1 after (not-true (is_listed v.at.released next) (λ e. owed (listed-in v.at.released next e))) (count-place next))

      -- what the release tells
      module _ (found : ℕ) (m : Me) (told : Releases p (step table.slots (cells + cells + next) 1 0 none) me found m) where
        pub released-me : m ≡ (released_view found next (job_view v.at v.opened), [])
        released-me = (told next (count-place next)).1 ∙ ap (λ (k : Me). (released_view found next k.0, k.1)) me-is

        pub one-me : found ≡ 1 → m ≡ (released_view 1 next (job_view v.at v.opened), [])
        one-me e = released-me ∙ ap (λ n. (released_view n next (job_view v.at v.opened), [])) e

        pub split-asks : (id : ℕ) → found ≡ 1 → Splits {S = Unit {0}} (Holds p) id m.0 (without_turn m.0) (turn_view m.0)
        split-asks id e = subst (λ (k : Me). Splits {S = Unit {0}} (Holds p) id k.0 (without_turn k.0) (turn_view k.0)) (sym (one-me e))
            (turn-splits p id (released_view 1 next (job_view v.at v.opened)) next [] refl)

-- what is read is the outcome
pub read-gives : (p : Plan) → IsPlan p → (c mark word : ℕ) (result : Outcome) → result ≡ outcome_in mark word → mark ≡ mark_of (outcome_at p.solution c) → word ≡ word_of (outcome_at p.solution c) → result ≡ outcome_at p.solution c
read-gives p is c mark word result gives is_mark is_word = gives ∙ ((λ i. outcome_in (is_mark i) (is_word i)) ∙ outcome-back (outcome_at p.solution c) (any-small p is c))

pub number-some : (o : Option Outcome) → IsTrue (is_number o) → IsSome o
number-some None h = absurd (let wrong : false ≡ true = h in cc)
number-some (Some o) h = refl

-- a number that is told is the solution's
pub number-known : (p : Plan) (j : TaskView) (c : ℕ) → IsTrue (is_number ((turn_at p j).outcomes c)) → IsSome ((turn_at p j).outcomes c) × IsTrue (is_number (Some (outcome_at p.solution c)))
number-known p j c h =
    let some = number-some ((turn_at p j).outcomes c) h in
    (some, subst (λ (o : Option Outcome). IsTrue (is_number o)) (told-known p j.task j.written c (some-known p j.task j.written c some)) h)

pub trap-number : (p : Plan) (c mark : ℕ) → mark ≡ 1 → mark ≡ mark_of (outcome_at p.solution c) → IsTrue (is_number (Some (outcome_at p.solution c)))
trap-number p c mark one is_mark = marked-number (outcome_at p.solution c) (sym is_mark ∙ one)

pub trap-told : (p : Plan) → IsPlan p → (c mark word : ℕ) (v : Outcome) → v ≡ outcome_in mark word → mark ≡ mark_of (outcome_at p.solution c) → word ≡ word_of (outcome_at p.solution c) → (o : Option Trap) → TellsTrap (Some v) o
    → TellsTrap (Some (outcome_at p.solution c)) o
trap-told p is c mark word v gives is_mark is_word o told = subst (λ (w : Outcome). TellsTrap (Some w) o) (read-gives p is c mark word v gives is_mark is_word) told

pub number-gives : (p : Plan) → IsPlan p → (c word : ℕ) → IsTrue (is_number (Some (outcome_at p.solution c))) → word ≡ word_of (outcome_at p.solution c) → outcome_at p.solution c ≡ Value (cast_signed w64 word)
number-gives p is c word number is_word = number-back (outcome_at p.solution c) (any-small p is c) number word is_word

-- ---- what the calls of a hand ask
module _ (p : Plan) (id : ℕ) (me : Me) (hand : IsHand me) where
  pub look-asks : (table : TableId) (cells tasks : ℕ) → IsTable p table cells tasks
      → Allows (Holds p) table.slots id me (cells + cells + tasks + tasks + 1) (λ n. n) (Looks p (step table.slots (cells + cells + tasks + tasks + 1) 0 0 none) me)
  look-asks table cells tasks is = subst (λ i. Allows (Holds p) table.slots id me i (λ n. n) (Looks p (step table.slots i 0 0 none) me)) (sym (filed-place p table cells tasks is))
      (subst (λ (m : Me). Allows (Holds p) table.slots id m (filed_at p.graph) (λ n. n) (Looks p (step table.slots (filed_at p.graph) 0 0 none) m)) (sym hand)
      (look-allows p id table.slots me.0.opened me.0.ran me.0.seen me.0.looks))

  -- what a look tells
  module _ (own : TableId) (v : HandValue) (view_is : record { table = own; opened = me.0.opened; ran = me.0.ran; seen = me.0.seen; looks = me.0.looks } ≡ v) (n : ℕ) (told : IsFiledCount p me.0 n) where
    pub look-count : IsFiledCount p (hand_view v.opened v.ran v.seen v.looks) n
    look-count = subst (λ (w : HandValue). IsFiledCount p (hand_view w.opened w.ran w.seen w.looks) n) view_is (subst (λ (m : Me). IsFiledCount p m.0 n) hand told)

    pub look-tells : (after : Me) → after ≡ (record me.0 { seen = n; looks = me.0.looks + 1 }, me.1) → (n ≤ length p.graph.tasks) × AreTasks p after.0.opened after.0.ran × IsPast v.seen v.ran n
    look-tells after same = (
      look-few p v.opened v.ran v.seen v.looks n look-count,
      subst (λ (m : Me). AreTasks p m.0.opened m.0.ran) (sym same) (look-tasks p me.0.opened me.0.ran me.0.seen me.0.looks n (subst (λ (m : Me). IsFiledCount p m.0 n) hand told)),
      look-past p v.opened v.ran v.seen v.looks n look-count,
    )

  pub join-asks : (other : ℕ) (them : Me) (j : TaskView) (opened : List ℕ) → them ≡ (job_view j opened, []) → j.filed ≡ is_some j.number → IsSome j.number → ((next : ℕ) → Contains (after_of p.graph j.task) next → Contains j.released next)
      → Joins {S = Unit {0}} (Holds p) id me.0 other them.0 (joined_view me.0 them.0) no_view
  join-asks other them j opened e filed finished paid =
      let number = of-some j.number finished in
      subst (λ (m : Me). Joins {S = Unit {0}} (Holds p) id m.0 other them.0 (joined_view m.0 them.0) no_view) (sym hand)
      (subst (λ (m : Me). Joins {S = Unit {0}} (Holds p) id (hand_view me.0.opened me.0.ran me.0.seen me.0.looks) other m.0 (joined_view (hand_view me.0.opened me.0.ran me.0.seen me.0.looks) m.0) no_view) (sym e)
      (join-joins p id 0 me.0.opened me.0.ran me.0.seen me.0.looks other j opened number.0 number.1 (filed ∙ ap is_some number.1) (λ u after. in-listed j.released u (paid u after))))

  pub gather-asks : (other : ℕ) (them : Me) → IsHand them → Joins {S = Unit {0}} (Holds p) id me.0 other them.0 (gathered_view me.0 them.0) no_view
  gather-asks other them is = subst (λ (m : Me). Joins {S = Unit {0}} (Holds p) id m.0 other them.0 (gathered_view m.0 them.0) no_view) (sym hand)
      (subst (λ (m : Me). Joins {S = Unit {0}} (Holds p) id (hand_view me.0.opened me.0.ran me.0.seen me.0.looks) other m.0 (gathered_view (hand_view me.0.opened me.0.ran me.0.seen me.0.looks) m.0) no_view) (sym is)
      (gather-joins p id 0 me.0.opened me.0.ran me.0.seen me.0.looks other them.0.opened them.0.ran them.0.seen them.0.looks))
