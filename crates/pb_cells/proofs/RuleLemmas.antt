-- Each step on a word keeps the rule of the table, and tells what its seat knows then.
use Rattle.std.proofs.Common.{◌≡◌, ◌∙◌, refl, sym, ap, subst, ℕ, ◌+◌, ◌-◌, ◌%◌, ◌^◌, ◌<◌, ◌≤◌, true, false, List, [], ◌∷◌, ◌++◌, length, drop, get_or, Some, None, set, arith}
use Rattle.std.specs.List.{Contains}
use Rattle.std.proofs.Math.ListN.{length-set}
use Rattle.std.proofs.lemmas.List.{set-get_or}
use mathlib.Core.Option.{Option as Maybe, none, some}
use lib.ListN.{get_elem?}
use Rattle.atomic_table.specs.Table as table
use Rattle.atomic_table.specs.Table.{Allows, Joins, Splits, keeps, step}
use Rattle.atomic_table.proofs.Lists.{set_again, set_else, set_here}
use Rattle.pb_taskgraph.specs.Graphs.{GraphValue, after_of}
use Rattle.pb_taskgraph.specs.Plans.{Plan, outcome_at}
use Rattle.pb_core.specs.States.{with}
use Rattle.pb_core.proofs.FinishLemmas.{finished-few}
use Rattle.pb_core.proofs.WithLemmas.{with-same}
use Rattle.pb_cells.specs.declared.view.TaskView.{TaskView}
use Rattle.pb_cells.specs.declared.view.View.{View}
use Rattle.pb_cells.specs.Banks.{Bank, bank_of, count_at, filed_at, finish_at, mark_at, number_at, value_at}
use Rattle.pb_cells.specs.Stories.{Holds, IsStory, Story, is_listed, next_cell}
use Rattle.pb_cells.specs.Steps.{Draws, Files, Looks, Marks, Reads, Releases, Stores, StoresNumber, WaitsFor}
use Rattle.pb_cells.specs.Views.{after_draw, after_file, after_keep, after_mark, after_store, first_turn, gathered_view, hand_view, job_view, joined_view, no_view, released_view, turn_view, untouched, without_turn}
use Rattle.pb_cells.specs.Words.{mark_of, word_of}
use Rattle.pb_cells.proofs.BankLemmas.{get-count, get-filed, get-finish, get-mark, get-value, set-count, set-filed, set-finish, set-mark, set-number, set-value}
use Rattle.pb_cells.proofs.FinishLemmas.{file-keeps, file_story, filed-few, finish-keeps, finish_story, number-keeps, number_story}
use Rattle.pb_cells.proofs.GatherLemmas.{gather-keeps, gather_story}
use Rattle.pb_cells.proofs.JoinLemmas.{join-keeps, join_story, look-keeps}
use Rattle.pb_cells.proofs.ReleaseLemmas.{count-is, count-waits, owed, release-keeps, release_story}
use Rattle.pb_cells.proofs.SeatLemmas.{seat-inside}
use Rattle.pb_cells.proofs.SplitLemmas.{hand-keeps, split_story, turn-keeps}
use Rattle.pb_cells.proofs.StoreLemmas.{mark-keeps, mark_story, value-keeps}
use Rattle.pb_cells.proofs.TaskLemmas.{next-below, next-cell-below, next-unfinished, read-below, read-word, task-below}

abbrev Table : Type 0
Table = table.State (Unit {0}) View

count-same : (g : GraphValue) (t u : ℕ) → count_at g t ≡ count_at g u → t ≡ u
count-same g t u e = omega arith

-- a word is set, and a seat knows something else
pub set-holds : (p : Plan) (s : Table) (holds : Holds p s) (i n : ℕ) (homes : List (Maybe (Unit {0}))) (views : List View) (c : Bank) (z : Story) → bank_of p.graph (set s.words i n) ≡ c → IsStory p c views z
    → Holds p (record { words = set s.words i n; homes = homes; views = views })
set-holds p s holds i n homes views c z e is = record {
  plan = holds.plan;
  width = length-set s.words i n ∙ holds.width;
  story = z;
  is = subst (λ b. IsStory p b views z) (sym e) is;
}

module _ (p : Plan) (slots id : ℕ) (j : TaskView) (opened : List ℕ) where
  abbrev me : table.Me (Unit {0}) View
  me = (job_view j opened, [])

  -- ---- the stores of a cell
  module _ (c : ℕ) (next : next_cell p j ≡ c) where
    cell-below : (s : Table) (holds : Holds p s) → get_elem? s.views id ≡ some (job_view j opened) → j.written < length (p.order j.task) → c < p.graph.cells
    cell-below s holds at more = subst (λ d. d < p.graph.cells) next
        (next-cell-below p holds.plan (bank_of p.graph s.words) holds.story holds.is.tells id j (holds.is.fits id (job_view j opened) at).job more)

    unfinished : (s : Table) (holds : Holds p s) → get_elem? s.views id ≡ some (job_view j opened) → j.written < length (p.order j.task) → j.number ≡ None
    unfinished s holds at more =
        let fits = (holds.is.fits id (job_view j opened) at).job in
        sym fits.number ∙ next-unfinished p holds.plan (bank_of p.graph s.words) holds.story holds.is.tells id j fits more

    pub value-allows : (word : ℕ) → j.written < length (p.order j.task) → word ≡ word_of (outcome_at p.solution c)
        → Allows (Holds p) slots id me (value_at p.graph c) (λ n. word) (λ n. Stores p (step slots (value_at p.graph c) word 0 none) me word)
    value-allows word more right s holds homes at small =
        let b = bank_of p.graph s.words in
        let below = cell-below s holds at more in
        let same : word ≡ word_of (outcome_at p.solution (next_cell p j)) = right ∙ ap (λ d. word_of (outcome_at p.solution d)) (sym next) in (
          job_view (after_store j) opened,
          keeps,
          tt,
          set-holds p s holds (value_at p.graph c) word s.homes (set s.views id (job_view (after_store j) opened))
              (record b { value = with b.value (next_cell p j) (word_of (outcome_at p.solution (next_cell p j))) }) holds.story
              (set-value p.graph s.words holds.width c word below ∙ (λ i. record b { value = with b.value (sym next i) (same i) }))
              (value-keeps p holds.plan b s.views holds.story holds.is id j opened at more),
          (refl, (c, refl, (unfinished s holds at more, more, sym next))),
        )

    pub mark-allows : (mark : ℕ) → j.stored ≡ true → mark ≡ mark_of (outcome_at p.solution c)
        → Allows (Holds p) slots id me (mark_at p.graph c) (λ n. mark) (λ n. Marks (step slots (mark_at p.graph c) mark 0 none) me mark)
    mark-allows mark stored right s holds homes at small =
        let b = bank_of p.graph s.words in
        let more : j.written < length (p.order j.task) = ((holds.is.fits id (job_view j opened) at).job.stored stored).0 in
        let below = cell-below s holds at more in
        let same : mark ≡ mark_of (outcome_at p.solution (next_cell p j)) = right ∙ ap (λ d. mark_of (outcome_at p.solution d)) (sym next) in (
          job_view (after_mark j) opened,
          keeps,
          tt,
          set-holds p s holds (mark_at p.graph c) mark s.homes (set s.views id (job_view (after_mark j) opened))
              (record b { mark = with b.mark (next_cell p j) (mark_of (outcome_at p.solution (next_cell p j))) })
              (mark_story p holds.plan b s.views holds.story holds.is id j opened at)
              (set-mark p.graph s.words holds.width c mark below ∙ (λ i. record b { mark = with b.mark (sym next i) (same i) }))
              (mark-keeps p holds.plan b s.views holds.story holds.is id j opened at stored),
          refl,
        )

  -- ---- a load
  pub read-allows : (word : ℕ) → Allows (Holds p) slots id me word (λ n. n) (Reads p (step slots word 0 0 none) me)
  read-allows word s holds homes at small =
      let b = bank_of p.graph s.words in
      let told = read-word p holds.plan b holds.story holds.is.tells id j (holds.is.fits id (job_view j opened) at).job in
      let cells = read-below p holds.plan b holds.story holds.is.tells id j (holds.is.fits id (job_view j opened) at).job in (
        job_view j opened,
        keeps,
        tt,
        record {
          plan = holds.plan;
          width = length-set s.words word (get_or s.words word 0) ∙ holds.width;
          story = holds.story;
          is = subst (λ (l : List ℕ). IsStory p (bank_of p.graph l) (set s.views id (job_view j opened)) holds.story) (sym (set-get_or s.words word 0))
              (subst (λ (l : List View). IsStory p b l holds.story) (sym (set_again s.views id (job_view j opened) at)) holds.is);
        },
        (
          refl,
          λ c can. (
            λ e. ap (λ i. get_or s.words i 0) e ∙ (get-mark p.graph s.words holds.width c (cells c can) ∙ (told c can).0),
            λ e. ap (λ i. get_or s.words i 0) e ∙ (get-value p.graph s.words holds.width c (cells c can) ∙ (told c can).1),
          ),
        ),
      )

  -- ---- the end of a task
  pub draw-allows : j.number ≡ None → length (p.order j.task) ≤ j.written
      → Allows (Holds p) slots id me (finish_at p.graph) (λ n. (n + 1) % 2 ^ 64) (Draws (step slots (finish_at p.graph) 1 0 none) me)
  draw-allows unfinished all s holds homes at small =
      let b = bank_of p.graph s.words in
      let few : b.finish < 262145 = let most = finished-few p holds.story.core holds.is.tells.sound in let limit = holds.plan.graph.few_tasks in omega (arith, holds.is.tells.finish) in
      let found : get_or s.words (finish_at p.graph) 0 ≡ b.finish = get-finish p.graph s.words holds.width in
      let next : (get_or s.words (finish_at p.graph) 0 + 1) % 2 ^ 64 ≡ b.finish + 1 = omega arith in (
        job_view (after_draw (get_or s.words (finish_at p.graph) 0) j) opened,
        keeps,
        tt,
        set-holds p s holds (finish_at p.graph) ((get_or s.words (finish_at p.graph) 0 + 1) % 2 ^ 64) s.homes (set s.views id (job_view (after_draw (get_or s.words (finish_at p.graph) 0) j) opened))
            (record b { finish = b.finish + 1 })
            (finish_story p holds.plan b s.views holds.story holds.is id j opened at)
            (set-finish p.graph s.words holds.width ((get_or s.words (finish_at p.graph) 0 + 1) % 2 ^ 64) ∙ (λ i. record b { finish = next i }))
            (subst (λ n. IsStory p (record b { finish = b.finish + 1 }) (set s.views id (job_view (after_draw n j) opened)) (finish_story p holds.plan b s.views holds.story holds.is id j opened at)) (sym found)
            (finish-keeps p holds.plan b s.views holds.story holds.is id j opened at unfinished all)),
        refl,
      )

  pub number-allows : (n : ℕ) → j.number ≡ Some n → Allows (Holds p) slots id me (number_at p.graph j.task) (λ m. n) (λ m. StoresNumber (step slots (number_at p.graph j.task) n 0 none) me n)
  number-allows n drawn s holds homes at small =
      let b = bank_of p.graph s.words in
      let below = task-below p holds.plan b holds.story holds.is.tells id j (holds.is.fits id (job_view j opened) at).job in (
        job_view (after_keep j) opened,
        keeps,
        tt,
        set-holds p s holds (number_at p.graph j.task) n s.homes (set s.views id (job_view (after_keep j) opened))
            (record b { number = with b.number j.task n })
            (number_story p holds.plan b s.views holds.story holds.is id j opened at n drawn)
            (set-number p.graph s.words holds.width j.task n below)
            (number-keeps p holds.plan b s.views holds.story holds.is id j opened at n drawn),
        refl,
      )

  pub file-allows : j.kept ≡ true → j.filed ≡ false → Allows (Holds p) slots id me (filed_at p.graph) (λ n. (n + 1) % 2 ^ 64) (Files (step slots (filed_at p.graph) 1 0 none) me)
  file-allows kept unfiled s holds homes at small =
      let b = bank_of p.graph s.words in
      let most : b.filed < 262145 = let limit = holds.plan.graph.few_tasks in omega (arith, filed-few p b holds.story holds.is.tells) in
      let found : get_or s.words (filed_at p.graph) 0 ≡ b.filed = get-filed p.graph s.words holds.width in
      let next : (get_or s.words (filed_at p.graph) 0 + 1) % 2 ^ 64 ≡ b.filed + 1 = omega arith in (
        job_view (after_file j) opened,
        keeps,
        tt,
        set-holds p s holds (filed_at p.graph) ((get_or s.words (filed_at p.graph) 0 + 1) % 2 ^ 64) s.homes (set s.views id (job_view (after_file j) opened))
            (record b { filed = b.filed + 1 })
            (file_story p holds.plan b s.views holds.story holds.is id j opened at kept unfiled)
            (set-filed p.graph s.words holds.width ((get_or s.words (filed_at p.graph) 0 + 1) % 2 ^ 64) ∙ (λ i. record b { filed = next i }))
            (file-keeps p holds.plan b s.views holds.story holds.is id j opened at kept unfiled),
        refl,
      )

  -- ---- a release
  module _ (m next at_word : ℕ) (ended : j.number ≡ Some m) (after : Contains (after_of p.graph j.task) next) (fresh : is_listed j.released next ≡ false) (is_word : at_word ≡ count_at p.graph next) where
    module _ (s : Table) (holds : Holds p s) (at : get_elem? s.views id ≡ some (job_view j opened)) where
      abbrev b : Bank
      b = bank_of p.graph s.words

      abbrev found : ℕ
      found = get_or s.words at_word 0

      below : next < length p.graph.tasks
      below = next-below p holds.plan b holds.story holds.is.tells j.task next after (owed p holds.plan b s.views holds.story holds.is id j opened at m next ended after fresh)

      found-is : found ≡ b.count next
      found-is = ap (λ i. get_or s.words i 0) is_word ∙ get-count p.graph s.words holds.width next below

      found-some : 0 < found
      found-some = some-left found (λ none_left. count-waits p holds.plan b s.views holds.story holds.is id j opened at m next ended after fresh
          (sym (count-is p holds.plan b s.views holds.story holds.is id j opened at m next ended after fresh) ∙ (sym found-is ∙ none_left)))
        where
          some-left : (n : ℕ) → (n ≡ 0 → ⊥) → 0 < n
          some-left n never = omega arith

      one-less : found < 2 ^ 64 → (found + (2 ^ 64 - 1)) % 2 ^ 64 ≡ b.count next - 1
      one-less small = let some_left = found-some in let is = found-is in omega arith

      after-bank : found < 2 ^ 64 → bank_of p.graph (set s.words at_word ((found + (2 ^ 64 - 1)) % 2 ^ 64)) ≡ record b { count = with b.count next (b.count next - 1) }
      after-bank small = ap (λ i. bank_of p.graph (set s.words i ((found + (2 ^ 64 - 1)) % 2 ^ 64))) is_word ∙ (set-count p.graph s.words holds.width next ((found + (2 ^ 64 - 1)) % 2 ^ 64) below ∙ (λ i. record b { count = with b.count next (one-less small i) }))

      released-holds : found < 2 ^ 64 → Holds p (record { words = set s.words at_word ((found + (2 ^ 64 - 1)) % 2 ^ 64); homes = s.homes; views = set s.views id (released_view found next (job_view j opened)) })
      released-holds small = set-holds p s holds at_word ((found + (2 ^ 64 - 1)) % 2 ^ 64) s.homes (set s.views id (released_view found next (job_view j opened)))
          (record b { count = with b.count next (b.count next - 1) })
          (release_story p holds.plan b s.views holds.story holds.is id j opened at m next ended after fresh)
          (after-bank small)
          (subst (λ n. IsStory p (record b { count = with b.count next (b.count next - 1) }) (set s.views id (released_view n next (job_view j opened)))
          (release_story p holds.plan b s.views holds.story holds.is id j opened at m next ended after fresh)) (sym found-is)
          (release-keeps p holds.plan b s.views holds.story holds.is id j opened at m next ended after fresh))

      released-waits : found < 2 ^ 64 → WaitsFor p (released_view found next (job_view j opened)) next (found - 1)
      released-waits small = record {
        state = record { words = set s.words at_word ((found + (2 ^ 64 - 1)) % 2 ^ 64); homes = s.homes; views = set s.views id (released_view found next (job_view j opened)) };
        holds = released-holds small;
        id = id;
        knows = set_here s.views id (released_view found next (job_view j opened)) (seat-inside s.views id (job_view j opened) at);
        so = ap (λ (d : Bank). d.count next) (after-bank small) ∙ (with-same b.count next (b.count next - 1) next refl ∙ sym (ap (λ k. k - 1) found-is));
      }

    pub release-allows : Allows (Holds p) slots id me at_word (λ n. (n + (2 ^ 64 - 1)) % 2 ^ 64) (Releases p (step slots at_word 1 0 none) me)
    release-allows s holds homes at small = (
      released_view (get_or s.words at_word 0) next (job_view j opened),
      keeps,
      tt,
      released-holds s holds at small,
      λ other e. subst (λ t. (0 < found s holds at)
          × (◌≡◌ {A = table.Me (Unit {0}) View} (released_view (found s holds at) next (job_view j opened), []) (released_view (found s holds at) t (job_view j opened), []))
          × WaitsFor p (released_view (found s holds at) next (job_view j opened)) t (found s holds at - 1)) (count-same p.graph next other (sym is_word ∙ e)) (found-some s holds at, refl, released-waits s holds at small),
    )

-- ---- a seat is cut in two
module _ (p : Plan) (id : ℕ) where
  pub turn-splits : (v : View) (t : ℕ) (ts : List ℕ) → v.turns ≡ t ∷ ts → Splits {S = Unit {0}} (Holds p) id v (without_turn v) (turn_view v)
  turn-splits v t ts turns s holds at =
      let b = bank_of p.graph s.words in
      let rest : drop 1 v.turns ≡ ts = ap (drop 1) turns in
      let first : first_turn v.turns ≡ t = ap first_turn turns in
      record {
        plan = holds.plan;
        width = holds.width;
        story = split_story p holds.plan b s.views holds.story holds.is id v at t ts turns;
        is = subst (λ (l : List View). IsStory p b l (split_story p holds.plan b s.views holds.story holds.is id v at t ts turns))
            (λ i. set s.views id (record v { turns = sym rest i }) ++ job_view (untouched (sym first i)) [] ∷ [])
            (turn-keeps p holds.plan b s.views holds.story holds.is id v at t ts turns);
      }

  pub hand-splits : (v : View) → Splits {S = Unit {0}} (Holds p) id v v no_view
  hand-splits v s holds at = record {
    plan = holds.plan;
    width = holds.width;
    story = holds.story;
    is = hand-keeps p holds.plan (bank_of p.graph s.words) s.views holds.story holds.is id v at;
  }

  module _ (slots : ℕ) (opened : List ℕ) (ran : List (ℕ × ℕ)) (seen looks : ℕ) where
    abbrev hand : View
    hand = hand_view opened ran seen looks

    -- ---- a look at the filed count
    pub look-allows : Allows (Holds p) slots id (hand, []) (filed_at p.graph) (λ n. n) (Looks p (step slots (filed_at p.graph) 0 0 none) (hand, []))
    look-allows s holds homes at small =
        let b = bank_of p.graph s.words in
        let found : get_or s.words (filed_at p.graph) 0 ≡ b.filed = get-filed p.graph s.words holds.width in (
          hand_view opened ran (get_or s.words (filed_at p.graph) 0) (looks + 1),
          keeps,
          tt,
          record {
            plan = holds.plan;
            width = length-set s.words (filed_at p.graph) (get_or s.words (filed_at p.graph) 0) ∙ holds.width;
            story = holds.story;
            is = subst (λ (l : List ℕ). IsStory p (bank_of p.graph l) (set s.views id (hand_view opened ran (get_or s.words (filed_at p.graph) 0) (looks + 1))) holds.story) (sym (set-get_or s.words (filed_at p.graph) 0))
                (subst (λ n. IsStory p b (set s.views id (hand_view opened ran n (looks + 1))) holds.story) (sym found) (look-keeps p holds.plan b s.views holds.story holds.is id opened ran seen looks at));
          },
          (refl, record { state = s; holds = holds; id = id; knows = at; so = sym found }),
        )

    -- ---- a Job is taken in
    pub join-joins : (other : ℕ) (j : TaskView) (more : List ℕ) (n : ℕ) → j.number ≡ Some n → j.filed ≡ true → ((u : ℕ) → Contains (after_of p.graph j.task) u → is_listed j.released u ≡ true)
        → Joins {S = Unit {0}} (Holds p) id hand other (job_view j more) (joined_view hand (job_view j more)) no_view
    join-joins other j more n ended filed paid s holds at apart there =
        let b = bank_of p.graph s.words in
        let was : get_elem? s.views other ≡ some (job_view j more) = sym (set_else s.views id other (joined_view hand (job_view j more)) apart) ∙ there in
        record {
          plan = holds.plan;
          width = holds.width;
          story = join_story p holds.plan b s.views holds.story holds.is id opened ran seen looks at other j more apart was;
          is = join-keeps p holds.plan b s.views holds.story holds.is id opened ran seen looks at other j more apart was n ended filed paid;
        }

    -- ---- another hand is taken in
    pub gather-joins : (other : ℕ) (more : List ℕ) (done : List (ℕ × ℕ)) (saw looked : ℕ) → Joins {S = Unit {0}} (Holds p) id hand other (hand_view more done saw looked) (gathered_view hand (hand_view more done saw looked)) no_view
    gather-joins other more done saw looked s holds at apart there =
        let b = bank_of p.graph s.words in
        let was : get_elem? s.views other ≡ some (hand_view more done saw looked) = sym (set_else s.views id other (gathered_view hand (hand_view more done saw looked)) apart) ∙ there in
        record {
          plan = holds.plan;
          width = holds.width;
          story = gather_story p holds.plan b s.views holds.story holds.is id opened ran seen looks at other more done saw looked apart was;
          is = gather-keeps p holds.plan b s.views holds.story holds.is id opened ran seen looks at other more done saw looked apart was;
        }
