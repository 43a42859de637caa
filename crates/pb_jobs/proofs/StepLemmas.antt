-- A job's cells, one after another: before each stop so many are written, and the walk stands before it.
use Rattle.std.proofs.Common.{◌≡◌, ◌∙◌, refl, sym, ap, subst, ℕ, ◌+◌, ◌<◌, List, length, drop, slice_get, Some, None, add-zero, arith}
use Rattle.std.specs.Prelude.{slice_index_or}
use Rattle.std.proofs.lemmas.List.{drop-drop}
use Rattle.std.proofs.lemmas.Option.{slice_get_within}
use Rattle.pb_values.specs.Cells.{Turn}
use Rattle.pb_values.specs.Views.{IsInside, cell_of}
use Rattle.pb_values.specs.declared.outcome.Outcome.{Outcome}
use Rattle.pb_values.specs.declared.view.View.{View}
use Rattle.pb_statements.specs.declared.scratch.Scratch.{Scratch}
use Rattle.pb_taskgraph.specs.Turns.{after_all, after_some, after_write}
use Rattle.pb_taskgraph.proofs.TurnLemmas.{slice_get-drop, some-all, some-more, some-none}
use Rattle.pb_walk.specs.declared.stop.Stop.{Stop}
use Rattle.pb_jobs.specs.Jobs.{IsNext}
use Rattle.pb_jobs.specs.Rooms.{SameRoom, rooms_of}
use Rattle.pb_jobs.specs.declared.scratch.RunScratch.{RunScratch}
use Rattle.pb_jobs.proofs.ListLemmas.{first_left, item_at, none_left, some_same}

-- so many cells are written, from this turn on, and these stops are left
pub record IsAmong (stops : List Stop) (start turn : Turn) (ahead : List Stop) : Type 0 where
  pub n : ℕ
  pub left : ahead ≡ drop n stops
  pub now : turn ≡ after_some n start

pub begun : (stops : List Stop) (start turn : Turn) (ahead : List Stop) → turn ≡ start → ahead ≡ stops → IsAmong stops start turn ahead
begun stops start turn ahead same e = record { n = 0; left = e; now = same ∙ sym (some-none start) }

pub next_left : (n : ℕ) (start : Turn) → slice_get (after_some n start).left 0 ≡ slice_get start.left n
unfolding after_some
next_left n start = slice_get-drop n 0 start.left ∙ ap (slice_get start.left) (add-zero n)

module _ {stops : List Stop} {start turn : Turn} {ahead : List Stop} (a : IsAmong stops start turn ahead) where
  pub ended : length start.left ≡ length stops → None ≡ slice_get ahead 0 → turn ≡ after_all start
  ended count none = a.now ∙ some-all start a.n (omega (arith, count, none_left stops ahead a.n a.left (sym none)))

  pub stop_at : (s : Stop) → Some s ≡ slice_get ahead 0 → slice_get stops a.n ≡ Some s
  stop_at s first = first_left stops ahead a.n s a.left (sym first)

  -- the next that may be written, whatever was read before, and then one cell more is
  module _ (cell : ℕ) (o : Outcome) (entry : slice_get start.left a.n ≡ Some (cell, o)) (read : Turn) (stays : read ≡ turn) where
    pub may : slice_get read.left 0 ≡ Some (cell, o)
    may = ap (λ (u : Turn). slice_get u.left 0) (stays ∙ a.now) ∙ next_left a.n start ∙ entry

    pub more : (new : Turn) (rest : List Stop) → new ≡ after_write read cell o → rest ≡ drop 1 ahead → IsAmong stops start new rest
    more new rest wrote e = record {
      n = a.n + 1;
      left = e ∙ ap (drop 1) a.left ∙ drop-drop 1 a.n stops;
      now = wrote ∙ ap (λ (u : Turn). after_write u cell o) (stays ∙ a.now) ∙ sym (some-more start a.n (cell, o) entry);
    }

-- ---- the cell at a stop
module _ {views : List View} {start : Turn} {n : ℕ} {s : Stop} {o : Outcome} (next : IsNext views start n s o) (held : List View) (same : held ≡ views) where
  pub base_there : s.base < length held
  base_there = omega (arith, slice_get_within views s.base next.view next.at, ap length same)

  module _ (w : View) (is : w ≡ slice_index_or held s.base w) where
    same_view : next.view ≡ w
    same_view = some_same next.view w (sym next.at ∙ item_at held views s.base w same (slice_get_within views s.base next.view next.at) is)

    pub inside : IsInside w.shape s.x s.y
    inside = subst (λ (q : View). IsInside q.shape s.x s.y) same_view next.inside

    pub entry : (cell : ℕ) → cell ≡ cell_of w s.x s.y → slice_get start.left n ≡ Some (cell, o)
    entry cell at = subst (λ (q : View). slice_get start.left n ≡ Some (cell_of q s.x s.y, o)) same_view next.next ∙ ap (λ m. Some (m, o)) (sym at)

-- ---- the room stays
pub same_rooms : (a b : RunScratch) → SameRoom a.rule.body b.rule.body → b.walk.room ≡ a.walk.room → rooms_of b ≡ rooms_of a
same_rooms a b same walk = let locals = same.locals in let outs = same.outs in λ i. record { locals = locals i; outs = outs i; pieces = walk i }

pub itself : (s : Scratch) → SameRoom s s
itself s = record { locals = refl; outs = refl }
