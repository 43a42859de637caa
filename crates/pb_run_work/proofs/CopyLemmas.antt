-- A stop of a copy: its source is told, and has the outcome of the next cell.
use Rattle.std.proofs.Common.{◌≡◌, ◌∙◌, refl, sym, ap, subst, ℕ, ◌<◌, ◌-◌, ◌^◌, List, slice_get, Some}
use Rattle.std.specs.Option.{IsSome}
use Rattle.pb_values.specs.Cells.{Turn}
use Rattle.pb_values.specs.declared.outcome.Outcome.{Outcome}
use Rattle.pb_values.specs.declared.view.View.{View}
use Rattle.pb_views.specs.Seats.{cell_at}
use Rattle.pb_views.specs.declared.seat.Seat.{Seat}
use Rattle.pb_walk.specs.declared.stop.Stop.{Stop}
use Rattle.pb_jobs.specs.Jobs.{IsNext}
use Rattle.pb_jobs.proofs.ListLemmas.{some_same}
use Rattle.pb_jobs.proofs.StepLemmas.{IsAmong, stop_at}
use Rattle.pb_run_work.specs.Copies.{IsCopied, IsCopy, source_at}

module _ {views : List View} {corner : ℕ × ℕ} {source : Seat} {stops : List Stop} {start : Turn} (b : IsCopy views corner source stops start) {turn : Turn} {ahead : List Stop} (a : IsAmong stops start turn ahead) (s : Stop) (first : Some s ≡ slice_get ahead 0) where
  abbrev pub copied : IsCopied views corner source start a.n s
  copied = b.each a.n s (stop_at a s first)

  module _ (x y : ℕ) (x_is : x ≡ s.x - corner.0) (y_is : y ≡ s.y - corner.1) where
    same : cell_at source x y ≡ source_at corner source s
    same = λ i. cell_at source (x_is i) (y_is i)

    pub fits : cell_at source x y < 2 ^ 64
    fits = subst (λ n. n < 2 ^ 64) (sym same) copied.number

    module _ (c : ℕ) (is : c ≡ cell_at source x y) where
      told : turn.outcomes c ≡ Some copied.outcome
      told = ap turn.outcomes (is ∙ same) ∙ ap (λ (t : Turn). t.outcomes (source_at corner source s)) a.now ∙ copied.told

      pub may_read : IsSome (turn.outcomes c)
      may_read = let some : IsSome (Some copied.outcome) = refl in subst IsSome (sym told) some

      pub next : (o : Outcome) → turn.outcomes c ≡ Some o → IsNext views start a.n s o
      next o h = subst (IsNext views start a.n s) (some_same copied.outcome o (sym told ∙ h)) copied.next
