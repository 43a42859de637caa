use Rattle.std.proofs.Common.{◌≡◌, [], drop, map, take}
use Rattle.pb_cells.specs.Handles.{new_job}
use Rattle.pb_cells.specs.Views.{turns_view}
use Rattle.pb_cells.proofs.deal.deal_jobs.Given as goal

abbrev pub invariant-loop-place : goal.invariant-loop-place
invariant-loop-place g l = record {
  table : l.first.table_id ≡ l.cells;
  turns : l.first.me ≡ (turns_view (drop l.place l.ready), []);
  jobs : l.jobs.items ≡ map (new_job l.cells) (take l.place l.ready);
}
