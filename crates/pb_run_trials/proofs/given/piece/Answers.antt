use Rattle.std.proofs.Common.{◌∙◌, refl, ap, List}
use Rattle.std.specs.List.{flat_map}
use Rattle.pb_values.specs.Views.{view_cells}
use Rattle.pb_taskgraph.specs.declared.task.Part.{Part}
use Rattle.pb_run_trials.proofs.GivenLemmas.{row_range}
use Rattle.pb_run_trials.proofs.given.piece.Goals as goal

pub returns : goal.returns
returns c = record {
  cells = ap (λ (ps : List Part). flat_map (λ (part : Part). view_cells part.view) ps) c.in_ok-vec.ensures.items ∙ row_range c.args.first c.args.width c.args.width;
  before = refl;
  after = refl;
}
