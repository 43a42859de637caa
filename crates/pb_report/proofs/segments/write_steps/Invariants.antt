use Rattle.std.proofs.Common.{◌≡◌, ◌++◌, drop}
use Rattle.std.specs.List.{flat_map}
use Rattle.pb_report.specs.Report.{step_text}
use Rattle.pb_report.proofs.segments.write_steps.Given as goal

abbrev pub invariant-loop-step : goal.invariant-loop-step
invariant-loop-step l = l.text.items ++ flat_map step_text (drop l.step-index l.steps) ≡ l.fn.text.items ++ flat_map step_text l.steps
