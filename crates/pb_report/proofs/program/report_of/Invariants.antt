use Rattle.std.proofs.Common.{◌≡◌, take}
use Rattle.pb_program.specs.Trees.{bare_prog}
use Rattle.pb_report.specs.Report.{report_text}
use Rattle.pb_report.proofs.program.report_of.Given as goal

abbrev pub invariant-loop-t : goal.invariant-loop-t
invariant-loop-t l = l.text.items ≡ report_text (take l.t (bare_prog l.p)) l.found
