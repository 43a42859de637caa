use Rattle.std.proofs.Common.{◌≡◌, ◌++◌, drop}
use Rattle.std.specs.List.{flat_map}
use Rattle.pb_program.specs.Trees.{bare_transform}
use Rattle.pb_report.specs.Report.{site_line}
use Rattle.pb_report.proofs.transform.write_sites.Given as goal

abbrev pub invariant-loop-site : goal.invariant-loop-site
invariant-loop-site l =
    let line = site_line (bare_transform l.transform) in
    l.text.items ++ flat_map line (drop l.site-index l.sites) ≡ l.fn.text.items ++ flat_map line l.sites
