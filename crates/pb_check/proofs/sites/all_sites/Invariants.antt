use Rattle.std.proofs.Common.{◌≡◌, take}
use Rattle.pb_program.specs.Trees.{bare_prog}
use Rattle.pb_check.specs.Sites.{all_sites}
use Rattle.pb_check.proofs.sites.all_sites.Given as goal

abbrev pub invariant-loop-t : goal.invariant-loop-t
invariant-loop-t l = l.sites.items ≡ all_sites (take l.t (bare_prog l.p)) l.found
