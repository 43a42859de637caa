use Rattle.std.proofs.Common.{◌≡◌, ◌++◌, drop}
use Rattle.std.specs.List.{flat_map}
use Rattle.pb_tuner.specs.Tuned.{extensions}
use Rattle.pb_tuner.proofs.candidates.add_of_sites.Given as goal

abbrev pub invariant-loop-site : goal.invariant-loop-site
invariant-loop-site l =
    l.all.items ++ flat_map (extensions l.size l.c) (drop l.site-index l.sites) ≡ l.initial.all.items ++ flat_map (extensions l.size l.c) l.sites
