use Rattle.std.proofs.Common.{◌≡◌, ◌++◌, drop}
use Rattle.std.specs.List.{filter_map}
use Rattle.pb_config.specs.Extension.{extended}
use Rattle.pb_tuner.specs.Tuned.{extensions}
use Rattle.pb_tuner.proofs.candidates.add_of_site.Given as goal

abbrev pub invariant-loop-rule : goal.invariant-loop-rule
invariant-loop-rule l =
    l.all.items ++ filter_map (extended l.c l.site l.size) (drop l.rule-index l.site.set) ≡ l.initial.all.items ++ extensions l.size l.c l.site
