use Rattle.std.proofs.Common.{◌≡◌, ◌++◌, drop}
use Rattle.std.specs.List.{flat_map}
use Rattle.pb_tuner.specs.Tuned.{candidates, extensions}
use Rattle.pb_tuner.proofs.candidates.candidates.Given as goal

abbrev pub invariant-loop-member : goal.invariant-loop-member
invariant-loop-member l =
    l.all.items ++ flat_map (λ c. flat_map (extensions l.size c) l.sites) (drop l.member-index l.population) ≡ candidates l.sites l.size l.population
