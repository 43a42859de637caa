use Rattle.std.proofs.Common.{◌≡◌, drop}
use Rattle.std.specs.List.{flat_map}
use Rattle.pb_types.specs.Least.{least, least_of}
use Rattle.pb_types.specs.Plans.{term_broken}
use Rattle.pb_types.proofs.plan.terms.Given as goal

abbrev pub invariant-loop-next : goal.invariant-loop-next
invariant-loop-next l = least l.found (least_of (flat_map term_broken (drop l.next-index l.terms))) ≡ least_of (flat_map term_broken l.terms)
