use Rattle.std.proofs.Common.{◌≡◌, map, take}
use Rattle.std.specs.Prelude.{filter, nat_eq}
use Rattle.pb_grid.specs.Lists.{firsts}
use Rattle.pb_grid.specs.Segments.{is_best}
use Rattle.pb_grid.proofs.segments.best.Given as goal

abbrev pub invariant-loop-holder : goal.invariant-loop-holder
invariant-loop-holder l = l.rules.items ≡ firsts nat_eq (map (λ h. h.rule) (filter (is_best l.holders) (take l.holder-index l.holders)))
