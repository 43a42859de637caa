use Rattle.std.proofs.Common.{◌≡◌, drop, map}
use Rattle.std.specs.List.{position_from}
use Rattle.std.specs.Str.{bytes_eq}
use Rattle.pb_program.specs.Trees.{bare_transform}
use Rattle.pb_config.specs.Reading.{transform_named}
use Rattle.pb_config.proofs.site.transform_named.Given as goal

abbrev pub invariant-loop-k : goal.invariant-loop-k
invariant-loop-k l =
    position_from (λ t. bytes_eq l.name t.name.bytes) l.k (map bare_transform (drop l.k l.p)) ≡ transform_named l.name (map bare_transform l.p)
