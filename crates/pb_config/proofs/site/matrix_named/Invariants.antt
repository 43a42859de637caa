use Rattle.std.proofs.Common.{◌≡◌, drop}
use Rattle.std.specs.List.{position_from}
use Rattle.std.specs.Str.{bytes_eq}
use Rattle.pb_program.specs.Trees.{bare_transform}
use Rattle.pb_config.specs.Reading.{matrix_named}
use Rattle.pb_config.proofs.site.matrix_named.Given as goal

abbrev pub invariant-loop-k : goal.invariant-loop-k
invariant-loop-k l =
    position_from (λ d. bytes_eq l.name d.name.bytes) l.k (drop l.k l.t.matrices) ≡ matrix_named l.name (bare_transform l.t)
