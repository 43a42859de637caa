use Rattle.std.proofs.Common.{◌≡◌, [], map, drop}
use Rattle.pb_syntax.specs.Trees.{bare_transform}
use Rattle.pb_names.specs.Transforms.{first_names}
use Rattle.pb_resolve.proofs.program.all_names.Given as goal

abbrev pub invariant-loop-k : goal.invariant-loop-k
invariant-loop-k l = first_names l.k l.names (map bare_transform (drop l.k l.ts)) ≡ first_names 0 [] (map bare_transform l.ts)
