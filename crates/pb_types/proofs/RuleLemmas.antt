-- The rules of a transform as they are held, and as definitions see them.
use Rattle.std.proofs.Common.{◌≡◌, List, map}
use Rattle.std.specs.List.{flat_map}
use Rattle.std.proofs.lemmas.List.Folds.{flat_map-map}
use Rattle.pb_program.specs.Trees.{ProgTransform, bare_rule, bare_transform}
use Rattle.pb_program.specs.Transforms.{TransformValue}
use Rattle.pb_types.specs.Types.{rule_broken, transform_broken}
use Rattle.pb_types.specs.Working.{rule_in, transform_in}

pub rules_listed : (ts : List ProgTransform) (t : TransformValue) → transform_in ts t ≡ flat_map (rule_in ts t.matrices) t.rules
unfolding rule_in transform_in
rules_listed ts t = flat_map-map (rule_broken ts t.matrices) bare_rule t.rules

pub transforms_listed : (ts : List ProgTransform) (xs : List TransformValue) → flat_map (transform_broken ts) (map bare_transform xs) ≡ flat_map (transform_in ts) xs
unfolding transform_in
transforms_listed ts xs = flat_map-map (transform_broken ts) bare_transform xs
