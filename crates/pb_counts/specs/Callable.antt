-- What every call that takes a transform asks of it; a transform of a well-formed program has it.
use Rattle.std.specs.Prelude.{◌≡◌, ◌≤◌, ◌+◌, length}
use Rattle.pb_syntax.specs.declared.limits.TheConstants.{MOST_SIZES}
use Rattle.pb_program.specs.Trees.{ProgTransform}

-- there are few sizes and a range for each, and the matrices after `from` and `through` are there
pub record IsCallable (t : ProgTransform) : Type 0 where
  pub few : length t.sizes ≤ MOST_SIZES
  pub ranges : t.ranges.count ≡ length t.sizes
  pub parts : t.inputs + t.middles ≤ length t.matrices
