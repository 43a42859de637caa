use Rattle.std.proofs.Common.{ℕ, ◌≤◌, take}
use Rattle.std.specs.List.{Contains}
use Rattle.pb_layers.proofs.components.least_of.Given as goal

abbrev pub invariant-loop-member : goal.invariant-loop-member
invariant-loop-member l = record { is_member : Contains l.members l.least; is_least : (v : ℕ) → Contains (take l.member-index l.members) v → l.least ≤ v }
