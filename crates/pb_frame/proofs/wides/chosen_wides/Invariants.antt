use Rattle.std.proofs.Common.{◌≡◌}
use Rattle.std.specs.Prelude.{◌==◌, filter}
use Rattle.pb_frame.specs.declared.part.FramePart.{FramePart}
use Rattle.std.proofs.Common.{◌&&◌}
use Rattle.std.specs.List.{list_any, range_with_len}
use Rattle.pb_program.specs.Trees.{bare_transform}
use Rattle.pb_frame.specs.Frames.{is_wide_rule}
use Rattle.pb_frame.proofs.wides.chosen_wides.Given as goal

abbrev pub invariant-loop-k : goal.invariant-loop-k
invariant-loop-k l = l.rules.items ≡ filter (λ k. is_wide_rule (bare_transform l.transform) k && list_any (λ (part : FramePart). part.rule == k) l.parts) (range_with_len 0 l.k)
