use Rattle.std.proofs.Common.{◌≡◌, ◌+◌, ◌<◌, ◌≤◌, ℕ, length, slice_index}
use Rattle.pb_linear.specs.Form.{numbers}
use Rattle.pb_linear.specs.Most.{FirstGreatest}
use Rattle.pb_linear.specs.Numbers.{part_of}
use Rattle.pb_linear.specs.declared.sizes.TheConstants.{SIZE_TOP}
use Rattle.pb_linear.proofs.form.Form.greatest_sizes.Given as goal

abbrev pub invariant-loop-i : goal.invariant-loop-i
invariant-loop-i l =
    record {
      full : length l.of ≡ 8;
      greatest : (k : ℕ) → k < l.i → FirstGreatest (part_of (numbers l.self) k) (slice_index l.ranges.least k) (SIZE_TOP + 1) (slice_index l.of k);
      rest : (k : ℕ) → l.i ≤ k → slice_index l.of k ≡ 0;
    }
