use Rattle.std.proofs.Common.{◌≡◌, ◌+◌, ◌*◌, ◌^◌, ◌≤◌, unsigned_abs}
use Rattle.pb_linear.specs.Form.{numbers}
use Rattle.pb_linear.specs.Numbers.{value_before}
use Rattle.pb_linear.specs.Sizes.{sizes_of}
use Rattle.pb_linear.proofs.form.Form.at.Given as goal

abbrev pub invariant-loop-i : goal.invariant-loop-i
invariant-loop-i l =
    record {
      value : l.sum ≡ value_before l.i (numbers l.self) (sizes_of l.s);
      near : unsigned_abs l.sum ≤ 2 ^ 26 + l.i * 2 ^ 48;
    }
