use Rattle.std.proofs.Common.{◌≡◌, ℕ, ◌<◌, IsTrue, length, pos, slice_index_or}
use Rattle.pb_linear.specs.Limits.{is_number}
use Rattle.pb_linear.specs.Numbers.{row_combination}
use Rattle.pb_linear.proofs.vform.VForm.put_row.Given as goal

abbrev pub invariant-loop-i : goal.invariant-loop-i
invariant-loop-i l =
    let exact = row_combination l.rest l.self.x l.x l.self.y l.y in
    record {
      full : length l.row ≡ 8;
      value : (k : ℕ) → k < l.i → slice_index_or l.row k (pos 0) ≡ slice_index_or exact k (pos 0);
      small : (k : ℕ) → k < l.i → IsTrue (is_number (slice_index_or exact k (pos 0)));
    }
