use Rattle.std.proofs.Common.{◌≡◌, ◌+◌, ◌-◌, ◌≤◌, vec_len}
use Rattle.pb_outside.specs.Count.{RoseBy}
use Rattle.pb_outside.proofs.file_shelf.FileShelfShelf.take.Given as goal

abbrev pub invariant-reads : goal.invariant-reads
invariant-reads g l =
    record {
      few : vec_len l.bytes ≤ l.limit + 1;
      taken : RoseBy (vec_len l.bytes) l.fn.self.taken l.self-inside.taken;
      faults : l.self-inside.faults ≡ l.fn.self.faults;
    }

abbrev pub decreases-reads : goal.decreases-reads
decreases-reads g l = l.limit + 1 - vec_len l.bytes
