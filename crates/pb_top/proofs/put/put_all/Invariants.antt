use Rattle.std.proofs.Common.{◌≡◌, ◌≤◌, ◌-◌, length, take}
use Rattle.pb_outside.specs.Sink.{told_with}
use Rattle.pb_top.proofs.put.put_all.Given as goal

abbrev pub invariant-puts : goal.invariant-puts
invariant-puts g l =
    record {
      few : l.done ≤ length l.text;
      gained : g.S.Sink.written l.sink ≡ told_with (take l.done l.text) (g.S.Sink.written l.fn.sink);
      faults : g.S.Sink.faults l.sink ≡ g.S.Sink.faults l.fn.sink;
    }

abbrev pub decreases-puts : goal.decreases-puts
decreases-puts g l = length l.text - l.done
