use Rattle.std.proofs.Common.{◌≡◌, ◌≤◌, ◌-◌, length, take}
use Rattle.std.specs.Io.KnownBytes.{Appends}
use Rattle.io_ports.proofs.std_sink.StdSinkSink.put.Given as goal

-- the writer took the bytes that are done, and no call has failed
abbrev pub invariant-loop-done : goal.invariant-loop-done
invariant-loop-done g l = record {
  within : l.done ≤ length l.bytes;
  taken : Appends (g.W.Write.contents l.initial.self.writer) (g.W.Write.contents l.self.writer) (take l.done l.bytes);
  faults : l.self.faults ≡ l.initial.self.faults;
}

abbrev pub decreases-loop-done : goal.decreases-loop-done
decreases-loop-done g l = length l.bytes - l.done
