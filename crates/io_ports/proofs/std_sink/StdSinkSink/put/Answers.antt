use Rattle.std.proofs.Common.{arith, length-take, length-drop}
use Rattle.io_ports.proofs.KnownBytes.{more_taken}
use Rattle.io_ports.proofs.std_sink.StdSinkSink.put.Goals as goal

pub loop-done-preserved : goal.loop-done-preserved
loop-done-preserved g c = record {
  within = grind (arith, length-take, length-drop);
  taken = more_taken _ _ _ _ _ _ c.loop-done.invariant.taken c.in-Ok.ensures.bytes;
  faults = c.loop-done.invariant.faults;
}
