use Rattle.std.proofs.Common.{take}
use Rattle.std.specs.Prelude.{All}
use Rattle.prove_core.specs.Stored.{IsStoredFrame}
use Rattle.prove_core.proofs.stored.frames_are_stored.Given as goal

abbrev pub invariant-loop-one : goal.invariant-loop-one
invariant-loop-one l = All IsStoredFrame (take l.one-index l.frames)
