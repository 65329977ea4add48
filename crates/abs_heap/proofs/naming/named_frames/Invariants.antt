use Rattle.std.proofs.Common.{◌≡◌, map, take}
use Rattle.abs_heap.specs.Names.{name_in, frame_named}
use Rattle.abs_heap.proofs.naming.named_frames.Given as goal

abbrev pub invariant-loop-frame : goal.invariant-loop-frame
invariant-loop-frame l = l.named ≡ map (frame_named (name_in l.names)) (take l.frame-index l.frames)
