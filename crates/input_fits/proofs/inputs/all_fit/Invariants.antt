use Rattle.class_world.specs.Worlds.{classes_of}
use Rattle.class_world.specs.WorldTypes.{types_of}
use Rattle.input_desc.specs.Fitting.{FitsInput}
use Rattle.input_fits.proofs.Pairing.{FirstMeet}
use Rattle.input_fits.proofs.inputs.all_fit.Given as goal

abbrev pub invariant-loop-n : goal.invariant-loop-n
invariant-loop-n l = FirstMeet (FitsInput (types_of (classes_of l.world)) l.heap) l.inputs l.values l.n
