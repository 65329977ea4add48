use Rattle.std.proofs.Common.{◌≡◌, ◌++◌, drop}
use Rattle.class_world.specs.Worlds.{classes_of}
use Rattle.input_desc.specs.Descs.{inputs_from}
use Rattle.input_desc.proofs.fit.inputs_from.Given as goal

abbrev pub invariant-loop-n : goal.invariant-loop-n
invariant-loop-n l = l.found ++ inputs_from (classes_of l.world) (drop l.n l.wanted) (drop l.n l.texts) ≡ inputs_from
    (classes_of l.world) l.wanted l.texts
