use Rattle.std.proofs.Common.{◌≡◌, ◌++◌, ◌-◌, length, map, take, replicate}
use Rattle.jvm_values.specs.declared.typing.PlaceType.TheVariants as places
use Rattle.class_program.specs.class_world.Worlds.{classes_of}
use Rattle.class_program.specs.class_world.WorldTypes.{types_of}
use Rattle.code_verify.specs.Operands.{place_of}
use Rattle.code_verify.proofs.method.entry_frame.Given as goal

abbrev pub invariant-loop-slot : goal.invariant-loop-slot
invariant-loop-slot l = l.locals ≡ map (place_of (types_of (classes_of l.world))) (take l.slot-index l.method.params)

abbrev pub invariant-loop : goal.invariant-loop
invariant-loop l = l.locals ≡ map (place_of (types_of (classes_of l.world))) l.method.params ++ replicate
    (l.counter - length l.method.params) places.Unset
