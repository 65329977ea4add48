use Rattle.std.proofs.Common.{◌≡◌, drop}
use Rattle.std.specs.List.{list_all}
use Rattle.class_world.specs.Worlds.{classes_of}
use Rattle.class_world.specs.WorldTypes.{types_of}
use Rattle.input_desc.specs.Typed.{has_type}
use Rattle.input_desc.proofs.typed.have_type.Given as goal

abbrev pub invariant-loop-value : goal.invariant-loop-value
invariant-loop-value l = list_all (has_type (types_of (classes_of l.world)) l.objects l.t) (drop l.value-index l.values) ≡ list_all
    (has_type (types_of (classes_of l.world)) l.objects l.t) l.values
