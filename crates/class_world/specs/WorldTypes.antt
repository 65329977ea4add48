-- What a world tells of its types, as the machine's heaps ask for it.
use Rattle.std.specs.Prelude.{length}
use Rattle.jvm_values.specs.TypedHeaps.{WorldTypes}
use Rattle.class_world.specs.World.{World}
use Rattle.class_world.specs.Types.{is_sub, erase}
use Rattle.class_world.specs.Fields.{fields_of, can_be_made}

-- the order of a world's types, erasure, the number of classes, the fields of objects, and which classes have objects
abbrev pub types_of : World → WorldTypes
types_of world = record {
  sub = is_sub world;
  erase = erase world;
  classes = length world;
  fields = fields_of world;
  can_be_made =
      can_be_made world;
}
