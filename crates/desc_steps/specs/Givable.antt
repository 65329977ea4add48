-- Which inputs a state can give at all.
use Rattle.std.specs.Prelude.{◌≡◌, ◌⊎◌, IsTrue}
use Rattle.jvm_values.specs.declared.types.Base.{Base}
use Rattle.jvm_values.specs.declared.types.Base.TheVariants.{Class, Num}
use Rattle.jvm_values.specs.declared.types.Ty.{Ty}
use Rattle.class_world.specs.Fields.{can_be_made}
use Rattle.class_world.specs.Types.{is_sub}
use Rattle.class_world.specs.World.{World}
use Rattle.input_desc.specs.declared.desc.Input.{Input}
use Rattle.input_desc.specs.declared.desc.Input.TheVariants as inputs

-- an object can be of a class: the class can be made; numbers are no objects
abbrev pub IsMade : World → Base → Type 0
IsMade world (Class class) = IsTrue (can_be_made world class)
IsMade world (Num kind) = ⊥

-- there are objects of exactly this type: of each array type, and of a class that can be made
abbrev pub HasObjects : World → Ty → Type 0
HasObjects world t = t.dims ≡ 0 → IsMade world t.base

-- An input can be given where it is an int (no interval of a description is empty), where it may be null, or where there are objects of
-- its type or of one below it. Every shape allows one: a new object reaches itself alone.
abbrev pub CanBeGiven : World → Input → Type 0
CanBeGiven world (inputs.Int interval) = Unit {0}
CanBeGiven world (inputs.Ref ty null shape) = IsTrue null ⊎ ((t : Ty) × (IsTrue (is_sub world t ty) × HasObjects world t))
