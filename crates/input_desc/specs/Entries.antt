-- The methods that descriptions and states name.
use Rattle.std.specs.Prelude.{if◌then◌else◌, Option, Some, None, Result, Ok, Err}
use Rattle.class_world.specs.declared.world.MethodRef.{MethodRef}
use Rattle.class_world.specs.World.{World}
use Rattle.class_world.specs.Members.{find_method}
use Rattle.class_world.specs.Resolve.{has_body}
use Rattle.input_text.specs.declared.fault.DescFault.{DescFault}
use Rattle.input_text.specs.declared.fault.DescFault.TheVariants.{NoMethod, Abstract}
use Rattle.input_text.specs.declared.texts.EntryName.{EntryName}

-- a method that has a body, or the fault of one that is abstract or isn't there
abbrev pub with_body : World → Option MethodRef → Result MethodRef DescFault
with_body world (Some method) = if has_body world method then Ok method else Err Abstract
with_body world None = Err NoMethod

-- the entry method: the one that the class of that name declares with that name and descriptor, which isn't abstract
unfoldable pub entry_of : World → EntryName → Result MethodRef DescFault
entry_of world name = with_body world (find_method world name.class name.method name.desc)
