-- What the classes of a world select, in rows: one for each method that a call names, and in it, by the class's number, what
-- an object of the class runs by that method's name and descriptor.
use Rattle.std.specs.Prelude.{◌≡◌, ℕ, List, slice_get, Option, Some}
use Rattle.std.specs.Map.{lookup}
use Rattle.class_world.specs.class_read.Content.{MethodContent}
use Rattle.class_world.specs.declared.world.MethodRef.{MethodRef}
use Rattle.class_world.specs.World.{World}
use Rattle.class_world.specs.Resolve.{method_at}
use Rattle.class_world.specs.Select.{select}
use Rattle.class_program.specs.Reached.{same_method}

-- rows, each under its method
abbrev pub Rows : Type 0
Rows = List (MethodRef × List (Option MethodRef))

-- each class that has a place in the row has there what it selects
abbrev pub IsRow : World → MethodContent → List (Option MethodRef) → Type 0
IsRow world m row = (class : ℕ) (selected : Option MethodRef) → slice_get row class ≡ Some selected
    → selected ≡ select world m.name m.desc class

-- every row is right for the method that it is found by
abbrev pub AreRows : World → Rows → Type 0
AreRows world rows = (ref : MethodRef) (m : MethodContent) (row : List (Option MethodRef)) → method_at world ref ≡ Some m
    → lookup (same_method ref) rows ≡ Some row → IsRow world m row
