-- What a world seeks class by class: a field, a method, or a method that can be selected.
use Rattle.std.specs.Prelude.{ℕ, List, Option}
use Rattle.class_world.specs.declared.resolve.Wanted.{Wanted}
use Rattle.class_world.specs.declared.resolve.Wanted.TheVariants.{Field, Method, Selectable}
use Rattle.class_world.specs.World.{World}
use Rattle.class_world.specs.Members.{declared_method}
use Rattle.class_world.specs.Resolve.{found_field}
use Rattle.class_world.specs.Select.{selectable_method}

-- the place in its file of what is sought, where a class declares it
abbrev pub place_in : World → Wanted → List ℕ → List ℕ → ℕ → Option ℕ
place_in world Field name desc class = found_field world class name desc
place_in world Method name desc class = declared_method world class name desc
place_in world Selectable name desc class = selectable_method world class name desc
