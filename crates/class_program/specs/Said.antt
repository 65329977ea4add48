-- What is said of a part of a program: what it is, or the first fault that it has.
use Rattle.std.specs.Prelude.{Result}
use Rattle.list_views.specs.Results as results
pub use Rattle.list_views.specs.Results.{◌>>=◌, unless, each}
use Rattle.class_world.specs.declared.fault.LinkFault.{LinkFault}
pub use Rattle.class_world.specs.Linking.{is_memory}

-- what a part of a program is, or the first fault of linking that it has
abbrev pub Said : Type 0 → Type 0
Said A = Result A LinkFault

-- what a call returned, seen by a view, is what is said of a part of a program, unless memory ran out
abbrev pub Says : {X Y : Type 0} → (X → Y) → Result X LinkFault → Said Y → Type 0
Says view answer said = results.Gives is_memory view answer said
