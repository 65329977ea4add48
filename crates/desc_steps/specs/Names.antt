-- The names of a world's classes, by which certificates name them.
use Rattle.std.specs.Prelude.{ℕ, List, map}
use Rattle.class_read.specs.Content.{ClassContent}
use Rattle.class_world.specs.World.{World}

-- the names of the classes of a world, in the order of their numbers
abbrev pub names_of : World → List (List ℕ)
names_of world = map (λ (class : ClassContent). class.name) world
