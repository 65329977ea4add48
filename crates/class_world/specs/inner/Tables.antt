-- Tables by number.
use Rattle.std.specs.Prelude.{Bool, ℕ, zero, suc, List, [], ◌∷◌, ◌++◌, length, map}
use Rattle.class_world.specs.World.{World, is_above}

-- the values of a function at the numbers below `n`, in order
unfoldable pub values_to : {A : Type 0} → (ℕ → A) → ℕ → List A
values_to f zero = []
values_to f (suc n) = values_to f n ++ f n ∷ []

-- the names of the classes of a world
abbrev pub names_of : World → List (List ℕ)
names_of world = map (λ c. c.name) world

-- for each class, which classes are above it
abbrev pub above_table : World → List (List Bool)
above_table world = values_to (λ a. values_to (is_above world a) (length world)) (length world)
