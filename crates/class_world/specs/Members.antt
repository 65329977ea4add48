-- Members of a class, found by name and descriptor (JVM specification, section 5.4.3).
use Rattle.std.specs.Prelude.{ℕ, ◌&&◌, Bool, if◌then◌else◌, List, slice_get, position, Option, None, option_and_then, codes}
use Rattle.std.specs.Option.{option_map}
use Rattle.std.specs.Str.{bytes_eq}
use Rattle.class_read.specs.Content.{MethodContent}
use Rattle.class_world.specs.declared.world.MethodRef.{MethodRef}
use Rattle.class_world.specs.World.{World, class_of}

-- a method has this name and this descriptor
abbrev pub is_method_named : List ℕ → List ℕ → MethodContent → Bool
is_method_named name desc m = bytes_eq name m.name && bytes_eq desc m.desc

-- the place among a class's methods of the one that it declares with that name and descriptor
unfoldable pub declared_method : World → ℕ → List ℕ → List ℕ → Option ℕ
declared_method world class name desc = option_and_then (λ c. position (is_method_named name desc) c.methods) (slice_get world class)

-- the name of static initialisers, `<clinit>` (JVM specification, section 2.9)
abbrev pub initialiser_name : List ℕ
initialiser_name = codes "<clinit>"

-- The method that the class of a name declares with that name and descriptor. Static initialisers are not found: a JVM alone invokes
-- them (JVM specification, section 2.9).
unfoldable pub find_method : World → List ℕ → List ℕ → List ℕ → Option MethodRef
find_method world class name desc =
    if bytes_eq name initialiser_name then None
    else option_and_then (λ n. option_map (λ i. record { class = n; index = i }) (declared_method world n name desc))
    (class_of world class)
