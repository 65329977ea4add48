-- Selection: which method a virtual or interface call runs, by the class of the receiver (JVM specification, section 6.5,
-- invokevirtual and invokeinterface), and the classes that a receiver can be of.
use Rattle.std.specs.Prelude.{ℕ, ◌&&◌, ◌||◌, not, Bool, false, if◌then◌else◌, List, length, Option, Some, None, option_and_then}
use Rattle.std.specs.List.{filter, range_with_len}
use Rattle.std.specs.Option.{option_map, option_map_or}
use Rattle.class_read.specs.Content.{MethodContent}
use Rattle.class_world.specs.declared.world.MethodRef.{MethodRef}
use Rattle.class_world.specs.World.{World, line_of, is_private, is_static, is_abstract}
use Rattle.class_world.specs.Types.{is_class_below}
use Rattle.class_world.specs.Fields.{can_be_made}
use Rattle.class_world.specs.Members.{declared_method}
use Rattle.class_world.specs.Resolve.{first_found, method_ref, method_at}

-- a method can be selected: it is an instance method and not private
abbrev pub is_selectable : MethodContent → Bool
is_selectable m = not (is_static m.flags || is_private m.flags)

-- the place of the method that a class declares with that name and descriptor, where it is neither static nor private
unfoldable pub selectable_method : World → ℕ → List ℕ → List ℕ → Option ℕ
selectable_method world class name desc =
    option_and_then (λ i. if option_map_or is_selectable (method_at world (method_ref (class, i))) false then Some i else None)
    (declared_method world class name desc)

-- The first declaration with that name and descriptor, neither static nor private, along the superclass chain of the
-- receiver's class. A package-private method counts as overridden from another package too.
unfoldable pub select : World → List ℕ → List ℕ → ℕ → Option MethodRef
select world name desc receiver = option_map method_ref (first_found (λ c. selectable_method world c name desc) (line_of world receiver))

-- what a call does once it knows its receiver's class
pub data Selection : Type 0 where
  -- it runs this method
  Runs : MethodRef → Selection
  -- it throws AbstractMethodError
  Lacks : Selection
  -- it throws IncompatibleClassChangeError
  Unfit : Selection

-- a reference stands for a method that is abstract
abbrev pub is_abstract_method : World → MethodRef → Bool
is_abstract_method world ref = option_map_or (λ m. is_abstract m.flags) (method_at world ref) false

-- What a call does once selection has found a declaration, or none: it runs the method where that has a body. Without a declaration,
-- and of one without a body, it throws AbstractMethodError (JVM specification, section 6.5, invokevirtual).
abbrev pub selection_of : World → Option MethodRef → Selection
selection_of world (Some ref) = if is_abstract_method world ref then Lacks else Runs ref
selection_of world None = Lacks

-- what `invokevirtual` of a method with that name and descriptor does on an object of a class
unfoldable pub selected_virtual : World → List ℕ → List ℕ → ℕ → Selection
selected_virtual world name desc receiver = selection_of world (select world name desc receiver)

-- what `invokeinterface` does: the class of the object must have the named interface
unfoldable pub selected_interface : World → ℕ → List ℕ → List ℕ → ℕ → Selection
selected_interface world named name desc receiver =
    if is_class_below world receiver named then selected_virtual world name desc receiver else Unfit

-- objects of a class can be receivers of calls that name a class or interface: it can be made, and is the named one or below it
abbrev pub is_receiver : World → ℕ → ℕ → Bool
is_receiver world named class = can_be_made world class && is_class_below world class named

-- the numbers, rising, of the classes that can be made and are the named class or interface or below it
unfoldable pub receivers : World → ℕ → List ℕ
receivers world named = filter (is_receiver world named) (range_with_len 0 (length world))
