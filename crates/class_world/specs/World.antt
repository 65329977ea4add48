-- A world: the classes that a program can speak of, each under its number (JVM specification, sections 2.10 and 5.3).
--
-- The built-in classes have the numbers 0 to 14. They are the classes of `java.lang` that instructions throw, with
-- those above them (Java SE 8). Given classes are numbered from 15 on, in their order. A world is the list of its
-- classes; nothing here knows of an index of names.
use Rattle.std.specs.Prelude.{ℕ, zero, suc, ◌==◌, ◌||◌, Bool, false, if◌then◌else◌, List, [], ◌∷◌, ◌++◌, length, slice_get}
use Rattle.std.specs.Prelude.{position, map, Option, Some, None, option_and_then, codes, filter_map}
use Rattle.std.specs.List.{list_any}
use Rattle.std.specs.Option.{option_map_or}
use Rattle.std.specs.Str.{bytes_eq}
use Rattle.class_read.specs.Content.{ClassContent, MethodContent}
pub use Rattle.code_forms.specs.class_base.Flags.{has_flag, is_private, is_static, is_synchronized, is_native, is_interface, is_abstract}

-- ---- the built-in classes

-- `<init>()V` of a built-in class: `return` alone, for one local, the receiver
abbrev pub built_in_init : MethodContent
built_in_init = record {
  flags = 0x0001;
  name = codes "<init>";
  desc = codes "()V";
  code = Some (record { max_stack = 0; max_locals = 1; code = 177 ∷ []; table = [] });
}

-- A built-in class and its superclass. It is public, has no interfaces and no fields, and one method.
abbrev pub built_in : List ℕ → List ℕ → ClassContent
built_in name super_name = record {
  major = 50;
  flags = 0x0021;
  name = name;
  super_name = super_name;
  interfaces = [];
  fields = [];
  methods = built_in_init ∷ [];
  pool = [];
}

-- the names of the built-in classes, from number 0 to 14, each with the name of its superclass; Object has none
unfoldable pub built_in_names : List (List ℕ × List ℕ)
built_in_names =
    (codes "java/lang/Object", [])
    ∷ (codes "java/lang/Throwable", codes "java/lang/Object")
    ∷ (codes "java/lang/Exception", codes "java/lang/Throwable")
    ∷ (codes "java/lang/RuntimeException", codes "java/lang/Exception")
    ∷ (codes "java/lang/NullPointerException", codes "java/lang/RuntimeException")
    ∷ (codes "java/lang/ArithmeticException", codes "java/lang/RuntimeException")
    ∷ (codes "java/lang/IndexOutOfBoundsException", codes "java/lang/RuntimeException")
    ∷ (codes "java/lang/ArrayIndexOutOfBoundsException", codes "java/lang/IndexOutOfBoundsException")
    ∷ (codes "java/lang/NegativeArraySizeException", codes "java/lang/RuntimeException")
    ∷ (codes "java/lang/ClassCastException", codes "java/lang/RuntimeException")
    ∷ (codes "java/lang/ArrayStoreException", codes "java/lang/RuntimeException")
    ∷ (codes "java/lang/Error", codes "java/lang/Throwable")
    ∷ (codes "java/lang/LinkageError", codes "java/lang/Error")
    ∷ (codes "java/lang/IncompatibleClassChangeError", codes "java/lang/LinkageError")
    ∷ (codes "java/lang/AbstractMethodError", codes "java/lang/IncompatibleClassChangeError")
    ∷ []

-- the built-in classes, in the order of their numbers
abbrev pub built_ins : List ClassContent
built_ins = map (λ n. built_in n.0 n.1) built_in_names

-- ---- worlds

-- a world, as the list of its classes: the number of a class is its place in the list
abbrev pub World : Type 0
World = List ClassContent

-- the world of the given classes: the built-in classes and then the given ones
abbrev pub world_of : List ClassContent → World
world_of given = built_ins ++ given

-- the number of the class of a name, the first of that name
abbrev pub class_of : World → List ℕ → Option ℕ
class_of world name = position (λ class. bytes_eq name class.name) world

-- a class that may be missing, as a list of one class or of none
abbrev pub listed : Option ℕ → List ℕ
listed (Some class) = class ∷ []
listed None = []

-- the direct superclass of a class; class 0, Object, has none
abbrev pub super_of : World → ℕ → Option ℕ
super_of world class =
    if class == 0 then None else option_and_then (λ c. class_of world c.super_name) (slice_get world class)

-- the direct superinterfaces of a class, in their order
abbrev pub interfaces_of : World → ℕ → List ℕ
interfaces_of world class = option_map_or (λ c. filter_map (class_of world) c.interfaces) (slice_get world class) []

-- what a class directly extends or implements: its superclass and its superinterfaces
unfoldable pub supers_of : World → ℕ → List ℕ
supers_of world class = listed (super_of world class) ++ interfaces_of world class

-- whether a class is an interface
unfoldable pub is_interface_class : World → ℕ → Bool
is_interface_class world class = option_map_or (λ c. is_interface c.flags) (slice_get world class) false

-- Class `b` can be reached from class `a` by at least one and at most so many steps, each from a class to one of those that `up` has
-- for it.
abbrev pub leads_up : (ℕ → List ℕ) → ℕ → ℕ → ℕ → Bool
leads_up up zero a b = false
leads_up up (suc steps) a b = list_any (λ c. (b == c) || leads_up up steps c b) (up a)

-- Class `b` is a superclass or superinterface of class `a`, over one or more steps. A way that comes to no class twice
-- has at most as many steps as there are classes.
unfoldable pub is_above : World → ℕ → ℕ → Bool
is_above world a b = leads_up (supers_of world) (length world) a b

-- a class, its superclass, the superclass of that one, and so on, up to so many classes
abbrev pub line_from : (ℕ → Option ℕ) → ℕ → ℕ → List ℕ
line_from super zero class = []
line_from super (suc most) class = class ∷ option_map_or (line_from super most) (super class) []

-- the superclass chain of a class: the class itself first, and the topmost class, Object, last
unfoldable pub line_of : World → ℕ → List ℕ
line_of world class = line_from (super_of world) (length world) class
