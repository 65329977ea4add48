-- The methods of a class that can be described, and which of them a word names.
use Rattle.std.specs.Prelude.{◌≡◌, ◌⊎◌, ℕ, Bool, not, ◌&&◌, List, [], ◌∷◌, ◌++◌, filter, slice_get, Some}
use Rattle.std.specs.List.{flat_map}
use Rattle.std.specs.Str.{bytes_eq}
use Rattle.class_base.specs.Flags.{is_abstract}
use Rattle.class_read.specs.Content.{ClassContent, MethodContent}
use Rattle.class_world.specs.Members.{initialiser_name}
use Rattle.class_calls.specs.declared.describe.methods.MethodNames.{MethodNames}

-- a method has inputs that can be described: it isn't abstract, and no class initializer
abbrev pub has_inputs : MethodContent → Bool
has_inputs m = not (is_abstract m.flags) && not (bytes_eq m.name initialiser_name)

-- ---- the list

-- a method's line: its name, behind it its descriptor, and a newline
abbrev pub method_line : MethodContent → List ℕ
method_line m = m.name ++ (m.desc ++ 10 ∷ [])

-- the lines of those methods of a class that have inputs, in the order of the class
abbrev pub method_lines : List MethodContent → List ℕ
method_lines methods = flat_map method_line (filter has_inputs methods)

-- ---- names

-- a word names a method: it is the method's name, or its name and behind it its descriptor
abbrev pub Names : List ℕ → List ℕ → List ℕ → Type 0
Names word name desc = (word ≡ name) ⊎ (word ≡ name ++ desc)

-- these are the names of a class, and of a method that a word names
pub record IsNamed (class : ClassContent) (word : List ℕ) (names : MethodNames) : Type 0 where
  pub class_is : names.class.now ≡ class.name
  pub named : Names word names.name.now names.desc.now

-- these are the names of the first of some classes, and of a method that a word names
pub record IsFirstNamed (classes : List ClassContent) (word : List ℕ) (names : MethodNames) : Type 0 where
  pub class : ClassContent
  pub first : slice_get classes 0 ≡ Some class
  pub named : IsNamed class word names
