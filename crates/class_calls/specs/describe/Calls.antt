-- What is answered for class files.
use Rattle.std.specs.Prelude.{◌≡◌, ℕ, List, slice_get, Some}
use Rattle.class_read.specs.Content.{ClassContent}
use Rattle.class_world.specs.declared.world.MethodRef.{MethodRef}
use Rattle.class_world.specs.World.{World}
use Rattle.class_world.specs.Members.{find_method}
use Rattle.class_program.specs.Programs.{Program}
use Rattle.input_steps.specs.Classes.{AllSpell, IsWorldOf}
use Rattle.input_steps.specs.Programs.{IsProgramOf}
use Rattle.class_calls.specs.declared.describe.methods.MethodNames.{MethodNames}
use Rattle.class_calls.specs.describe.Methods.{method_lines, IsFirstNamed}
use Rattle.class_calls.specs.describe.Templates.{IsTemplate}

-- the files spell classes, and these are the lines of the first one's methods
pub record ListsMethods (files : List (List ℕ)) (lines : List ℕ) : Type 0 where
  pub classes : List ClassContent
  pub spelled : AllSpell files classes
  pub class : ClassContent
  pub first : slice_get classes 0 ≡ Some class
  pub lines_are : lines ≡ method_lines class.methods

-- a text is a template of the program of an entry of a world
pub record DescribesEntry (world : World) (entry : MethodRef) (text : List ℕ) : Type 0 where
  pub p : Program
  pub program : IsProgramOf world entry p
  pub template : IsTemplate p text

-- a word names a method of the first class in the world that the classes make, and its program has this template
pub record DescribesIn (classes : List ClassContent) (word text : List ℕ) : Type 0 where
  pub world : World
  pub makes : IsWorldOf classes world
  pub names : MethodNames
  pub named : IsFirstNamed classes word names
  pub entry : MethodRef
  pub found : find_method world names.class.now names.name.now names.desc.now ≡ Some entry
  pub described : DescribesEntry world entry text

-- what `describe` answers for class files and a word: the files spell classes, in which the word names a method with
-- this template
pub record Describes (files : List (List ℕ)) (word text : List ℕ) : Type 0 where
  pub classes : List ClassContent
  pub spelled : AllSpell files classes
  pub described : DescribesIn classes word text
