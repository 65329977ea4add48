-- What is answered for class files, put together.
use Rattle.std.proofs.Common.{◌≡◌, ℕ, List, Some}
use Rattle.std.specs.Prelude.{slice_get}
use Rattle.class_read.specs.Content.{ClassContent}
use Rattle.class_world.specs.declared.world.MethodRef.{MethodRef}
use Rattle.class_world.specs.World.{World}
use Rattle.class_world.specs.Members.{find_method}
use Rattle.class_program.specs.Programs.{Program}
use Rattle.input_steps.specs.Classes.{AllSpell, IsWorldOf}
use Rattle.input_steps.specs.Programs.{IsProgramOf}
use Rattle.class_calls.specs.declared.describe.methods.MethodNames.{MethodNames}
use Rattle.class_calls.specs.describe.Methods.{method_lines, Names, IsNamed, IsFirstNamed}
use Rattle.class_calls.specs.describe.Templates.{IsTemplate}
use Rattle.class_calls.specs.describe.Calls.{ListsMethods, DescribesEntry, DescribesIn, Describes}

pub is_named_one : (class : ClassContent) (word : List ℕ) (names : MethodNames) → names.class.now ≡ class.name
    → Names word names.name.now names.desc.now → IsNamed class word names
is_named_one class word names e named = record { class_is = e; named = named }

pub is_first_one : (classes : List ClassContent) (word : List ℕ) (names : MethodNames) (class : ClassContent)
    → slice_get classes 0 ≡ Some class → IsNamed class word names → IsFirstNamed classes word names
is_first_one classes word names class first named = record { class = class; first = first; named = named }

pub lists : (files : List (List ℕ)) (classes : List ClassContent) (class : ClassContent) (lines : List ℕ) → AllSpell files classes
    → slice_get classes 0 ≡ Some class → lines ≡ method_lines class.methods → ListsMethods files lines
lists files classes class lines spelled first are = record
    { classes = classes; spelled = spelled; class = class; first = first; lines_are = are }

pub entry_described : (world : World) (entry : MethodRef) (p : Program) (text : List ℕ) → IsProgramOf world entry p
    → IsTemplate p text → DescribesEntry world entry text
entry_described world entry p text program template = record { p = p; program = program; template = template }

pub in_described : (classes : List ClassContent) (word text : List ℕ) (world : World) (names : MethodNames) (entry : MethodRef)
    → IsWorldOf classes world → IsFirstNamed classes word names
    → find_method world names.class.now names.name.now names.desc.now ≡ Some entry → DescribesEntry world entry text
    → DescribesIn classes word text
in_described classes word text world names entry makes named found described = record
    { world = world; makes = makes; names = names; named = named; entry = entry; found = found; described = described }

pub files_described : (files : List (List ℕ)) (classes : List ClassContent) (word text : List ℕ) → AllSpell files classes
    → DescribesIn classes word text → Describes files word text
files_described files classes word text spelled described = record { classes = classes; spelled = spelled; described = described }
