-- What is said of one method, put together.
use Rattle.std.proofs.Common.{◌≡◌, ℕ, zero, suc, ◌<◌, ◌≤◌, true, false, List, [], ◌∷◌, length, map, get_or, slice_get, Some, sym, ap, arith}
use Rattle.std.specs.Global.{Vec}
use Rattle.std.specs.List.{AllByRecursion}
use Rattle.std.proofs.lemmas.List.{length-map}
use Rattle.class_base.specs.Limits.{most_classes}
use Rattle.class_read.specs.Content.{ClassContent}
use Rattle.class_world.specs.declared.world.MethodRef.{MethodRef}
use Rattle.class_world.specs.Linking.{CanBeRead}
use Rattle.class_world.specs.World.{World}
use Rattle.class_world.specs.Members.{find_method}
use Rattle.class_program.specs.Programs.{Program}
use Rattle.input_steps.specs.Classes.{AllSpell, IsWorldOf}
use Rattle.input_steps.specs.Programs.{IsProgramOf}
use Rattle.input_steps.proofs.Files.{spell_length, spell_read}
use Rattle.prove_call.specs.DescStepsHeadline.{AllEnd}
use Rattle.class_calls.specs.describe.Templates.{IsTemplate}
use Rattle.survey.specs.Claims.{Surveyed, NamesMethod, IsGivenText, IsOpenText, IsProved}
use Rattle.survey.specs.inner.Wording.{IsMethodProgram}

-- ---- files and their classes

pub few_classes : (files : List (Vec ℕ)) (classes : List ClassContent) → AllSpell (map (λ (file : Vec ℕ). file.items) files) classes
    → length files ≤ most_classes → length classes ≤ most_classes
few_classes files classes spelled few =
    let read = spell_length (map (λ (file : Vec ℕ). file.items) files) classes spelled in
    let same = length-map files (λ (file : Vec ℕ). file.items) in
    omega (arith, read, same, few)

pub classes_read : (files : List (List ℕ)) (classes : List ClassContent) → AllSpell files classes → AllByRecursion CanBeRead classes
classes_read files classes spelled = spell_read files classes spelled

-- ---- a method's program

pub method_program : (files : List (List ℕ)) (class name desc : List ℕ) (classes : List ClassContent) (world : World) (entry : MethodRef)
    (p : Program) → AllSpell files classes → IsWorldOf classes world → find_method world class name desc ≡ Some entry
    → IsProgramOf world entry p → IsMethodProgram files class name desc p
method_program files class name desc classes world entry p spelled makes found program = record {
  classes = classes;
  spelled = spelled;
  world = world;
  makes = makes;
  entry = entry;
  found = found;
  program = program;
}

-- ---- its description

get_desc : (descs : List (Vec ℕ)) (i : ℕ) (text : Vec ℕ) → i < length descs → text ≡ get_or descs i text
    → slice_get (map (λ (desc : Vec ℕ). desc.items) descs) i ≡ Some text.items
get_desc [] i text l e = absurd (omega (arith, l))
get_desc (desc ∷ descs) zero text l e = ap (λ (x : Vec ℕ). Some x.items) (sym e)
get_desc (desc ∷ descs) (suc i) text l e = get_desc descs i text (omega (arith, l)) e

pub is_given : (descs : List (Vec ℕ)) (i : ℕ) (text : Vec ℕ) (class name desc : List ℕ) → i < length descs → text ≡ get_or descs i text
    → NamesMethod class name desc text.items → IsGivenText (map (λ (desc : Vec ℕ). desc.items) descs) class name desc text.items
is_given descs i text class name desc l e names = record { place = i; among = get_desc descs i text l e; names = names }

pub is_open : (files : List (List ℕ)) (class name desc text : List ℕ) (p : Program) → IsMethodProgram files class name desc p
    → IsTemplate p text → IsOpenText files class name desc text
is_open files class name desc text p program template = record {
  classes = program.classes;
  spelled = program.spelled;
  world = program.world;
  makes = program.makes;
  entry = program.entry;
  found = program.found;
  described = record { p = p; program = program.program; template = template };
}

-- ---- it is proved under it

pub proved_as_given : (s : Surveyed) (class name desc text : List ℕ) → IsGivenText s.descs class name desc text → AllEnd s.files text
    → IsProved s true class name desc
proved_as_given s class name desc text given ends = record { text = text; is = given; ends = ends }

pub proved_as_open : (s : Surveyed) (class name desc text : List ℕ) → IsOpenText s.files class name desc text → AllEnd s.files text
    → IsProved s false class name desc
proved_as_open s class name desc text opened ends = record { text = text; is = opened; ends = ends }
