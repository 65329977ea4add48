-- What the lines of a survey say that begin with `YES`.
use Rattle.std.specs.Prelude.{◌≡◌, ◌==◌, ℕ, Bool, true, false, not, List, ◌++◌, slice_get, Some, Ok, IsTrue, is_some, codes}
use Rattle.std.specs.List.{list_all, AllByRecursion}
use Rattle.class_read.specs.Content.{ClassContent, MethodContent}
use Rattle.class_world.specs.declared.world.MethodRef.{MethodRef}
use Rattle.class_world.specs.World.{World}
use Rattle.class_world.specs.Members.{find_method}
use Rattle.input_text.specs.Answers.{SaysOf}
use Rattle.input_text.specs.Descriptions.{description_of}
use Rattle.input_text.specs.declared.texts.DescText.{DescText}
use Rattle.input_steps.specs.Classes.{AllSpell, IsWorldOf}
use Rattle.prove_call.specs.DescStepsHeadline.{AllEnd}
use Rattle.class_calls.specs.describe.Calls.{DescribesEntry}
use Rattle.survey.specs.declared.survey_notes.touching.Touched.{Touched}
use Rattle.survey.specs.Lines.{yes_line, is_plain, text_of}

-- What is surveyed: the bytes of the class files, and those of the descriptions that were handed in.
pub record Surveyed : Type 0 where
  pub files : List (List ℕ)
  pub descs : List (List ℕ)

-- ---- a method is proved

-- A description that leaves no input of a method out: the files spell classes, which make a world; the class of that name declares a
-- method of that name and descriptor; and this is a template of its program, as `describe` writes it (`IsTemplate` of `describe`).
pub record IsOpenText (files : List (List ℕ)) (class name desc text : List ℕ) : Type 0 where
  pub classes : List ClassContent
  pub spelled : AllSpell files classes
  pub world : World
  pub makes : IsWorldOf classes world
  pub entry : MethodRef
  pub found : find_method world class name desc ≡ Some entry
  pub described : DescribesEntry world entry text

-- a text is a description, and names a method
pub record NamesMethod (class name desc text : List ℕ) : Type 0 where
  pub said : DescText
  pub says : SaysOf description_of text (Ok said)
  pub class_is : said.entry.class ≡ class
  pub name_is : said.entry.method ≡ name
  pub desc_is : said.entry.desc ≡ desc

-- a text is one of the descriptions that were handed in, and names a method
pub record IsGivenText (descs : List (List ℕ)) (class name desc text : List ℕ) : Type 0 where
  pub place : ℕ
  pub among : slice_get descs place ≡ Some text
  pub names : NamesMethod class name desc text

-- the description under which a method is proved: one that was handed in, or the method's template
abbrev pub IsTextOf : Bool → Surveyed → List ℕ → List ℕ → List ℕ → List ℕ → Type 0
IsTextOf true s = IsGivenText s.descs
IsTextOf false s = IsOpenText s.files

-- The headline of `prove` for the method and that description (`AllEnd` of `desc_steps`): every state that it fits comes to a return,
-- or to a throw that nothing catches, and no state on the way is stuck.
pub record IsProved (s : Surveyed) (given : Bool) (class name desc : List ℕ) : Type 0 where
  pub text : List ℕ
  pub is : IsTextOf given s class name desc text
  pub ends : AllEnd s.files text

-- ---- lines

-- What a line that begins with `YES` says is true: it names a method, says under which description, and the method is
-- proved under that. None of the names has a blank, so that the words behind them are no part of one.
pub record HoldsYes (s : Surveyed) (line : List ℕ) : Type 0 where
  pub class : List ℕ
  pub name : List ℕ
  pub desc : List ℕ
  pub given : Bool
  pub touched : Touched
  pub is : line ≡ yes_line class name desc given touched
  pub plain : IsTrue (is_plain class) × (IsTrue (is_plain name) × IsTrue (is_plain desc))
  pub proved : IsProved s given class name desc

-- a line begins with `YES`
abbrev pub BeginsYes : List ℕ → Type 0
BeginsYes line = (rest : List ℕ) × (line ≡ codes "YES" ++ rest)

-- a line is true: no newline stands in it, and where it begins with `YES`, what it says is true
pub record IsTrueLine (s : Surveyed) (line : List ℕ) : Type 0 where
  pub one : IsTrue (list_all (λ b. not (b == 10)) line)
  pub holds : BeginsYes line → HoldsYes s line

-- a text of true lines, each ended by a newline
pub record AreTrue (s : Surveyed) (text : List ℕ) : Type 0 where
  pub lines : List (List ℕ)
  pub are : text ≡ text_of lines
  pub each : AllByRecursion (IsTrueLine s) lines

-- ---- the whole

-- a method that has code is proved, under one description or the other
abbrev pub IsProvedMethod : Surveyed → List ℕ → MethodContent → Type 0
IsProvedMethod s class m = IsTrue (is_some m.code) → (given : Bool) × IsProved s given class m.name m.desc

-- every method of a class that has code is proved
abbrev pub IsProvedClass : Surveyed → ClassContent → Type 0
IsProvedClass s class = AllByRecursion (IsProvedMethod s class.name) class.methods

-- the files spell classes, and every method with code of each class is proved
pub record AreAllProved (s : Surveyed) : Type 0 where
  pub classes : List ClassContent
  pub spelled : AllSpell s.files classes
  pub each : AllByRecursion (IsProvedClass s) classes
