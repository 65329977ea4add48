-- Words for inner calls.
use Rattle.std.specs.Prelude.{◌≡◌, ◌⊎◌, ℕ, List, [], ◌∷◌, ◌++◌, map, Some, codes}
use Rattle.std.specs.Global.{Vec}
use Rattle.class_read.specs.Content.{ClassContent}
use Rattle.class_world.specs.declared.world.MethodRef.{MethodRef}
use Rattle.class_world.specs.World.{World}
use Rattle.class_world.specs.Members.{find_method}
use Rattle.class_program.specs.Programs.{Program}
use Rattle.input_steps.specs.Classes.{AllSpell, IsWorldOf}
use Rattle.input_steps.specs.Programs.{IsProgramOf}
use Rattle.survey.specs.Claims.{Surveyed, IsProved, AreTrue}
use Rattle.io_ports.specs.Told.{Told, IsContent}
use Rattle.survey.specs.Lines.{printed}
use Rattle.survey.specs.Outside.{AreSome}
use Rattle.survey.specs.declared.lines.Head.{Head}
use Rattle.survey.specs.declared.lines.Head.TheVariants.{Maybe, Refused, LeftOut, Count, Why}
use Rattle.survey.specs.declared.reading.Read.{Read}
use Rattle.survey.specs.declared.reading.Read.TheVariants.{Content, Broken}
use Rattle.survey.specs.declared.judging.Judged.{Judged}
use Rattle.survey.specs.declared.judging.Judged.TheVariants.{Yes, No}

-- what is surveyed, as code holds it
abbrev pub surveyed : List (Vec ℕ) → List (Vec ℕ) → Surveyed
surveyed files descs = record { files = map (λ (file : Vec ℕ). file.items) files; descs = map (λ (desc : Vec ℕ). desc.items) descs }

-- what a line begins with that claims nothing
abbrev pub head_text : Head → List ℕ
head_text Maybe = codes "MAYBE "
head_text Refused = codes "REFUSED "
head_text LeftOut = codes "LEFT OUT "
head_text Count = codes "COUNT "
head_text Why = codes "  "

-- such a line
abbrev pub other_line : Head → List ℕ → List ℕ
other_line head rest = head_text head ++ map printed rest

-- the program of a method that is declared by the class of a name
pub record IsMethodProgram (files : List (List ℕ)) (class name desc : List ℕ) (p : Program) : Type 0 where
  pub classes : List ClassContent
  pub spelled : AllSpell files classes
  pub world : World
  pub makes : IsWorldOf classes world
  pub entry : MethodRef
  pub found : find_method world class name desc ≡ Some entry
  pub program : IsProgramOf world entry p

-- where a method's runs are said to end, it is proved
abbrev pub IsJudged : Surveyed → List ℕ → List ℕ → List ℕ → Judged → Type 0
IsJudged s class name desc (Yes given touched) = IsProved s given class name desc
IsJudged s class name desc (No head rest) = Unit {0}

-- more true lines follow
abbrev pub GrowsTrue : List ℕ → List ℕ → Type 0
GrowsTrue old new = (s : Surveyed) → AreTrue s old → AreTrue s new

-- a content of which this holds was read; else it is said why there is none
abbrev pub IsRead : (List ℕ → Type 0) → Read → Type 0
IsRead Is (Content content) = Is content.items
IsRead Is (Broken words) = Unit {0}

-- contents that were read under some names stay such
abbrev pub StayRead : List (List ℕ) → List (List ℕ) → Type 0
StayRead old new = (held : List ℕ → Told) (names : List (List ℕ)) → AreSome held names old → AreSome held names new

-- the files stay as they are, or one more is kept, whose content is no other than the told one
abbrev pub GrowsRead : Told → List (Vec ℕ) → List (Vec ℕ) → Type 0
GrowsRead told old new = (new ≡ old) ⊎ ((content : Vec ℕ) × (IsContent told content.items × (new ≡ old ++ content ∷ [])))
