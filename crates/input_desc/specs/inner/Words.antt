-- Words for the functions of this crate: what is found for inputs, and what is made of it.
use Rattle.std.specs.Prelude.{◌≡◌, ◌≤◌, ℕ, List, ◌++◌, length, map, Option, Some, None, Result, Ok, Err}
use Rattle.class_program.specs.Programs.{Program}
use Rattle.input_text.specs.declared.fault.DescFault.{DescFault}
use Rattle.input_text.specs.declared.texts.InputText.{InputText}
use Rattle.abs_cells.specs.Limits.{most_ids}
use Rattle.input_desc.specs.declared.desc.Input.{Input}
use Rattle.input_desc.specs.declared.desc.Desc.{Desc}
use Rattle.input_desc.specs.Due.{IsFault, is_memory}
use Rattle.input_desc.specs.Given.{slots_of}
use Rattle.input_desc.specs.Descs.{inputs_from, later_fault}

-- what is found for inputs without a fault, or the first fault
abbrev pub Finds : Program → List InputText → List (ℕ × ℕ) → Result (List (Option Input)) DescFault → Type 0
Finds p texts' pairs (Ok found) = (later_fault p texts' pairs ≡ None) × (found ≡ inputs_from p.world (slots_of p) texts')
Finds p texts' pairs (Err fault) = IsFault is_memory fault (later_fault p texts' pairs)

-- a description of at most `most_ids` inputs, each of which is there
pub record IsMade (found : List (Option Input)) (same share : List (ℕ × ℕ)) (desc : Desc) : Type 0 where
  pub inputs_are : map Some desc.inputs ≡ found
  pub same_is : desc.same ≡ same
  pub share_is : desc.share ≡ share
  pub few : length desc.inputs ≤ most_ids

-- what is made of texts and pairs without a fault, or their first fault
abbrev pub Fitted : Program → List InputText → List (ℕ × ℕ) → List (ℕ × ℕ) → Result Desc DescFault → Type 0
Fitted p texts' same share (Ok desc) = (later_fault p texts' (same ++ share) ≡ None)
    × IsMade (inputs_from p.world (slots_of p) texts') same share desc
Fitted p texts' same share (Err fault) = IsFault is_memory fault (later_fault p texts' (same ++ share))
