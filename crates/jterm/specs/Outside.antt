-- What a call of the program comes to: the words, the files that they name, the output and the line of errors.
use Rattle.std.specs.Prelude.{◌≡◌, ◌⊎◌, ℕ, suc, ◌≤◌, List, [], ◌∷◌, ◌++◌, length, map, take, slice_get, Option, Some, Result, ⊤}
use Rattle.std.specs.Io.KnownBytes.{Appends}
use Rattle.io_ports.specs.Count.{Rose}
use Rattle.io_ports.specs.Taken.{AppendsPrefix}
use Rattle.io_ports.specs.Told.{Told, IsContent, IsPastLimit, IsNotHeld}
use Rattle.io_ports.specs.Told.Told.{Content}
use Rattle.io_ports.specs.declared.files.FileFault.{FileFault}
use Rattle.io_ports.specs.declared.files.FileFault.TheVariants.{Failed, TooLong, Missing, Memory}
use Rattle.cert_form.specs.Limits.{most_certificate_bytes}
use Rattle.class_base.specs.Limits.{most_file_bytes}
use Rattle.class_calls.specs.declared.command_rows.table.Request.{Request}
use Rattle.class_calls.specs.declared.command_rows.row.FileWord.{FileWord}
use Rattle.class_calls.specs.declared.command_rows.row.FileWord.TheVariants.{Cert, Bounds}
use Rattle.class_calls.specs.command_rows.Rows.{row_at, file_at}
use Rattle.jterm.specs.declared.verdict.Verdict.{Verdict}
use Rattle.input_steps.specs.declared.refused.Refused.{Refused}
use Rattle.class_calls.specs.command_rows.Words.{IsCommand}
use Rattle.jterm.specs.Decision.{IsAnswer}

-- ---- files

-- the files tell these contents under these names
abbrev pub AreTold : (List ℕ → Told) → List (List ℕ) → List (List ℕ) → Type 0
AreTold held names contents = map held names ≡ map Content contents

-- how many bytes a file may have: so many a certificate, so many each other one
abbrev pub limit_of : ℕ → ℕ → FileWord → ℕ
limit_of certificate other Cert = certificate
limit_of certificate other Bounds = certificate
limit_of certificate other word = other

-- the file at a place among those of a request
abbrev pub limit_at : ℕ → ℕ → Request → ℕ → ℕ
limit_at certificate other request place = limit_of certificate other (file_at (row_at request) place)

-- a certificate may have 16 MiB, each other file 1 MiB
abbrev pub file_limits : Request → ℕ → ℕ
file_limits = limit_at most_certificate_bytes most_file_bytes

-- the limits at the places behind the first one
abbrev pub behind : (ℕ → ℕ) → ℕ → ℕ
behind limits place = limits (suc place)

-- the contents under these names, each within the limit at its place, are no others than those that are told
abbrev pub AreContents : (ℕ → ℕ) → (List ℕ → Told) → List (List ℕ) → List (List ℕ) → Type 0
AreContents limits held [] [] = ⊤
AreContents limits held (name ∷ names) (content ∷ contents) = IsContent (held name) content × (length content ≤ limits 0)
    × AreContents (behind limits) held names contents
AreContents limits held [] (content ∷ contents) = ⊥
AreContents limits held (name ∷ names) [] = ⊥

-- the contents are within the limits at their places
abbrev pub AreWithin : (ℕ → ℕ) → List (List ℕ) → Type 0
AreWithin limits [] = ⊤
AreWithin limits (content ∷ contents) = (length content ≤ limits 0) × AreWithin (behind limits) contents

-- why a file was not read: the read failed, and the count of the files' faults rose in it; or it stood still, and the content,
-- where one is told, is past its limit; or it stood still, and none is held, where that is told
abbrev pub ReadFails : FileFault → Told → ℕ → ℕ → ℕ → Type 0
ReadFails Failed told limit before after = Rose before after
ReadFails TooLong told limit before after = IsPastLimit told limit × (after ≡ before)
ReadFails Missing told limit before after = IsNotHeld told × (after ≡ before)
ReadFails Memory told limit before after = ⊥

-- reads of these names, in their order, lead from old files to new ones
abbrev pub AreRead : {F : Type 0} → (F → List ℕ → F → Type 0) → List (List ℕ) → F → F → Type 0
AreRead leaves [] old new = old ≡ new
AreRead {F} leaves (name ∷ names) old new = (between : F) × leaves old name between × AreRead leaves names between new

-- The file of this name is the first of the named ones that was not read, for this cause. The files before it were read, one
-- after the other, which led from the old files to those between, and none of them failed: the count of faults stood still.
-- The read of this very file led on from there to the new ones, and is the one that failed.
pub record IsUnread {F : Type 0} (held : F → List ℕ → Told) (faults : F → ℕ) (leaves : F → List ℕ → F → Type 0) (limits : ℕ → ℕ)
    (names : List (List ℕ)) (old new : F) (name : List ℕ) (fault : FileFault) : Type 0 where
  pub place : ℕ
  pub is_named : slice_get names place ≡ Some name
  pub contents : List (List ℕ)
  pub earlier : AreContents limits (held old) (take place names) contents
  pub between : F
  pub led : AreRead leaves (take place names) old between
  pub still : faults between ≡ faults old
  pub last : leaves between name new
  pub cause : ReadFails fault (held old name) (limits place) (faults between) (faults new)

-- nothing but reads of the first of these names, in their order, changed the files
abbrev pub FirstAreRead : {F : Type 0} → (F → List ℕ → F → Type 0) → List (List ℕ) → F → F → Type 0
FirstAreRead leaves names old new = (count : ℕ) × AreRead leaves (take count names) old new

-- ---- the answer

-- the words are a command, and what the files tell under the names that it has are these contents, within their
-- limits
pub record AreHanded (words : List (List ℕ)) (held : List ℕ → Told) (request : Request) (names contents : List (List ℕ)) : Type 0 where
  pub is_command : IsCommand words request names
  pub told : AreTold held names contents
  pub within : AreWithin (file_limits request) contents

-- a result is the answer for the contents of the files that the words of a command name
pub record Decided (words : List (List ℕ)) (held : List ℕ → Told) (result : Result Verdict Refused) : Type 0 where
  pub request : Request
  pub names : List (List ℕ)
  pub is_command : IsCommand words request names
  pub contents : List (List ℕ)
  pub read : AreContents (file_limits request) held names contents
  pub answer : IsAnswer request contents result

-- ---- outputs

-- an output takes this line, unless the count of the sink's faults rises
abbrev pub Puts : {S : Type 0} → (S → ℕ) → (S → Option (List ℕ)) → S → S → List ℕ → Type 0
Puts faults taken old new line = (Rose (faults old) (faults new) → ⊥) → Appends (taken old) (taken new) line

-- what a call puts on an output begins with a line
abbrev pub Begins : {S : Type 0} → List ℕ → (S → Option (List ℕ)) → S → S → Type 0
Begins line taken old new = (before rest : List ℕ) × (taken old ≡ Some before) × (taken new ≡ Some (before ++ line ++ rest))

-- a call claims a line: the status is 0, or what the call put on the output begins with it
abbrev pub Claims : {S : Type 0} → List ℕ → (S → Option (List ℕ)) → S → S → ℕ → Type 0
Claims line taken old new status = (status ≡ 0) ⊎ Begins line taken old new

-- the statuses of a call without a verdict: refused input, no command, an unread file, want of memory
abbrev pub IsWithoutVerdict : ℕ → Type 0
IsWithoutVerdict status = (status ≡ 3) ⊎ (status ≡ 4) ⊎ (status ≡ 5) ⊎ (status ≡ 7)

-- The output of a verdict was put, and the status is the verdict's; or writing failed, and the status is 6: the count
-- of the sink's faults rose, and it took a prefix.
abbrev pub IsWritten : {S : Type 0} → (S → ℕ) → (S → Option (List ℕ)) → S → S → Verdict → ℕ → Type 0
IsWritten faults taken old new verdict status =
    ((status ≡ verdict.status) × Appends (taken old) (taken new) verdict.out)
    ⊎ ((status ≡ 6) × Rose (faults old) (faults new) × AppendsPrefix (taken old) (taken new) verdict.out)
