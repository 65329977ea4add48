-- Why a call ends without a verdict.
use Rattle.std.specs.Prelude.{ℕ, ◌≤◌, List, Ok, Err, ⊤}
use Rattle.io_ports.specs.Told.{Told}
use Rattle.io_ports.specs.declared.files.FileFault.{FileFault}
use Rattle.io_ports.specs.declared.files.FileFault.TheVariants.{Failed, TooLong, Missing, Memory}
use Rattle.jterm.specs.declared.inputs.Failure.{Failure}
use Rattle.jterm.specs.declared.inputs.Failure.TheVariants.{Unread, Broken, NoMemory}
use Rattle.class_calls.specs.declared.command_rows.table.Request.{Request}
use Rattle.input_steps.specs.declared.refused.Refused.TheVariants.{At}
use Rattle.jterm.specs.declared.verdict.Verdict.{Verdict}
use Rattle.jterm.specs.Decision.{IsAnswer, HoldsClaim}
use Rattle.class_calls.specs.command_rows.Words.{IsCommand}
use Rattle.input_steps.specs.Lines.{refusal_line}
use Rattle.jterm.specs.Lines.{read_line, memory_line}
use Rattle.jterm.specs.Outside.{AreContents, IsUnread}

-- The cause of a call that ends without a verdict is there: a file was not read; or the contents of the files are
-- refused at this place for this fault; or memory is wanting, which has no cause.
abbrev pub HasCause : {F : Type 0} → (F → List ℕ → Told) → (F → ℕ) → (F → List ℕ → F → Type 0) → (ℕ → ℕ) → Request → List (List ℕ)
    → F → F → Failure → Type 0
HasCause held faults leaves limits request names old new (Unread name fault) = IsUnread held faults leaves limits names old new name fault
HasCause held faults leaves limits request names old new (Broken place fault) =
    (contents : List (List ℕ)) × AreContents limits (held old) names contents × IsAnswer request contents (Err (At place fault))
HasCause held faults leaves limits request names old new NoMemory = ⊤

-- the exit status of a call that fails for a cause
abbrev pub status_of : Failure → ℕ
status_of (Unread name fault) = 5
status_of (Broken place fault) = 3
status_of NoMemory = 7

-- the line on `err` of a call that fails for a cause
abbrev pub line_of : Failure → List ℕ
line_of (Unread name fault) = read_line name fault
line_of (Broken place fault) = refusal_line place fault
line_of NoMemory = memory_line

-- why a call fails that could not read the file of this name
abbrev pub failure_at : List ℕ → FileFault → Failure
failure_at name Failed = Unread name Failed
failure_at name TooLong = Unread name TooLong
failure_at name Missing = Unread name Missing
failure_at name Memory = NoMemory

-- a request and file words are those of a command
abbrev pub AreOfCommand : Request → List (List ℕ) → Type 0
AreOfCommand request names = (words : List (List ℕ)) × IsCommand words request names

-- a verdict is the answer for the contents of the files, its status is at most 2, and what it says is true
pub record IsAnswered (limits : ℕ → ℕ) (request : Request) (names : List (List ℕ)) (held : List ℕ → Told) (verdict : Verdict) : Type
    0 where
  pub contents : List (List ℕ)
  pub read : AreContents limits held names contents
  pub answer : IsAnswer request contents (Ok verdict)
  pub low : verdict.status ≤ 2
  pub claim : HoldsClaim request contents verdict

-- want of memory has no line of its own
abbrev pub HasLine : Failure → Type 0
HasLine (Unread name fault) = ⊤
HasLine (Broken place fault) = ⊤
HasLine NoMemory = ⊥
