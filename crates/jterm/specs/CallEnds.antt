-- How a call of the program ends.
use Rattle.std.specs.Prelude.{◌≡◌, ◌↔◌, ◌⊎◌, ◌≤◌, ℕ, List, ◌∷◌, length, Option, Some, Ok, Err, IfSome, IfNone}
use Rattle.std.specs.Io.KnownBytes.{Appends}
use Rattle.io_ports.specs.Count.{Rose}
use Rattle.io_ports.specs.Told.{Told}
use Rattle.io_ports.specs.declared.files.FileFault.{FileFault}
use Rattle.cert_form.specs.Limits.{most_certificate_bytes}
use Rattle.jterm.specs.declared.top.Done.{Done}
use Rattle.class_calls.specs.declared.command_rows.table.Request.{Request}
use Rattle.class_calls.specs.declared.command_rows.table.Request.TheVariants.{Check}
use Rattle.jterm.specs.declared.verdict.Verdict.{Verdict}
use Rattle.input_steps.specs.declared.refused.Place.{Place}
use Rattle.input_steps.specs.declared.refused.Fault.{Fault}
use Rattle.input_steps.specs.declared.refused.Refused.TheVariants.{At}
use Rattle.input_steps.specs.Lines.{refusal_line}
use Rattle.abs_cells.specs.declared.packed.PackedPairs.{PackedPairs}
use Rattle.prove_core.specs.declared.found.Reason.{Reason}
use Rattle.its_call.specs.declared.its_search.searching.ItsFound.{ItsFound}
use Rattle.prove_call.specs.Lines.{yes_text}
use Rattle.class_calls.specs.command_rows.Usage.{usage_lines}
use Rattle.class_calls.specs.command_rows.Words.{IsCommand}
use Rattle.jterm.specs.Words.{IsProve}
use Rattle.jterm.specs.Decision.{IsAnswer, IsUnrefused, not_proved_for, left_for, accepted, refused_with, IsRefusedLine}
use Rattle.jterm.specs.Laws.{AreAlike}
use Rattle.jterm.specs.Lines.{memory_line, write_line, read_line}
use Rattle.jterm.specs.Outside.{AreTold, AreHanded, IsUnread, FirstAreRead, Decided, Puts, IsWithoutVerdict, IsWritten, file_limits}

-- what a port was before a call, and what it is after it
pub record Change (S : Type 0) : Type 0 where
  pub old : S
  pub new : S

-- What the clause of a call sees of its ports: of the files, of the output and of the error output.
pub record Ports (F O E : Type 0) : Type 1 where
  -- what the files hold under a name, where they tell it
  pub held : F → List ℕ → Told
  -- how many reads of the files failed
  pub faults : F → ℕ
  -- the read of a name leads from one state of the files to another
  pub leaves : F → List ℕ → F → Type 0
  -- how many writes to the output failed, and which bytes it took, where it tells them
  pub out_faults : O → ℕ
  pub out_taken : O → Option (List ℕ)
  -- how many writes to the error output failed, and which bytes it took, where it tells them
  pub err_faults : E → ℕ
  pub err_taken : E → Option (List ℕ)

-- What a call of `jterm` with these words comes to, seen by its ports: the files, the output and the error output before
-- and after it, the exit status, and the verdict where there is one.
pub record CallEnds {F O E : Type 0} (ports : Ports F O E) (words : List (List ℕ)) (files : Change F) (out : Change O)
    (err : Change E) (result : Done) : Type 0 where
  -- Where YES is said, a certificate stands behind it, which `check` accepts for the same files.
  pub certificate : (d : List ℕ) (cs : List (List ℕ)) (desc : List ℕ) (classes : List (List ℕ))
      → IsProve words d cs → AreTold (ports.held files.old) (d ∷ cs) (desc ∷ classes) → result.status ≡ 0
      → (cert : List ℕ) × (length cert ≤ most_certificate_bytes) × IsAnswer Check (cert ∷ desc ∷ classes) (Ok accepted)
      × Appends (ports.out_taken out.old) (ports.out_taken out.new) (yes_text cert)
  -- A verdict is the answer for the contents of the files. Its output is written, or writing failed.
  pub verdict : IfSome result.verdict (λ v. Decided words (ports.held files.old) (Ok v))
  pub written : IfSome result.verdict (λ v. IsWritten ports.out_faults ports.out_taken out.old out.new v result.status)
  pub silent : IfNone result.verdict (IsWithoutVerdict result.status × (out.new ≡ out.old))
  -- Status 1: no certificate is given, for a reason that is kept; or rules are left, which are kept. It holds, and the text is its own.
  pub not_proved : result.status ≡ 1 → ((reason : Reason PackedPairs) × (text : List ℕ)
      × (result.verdict ≡ Some (not_proved_for reason text))
      × Decided words (ports.held files.old) (Ok (not_proved_for reason text))
      × Appends (ports.out_taken out.old) (ports.out_taken out.new) text) ⊎ ((left : ItsFound) × (text : List ℕ)
      × (result.verdict ≡ Some (left_for left text))
      × Decided words (ports.held files.old) (Ok (left_for left text))
      × Appends (ports.out_taken out.old) (ports.out_taken out.new) text)
  -- Status 2: the certificate is refused. The line names the first item that fails, or says that a bound or a loop is
  -- refused, and the cause.
  pub not_accepted : result.status ≡ 2 → (line : List ℕ) × IsRefusedLine line
      × Decided words (ports.held files.old) (Ok (refused_with line))
      × Appends (ports.out_taken out.old) (ports.out_taken out.new) line
  -- Status 3: the input has this fault.
  pub refused : result.status ≡ 3 → (place : Place) × (fault : Fault)
      × Decided words (ports.held files.old) (Err (At place fault))
      × Puts ports.err_faults ports.err_taken err.old err.new (refusal_line place fault)
  -- Status 4: the words are no row of the commands that are built.
  pub usage : (result.status ≡ 4) ↔ ((request : Request) (names : List (List ℕ)) → ¬ IsCommand words request names)
  pub says_usage : result.status ≡ 4 → Puts ports.err_faults ports.err_taken err.old err.new usage_lines
  -- Status 5: a file was not read. It is the first that was not, and its own read is what failed.
  pub read : result.status ≡ 5 → (request : Request) × (names : List (List ℕ)) × (name : List ℕ) × (fault : FileFault)
      × IsCommand words request names
      × IsUnread ports.held ports.faults ports.leaves (file_limits request) names files.old files.new name fault
      × Puts ports.err_faults ports.err_taken err.old err.new (read_line name fault)
  -- Status 6: the output was not taken.
  pub write : result.status ≡ 6 → Rose (ports.out_faults out.old) (ports.out_faults out.new)
      × Puts ports.err_faults ports.err_taken err.old err.new write_line
  -- Status 7: want of memory.
  pub says_memory : result.status ≡ 7 → Puts ports.err_faults ports.err_taken err.old err.new memory_line
  -- Statuses 0, 1 and 2: nothing is said on `err`.
  pub says_nothing : result.status ≤ 2 → err.new ≡ err.old
  -- Where the contents of the named files are told and within their limits, and no count rose: what has no cause of refusal is given a
  -- verdict that is an answer, and what has a verdict one that is alike; what has a cause is refused for it; or memory is wanting.
  pub answered : (request : Request) (names contents : List (List ℕ))
      → AreHanded words (ports.held files.old) request names contents → IsUnrefused request contents
      → ¬ Rose (ports.faults files.old) (ports.faults files.new) → ¬ Rose (ports.out_faults out.old) (ports.out_faults out.new)
      → ((verdict : Verdict) × (result.verdict ≡ Some verdict) × IsAnswer request contents (Ok verdict)
      × (result.status ≡ verdict.status) × Appends (ports.out_taken out.old) (ports.out_taken out.new) verdict.out) ⊎ (result.status ≡ 7)
  pub complete : (request : Request) (names contents : List (List ℕ)) (verdict : Verdict)
      → AreHanded words (ports.held files.old) request names contents → IsAnswer request contents (Ok verdict)
      → ¬ Rose (ports.faults files.old) (ports.faults files.new) → ¬ Rose (ports.out_faults out.old) (ports.out_faults out.new)
      → ((given : Verdict) × IsAnswer request contents (Ok given) × AreAlike request verdict given
      × (result.status ≡ given.status) × Appends (ports.out_taken out.old) (ports.out_taken out.new) given.out) ⊎ (result.status ≡ 7)
  pub refuses : (request : Request) (names contents : List (List ℕ)) (place : Place) (fault : Fault)
      → AreHanded words (ports.held files.old) request names contents → IsAnswer request contents (Err (At place fault))
      → ¬ Rose (ports.faults files.old) (ports.faults files.new)
      → ((result.status ≡ 3) × Puts ports.err_faults ports.err_taken err.old err.new (refusal_line place fault)) ⊎ (result.status ≡ 7)
  -- Nothing but reads of the file words, in their order, changes the files.
  pub reads : (request : Request) (names : List (List ℕ)) → IsCommand words request names
      → FirstAreRead ports.leaves names files.old files.new
  pub reads_nothing : result.status ≡ 4 → files.new ≡ files.old
