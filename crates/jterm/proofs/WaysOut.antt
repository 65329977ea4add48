-- How a call ends, by its way out: words that are no command, a verdict, a failure.
use Rattle.std.proofs.Common.{◌≡◌, ◌⊎◌, ◌≤◌, ℕ, List, Option, Some, None, refl, sym, ◌∙◌, subst, arith, inl, inr, IfSome}
use Rattle.std.specs.Prelude.{IfNone}
use Rattle.jterm.specs.declared.top.Done.{Done}
use Rattle.jterm.specs.declared.inputs.Failure.{Failure}
use Rattle.jterm.specs.declared.inputs.Failure.TheVariants.{Unread, Broken, NoMemory}
use Rattle.class_calls.specs.declared.command_rows.table.Request.{Request}
use Rattle.jterm.specs.declared.verdict.Verdict.{Verdict}
use Rattle.class_calls.specs.command_rows.Words.{IsCommand}
use Rattle.class_calls.specs.command_rows.Usage.{usage_lines}
use Rattle.jterm.specs.Lines.{write_line}
use Rattle.jterm.specs.Outside.{FirstAreRead, Puts, IsWithoutVerdict, IsWritten, file_limits}
use Rattle.jterm.specs.CallEnds.{Change, Ports, CallEnds}
use Rattle.jterm.specs.inner.Failure.{IsAnswered, HasCause}
use Rattle.class_calls.proofs.OneCommand.{commands_one}
use Rattle.jterm.proofs.Endings as endings
use Rattle.jterm.proofs.Endings.{Reports, not_low, not_four, done_is_no_usage}

-- the reads of a command's file words are those of any names that are its file words
names_read : {F : Type 0} (leaves : F → List ℕ → F → Type 0) (words : List (List ℕ)) (r s : Request) (m n : List (List ℕ))
    (old new : F) → IsCommand words r m → FirstAreRead leaves m old new → IsCommand words s n → FirstAreRead leaves n old new
names_read leaves words r s m n old new here reads there =
    let one = commands_one words r s m n here there in
    subst (λ (names : List (List ℕ)). FirstAreRead leaves names old new) one.1 reads

-- ---- words that are no command

-- nothing is read and nothing is put but the usage, with status 4
pub no_command : {F O E : Type 0} (ports : Ports F O E) (words : List (List ℕ)) (files : F) (out : O) (err : Change E)
    (line : List ℕ)
    → ((request : Request) (names : List (List ℕ)) → IsCommand words request names → ⊥) → line ≡ usage_lines
    → Puts ports.err_faults ports.err_taken err.old err.new line
    → CallEnds ports words (record { old = files; new = files }) (record { old = out; new = out }) err
    (record { status = 4; verdict = None })
no_command ports words files out err line no_row is said = record {
  certificate = λ d cs desc classes prove told none. absurd (omega (arith, none));
  verdict = tt;
  written = tt;
  silent = (inr (inl refl), refl);
  not_proved = λ one. absurd (omega (arith, one));
  not_accepted = λ two. absurd (omega (arith, two));
  refused = λ three. absurd (omega (arith, three));
  usage = (λ four. no_row, λ none. refl);
  says_usage = λ four. subst (λ (text : List ℕ). Puts ports.err_faults ports.err_taken err.old err.new text) is said;
  read = λ five. absurd (omega (arith, five));
  write = λ six. absurd (omega (arith, six));
  says_memory = λ seven. absurd (omega (arith, seven));
  says_nothing = λ low. absurd (omega (arith, low));
  answered = λ request names contents handed good read put. absurd (no_row request names handed.is_command);
  complete = λ request names contents verdict handed answer read put. absurd (no_row request names handed.is_command);
  refuses = λ request names contents place fault handed answer read. absurd (no_row request names handed.is_command);
  reads = λ request names is. absurd (no_row request names is);
  reads_nothing = λ four. refl;
}

-- ---- a verdict

-- a call with a verdict ends with the verdict's own status, which is at most 2, or with 6: with no other one
done_is_not : {P Q : Type 0} (own status other : ℕ) → own ≤ 2 → ((status ≡ own) × P) ⊎ ((status ≡ 6) × Q) → 3 ≤ other
    → (other ≡ 6 → ⊥) → status ≡ other → ⊥
done_is_not own status other low (inl said) high not_six is = omega (arith, said.0, low, high, is)
done_is_not own status other low (inr said) high not_six is = not_six (sym is ∙ said.0)

-- where its status is at most 2, it is the verdict's own
done_low : {P Q : Type 0} (own status : ℕ) → ((status ≡ own) × P) ⊎ ((status ≡ 6) × Q) → status ≤ 2 → P
done_low own status (inl said) low = said.1
done_low own status (inr said) low = absurd (omega (arith, said.0, low))

-- its output is written, or writing failed
pub with_verdict : {F O E : Type 0} (ports : Ports F O E) (words : List (List ℕ)) (files : Change F) (out : Change O)
    (err : Change E) (result : Done) (request : Request) (names : List (List ℕ)) (own : Verdict)
    → IsCommand words request names → IsAnswered (file_limits request) request names (ports.held files.old) own
    → FirstAreRead ports.leaves names files.old files.new
    → result.verdict ≡ Some own → IsWritten ports.out_faults ports.out_taken out.old out.new own result.status
    → ((result.status ≡ own.status) × (err.new ≡ err.old))
    ⊎ ((result.status ≡ 6) × Puts ports.err_faults ports.err_taken err.old err.new write_line)
    → CallEnds ports words files out err result
with_verdict ports words files out err result request names own command answered reads is written line =
    let Silent : Option Verdict → Type 0 = λ o. IfNone o (IsWithoutVerdict result.status × (out.new ≡ out.old)) in
    let Written : Option Verdict → Type 0 =
    λ o. IfSome o (λ v. IsWritten ports.out_faults ports.out_taken out.old out.new v result.status) in
    record {
      certificate = λ d cs desc classes prove told none.
          endings.certificate ports.out_faults ports.out_taken out.old out.new words request names (ports.held files.old) own
          result.status d cs desc classes command answered written prove told none;
      verdict = endings.decided words request names (ports.held files.old) own result.verdict command answered is;
      written = subst Written (sym is) written;
      silent = subst Silent (sym is) tt;
      not_proved = endings.not_proved ports.out_faults ports.out_taken out.old out.new words request names (ports.held files.old) own
          result.verdict result.status command answered is written;
      not_accepted = endings.not_accepted ports.out_faults ports.out_taken out.old out.new words request names (ports.held files.old) own
          result.status command answered written;
      refused = λ three. absurd (done_is_not own.status result.status 3 answered.low line (omega arith) (λ e. omega (arith, e)) three);
      usage = done_is_no_usage words request names own.status result.status command answered.low line;
      says_usage = λ four. absurd (done_is_not own.status result.status 4 answered.low line (omega arith) (λ e. omega (arith, e)) four);
      read = λ five. absurd (done_is_not own.status result.status 5 answered.low line (omega arith) (λ e. omega (arith, e)) five);
      write = endings.unwritten result.status own.status answered.low written line;
      says_memory = λ seven. absurd (done_is_not own.status result.status 7 answered.low line (omega arith) (λ e. omega (arith, e)) seven);
      says_nothing = done_low own.status result.status line;
      answered = λ s n told handed good read put.
          endings.answered_written ports.out_faults ports.out_taken out.old out.new words request s names n told (ports.held files.old) own
          result.verdict result.status command answered is written handed put;
      complete = λ s n told verdict handed answer read put.
          endings.complete_written ports.out_faults ports.out_taken out.old out.new words request s names n told
          (ports.held files.old) own verdict result.status command answered written handed answer put;
      refuses = λ s n told place fault handed answer read.
          absurd
          (endings.never_answered words request s names n told (ports.held files.old) own place fault command answered handed answer);
      reads = λ s n there. names_read ports.leaves words request s names n files.old files.new command reads there;
      reads_nothing = λ four. absurd (done_is_not own.status result.status 4 answered.low line (omega arith) (λ e. omega (arith, e)) four);
    }

-- ---- a failure

-- the statuses of a call that stopped
abbrev IsOfFailure : ℕ → Type 0
IsOfFailure status = (status ≡ 3) ⊎ (status ≡ 5) ⊎ (status ≡ 7)

of_failure : (failure : Failure) (status : ℕ) (Puts : List ℕ → Type 0) → Reports Puts failure status → IsOfFailure status
of_failure (Unread name fault) status Puts (inl said) = inr (inl said.0)
of_failure (Broken place fault) status Puts (inl said) = inl said.0
of_failure NoMemory status Puts (inl said) = absurd said.1
of_failure failure status Puts (inr said) = inr (inr said.0)

-- they are those of a call without a verdict
failure_is_without : (status : ℕ) → IsOfFailure status → IsWithoutVerdict status
failure_is_without status (inl three) = inl three
failure_is_without status (inr (inl five)) = inr (inr (inl five))
failure_is_without status (inr (inr seven)) = inr (inr (inr seven))

-- but for 4; and 6 is none
failure_is_not : (status other : ℕ) → IsOfFailure status → (other ≡ 3 → ⊥) → (other ≡ 5 → ⊥) → (other ≡ 7 → ⊥) → status ≡ other → ⊥
failure_is_not status other (inl three) a b c is = a (sym is ∙ three)
failure_is_not status other (inr (inl five)) a b c is = b (sym is ∙ five)
failure_is_not status other (inr (inr seven)) a b c is = c (sym is ∙ seven)

-- nothing is put but the line that says why
pub stopped : {F O E : Type 0} (ports : Ports F O E) (words : List (List ℕ)) (files : Change F) (out : O) (err : Change E)
    (status : ℕ) (request : Request) (names : List (List ℕ)) (failure : Failure)
    → IsCommand words request names
    → HasCause ports.held ports.faults ports.leaves (file_limits request) request names files.old files.new failure
    → FirstAreRead ports.leaves names files.old files.new
    → Reports (Puts ports.err_faults ports.err_taken err.old err.new) failure status
    → CallEnds ports words files (record { old = out; new = out }) err (record { status = status; verdict = None })
stopped ports words files out err status request names failure command cause reads says =
    let Says : List ℕ → Type 0 = Puts ports.err_faults ports.err_taken err.old err.new in
    let of : IsOfFailure status = of_failure failure status Says says in
    record {
      certificate = λ d cs desc classes prove told none. absurd (not_low failure status _ _ _ says (omega (arith, none)));
      verdict = tt;
      written = tt;
      silent = (failure_is_without status of, refl);
      not_proved = λ one. absurd (not_low failure status _ _ _ says (omega (arith, one)));
      not_accepted = λ two. absurd (not_low failure status _ _ _ says (omega (arith, two)));
      refused = endings.refused ports.held ports.faults ports.leaves words request names files.old files.new failure status Says
          command cause says;
      usage = not_four words request names failure status Says command says;
      says_usage = λ four. absurd
          (failure_is_not status 4 of (λ e. omega (arith, e)) (λ e. omega (arith, e)) (λ e. omega (arith, e)) four);
      read = endings.unread ports.held ports.faults ports.leaves words request names files.old files.new failure status Says
          command cause says;
      write = λ six. absurd (failure_is_not status 6 of (λ e. omega (arith, e)) (λ e. omega (arith, e)) (λ e. omega (arith, e)) six);
      says_memory = endings.says_memory failure status Says says;
      says_nothing = λ low. absurd (not_low failure status _ _ _ says low);
      answered = λ s n told handed good read put.
          endings.unanswered ports.held ports.faults ports.leaves words request s names n told files.old files.new failure status
          Says _ command cause says handed good read;
      complete = λ s n told verdict handed answer read put.
          endings.complete ports.held ports.faults ports.leaves words request s names n told files.old files.new failure status
          verdict Says _ command cause says handed answer read;
      refuses = λ s n told place fault handed answer read.
          endings.refuses ports.held ports.faults ports.leaves words request s names n told files.old files.new failure status
          place fault Says command cause says handed answer read;
      reads = λ s n there. names_read ports.leaves words request s names n files.old files.new command reads there;
      reads_nothing = λ four. absurd
          (failure_is_not status 4 of (λ e. omega (arith, e)) (λ e. omega (arith, e)) (λ e. omega (arith, e)) four);
    }
