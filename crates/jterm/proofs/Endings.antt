-- From what stopped a call, or the verdict that it has, to what the call says.
use Rattle.std.proofs.Common.{◌≡◌, ◌⊎◌, ◌≤◌, ◌++◌, ℕ, suc, zero, List, [], ◌∷◌, length, map, take, drop, Option, Some, None, Ok}
use Rattle.std.proofs.Common.{Err, refl, sym, ap, ◌∙◌, subst, arith, inl, inr, IfSome, slice_get, length-append, append_assoc}
use Rattle.std.proofs.Common.{take-append-drop, take_all}
use Rattle.std.proofs.lemmas.List.{append_cancel_left}
use Rattle.std.specs.Prelude.{◌≢◌, ◌↔◌, Result}
use Rattle.std.specs.Io.KnownBytes.{Appends}
use Rattle.io_ports.specs.Count.{Rose}
use Rattle.io_ports.specs.Told.{Told, IsContent, IsPastLimit, IsNotHeld}
use Rattle.io_ports.specs.Told.Told.{Content}
use Rattle.io_ports.specs.declared.files.FileFault.{FileFault}
use Rattle.io_ports.specs.declared.files.FileFault.TheVariants.{Failed, TooLong, Missing, Memory}
use Rattle.jterm.specs.declared.inputs.Failure.{Failure}
use Rattle.jterm.specs.declared.inputs.Failure.TheVariants.{Unread, Broken, NoMemory}
use Rattle.class_calls.specs.declared.command_rows.table.Request.{Request}
use Rattle.class_calls.specs.declared.command_rows.table.Request.TheVariants.{Prove, Check, Run, Asm, Generate, Migrate, Bound, Loop, Its, Throws}
use Rattle.jterm.specs.declared.verdict.Verdict.{Verdict}
use Rattle.input_steps.specs.declared.refused.Place.{Place}
use Rattle.input_steps.specs.declared.refused.Fault.{Fault}
use Rattle.input_steps.specs.declared.refused.Refused.{Refused}
use Rattle.input_steps.specs.declared.refused.Refused.TheVariants as answers
use Rattle.input_steps.specs.declared.refused.Refused.TheVariants.{At}
use Rattle.class_calls.specs.command_rows.Words.{IsCommand}
use Rattle.jterm.specs.Words.{IsProve, IsCheck, IsIts}
use Rattle.input_steps.specs.Lines.{refusal_line}
use Rattle.jterm.specs.Lines.{memory_line, read_line}
use Rattle.abs_cells.specs.declared.packed.PackedPairs.{PackedPairs}
use Rattle.prove_core.specs.declared.found.Reason.{Reason}
use Rattle.prove_call.specs.Lines.{yes_line, yes_text}
use Rattle.check_call.specs.Answers as check
use Rattle.check_call.specs.Lines.{accepted_line}
use Rattle.cert_making.specs.migrate_call.Answers as migrate
use Rattle.cert_calls.specs.loop_call.Answers as looping
use Rattle.cert_calls.specs.bound_call.Answers as bounding
use Rattle.cert_calls.specs.throws_call.Answers as throws
use Rattle.jterm.specs.Decision.{Says, not_proved_for, left_for, accepted, refused_with, IsRefusedLine, IsAnswer, HoldsClaim, HasReason, IsUnproved}
use Rattle.jterm.specs.Decision.{IsUnrefused}
use Rattle.jterm.specs.Laws.{AreAlike}
use Rattle.desc_steps.specs.Headline.{AllEnd}
use Rattle.generate_text.specs.Descriptions.{description}
use Rattle.jterm.specs.GenerateAnswers.{IsClass}
use Rattle.jterm.specs.GenerateLines.{yes_begin}
use Rattle.its_call.specs.Answers.{IsEnding}
use Rattle.its_call.specs.Lines as its
use Rattle.its_call.specs.declared.its_search.searching.ItsFound.{ItsFound}
use Rattle.jterm.specs.Outside.{AreTold, AreContents, AreWithin, AreHanded, IsUnread, ReadFails, Decided, Begins, Claims, IsWritten}
use Rattle.jterm.specs.Outside.{file_limits, behind}
use Rattle.jterm.specs.inner.Failure.{IsAnswered, HasCause, HasLine, status_of, line_of}
use Rattle.jterm.proofs.OneAnswer.{answers_one}
use Rattle.jterm.proofs.Checking.{bound_judged, check_judged, migrate_judged, loop_judged, throws_judged, judged_refused, judged_not_one}
use Rattle.jterm.proofs.Making.{made_reason}
use Rattle.jterm.proofs.Ruling.{ruled_low, ruled_left, ruled_reason}
use Rattle.jterm.proofs.Proving.{proved_low, unproved, reason_kept, certifies}
use Rattle.class_calls.proofs.OneCommand.{commands_one}

-- nothing is claimed where nothing is put
pub unclaimed : {S : Type 0} (line : List ℕ) (taken : S → Option (List ℕ)) (sink : S) (status : ℕ) → 1 ≤ length line
    → (status ≡ 0 → ⊥) → Claims line taken sink sink status → ⊥
unclaimed line taken sink status some more claims = elim claims [
  | inl done ↦ more done
  | inr put ↦ let e : put.0 ≡ put.0 ++ line ++ put.1 = cc in
      omega (arith, some, ap length e, length-append (put.0 ++ line) put.1, length-append put.0 line)
]

pub unbegun : {S : Type 0} (line : List ℕ) (taken : S → Option (List ℕ)) (sink : S) → 1 ≤ length line → Begins line taken sink sink → ⊥
unbegun line taken sink some put =
    let e : put.0 ≡ put.0 ++ line ++ put.1 = cc in
    omega (arith, some, ap length e, length-append (put.0 ++ line) put.1, length-append put.0 line)

-- what `report` says of a failure
abbrev pub Reports : (List ℕ → Type 0) → Failure → ℕ → Type 0
Reports Puts failure status = ((status ≡ status_of failure) × HasLine failure × Puts (line_of failure)) ⊎ ((status ≡ 7) × Puts memory_line)

-- status 3 comes where the input is refused
pub refused : {F : Type 0} (held : F → List ℕ → Told) (faults : F → ℕ) (leaves : F → List ℕ → F → Type 0) (words : List (List ℕ))
    (request : Request) (names : List (List ℕ)) (old new : F) (failure : Failure) (status : ℕ) (Puts : List ℕ → Type 0)
    → IsCommand words request names → HasCause held faults leaves (file_limits request) request names old new failure
    → Reports Puts failure status
    → status ≡ 3 → (place : Place) × (fault : Fault) × Decided words (held old) (Err (At place fault)) × Puts (refusal_line place fault)
refused held faults leaves words request names old new (Unread name fault) status Puts command cause (inl said) three = absurd
    (omega (arith, said.0, three))
refused held faults leaves words request names old new (Broken place fault) status Puts command cause (inl said) three = (
  place,
  fault,
  record {
    request = request;
    names = names;
    is_command = command;
    contents = cause.0;
    read = cause.1;
    answer =
        cause.2;
  },
  said.2,
)
refused held faults leaves words request names old new NoMemory status Puts command cause (inl said) three = absurd said.1
refused held faults leaves words request names old new failure status Puts command cause (inr said) three = absurd
    (omega (arith, said.0, three))

-- status 5 comes where a file was not read
pub unread : {F : Type 0} (held : F → List ℕ → Told) (faults : F → ℕ) (leaves : F → List ℕ → F → Type 0) (words : List (List ℕ))
    (request : Request) (names : List (List ℕ)) (old new : F) (failure : Failure) (status : ℕ) (Puts : List ℕ → Type 0)
    → IsCommand words request names → HasCause held faults leaves (file_limits request) request names old new failure
    → Reports Puts failure status
    → status ≡ 5 → (request : Request) × (names : List (List ℕ)) × (name : List ℕ) × (fault : FileFault) × IsCommand words request names
    × IsUnread held faults leaves (file_limits request) names old new name fault × Puts (read_line name fault)
unread held faults leaves words request names old new (Unread name fault) status Puts command cause (inl said) five =
    (request, names, name, fault, command, cause, said.2)
unread held faults leaves words request names old new (Broken place fault) status Puts command cause (inl said) five = absurd
    (omega (arith, said.0, five))
unread held faults leaves words request names old new NoMemory status Puts command cause (inl said) five = absurd said.1
unread held faults leaves words request names old new failure status Puts command cause (inr said) five = absurd
    (omega (arith, said.0, five))

-- want of memory is said with status 7
pub says_memory : (failure : Failure) (status : ℕ) (Puts : List ℕ → Type 0) → Reports Puts failure status → status ≡ 7 → Puts memory_line
says_memory (Unread name fault) status Puts (inl said) seven = absurd (omega (arith, said.0, seven))
says_memory (Broken place fault) status Puts (inl said) seven = absurd (omega (arith, said.0, seven))
says_memory NoMemory status Puts (inl said) seven = absurd said.1
says_memory failure status Puts (inr said) seven = said.1

-- a call whose words are a command does not end with 4
pub not_four : (words : List (List ℕ)) (r : Request) (m : List (List ℕ)) (failure : Failure) (status : ℕ) (Puts : List ℕ → Type 0)
    → IsCommand words r m → Reports Puts failure status
    → (status ≡ 4) ↔ ((request : Request) (names : List (List ℕ)) → IsCommand words request names → ⊥)
not_four words r m failure status Puts command says = (λ four. absurd (never failure says four), λ none. absurd (none r m command))
  where
    never : (failure : Failure) → Reports Puts failure status → status ≡ 4 → ⊥
    never (Unread name fault) (inl said) four = omega (arith, said.0, four)
    never (Broken place fault) (inl said) four = omega (arith, said.0, four)
    never NoMemory (inl said) four = said.1
    never failure (inr said) four = omega (arith, said.0, four)

-- nor does one with a verdict
pub done_is_no_usage : {P Q : Type 0} (words : List (List ℕ)) (r : Request) (m : List (List ℕ)) (own status : ℕ)
    → IsCommand words r m → own ≤ 2 → ((status ≡ own) × P) ⊎ ((status ≡ 6) × Q)
    → (status ≡ 4) ↔ ((request : Request) (names : List (List ℕ)) → IsCommand words request names → ⊥)
done_is_no_usage {P = P} {Q = Q} words r m own status command low line =
    (λ four. absurd (never line four), λ no_row. absurd (no_row r m command))
  where
    never : ((status ≡ own) × P) ⊎ ((status ≡ 6) × Q) → status ≡ 4 → ⊥
    never (inl said) four = omega (arith, said.0, low, four)
    never (inr said) four = omega (arith, said.0, four)

-- a call without a verdict ends with no status of a verdict
pub not_low : (failure : Failure) (status : ℕ) (P Q R : Type 0) → ((status ≡ status_of failure) × P × Q) ⊎ ((status ≡ 7) × R)
    → status ≤ 2 → ⊥
not_low (Unread name fault) status P Q R says low = elim says [ inl said ↦ omega arith | inr said ↦ omega arith ]
not_low (Broken place fault) status P Q R says low = elim says [ inl said ↦ omega arith | inr said ↦ omega arith ]
not_low NoMemory status P Q R says low = elim says [ inl said ↦ omega arith | inr said ↦ omega arith ]

-- ---- told contents

-- the contents that were read are the told ones
pub told_contents : (limits : ℕ → ℕ) (held : List ℕ → Told) (names contents told : List (List ℕ))
    → AreContents limits held names contents → AreTold held names told → contents ≡ told
told_contents limits held [] [] [] are e = refl
told_contents limits held [] [] (t ∷ told) are e = cc
told_contents limits held [] (c ∷ contents) told are e = absurd are
told_contents limits held (n ∷ names) [] told are e = absurd are
told_contents limits held (n ∷ names) (c ∷ contents) [] are e = cc
told_contents limits held (n ∷ names) (c ∷ contents) (t ∷ told) are e =
    let first : held n ≡ Content t = cc in
    let others : map held names ≡ map Content told = cc in
    let rest : contents ≡ told = told_contents (behind limits) held names contents told are.2 others in
    let same : c ≡ t = subst (λ h. IsContent h c) first are.0 in
    cc

-- what was read under the names of a command is what is told under them
told_same : (words : List (List ℕ)) (held : List ℕ → Told) (r s : Request) (m n contents told : List (List ℕ)) → IsCommand words r m
    → IsCommand words s n → AreContents (file_limits r) held m contents → AreTold held n told → contents ≡ told
told_same words held r s m n contents told here there are tells =
    let one = commands_one words r s m n here there in
    told_contents (file_limits r) held m contents told are (subst (λ (names : List (List ℕ)). AreTold held names told) (sym one.1) tells)

-- and an answer for it one for that
told_answer : (words : List (List ℕ)) (held : List ℕ → Told) (r s : Request) (m n contents told : List (List ℕ))
    (result : Result Verdict Refused)
    → IsCommand words r m → IsCommand words s n → AreContents (file_limits r) held m contents → AreTold held n told
    → IsAnswer r contents result → IsAnswer s told result
told_answer words held r s m n contents told result here there are tells answer =
    let one = commands_one words r s m n here there in
    let same : contents ≡ told = told_same words held r s m n contents told here there are tells in
    subst (λ (q : Request). IsAnswer q told result) one.0 (subst (λ (fs : List (List ℕ)). IsAnswer r fs result) same answer)

-- and what is claimed for it is claimed for that
pub told_claim : (words : List (List ℕ)) (held : List ℕ → Told) (r s : Request) (m n contents told : List (List ℕ)) (verdict : Verdict)
    → IsCommand words r m → IsCommand words s n → AreContents (file_limits r) held m contents → AreTold held n told
    → HoldsClaim r contents verdict → HoldsClaim s told verdict
told_claim words held r s m n contents told verdict here there are tells claim =
    let one = commands_one words r s m n here there in
    let same : contents ≡ told = told_same words held r s m n contents told here there are tells in
    subst (λ (q : Request). HoldsClaim q told verdict) one.0 (subst (λ (fs : List (List ℕ)). HoldsClaim r fs verdict) same claim)

-- what was put began with a line: so does what was to be put
begins : (old new : Option (List ℕ)) (before line rest out : List ℕ) (count : ℕ) → Appends old new (take count out)
    → old ≡ Some before → new ≡ Some (before ++ line ++ rest) → (more : List ℕ) × (out ≡ line ++ more)
begins None new before line rest out count put was is = absurd (cc)
begins (Some old) None before line rest out count put was is = absurd (cc)
begins (Some old) (Some new) before line rest out count put was is =
    let here : old ≡ before = cc in
    let there : new ≡ before ++ line ++ rest = cc in
    let grown : old ++ take count out ≡ old ++ (line ++ rest) = sym put ∙ there ∙ ap (λ (l : List ℕ). l ++ line ++ rest) (sym here)
    ∙ append_assoc old line rest in
    let taken : take count out ≡ line ++ rest = append_cancel_left old (take count out) (line ++ rest) grown in (
      rest ++ drop count out,
      sym (take-append-drop count out) ∙ ap (λ (l : List ℕ). l ++ drop count out) taken
          ∙ append_assoc line rest (drop count out),
    )

-- what a written output begins with, that of its verdict does
begun_says : {S : Type 0} (line : List ℕ) (faults : S → ℕ) (taken : S → Option (List ℕ)) (old new : S) (verdict : Verdict)
    (status : ℕ) → IsWritten faults taken old new verdict status → Begins line taken old new
    → (rest : List ℕ) × (verdict.out ≡ line ++ rest)
begun_says line faults taken old new verdict status (inl put) c =
    begins (taken old) (taken new) c.0 line c.1 verdict.out (length verdict.out)
    (subst (λ (l : List ℕ). Appends (taken old) (taken new) l) (sym (take_all (length verdict.out) verdict.out (omega arith)))
    put.1) c.2 c.3
begun_says line faults taken old new verdict status (inr failed) c = begins (taken old) (taken new) c.0 line c.1 verdict.out
    failed.2.0 failed.2.2 c.2 c.3

-- what is claimed of a verdict that was written, it says
pub claimed_says : {S : Type 0} (line : List ℕ) (faults : S → ℕ) (taken : S → Option (List ℕ)) (old new : S) (verdict : Verdict)
    (status : ℕ) → IsWritten faults taken old new verdict status → Claims line taken old new status → Says line verdict
claimed_says line faults taken old new verdict status (inl put) (inl none) = inl (sym put.0 ∙ none)
claimed_says line faults taken old new verdict status (inr failed) (inl none) = absurd (omega (arith, failed.0, none))
claimed_says line faults taken old new verdict status written (inr c) = inr (begun_says line faults taken old new verdict status written c)

-- what YES says of the contents of a `prove`
pub headline : {S : Type 0} (faults : S → ℕ) (taken : S → Option (List ℕ)) (old new : S) (words : List (List ℕ)) (request : Request)
    (names : List (List ℕ)) (held : List ℕ → Told) (verdict : Verdict) (status : ℕ) (d : List ℕ) (cs : List (List ℕ))
    (desc : List ℕ) (classes : List (List ℕ))
    → IsCommand words request names → IsAnswered (file_limits request) request names held verdict
    → IsWritten faults taken old new verdict status → IsProve words d cs → AreTold held (d ∷ cs) (desc ∷ classes)
    → Claims yes_line taken old new status → AllEnd classes desc
headline faults taken old new words request names held verdict status d cs desc classes command answered written prove tells claims =
    let claim : HoldsClaim (Prove prove.0) (desc ∷ classes) verdict = told_claim words held request (Prove prove.0) names (d ∷ cs)
    answered.contents (desc ∷ classes) verdict command prove.1 answered.read tells answered.claim in
    claim (claimed_says yes_line faults taken old new verdict status written claims)

-- and what stands behind it
pub certificate : {S : Type 0} (faults : S → ℕ) (taken : S → Option (List ℕ)) (old new : S) (words : List (List ℕ))
    (request : Request) (names : List (List ℕ)) (held : List ℕ → Told) (verdict : Verdict) (status : ℕ) (d : List ℕ)
    (cs : List (List ℕ)) (desc : List ℕ) (classes : List (List ℕ))
    → IsCommand words request names → IsAnswered (file_limits request) request names held verdict
    → IsWritten faults taken old new verdict status → IsProve words d cs → AreTold held (d ∷ cs) (desc ∷ classes)
    → status ≡ 0 → (cert : List ℕ) × (length cert ≤ 16777216) × IsAnswer Check (cert ∷ desc ∷ classes) (Ok accepted)
    × Appends (taken old) (taken new) (yes_text cert)
certificate faults taken old new words request names held verdict status d cs desc classes command answered (inl put) prove tells none =
    let there = prove.1 in
    let answer : IsAnswer (Prove prove.0) (desc ∷ classes) (Ok verdict) =
    told_answer words held request (Prove prove.0) names (d ∷ cs) answered.contents (desc ∷ classes) (Ok verdict) command there
    answered.read tells answered.answer in
    let is = certifies prove.0 desc classes verdict answer (sym put.0 ∙ none) in
    (is.cert, is.short, (refl, refl, is.accepted), subst (λ (out : List ℕ). Appends (taken old) (taken new) out) is.out_is put.1)
certificate faults taken old new words request names held verdict status d cs desc classes command answered (inr failed) prove tells
    none = absurd (omega (arith, failed.0, none))

-- what ACCEPTED says of the contents of a `check`
pub headline_of_check : {S : Type 0} (faults : S → ℕ) (taken : S → Option (List ℕ)) (old new : S) (words : List (List ℕ))
    (request : Request) (names : List (List ℕ)) (held : List ℕ → Told) (verdict : Verdict) (status : ℕ) (c d : List ℕ)
    (cs : List (List ℕ)) (cert desc : List ℕ) (classes : List (List ℕ))
    → IsCommand words request names → IsAnswered (file_limits request) request names held verdict
    → IsWritten faults taken old new verdict status → IsCheck words c d cs → AreTold held (c ∷ d ∷ cs) (cert ∷ desc ∷ classes)
    → Claims accepted_line taken old new status → AllEnd classes desc
headline_of_check faults taken old new words request names held verdict status c d cs cert desc classes command answered written
    check tells claims =
    let claim : HoldsClaim Check (cert ∷ desc ∷ classes) verdict = told_claim words held request Check names (c ∷ d ∷ cs)
    answered.contents (cert ∷ desc ∷ classes) verdict command check answered.read tells answered.claim in
    claim (claimed_says accepted_line faults taken old new verdict status written claims)

-- what YES says of a class that was made
pub headline_of_generate : {S : Type 0} (faults : S → ℕ) (taken : S → Option (List ℕ)) (old new : S) (words : List (List ℕ))
    (request : Request) (names : List (List ℕ)) (held : List ℕ → Told) (verdict : Verdict) (status n : ℕ) (class : List ℕ)
    → IsCommand words request names → IsAnswered (file_limits request) request names held verdict
    → IsWritten faults taken old new verdict status → IsCommand words (Generate n) [] → IsClass n class
    → Begins (yes_begin n) taken old new → AllEnd (class ∷ []) description
headline_of_generate faults taken old new words request names held verdict status n class command answered written generate is put =
    let claim : HoldsClaim (Generate n) [] verdict = told_claim words held request (Generate n) names [] answered.contents [] verdict
    command generate answered.read refl answered.claim in
    claim class is (begun_says (yes_begin n) faults taken old new verdict status written put)

-- what YES says of a text of rules
pub headline_of_its : {S : Type 0} (faults : S → ℕ) (taken : S → Option (List ℕ)) (old new : S) (words : List (List ℕ))
    (request : Request) (names : List (List ℕ)) (held : List ℕ → Told) (verdict : Verdict) (status : ℕ) (r text : List ℕ)
    → IsCommand words request names → IsAnswered (file_limits request) request names held verdict
    → IsWritten faults taken old new verdict status → IsIts words r → AreTold held (r ∷ []) (text ∷ [])
    → Claims its.yes_line taken old new status → IsEnding text
headline_of_its faults taken old new words request names held verdict status r text command answered written is tells claims =
    let claim : HoldsClaim Its (text ∷ []) verdict = told_claim words held request Its names (r ∷ []) answered.contents (text ∷ [])
    verdict command is answered.read tells answered.claim in
    claim (claimed_says its.yes_line faults taken old new verdict status written claims)

-- ---- completeness

-- a name has its content, of the size that is allowed
record IsHeld (held : List ℕ → Told) (name : List ℕ) (limit : ℕ) : Type 0 where
  content : List ℕ
  is_told : held name ≡ Content content
  is_within : length content ≤ limit

held_name : (limits : ℕ → ℕ) (held : List ℕ → Told) (names told : List (List ℕ)) (name : List ℕ) (place : ℕ)
    → slice_get names place ≡ Some name → AreTold held names told → AreWithin limits told → IsHeld held name (limits place)
held_name limits held [] told name place e tells within = absurd (cc)
held_name limits held (n ∷ names) [] name place e tells within = absurd (cc)
held_name limits held (n ∷ names) (t ∷ told) name zero e tells within =
    let first : held n ≡ Content t = cc in
    let named : n ≡ name = cc in
    record { content = t; is_told = ap held (sym named) ∙ first; is_within = within.0 }
held_name limits held (n ∷ names) (t ∷ told) name (suc place) e tells within =
    let others : map held names ≡ map Content told = cc in
    held_name (behind limits) held names told name place e others within.1

-- what is held within its limit is read, where the count did not rise
held_is_read : (held : Told) (limit before after : ℕ) (fault : FileFault) (content : List ℕ) → held ≡ Content content
    → length content ≤ limit → (Rose before after → ⊥) → ReadFails fault held limit before after → ⊥
held_is_read held limit before after Failed content told within none fails = none fails
held_is_read held limit before after TooLong content told within none fails =
    let longer : IsPastLimit (Content content) limit = subst (λ t. IsPastLimit t limit) told fails.0 in
    omega (arith, longer, within)
held_is_read held limit before after Missing content told within none fails = subst IsNotHeld told fails.0
held_is_read held limit before after Memory content told within none fails = fails

-- the files of a command that are told within their limits are read
all_read : {F : Type 0} (held : F → List ℕ → Told) (faults : F → ℕ) (leaves : F → List ℕ → F → Type 0) (words : List (List ℕ))
    (r s : Request) (m n told : List (List ℕ)) (old new : F) (name : List ℕ) (fault : FileFault)
    → IsCommand words r m → IsUnread held faults leaves (file_limits r) m old new name fault → AreHanded words (held old) s n told
    → (Rose (faults old) (faults new) → ⊥) → ⊥
all_read held faults leaves words r s m n told old new name fault command unread handed none =
    let one = commands_one words r s m n command handed.is_command in
    let named : slice_get n unread.place ≡ Some name = subst (λ (names : List (List ℕ)). slice_get names unread.place ≡ Some name)
    one.1 unread.is_named in
    let within : AreWithin (file_limits r) told = subst (λ (q : Request). AreWithin (file_limits q) told) (sym one.0) handed.within in
    let is : IsHeld (held old) name (file_limits r unread.place) = held_name (file_limits r) (held old) n told name unread.place
    named handed.told within in
    held_is_read (held old name) (file_limits r unread.place) (faults unread.between) (faults new) fault is.content is.is_told is.is_within
    (λ rose. none (subst (λ (count : ℕ). Rose count (faults new)) unread.still rose)) unread.cause

abbrev no_memory : Refused
no_memory = answers.Memory

some_answer : (verdict : Verdict) → (let r : Result Verdict Refused = Ok verdict in r) ≢ Err no_memory
some_answer verdict e = cc

some_refusal : (place : Place) (fault : Fault) → (let r : Result Verdict Refused = Err (At place fault) in r) ≢ Err no_memory
some_refusal place fault e = cc

-- what has no cause of refusal is answered
pub answered_written : {S : Type 0} (faults : S → ℕ) (taken : S → Option (List ℕ)) (old new : S) (words : List (List ℕ))
    (r s : Request) (m n told : List (List ℕ)) (held : List ℕ → Told) (given : Verdict) (said : Option Verdict) (status : ℕ)
    → IsCommand words r m → IsAnswered (file_limits r) r m held given → said ≡ Some given
    → IsWritten faults taken old new given status → AreHanded words held s n told → (Rose (faults old) (faults new) → ⊥)
    → ((own : Verdict) × (said ≡ Some own) × IsAnswer s told (Ok own) × (status ≡ own.status)
    × Appends (taken old) (taken new) own.out) ⊎ (status ≡ 7)
answered_written faults taken old new words r s m n told held given said status command answered is (inl put) handed none =
    inl (
      given,
      is,
      told_answer words held r s m n answered.contents told (Ok given) command handed.is_command answered.read
          handed.told answered.answer,
      put.0,
      put.1,
    )
answered_written faults taken old new words r s m n told held given said status command answered is (inr failed) handed none =
    absurd (none failed.1)

-- and a call without a verdict for it wants memory
pub unanswered : {F : Type 0} (held : F → List ℕ → Told) (faults : F → ℕ) (leaves : F → List ℕ → F → Type 0) (words : List (List ℕ))
    (r s : Request) (m n told : List (List ℕ)) (old new : F) (failure : Failure) (status : ℕ) (Puts : List ℕ → Type 0) (R : Type 0)
    → IsCommand words r m → HasCause held faults leaves (file_limits r) r m old new failure → Reports Puts failure status
    → AreHanded words (held old) s n told → IsUnrefused s told
    → (Rose (faults old) (faults new) → ⊥) → R ⊎ (status ≡ 7)
unanswered held faults leaves words r s m n told old new (Unread name fault) status Puts R command cause says handed good none =
    absurd (all_read held faults leaves words r s m n told old new name fault command cause handed none)
unanswered held faults leaves words r s m n told old new (Broken place fault) status Puts R command cause says handed good none =
    absurd (good place fault (told_answer words (held old) r s m n cause.0 told (Err (At place fault)) command handed.is_command
    cause.1 handed.told cause.2))
unanswered held faults leaves words r s m n told old new NoMemory status Puts R command cause (inl said) handed good none = absurd said.1
unanswered held faults leaves words r s m n told old new NoMemory status Puts R command cause (inr said) handed good none = inr said.0

-- the verdict of a call is one that the contents have
pub complete_written : {S : Type 0} (faults : S → ℕ) (taken : S → Option (List ℕ)) (old new : S) (words : List (List ℕ))
    (r s : Request) (m n told : List (List ℕ)) (held : List ℕ → Told) (given verdict : Verdict) (status : ℕ)
    → IsCommand words r m → IsAnswered (file_limits r) r m held given → IsWritten faults taken old new given status
    → AreHanded words held s n told → IsAnswer s told (Ok verdict)
    → (Rose (faults old) (faults new) → ⊥)
    → ((own : Verdict) × IsAnswer s told (Ok own) × AreAlike s verdict own × (status ≡ own.status)
    × Appends (taken old) (taken new) own.out) ⊎ (status ≡ 7)
complete_written faults taken old new words r s m n told held given verdict status command answered (inl put) handed answer none =
    let here : IsAnswer s told (Ok given) = told_answer words held r s m n answered.contents told (Ok given) command
    handed.is_command answered.read handed.told answered.answer in
    let alike : AreAlike s verdict given = answers_one s told (Ok verdict) (Ok given) answer here (some_answer verdict)
    (some_answer given) in
    inl (given, here, alike, put.0, put.1)
complete_written faults taken old new words r s m n told held given verdict status command answered (inr failed) handed answer none
    = absurd (none failed.1)

-- where the contents have a verdict, a call without one wants memory
pub complete : {F : Type 0} (held : F → List ℕ → Told) (faults : F → ℕ) (leaves : F → List ℕ → F → Type 0) (words : List (List ℕ))
    (r s : Request) (m n told : List (List ℕ)) (old new : F) (failure : Failure) (status : ℕ) (verdict : Verdict)
    (Puts : List ℕ → Type 0) (R : Type 0)
    → IsCommand words r m → HasCause held faults leaves (file_limits r) r m old new failure → Reports Puts failure status
    → AreHanded words (held old) s n told → IsAnswer s told (Ok verdict)
    → (Rose (faults old) (faults new) → ⊥) → R ⊎ (status ≡ 7)
complete held faults leaves words r s m n told old new (Unread name fault) status verdict Puts R command cause says handed answer none =
    absurd (all_read held faults leaves words r s m n told old new name fault command cause handed none)
complete held faults leaves words r s m n told old new (Broken place fault) status verdict Puts R command cause says handed answer none =
    let here : IsAnswer s told (Err (At place fault)) = told_answer words (held old) r s m n cause.0 told (Err (At place fault))
    command handed.is_command cause.1 handed.told cause.2 in
    absurd (answers_one s told (Err (At place fault)) (Ok verdict) here answer (some_refusal place fault) (some_answer verdict))
complete held faults leaves words r s m n told old new NoMemory status verdict Puts R command cause (inl said) handed answer none =
    absurd said.1
complete held faults leaves words r s m n told old new NoMemory status verdict Puts R command cause (inr said) handed answer none =
    inr said.0

-- where the contents have a cause of refusal, a call has no verdict
pub never_answered : (words : List (List ℕ)) (r s : Request) (m n told : List (List ℕ)) (held : List ℕ → Told) (given : Verdict)
    (place : Place) (fault : Fault)
    → IsCommand words r m → IsAnswered (file_limits r) r m held given → AreHanded words held s n told
    → IsAnswer s told (Err (At place fault)) → ⊥
never_answered words r s m n told held given place fault command answered handed answer =
    let here : IsAnswer s told (Ok given) = told_answer words held r s m n answered.contents told (Ok given) command
    handed.is_command answered.read handed.told answered.answer in
    answers_one s told (Ok given) (Err (At place fault)) here answer (some_answer given) (some_refusal place fault)

at_is : (place : Place) (fault : Fault) (p : Place) (f : Fault) → At place fault ≡ At p f → (place ≡ p) × (fault ≡ f)
at_is place fault p f e = (cc, cc)

-- and is refused for it, or memory is wanting
pub refuses : {F : Type 0} (held : F → List ℕ → Told) (faults : F → ℕ) (leaves : F → List ℕ → F → Type 0) (words : List (List ℕ))
    (r s : Request) (m n told : List (List ℕ)) (old new : F) (failure : Failure) (status : ℕ) (p : Place) (f : Fault)
    (Puts : List ℕ → Type 0)
    → IsCommand words r m → HasCause held faults leaves (file_limits r) r m old new failure → Reports Puts failure status
    → AreHanded words (held old) s n told → IsAnswer s told (Err (At p f))
    → (Rose (faults old) (faults new) → ⊥) → ((status ≡ 3) × Puts (refusal_line p f)) ⊎ (status ≡ 7)
refuses held faults leaves words r s m n told old new (Unread name fault) status p f Puts command cause says handed answer none =
    absurd (all_read held faults leaves words r s m n told old new name fault command cause handed none)
refuses held faults leaves words r s m n told old new (Broken place fault) status p f Puts command cause (inl said) handed answer none =
    let here : IsAnswer s told (Err (At place fault)) = told_answer words (held old) r s m n cause.0 told (Err (At place fault))
    command handed.is_command cause.1 handed.told cause.2 in
    let same = at_is place fault p f
    (answers_one s told (Err (At place fault)) (Err (At p f)) here answer (some_refusal place fault) (some_refusal p f)) in
    inl (said.0, subst (λ (g : Fault). Puts (refusal_line p g)) same.1 (subst (λ (q : Place). Puts (refusal_line q fault)) same.0 said.2))
refuses held faults leaves words r s m n told old new (Broken place fault) status p f Puts command cause (inr said) handed answer
    none = inr said.0
refuses held faults leaves words r s m n told old new NoMemory status p f Puts command cause (inl said) handed answer none = absurd said.1
refuses held faults leaves words r s m n told old new NoMemory status p f Puts command cause (inr said) handed answer none = inr said.0

-- ---- verdicts

-- a verdict that was written is the answer for the contents of the files that the words name
pub decided : (words : List (List ℕ)) (request : Request) (names : List (List ℕ)) (held : List ℕ → Told) (verdict : Verdict)
    (told : Option Verdict) → IsCommand words request names → IsAnswered (file_limits request) request names held verdict
    → told ≡ Some verdict → IfSome told (λ v. Decided words held (Ok v))
decided words request names held verdict told is answered same =
    let P : Option Verdict → Type 0 = λ o. IfSome o (λ v. Decided words held (Ok v)) in
    subst P (sym same) (record {
      request = request;
      names = names;
      is_command = is;
      contents = answered.contents;
      read = answered.read;
      answer = answered.answer;
    })

-- status 6 is that of an output that was not taken: the verdict's own is at most 2
pub unwritten : {A B R P Q : Type 0} (status own : ℕ) → own ≤ 2 → ((status ≡ own) × A) ⊎ ((status ≡ 6) × R × B)
    → ((status ≡ own) × P) ⊎ ((status ≡ 6) × Q) → status ≡ 6 → R × Q
unwritten status own low written (inl line) six = absurd (omega (arith, low, line.0, six))
unwritten status own low (inl w) (inr line) six = absurd (omega (arith, low, w.0, six))
unwritten status own low (inr w) (inr line) six = (w.1, line.1)

-- a verdict of status 2 is that of a refused certificate
refused_verdict : (request : Request) (files : List (List ℕ)) (verdict : Verdict) → IsAnswer request files (Ok verdict)
    → verdict.status ≡ 2 → (line : List ℕ) × (IsRefusedLine line × (verdict ≡ refused_with line))
refused_verdict (Prove nodes) [] verdict answer two = absurd answer
refused_verdict (Prove nodes) (desc ∷ classes) verdict answer two = let low = proved_low nodes desc classes verdict answer in absurd
    (omega (arith, low, two))
refused_verdict Check [] verdict answer two = absurd answer
refused_verdict Check (cert ∷ []) verdict answer two = absurd answer
refused_verdict Check (cert ∷ desc ∷ classes) verdict answer two =
    judged_refused (check.Answers cert desc classes) (check_judged cert desc classes) verdict answer two
refused_verdict (Run fuel) [] verdict answer two = absurd answer
refused_verdict (Run fuel) (state ∷ classes) verdict answer two = let none = answer.0 in absurd (omega (arith, none, two))
refused_verdict Asm [] verdict answer two = absurd answer
refused_verdict Asm (listing ∷ []) verdict answer two = let none = answer.0 in absurd (omega (arith, none, two))
refused_verdict Asm (listing ∷ more ∷ files) verdict answer two = absurd answer
refused_verdict (Generate n) [] verdict answer two = let none = answer.0 in absurd (omega (arith, none, two))
refused_verdict (Generate n) (file ∷ files) verdict answer two = absurd answer
refused_verdict Migrate [] verdict answer two = absurd answer
refused_verdict Migrate (cert ∷ []) verdict answer two = absurd answer
refused_verdict Migrate (cert ∷ desc ∷ classes) verdict answer two =
    judged_refused (migrate.Answers cert desc classes) (migrate_judged cert desc classes) verdict answer two
refused_verdict Bound [] verdict answer two = absurd answer
refused_verdict Bound (bound ∷ []) verdict answer two = absurd answer
refused_verdict Bound (bound ∷ cert ∷ []) verdict answer two = absurd answer
refused_verdict Bound (bound ∷ cert ∷ desc ∷ classes) verdict answer two =
    judged_refused (bounding.Answers bound cert desc classes) (bound_judged bound cert desc classes) verdict answer two
refused_verdict Loop [] verdict answer two = absurd answer
refused_verdict Loop (cert ∷ []) verdict answer two = absurd answer
refused_verdict Loop (cert ∷ state ∷ []) verdict answer two = absurd answer
refused_verdict Loop (cert ∷ state ∷ desc ∷ classes) verdict answer two =
    judged_refused (looping.Answers cert state desc classes) (loop_judged cert state desc classes) verdict answer two
refused_verdict Throws [] verdict answer two = absurd answer
refused_verdict Throws (cert ∷ []) verdict answer two = absurd answer
refused_verdict Throws (cert ∷ desc ∷ classes) verdict answer two =
    judged_refused (throws.Answers cert desc classes) (throws_judged cert desc classes) verdict answer two
refused_verdict Its [] verdict answer two = absurd answer
refused_verdict Its (text ∷ []) verdict answer two = let low = ruled_low text verdict answer in absurd (omega (arith, low, two))
refused_verdict Its (text ∷ more ∷ files) verdict answer two = absurd answer

-- status 2 comes where the certificate is refused
pub not_accepted : {S : Type 0} (faults : S → ℕ) (taken : S → Option (List ℕ)) (old new : S) (words : List (List ℕ))
    (request : Request) (names : List (List ℕ)) (held : List ℕ → Told) (verdict : Verdict) (status : ℕ)
    → IsCommand words request names → IsAnswered (file_limits request) request names held verdict
    → IsWritten faults taken old new verdict status
    → status ≡ 2 → (line : List ℕ) × IsRefusedLine line × Decided words held (Ok (refused_with line))
    × Appends (taken old) (taken new) line
not_accepted faults taken old new words request names held verdict status command answered (inl put) two =
    let is = refused_verdict request answered.contents verdict answered.answer (sym put.0 ∙ two) in
    let answer : IsAnswer request answered.contents (Ok (refused_with is.0)) = subst
    (λ (v : Verdict). IsAnswer request answered.contents (Ok v)) is.1.1 answered.answer in (
      is.0,
      is.1.0,
      record {
        request = request;
        names = names;
        is_command = command;
        contents = answered.contents;
        read = answered.read;
        answer =
            answer;
      },
      subst (λ (v : Verdict). Appends (taken old) (taken new) v.out) is.1.1 put.1,
    )
not_accepted faults taken old new words request names held verdict status command answered (inr failed) two = absurd
    (omega (arith, failed.0, two))

-- a verdict of status 1 is that no certificate is given, for a reason; or that rules are left
abbrev IsMaybe : Verdict → Type 0
IsMaybe verdict = ((reason : Reason PackedPairs) × ((text : List ℕ) × (verdict ≡ not_proved_for reason text)))
    ⊎ ((left : ItsFound) × ((text : List ℕ) × (verdict ≡ left_for left text)))

unproved_verdict : (request : Request) (files : List (List ℕ)) (verdict : Verdict) → IsAnswer request files (Ok verdict)
    → verdict.status ≡ 1 → IsMaybe verdict
unproved_verdict (Prove nodes) [] verdict answer one = absurd answer
unproved_verdict (Prove nodes) (desc ∷ classes) verdict answer one = inl (unproved nodes desc classes verdict answer one)
unproved_verdict Check [] verdict answer one = absurd answer
unproved_verdict Check (cert ∷ []) verdict answer one = absurd answer
unproved_verdict Check (cert ∷ desc ∷ classes) verdict answer one =
    absurd (judged_not_one (check.Answers cert desc classes) (check_judged cert desc classes) verdict answer one)
unproved_verdict (Run fuel) [] verdict answer one = absurd answer
unproved_verdict (Run fuel) (state ∷ classes) verdict answer one = let none = answer.0 in absurd (omega (arith, none, one))
unproved_verdict Asm [] verdict answer one = absurd answer
unproved_verdict Asm (listing ∷ []) verdict answer one = let none = answer.0 in absurd (omega (arith, none, one))
unproved_verdict Asm (listing ∷ more ∷ files) verdict answer one = absurd answer
unproved_verdict (Generate n) [] verdict answer one = let none = answer.0 in absurd (omega (arith, none, one))
unproved_verdict (Generate n) (file ∷ files) verdict answer one = absurd answer
unproved_verdict Migrate [] verdict answer one = absurd answer
unproved_verdict Migrate (cert ∷ []) verdict answer one = absurd answer
unproved_verdict Migrate (cert ∷ desc ∷ classes) verdict answer one =
    absurd (judged_not_one (migrate.Answers cert desc classes) (migrate_judged cert desc classes) verdict answer one)
unproved_verdict Bound [] verdict answer one = absurd answer
unproved_verdict Bound (bound ∷ []) verdict answer one = absurd answer
unproved_verdict Bound (bound ∷ cert ∷ []) verdict answer one = absurd answer
unproved_verdict Bound (bound ∷ cert ∷ desc ∷ classes) verdict answer one =
    absurd (judged_not_one (bounding.Answers bound cert desc classes) (bound_judged bound cert desc classes) verdict answer one)
unproved_verdict Loop [] verdict answer one = absurd answer
unproved_verdict Loop (cert ∷ []) verdict answer one = absurd answer
unproved_verdict Loop (cert ∷ state ∷ []) verdict answer one = absurd answer
unproved_verdict Loop (cert ∷ state ∷ desc ∷ classes) verdict answer one =
    absurd (judged_not_one (looping.Answers cert state desc classes) (loop_judged cert state desc classes) verdict answer one)
unproved_verdict Throws [] verdict answer one = absurd answer
unproved_verdict Throws (cert ∷ []) verdict answer one = absurd answer
unproved_verdict Throws (cert ∷ desc ∷ classes) verdict answer one =
    absurd (judged_not_one (throws.Answers cert desc classes) (throws_judged cert desc classes) verdict answer one)
unproved_verdict Its [] verdict answer one = absurd answer
unproved_verdict Its (text ∷ []) verdict answer one = inr (ruled_left text verdict answer one)
unproved_verdict Its (text ∷ more ∷ files) verdict answer one = absurd answer

-- a verdict that is this one is told, decided and written
abbrev IsTold : {S : Type 0} (taken : S → Option (List ℕ)) (old new : S) (words : List (List ℕ)) (held : List ℕ → Told)
    (told : Option Verdict) → (List ℕ → Verdict) → List ℕ → Type 0
IsTold taken old new words held told verdict_for text = (told ≡ Some (verdict_for text))
    × Decided words held (Ok (verdict_for text)) × Appends (taken old) (taken new) text

told_so : {S : Type 0} (taken : S → Option (List ℕ)) (old new : S) (words : List (List ℕ)) (request : Request)
    (names : List (List ℕ)) (held : List ℕ → Told) (verdict : Verdict) (told : Option Verdict) (verdict_for : List ℕ → Verdict)
    (text : List ℕ)
    → IsCommand words request names → IsAnswered (file_limits request) request names held verdict → told ≡ Some verdict
    → Appends (taken old) (taken new) verdict.out → verdict ≡ verdict_for text → (verdict_for text).out ≡ text
    → IsTold taken old new words held told verdict_for text
told_so taken old new words request names held verdict told verdict_for text command answered tells put same out =
    let answer : IsAnswer request answered.contents (Ok (verdict_for text)) = subst
    (λ (v : Verdict). IsAnswer request answered.contents (Ok v)) same answered.answer in (
      tells ∙ ap (λ (v : Verdict). Some v) same,
      record {
        request = request;
        names = names;
        is_command = command;
        contents = answered.contents;
        read = answered.read;
        answer =
            answer;
      },
      subst (λ (line : List ℕ). Appends (taken old) (taken new) line) (ap (λ (v : Verdict). v.out) same ∙ out) put,
    )

-- status 1 comes where no certificate is given, or no proof
pub not_proved : {S : Type 0} (faults : S → ℕ) (taken : S → Option (List ℕ)) (old new : S) (words : List (List ℕ))
    (request : Request) (names : List (List ℕ)) (held : List ℕ → Told) (verdict : Verdict) (told : Option Verdict) (status : ℕ)
    → IsCommand words request names → IsAnswered (file_limits request) request names held verdict → told ≡ Some verdict
    → IsWritten faults taken old new verdict status
    → status ≡ 1 → ((reason : Reason PackedPairs) × (text : List ℕ) × (told ≡ Some (not_proved_for reason text))
    × Decided words held (Ok (not_proved_for reason text)) × Appends (taken old) (taken new) text)
    ⊎ ((left : ItsFound) × (text : List ℕ) × (told ≡ Some (left_for left text)) × Decided words held (Ok (left_for left text))
    × Appends (taken old) (taken new) text)
not_proved faults taken old new words request names held verdict told status command answered tells (inl put) one = by
    (unproved_verdict request answered.contents verdict answered.answer (sym put.0 ∙ one))
  where
    by : IsMaybe verdict → ((reason : Reason PackedPairs) × (text : List ℕ) × (told ≡ Some (not_proved_for reason text))
        × Decided words held (Ok (not_proved_for reason text)) × Appends (taken old) (taken new) text)
        ⊎ ((left : ItsFound) × (text : List ℕ) × (told ≡ Some (left_for left text)) × Decided words held (Ok (left_for left text))
        × Appends (taken old) (taken new) text)
    by (inl is) = let all = told_so taken old new words request names held verdict told (not_proved_for is.0) is.1.0 command
        answered tells put.1 is.1.1 refl in inl (is.0, is.1.0, all.0, all.1, all.2)
    by (inr is) = let all = told_so taken old new words request names held verdict told (left_for is.0) is.1.0 command answered
        tells put.1 is.1.1 refl in inr (is.0, is.1.0, all.0, all.1, all.2)
not_proved faults taken old new words request names held verdict told status command answered tells (inr failed) one = absurd
    (omega (arith, failed.0, one))

-- ---- reasons

-- where nothing is kept, and the status is another
no_reason : (verdict : Verdict) → (verdict.status ≡ 1 → ⊥) → verdict.reason ≡ None → verdict.its ≡ None
    → (verdict.status ≡ 1) ↔ HasReason verdict
no_reason verdict other none without = (λ one. absurd (other one), λ h. absurd (by h))
  where
    by : HasReason verdict → ⊥
    by (inl h) = let e : (let o : Option (Reason PackedPairs) = None in o) ≡ Some h.0 = sym none ∙ h.1 in cc
    by (inr h) = let e : (let o : Option ItsFound = None in o) ≡ Some h.0 = sym without ∙ h.1 in cc

-- a `prove` keeps nothing of rules
of_prove : (verdict : Verdict) → verdict.its ≡ None
    → (verdict.status ≡ 1) ↔ ((reason : Reason PackedPairs) × (verdict.reason ≡ Some reason)) → (verdict.status ≡ 1) ↔ HasReason verdict
of_prove verdict without kept = (λ one. inl (kept.0 one), by)
  where
    by : HasReason verdict → verdict.status ≡ 1
    by (inl h) = kept.1 h
    by (inr h) = absurd (let e : (let o : Option ItsFound = None in o) ≡ Some h.0 = sym without ∙ h.1 in cc)

pub reasons_kept : (request : Request) (contents : List (List ℕ)) (verdict : Verdict) → IsAnswer request contents (Ok verdict)
    → IsUnproved request verdict ↔ HasReason verdict
reasons_kept (Prove nodes) [] verdict answer = absurd answer
reasons_kept (Prove nodes) (desc ∷ classes) verdict answer = of_prove verdict answer.0 (reason_kept nodes desc classes verdict answer)
reasons_kept Check [] verdict answer = absurd answer
reasons_kept Check (cert ∷ []) verdict answer = absurd answer
reasons_kept Check (cert ∷ desc ∷ classes) verdict answer =
    no_reason verdict (judged_not_one (check.Answers cert desc classes) (check_judged cert desc classes) verdict answer) answer.0 answer.1
reasons_kept (Run fuel) [] verdict answer = absurd answer
reasons_kept (Run fuel) (state ∷ classes) verdict answer = no_reason verdict
    (λ one. let none = answer.0 in omega (arith, none, one)) answer.1 answer.2
reasons_kept Asm [] verdict answer = absurd answer
reasons_kept Asm (listing ∷ []) verdict answer = no_reason verdict (λ one. let none = answer.0 in omega (arith, none, one)) answer.1
    answer.2
reasons_kept Asm (listing ∷ more ∷ files) verdict answer = absurd answer
reasons_kept (Generate n) [] verdict answer = made_reason n verdict answer
reasons_kept (Generate n) (file ∷ files) verdict answer = absurd answer
reasons_kept Migrate [] verdict answer = absurd answer
reasons_kept Migrate (cert ∷ []) verdict answer = absurd answer
reasons_kept Migrate (cert ∷ desc ∷ classes) verdict answer =
    no_reason verdict (judged_not_one (migrate.Answers cert desc classes) (migrate_judged cert desc classes) verdict answer) answer.0 answer.1
reasons_kept Bound [] verdict answer = absurd answer
reasons_kept Bound (bound ∷ []) verdict answer = absurd answer
reasons_kept Bound (bound ∷ cert ∷ []) verdict answer = absurd answer
reasons_kept Bound (bound ∷ cert ∷ desc ∷ classes) verdict answer =
    no_reason verdict (judged_not_one (bounding.Answers bound cert desc classes) (bound_judged bound cert desc classes) verdict answer)
    answer.0 answer.1
reasons_kept Loop [] verdict answer = absurd answer
reasons_kept Loop (cert ∷ []) verdict answer = absurd answer
reasons_kept Loop (cert ∷ state ∷ []) verdict answer = absurd answer
reasons_kept Loop (cert ∷ state ∷ desc ∷ classes) verdict answer =
    no_reason verdict (judged_not_one (looping.Answers cert state desc classes) (loop_judged cert state desc classes) verdict answer) answer.0 answer.1
reasons_kept Throws [] verdict answer = absurd answer
reasons_kept Throws (cert ∷ []) verdict answer = absurd answer
reasons_kept Throws (cert ∷ desc ∷ classes) verdict answer =
    no_reason verdict (judged_not_one (throws.Answers cert desc classes) (throws_judged cert desc classes) verdict answer) answer.0 answer.1
reasons_kept Its [] verdict answer = absurd answer
reasons_kept Its (text ∷ []) verdict answer = ruled_reason text verdict answer
reasons_kept Its (text ∷ more ∷ files) verdict answer = absurd answer
