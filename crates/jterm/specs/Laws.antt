-- What the definitions of this crate say of one another.
use Rattle.std.specs.Prelude.{◌≡◌, ◌≢◌, ◌↔◌, ℕ, List, ◌∷◌, Result, Ok, Err}
use Rattle.input_steps.specs.declared.refused.Refused.{Refused}
use Rattle.input_steps.specs.declared.refused.Refused.TheVariants.{Memory}
use Rattle.class_calls.specs.declared.command_rows.table.Request.{Request}
use Rattle.class_calls.specs.declared.command_rows.table.Request.TheVariants.{Prove, Check, Run, Asm, Migrate, Bound, Loop, Throws}
use Rattle.jterm.specs.declared.verdict.Verdict.{Verdict}
use Rattle.jterm.specs.Decision.{accepted, IsAnswer, HasReason, IsUnproved}
use Rattle.prove_call.specs.Lines.{yes_text}

-- Verdicts for the same contents. Of `check`, `run`, `asm`, `migrate`, `bound`, `loop` and `throws` they are one.
-- What another command finds, which searches for a proof, is free: one certificate or another, or none for a reason;
-- a proof, or rules that are left.
abbrev pub AreAlike : Request → Verdict → Verdict → Type 0
AreAlike Check a b = a ≡ b
AreAlike (Run fuel) a b = a ≡ b
AreAlike Asm a b = a ≡ b
AreAlike Migrate a b = a ≡ b
AreAlike Bound a b = a ≡ b
AreAlike Loop a b = a ≡ b
AreAlike Throws a b = a ≡ b
AreAlike request a b = Unit {0}

-- two verdicts that are alike, or one place and fault twice
abbrev pub AreOne : Request → Result Verdict Refused → Result Verdict Refused → Type 0
AreOne request (Ok a) (Ok b) = AreAlike request a b
AreOne request (Err a) (Err b) = a ≡ b
AreOne request a b = ⊥

-- Want of memory aside, a request has one answer for the contents of its files: one place and fault; or a verdict, which is one but for the
-- commands that search for a proof.
abbrev pub AnswersAreOne : Type 0
AnswersAreOne = (request : Request) (contents : List (List ℕ)) (a b : Result Verdict Refused) → IsAnswer request contents a
    → IsAnswer request contents b
    → a ≢ Err Memory → b ≢ Err Memory → AreOne request a b

-- a verdict keeps a reason, or what is left, exactly where nothing is proved
abbrev pub ReasonsAreKept : Type 0
ReasonsAreKept = (request : Request) (contents : List (List ℕ)) (verdict : Verdict) → IsAnswer request contents (Ok verdict)
    → IsUnproved request verdict ↔ HasReason verdict

-- behind a YES of `prove` stands a certificate, which `check` accepts for the same files
abbrev pub CertificatesAreAccepted : Type 0
CertificatesAreAccepted = (nodes : ℕ) (desc : List ℕ) (classes : List (List ℕ)) (verdict : Verdict)
    → IsAnswer (Prove nodes) (desc ∷ classes) (Ok verdict) → verdict.status ≡ 0
    → (cert : List ℕ) × (verdict.out ≡ yes_text cert) × IsAnswer Check (cert ∷ desc ∷ classes) (Ok accepted)

-- `migrate` gives a certificate exactly where `check` accepts the one that it is given
abbrev pub AcceptedMigrate : Type 0
AcceptedMigrate = (cert desc : List ℕ) (classes : List (List ℕ))
    → ((verdict : Verdict) × ((verdict.status ≡ 0) × IsAnswer Migrate (cert ∷ desc ∷ classes) (Ok verdict)))
    ↔ IsAnswer Check (cert ∷ desc ∷ classes) (Ok accepted)
