-- The two directions of a reading's contract, for what a call returned.
use Rattle.std.proofs.Common.{ℕ, List, Result, Ok, Err}
use Rattle.std.specs.Prelude.{IfOk}
use Rattle.class_read.specs.declared.fault.ClassFault.{ClassFault}
use Rattle.class_read.specs.Content.{ClassContent}
use Rattle.class_read.specs.Reading.{Gives}
use Rattle.class_read.specs.Rules.{Spells}
use Rattle.class_read.specs.FirstFault.{class_in}
use Rattle.class_read.proofs.Exact.{IsBytes}
use Rattle.class_read.proofs.ClassLaws.{class_found, class_again}

pub is_found : (bytes : List ℕ) (r : Result ClassContent ClassFault) → IsBytes bytes → Gives (λ c. c) r (class_in bytes)
    → IfOk r (λ c. Spells bytes c)
is_found bytes (Ok c) fits given = class_found bytes c fits given
is_found bytes (Err e) fits given = tt

pub is_only : (bytes : List ℕ) (r : Result ClassContent ClassFault) (c : ClassContent) → Spells bytes c
    → Gives {Y = ClassContent} (λ d. d) r (class_in bytes) → Gives {Y = ClassContent} (λ d. d) r (Ok c)
is_only bytes r c spelled given = rw (← class_again bytes c spelled) given
