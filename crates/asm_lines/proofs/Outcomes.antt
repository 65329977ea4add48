-- What a call that answers a fault other than want of memory was to say.
use Rattle.std.proofs.Common.{◌≡◌, Result, Err, refl}
use Rattle.list_views.specs.Results.{IsDue}
use Rattle.asm_lines.specs.declared.fault.AsmFault.{AsmFault}
use Rattle.asm_lines.specs.declared.fault.AsmFault.TheVariants.{Syntax, UnknownOpcode, UnknownLabel, DuplicateLabel, OutOfRange}
use Rattle.asm_lines.specs.declared.fault.AsmFault.TheVariants.{NoEnd, Memory}
use Rattle.asm_lines.specs.Statements.{is_memory}

pub fails_is : {Y : Type 0} (fault : AsmFault) (said : Result Y AsmFault) → (fault ≡ Memory → ⊥) → IsDue is_memory fault said
    → said ≡ Err fault
fails_is (Syntax line) said differs h = h
fails_is (UnknownOpcode line) said differs h = h
fails_is (UnknownLabel line) said differs h = h
fails_is (DuplicateLabel line) said differs h = h
fails_is (OutOfRange line) said differs h = h
fails_is (NoEnd line) said differs h = h
fails_is Memory said differs h = absurd (differs refl)

pub is_fault : {Y : Type 0} (fault : AsmFault) (said : Result Y AsmFault) → said ≡ Err fault → IsDue is_memory fault said
is_fault (Syntax line) said h = h
is_fault (UnknownOpcode line) said h = h
is_fault (UnknownLabel line) said h = h
is_fault (DuplicateLabel line) said h = h
is_fault (OutOfRange line) said h = h
is_fault (NoEnd line) said h = h
is_fault Memory said h = tt
