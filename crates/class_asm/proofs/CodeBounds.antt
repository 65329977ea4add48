-- A method's code, or none where it is faulty, is no longer than a file can say.
use Rattle.std.proofs.Common.{◌≡◌, ℕ, ◌<◌, ◌^◌, List, length, Option, Some, None, refl, arith, map}
use Rattle.asm_lines.specs.declared.fault.AsmFault.{AsmFault}
use Rattle.asm_lines.specs.declared.listing.MethodLines.{MethodLines}
use Rattle.class_asm.specs.declared.asm_codes.code.MethodCode.{MethodCode}
use Rattle.class_asm.specs.asm_codes.Pooled.{Pooled}
use Rattle.class_asm.specs.asm_pool.Pools.{Numbered}
use Rattle.class_asm.specs.Classes.{pooled, code_said, code_in}
use Rattle.class_asm.specs.asm_codes.LineFaults.{first_fault}
use Rattle.class_asm.specs.asm_codes.Places.{places_of}
use Rattle.class_asm.specs.asm_codes.MethodCodes.{answered, code_at, method_code}
use Rattle.class_asm.proofs.CodeSizes.{sized}

pub record IsFew (code : MethodCode) : Type 0 where
  pub bytes : length code.bytes < 2 ^ 16
  pub table : length code.table < 2 ^ 16

answered_few : (lines : List Pooled) (o : Option AsmFault) → first_fault (places_of lines) lines ≡ o
    → IsFew (code_in (answered o (code_at (places_of lines) lines)))
answered_few lines None h = let s = sized lines (code_at (places_of lines) lines) h refl in record { bytes = s.few; table = s.table }
answered_few lines (Some fault) h = record { bytes = omega arith; table = omega arith }

pub few : (pool : Numbered) (m : MethodLines) → IsFew (code_in (code_said pool m))
unfolding method_code
few pool m = answered_few (map (pooled pool) m.lines)
    (first_fault (places_of (map (pooled pool) m.lines)) (map (pooled pool) m.lines)) refl
