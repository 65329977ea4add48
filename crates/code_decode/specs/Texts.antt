-- The bytes of an instruction, and what has bytes.
-- JVM specification, section 6.5 (each instruction's format) and section 4.9 (switches, `invokeinterface`, `newarray`).
use Rattle.std.specs.Prelude.{ℕ, zero, suc, ◌-◌, ◌%◌, ◌^◌, ◌<◌, ◌≤◌, ℤ, pos, ◌+ℤ◌, List, [], ◌∷◌, ◌++◌, length, IsTrue}
use Rattle.std.specs.Int.{Width, w8, w16, w32, to_be_bytes, cast_unsigned}
use Rattle.std.specs.Int.RustNames.{FitsSigned}
use Rattle.std.specs.List.{flat_map, AllByRecursion}
use Rattle.std.proofs.Common.{◌-ℤ◌}
use Rattle.code_forms.specs.declared.insn.Case.{Case}
use Rattle.code_forms.specs.declared.insn.Insn.{Insn}
use Rattle.code_forms.specs.Cases.{is_rising}
use Rattle.code_forms.specs.Spellings.{Spelling, Plain, Byte, Pair, SignedByte, SignedPair, Jump, FarJump, Increment, Table, Lookup}
use Rattle.code_forms.specs.Spellings.{Interface, Array, WideLocal, WideIncrement, spelling}

-- a signed number in bytes: in two's complement, the highest byte first
abbrev pub signed : Width → ℤ → List ℕ
signed w v = to_be_bytes w (cast_unsigned w v)

-- a target in the bytes of a jump or switch: its distance from the instruction's own place
abbrev pub distance : ℕ → ℕ → ℤ
distance pc target = pos target -ℤ pos pc

-- how many bytes of padding a switch at a place has, so that its default begins at a multiple of four (JVM specification,
-- 6.5.tableswitch, 6.5.lookupswitch)
abbrev pub padding_of : ℕ → ℕ
padding_of pc = 3 - pc % 4

-- a case of a lookupswitch: its key, and the distance of its target (JVM specification, 6.5.lookupswitch)
abbrev pub case_text : ℕ → Case → List ℕ
case_text pc c = signed w32 c.key ++ signed w32 (distance pc c.target)

-- a tableswitch behind its opcode: padding, default, low, high and the targets of the keys from low to high (JVM specification,
-- 6.5.tableswitch)
abbrev pub table_text : ℕ → List ℕ → ℕ → ℤ → List ℕ → List ℕ
table_text pc padding default low targets =
    padding ++ (signed w32 (distance pc default)
    ++ (signed w32 low ++ (signed w32 (low +ℤ pos (length targets - 1)) ++ flat_map
    (λ target. signed w32 (distance pc target)) targets)))

-- a lookupswitch behind its opcode: padding, default, the number of cases and the cases (JVM specification, 6.5.lookupswitch)
abbrev pub lookup_text : ℕ → List ℕ → ℕ → List Case → List ℕ
lookup_text pc padding default cases =
    padding ++ (signed w32 (distance pc default) ++ (to_be_bytes w32 (length cases) ++ flat_map (case_text pc) cases))

-- the bytes of an instruction's form at a place (JVM specification, section 6.5); the padding counts in switches alone
abbrev pub spelling_text : ℕ → List ℕ → Spelling → List ℕ
spelling_text pc padding (Plain op) = op ∷ []
spelling_text pc padding (Byte op n) = op ∷ n ∷ []
spelling_text pc padding (Pair op n) = op ∷ to_be_bytes w16 n
spelling_text pc padding (SignedByte op v) = op ∷ cast_unsigned w8 v ∷ []
spelling_text pc padding (SignedPair op v) = op ∷ signed w16 v
spelling_text pc padding (Jump op target) = op ∷ signed w16 (distance pc target)
spelling_text pc padding (FarJump op target) = op ∷ signed w32 (distance pc target)
spelling_text pc padding (Increment op n v) = op ∷ n ∷ cast_unsigned w8 v ∷ []
spelling_text pc padding (Table op default low targets) = op ∷ table_text pc padding default low targets
spelling_text pc padding (Lookup op default cases) = op ∷ lookup_text pc padding default cases
spelling_text pc padding (Interface op n count) = op ∷ (to_be_bytes w16 n ++ count ∷ 0 ∷ [])
spelling_text pc padding (Array op code) = op ∷ code ∷ []
spelling_text pc padding (WideLocal op n) = 196 ∷ op ∷ to_be_bytes w16 n
spelling_text pc padding (WideIncrement op n v) = 196 ∷ op ∷ (to_be_bytes w16 n ++ signed w16 v)

-- the bytes of an instruction at a place, with these bytes as a switch's padding
abbrev pub text : ℕ → List ℕ → Insn → List ℕ
text pc padding insn = spelling_text pc padding (spelling insn)

-- a jump at a place reaches a target: the target is a place of two bytes, and its distance fits the field
pub record Reaches (w : Width) (pc target : ℕ) : Type 0 where
  pub place : target < 2 ^ 16
  pub fits : FitsSigned w (distance pc target)

-- A tableswitch at a place can be written: it has at least one key, its lowest and its highest key fit four bytes, and its default
-- and its targets are reached.
pub record IsTable (pc default : ℕ) (low : ℤ) (targets : List ℕ) : Type 0 where
  pub otherwise : Reaches w32 pc default
  pub lowest : FitsSigned w32 low
  pub some : 0 < length targets
  pub highest : FitsSigned w32 (low +ℤ pos (length targets - 1))
  pub each : AllByRecursion (Reaches w32 pc) targets

-- A lookupswitch at a place can be written: the number of its cases and every key fit four bytes, its default and its targets are
-- reached, and the keys rise.
pub record IsLookup (pc default : ℕ) (cases : List Case) : Type 0 where
  pub otherwise : Reaches w32 pc default
  pub few : length cases < 2 ^ 31
  pub each : AllByRecursion (λ c. FitsSigned w32 c.key × Reaches w32 pc c.target) cases
  pub rising : IsTrue (is_rising cases)

-- an instruction's form has bytes at a place: every number and distance fits its field, and the rules on switches and operands
-- hold
abbrev pub FitsSpelling : ℕ → Spelling → Type 0
FitsSpelling pc (Plain op) = Unit {0}
FitsSpelling pc (Byte op n) = n < 2 ^ 8
FitsSpelling pc (Pair op n) = n < 2 ^ 16
FitsSpelling pc (SignedByte op v) = FitsSigned w8 v
FitsSpelling pc (SignedPair op v) = FitsSigned w16 v
FitsSpelling pc (Jump op target) = Reaches w16 pc target
FitsSpelling pc (FarJump op target) = Reaches w32 pc target
FitsSpelling pc (Increment op n v) = (n < 2 ^ 8) × FitsSigned w8 v
FitsSpelling pc (Table op default low targets) = IsTable pc default low targets
FitsSpelling pc (Lookup op default cases) = IsLookup pc default cases
FitsSpelling pc (Interface op n count) = (n < 2 ^ 16) × (count < 2 ^ 8)
FitsSpelling pc (Array op code) = (4 ≤ code) × (code ≤ 11)
FitsSpelling pc (WideLocal op n) = n < 2 ^ 16
FitsSpelling pc (WideIncrement op n v) = (n < 2 ^ 16) × FitsSigned w16 v

-- an instruction has bytes at a place
abbrev pub Fits : ℕ → Insn → Type 0
Fits pc insn = FitsSpelling pc (spelling insn)

-- so many bytes of zero, the padding of a switch where a code is written
abbrev pub zeros : ℕ → List ℕ
zeros zero = []
zeros (suc n) = 0 ∷ zeros n
