-- Reading instructions (JVM specification, chapter 6) from left to right, with the first fault that is met.
use Rattle.std.specs.Prelude.{ℕ, zero, suc, ◌+◌, ℤ, pos, negsuc, ◌+ℤ◌, List, [], ◌∷◌, length, take, drop, Option, Some, None}
use Rattle.std.specs.Prelude.{option_map, Result, Ok, Err, nat_lt, ◌==◌, ◌&&◌, if◌then◌else◌}
use Rattle.std.specs.Int.{Width, w8, w16, w32, byte_len, from_be_bytes, cast_signed}
use Rattle.std.specs.Int.RustNames.{int_lt, unsigned_abs}
use Rattle.std.proofs.Common.{◌-ℤ◌}
pub use Rattle.code_forms.specs.list_views.Results.{◌>>=◌}
use Rattle.code_forms.specs.declared.fault.CodeFault.{CodeFault}
use Rattle.code_forms.specs.declared.fault.CodeFault.TheVariants.{Truncated, UnsupportedOpcode, UnknownOpcode, BadSwitch, BadOperand}
use Rattle.code_forms.specs.declared.insn.Case.{Case}
use Rattle.code_forms.specs.declared.insn.Insn.{Insn}
use Rattle.code_forms.specs.declared.insn.Insn.TheVariants.{Bipush, GotoW, Iinc, Invokeinterface, Lookupswitch, Newarray, Sipush}
use Rattle.code_forms.specs.declared.insn.Insn.TheVariants.{Tableswitch, WideIinc}
use Rattle.code_forms.specs.Opcodes.{find_by, with_byte, with_pair, with_jump, wide_local, first_of, plain}
use Rattle.code_forms.specs.Cases.{is_rising}
use Rattle.code_decode.specs.Texts.{padding_of}

-- ---- fields: a value and the bytes after it

-- a byte, and the bytes after it; where there is none, the instruction at `pc` is Truncated
abbrev pub byte_at : ℕ → List ℕ → Result (ℕ × List ℕ) CodeFault
byte_at pc [] = Err (Truncated pc)
byte_at pc (b ∷ rest) = Ok (b, rest)

-- a number of this width, the highest byte first, and the bytes after it
abbrev pub number_at : Width → ℕ → List ℕ → Result (ℕ × List ℕ) CodeFault
number_at w pc bytes = if nat_lt (length bytes) (byte_len w) then Err (Truncated pc) else Ok
    (from_be_bytes w (take (byte_len w) bytes), drop (byte_len w) bytes)

-- a signed number of this width in two's complement, the highest byte first, and the bytes after it
unfoldable pub signed_at : Width → ℕ → List ℕ → Result (ℤ × List ℕ) CodeFault
signed_at w pc bytes = do
  n ← number_at w pc bytes
  Ok (cast_signed w n.0, n.1)

-- A place by a number that may be out of a code. A number below 0, or from 65,535 on, is the place of no instruction; 65,535 stands
-- for all of these.
abbrev pub place_of_sum : ℤ → ℕ
place_of_sum (pos n) = if nat_lt n 65535 then n else 65535
place_of_sum (negsuc n) = 65535

-- the target at this distance from the instruction at `pc`
abbrev pub place_of : ℕ → ℤ → ℕ
place_of pc d = place_of_sum (pos pc +ℤ d)

-- the target of the instruction at `pc`, by a distance of this width, and the bytes after it
unfoldable pub target_at : Width → ℕ → List ℕ → Result (ℕ × List ℕ) CodeFault
target_at w pc bytes = do
  d ← signed_at w pc bytes
  Ok (place_of pc d.0, d.1)

-- the bytes behind so many bytes that are passed over
unfoldable pub skip_at : ℕ → ℕ → List ℕ → Result (List ℕ) CodeFault
skip_at n pc bytes = if nat_lt (length bytes) n then Err (Truncated pc) else Ok (drop n bytes)

-- What stands behind an opcode, and what becomes of it: an instruction without operands, a family of instructions over one number or
-- target, or the one instruction that has operands of this form.
pub data OperandLayout : Type 0 where
  Plain : Insn → OperandLayout
  Byte : (ℕ → Insn) → OperandLayout
  Pair : (ℕ → Insn) → OperandLayout
  Jump : (ℕ → Insn) → OperandLayout
  SignedByte : OperandLayout
  SignedPair : OperandLayout
  Increment : OperandLayout
  Table : OperandLayout
  Lookup : OperandLayout
  Interface : OperandLayout
  Array : OperandLayout
  Wide : OperandLayout
  FarJump : OperandLayout

-- the layout of an opcode that is the only one with its layout; 196 is `wide`
abbrev pub single_layout : ℕ → Option OperandLayout
single_layout op =
    if op == 16 then Some SignedByte else (
    if op == 17 then Some SignedPair else (
    if op == 132 then Some Increment else (
    if op == 170 then Some Table else (
    if op == 171 then Some Lookup else (
    if op == 185 then Some Interface else (
    if op == 188 then Some Array else (
    if op == 196 then Some Wide else (
    if op == 200 then Some FarJump else None))))))))

-- the layout of an opcode whose instruction has operands, none where there is no such instruction
abbrev pub operand_layout : ℕ → Option OperandLayout
operand_layout op =
    first_of (option_map Byte (find_by with_byte op)) (
    first_of (option_map Pair (find_by with_pair op)) (
    first_of (option_map Jump (find_by with_jump op)) (
    single_layout op)))

-- the layout of an opcode, none where it is that of no instruction which is read
abbrev pub layout : ℕ → Option OperandLayout
layout op = first_of (option_map Plain (plain op)) (operand_layout op)

-- ---- instructions: the instruction and the bytes after it

-- so many values, one behind the other, and the bytes after them
unfoldable pub repeat_at : {A : Type 0} → (List ℕ → Result (A × List ℕ) CodeFault) → ℕ → List ℕ → Result (List A × List ℕ) CodeFault
repeat_at read zero bytes = Ok ([], bytes)
repeat_at read (suc n) bytes = do
  first ← read bytes
  others ← repeat_at read n first.1
  Ok (first.0 ∷ others.0, others.1)

-- a case of a lookupswitch: its key and its target (JVM specification, 6.5.lookupswitch)
unfoldable pub case_at : ℕ → List ℕ → Result (Case × List ℕ) CodeFault
case_at pc bytes = do
  key ← signed_at w32 pc bytes
  target ← target_at w32 pc key.1
  Ok (record { key = key.0; target = target.0 }, target.1)

-- the targets of a tableswitch, one for each key from low to high; where low is above high it is a BadSwitch
unfoldable pub table_targets_at : ℕ → ℤ → ℤ → List ℕ → Result (List ℕ × List ℕ) CodeFault
table_targets_at pc low high bytes = if int_lt high low then Err (BadSwitch pc) else repeat_at (target_at w32 pc)
    (unsigned_abs (high -ℤ low) + 1) bytes

-- a tableswitch behind its opcode (JVM specification, 6.5.tableswitch)
unfoldable pub table_at : ℕ → List ℕ → Result (Insn × List ℕ) CodeFault
table_at pc bytes = do
  padded ← skip_at (padding_of pc) pc bytes
  default ← target_at w32 pc padded
  low ← signed_at w32 pc default.1
  high ← signed_at w32 pc low.1
  targets ← table_targets_at pc low.0 high.0 high.1
  Ok (Tableswitch default.0 low.0 targets.0, targets.1)

-- the cases of a lookupswitch, of which there are so many; a count that is negative as a signed number is a BadSwitch
unfoldable pub counted_cases_at : ℕ → ℕ → List ℕ → Result (List Case × List ℕ) CodeFault
counted_cases_at count pc bytes = if nat_lt count 2147483648 then repeat_at (case_at pc) count bytes else Err (BadSwitch pc)

-- a lookupswitch behind its opcode (JVM specification, 6.5.lookupswitch); whether the keys rise is looked at behind the last case
unfoldable pub lookup_at : ℕ → List ℕ → Result (Insn × List ℕ) CodeFault
lookup_at pc bytes = do
  padded ← skip_at (padding_of pc) pc bytes
  default ← target_at w32 pc padded
  count ← number_at w32 pc default.1
  cases ← counted_cases_at count.0 pc count.1
  if is_rising cases.0 then Ok (Lookupswitch default.0 cases.0, cases.1) else Err (BadSwitch pc)

-- an invokeinterface behind its opcode: a pool entry, a count, and a byte that has to be 0 (JVM specification, 6.5.invokeinterface)
unfoldable pub interface_at : ℕ → List ℕ → Result (Insn × List ℕ) CodeFault
interface_at pc bytes = do
  entry ← number_at w16 pc bytes
  count ← byte_at pc entry.1
  last ← byte_at pc count.1
  if last.0 == 0 then Ok (Invokeinterface entry.0 count.0, last.1) else Err (BadOperand pc)

-- a newarray behind its opcode: the code of an element type, from 4 to 11 (JVM specification, 6.5.newarray)
unfoldable pub array_at : ℕ → List ℕ → Result (Insn × List ℕ) CodeFault
array_at pc bytes = do
  code ← byte_at pc bytes
  if nat_lt 3 code.0 && nat_lt code.0 12 then Ok (Newarray code.0, code.1) else Err (BadOperand pc)

-- an iinc behind `wide`: a local of two bytes and a signed number of two bytes (JVM specification, 6.5.wide)
unfoldable pub wide_increment_at : ℕ → List ℕ → Result (Insn × List ℕ) CodeFault
wide_increment_at pc bytes = do
  local ← number_at w16 pc bytes
  value ← signed_at w16 pc local.1
  Ok (WideIinc local.0 value.0, value.1)

-- what stands behind `wide` and an opcode: a local of two bytes where the opcode is in the table, an iinc, or else a BadOperand
unfoldable pub wide_operand_at : ℕ → ℕ → Option (ℕ → Insn) → List ℕ → Result (Insn × List ℕ) CodeFault
wide_operand_at pc op (Some make) bytes = do
  local ← number_at w16 pc bytes
  Ok (make local.0, local.1)
wide_operand_at pc op None bytes = if op == 132 then wide_increment_at pc bytes else Err (BadOperand pc)

-- what stands behind `wide` (JVM specification, 6.5.wide)
unfoldable pub wide_at : ℕ → List ℕ → Result (Insn × List ℕ) CodeFault
wide_at pc bytes = do
  op ← byte_at pc bytes
  wide_operand_at pc op.0 (find_by wide_local op.0) op.1

-- an iinc behind its opcode: a local of one byte and a signed number of one byte (JVM specification, 6.5.iinc)
unfoldable pub increment_at : ℕ → List ℕ → Result (Insn × List ℕ) CodeFault
increment_at pc bytes = do
  local ← byte_at pc bytes
  value ← byte_at pc local.1
  Ok (Iinc local.0 (cast_signed w8 value.0), value.1)

-- a bipush behind its opcode: a signed number of one byte (JVM specification, 6.5.bipush)
unfoldable pub signed_byte_at : ℕ → List ℕ → Result (Insn × List ℕ) CodeFault
signed_byte_at pc bytes = do
  value ← byte_at pc bytes
  Ok (Bipush (cast_signed w8 value.0), value.1)

-- a sipush behind its opcode: a signed number of two bytes (JVM specification, 6.5.sipush)
unfoldable pub sipush_at : ℕ → List ℕ → Result (Insn × List ℕ) CodeFault
sipush_at pc bytes = do
  value ← signed_at w16 pc bytes
  Ok (Sipush value.0, value.1)

-- a goto_w behind its opcode: a target by a distance of four bytes (JVM specification, 6.5.goto_w)
unfoldable pub far_jump_at : ℕ → List ℕ → Result (Insn × List ℕ) CodeFault
far_jump_at pc bytes = do
  target ← target_at w32 pc bytes
  Ok (GotoW target.0, target.1)

-- the instruction of a family that has this number of one byte
unfoldable pub byte_operand_at : ℕ → (ℕ → Insn) → List ℕ → Result (Insn × List ℕ) CodeFault
byte_operand_at pc make bytes = do
  n ← byte_at pc bytes
  Ok (make n.0, n.1)

-- the instruction of a family that has this number of two bytes
unfoldable pub pair_operand_at : ℕ → (ℕ → Insn) → List ℕ → Result (Insn × List ℕ) CodeFault
pair_operand_at pc make bytes = do
  n ← number_at w16 pc bytes
  Ok (make n.0, n.1)

-- the instruction of a family that has this target, by a distance of two bytes
unfoldable pub jump_operand_at : ℕ → (ℕ → Insn) → List ℕ → Result (Insn × List ℕ) CodeFault
jump_operand_at pc make bytes = do
  target ← target_at w16 pc bytes
  Ok (make target.0, target.1)

-- What stands behind an opcode at a place, by its layout. An opcode without one is unsupported where the JVM has it, which it does
-- up to 201, and else unknown.
abbrev pub operands_at : ℕ → ℕ → Option OperandLayout → List ℕ → Result (Insn × List ℕ) CodeFault
operands_at pc op None bytes = Err (if nat_lt op 202 then UnsupportedOpcode pc op else UnknownOpcode pc op)
operands_at pc op (Some (Plain i)) bytes = Ok (i, bytes)
operands_at pc op (Some (Byte make)) bytes = byte_operand_at pc make bytes
operands_at pc op (Some (Pair make)) bytes = pair_operand_at pc make bytes
operands_at pc op (Some (Jump make)) bytes = jump_operand_at pc make bytes
operands_at pc op (Some SignedByte) bytes = signed_byte_at pc bytes
operands_at pc op (Some SignedPair) bytes = sipush_at pc bytes
operands_at pc op (Some Increment) bytes = increment_at pc bytes
operands_at pc op (Some Table) bytes = table_at pc bytes
operands_at pc op (Some Lookup) bytes = lookup_at pc bytes
operands_at pc op (Some Interface) bytes = interface_at pc bytes
operands_at pc op (Some Array) bytes = array_at pc bytes
operands_at pc op (Some Wide) bytes = wide_at pc bytes
operands_at pc op (Some FarJump) bytes = far_jump_at pc bytes

-- the instruction at a place, whose opcode is given, and the bytes after it
unfoldable pub insn_at : ℕ → ℕ → List ℕ → Result (Insn × List ℕ) CodeFault
insn_at pc op bytes = operands_at pc op (layout op) bytes
