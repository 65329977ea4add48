-- The numbers that the instructions of a program hold are of the width of their fields (JVM specification, SE 8, sections
-- 4.4.4 and 6.5).
use Rattle.std.specs.Prelude.{ℕ, ℤ, List, Option, Some, None, IfSome, FitsSigned}
use Rattle.std.specs.Int.{w32}
use Rattle.std.specs.List.{AllByRecursion}
use Rattle.code_decode.specs.Texts.{Fits}
use Rattle.class_program.specs.declared.op.Op.{Op}
use Rattle.class_program.specs.declared.op.Op.TheVariants.{Plain, Constant}
use Rattle.class_program.specs.declared.program.Method.{Method}
use Rattle.class_program.specs.Programs.{Program}

-- the int that an instruction pushes, where the pool has it
abbrev pub constant_in : Op → Option ℤ
constant_in (Constant value) = Some value
constant_in _ = None

-- the int that an instruction pushes from the pool is one of 32 bits
abbrev pub IsConstantInWidth : Op → Type 0
IsConstantInWidth op = IfSome (constant_in op) (FitsSigned w32)

-- The numbers of an instruction at a place. One that names no pool entry has bytes there: the number of `bipush` is one of
-- 8 bits, that of `sipush` one of 16, an increment one of 8, behind `wide` one of 16, and keys of switches have 32. Of the
-- others those that push an int constant hold a number.
abbrev pub IsInWidth : ℕ → Op → Type 0
IsInWidth pc (Plain insn) = Fits pc insn
IsInWidth pc op = IsConstantInWidth op

-- the numbers of all instructions of a method are of their fields' widths
abbrev pub AreInWidth : List (ℕ × Op) → Type 0
AreInWidth insns = AllByRecursion (λ x. IsInWidth x.0 x.1) insns

-- the numbers of all instructions of some methods are of their fields' widths
abbrev pub AreMethodsInWidth : List Method → Type 0
AreMethodsInWidth methods = AllByRecursion (λ (m : Method). AreInWidth m.insns) methods

-- the numbers of all instructions of a program are of their fields' widths
abbrev pub HasWidths : Program → Type 0
HasWidths p = AreMethodsInWidth p.methods
