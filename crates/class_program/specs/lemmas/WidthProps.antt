-- That numbers are of their fields' widths has one proof at most, as a ghost field asks.
use Rattle.std.specs.Prelude.{ℕ, List}
use Rattle.std.specs.List.{AllByRecursion-prop}
use Rattle.std.proofs.Props.{props as below}
use Rattle.class_world.specs.code_forms.Spellings.{Spelling, Plain, Byte, Pair, SignedByte, SignedPair, Jump, FarJump, Increment, Table, Lookup}
use Rattle.class_world.specs.code_forms.Spellings.{Interface, Array, WideLocal, WideIncrement, spelling}
use Rattle.code_decode.specs.Texts.{FitsSpelling}
use Rattle.class_program.specs.declared.op.Op.{Op}
use Rattle.class_program.specs.declared.op.Op.TheVariants as ops
use Rattle.class_program.specs.declared.program.Method.{Method}
use Rattle.class_program.specs.Widths.{IsInWidth, AreInWidth, AreMethodsInWidth}

FitsSpelling-prop : (pc : ℕ) (s : Spelling) → IsProp (FitsSpelling pc s)
FitsSpelling-prop pc (Plain op) = hlevel below
FitsSpelling-prop pc (Byte op n) = hlevel below
FitsSpelling-prop pc (Pair op n) = hlevel below
FitsSpelling-prop pc (SignedByte op v) = hlevel below
FitsSpelling-prop pc (SignedPair op v) = hlevel below
FitsSpelling-prop pc (Jump op target) = hlevel below
FitsSpelling-prop pc (FarJump op target) = hlevel below
FitsSpelling-prop pc (Increment op n v) = hlevel below
FitsSpelling-prop pc (Table op default low targets) = hlevel below
FitsSpelling-prop pc (Lookup op default cases) = hlevel below
FitsSpelling-prop pc (Interface op n count) = hlevel below
FitsSpelling-prop pc (Array op code) = hlevel below
FitsSpelling-prop pc (WideLocal op n) = hlevel below
FitsSpelling-prop pc (WideIncrement op n v) = hlevel below

IsInWidth-prop : (pc : ℕ) (op : Op) → IsProp (IsInWidth pc op)
IsInWidth-prop pc (ops.Plain insn) = FitsSpelling-prop pc (spelling insn)
IsInWidth-prop pc (ops.Constant value) = hlevel below
IsInWidth-prop pc (ops.Getstatic x) = hlevel below
IsInWidth-prop pc (ops.Putstatic x) = hlevel below
IsInWidth-prop pc (ops.Getfield x) = hlevel below
IsInWidth-prop pc (ops.Putfield x) = hlevel below
IsInWidth-prop pc (ops.Invokevirtual x) = hlevel below
IsInWidth-prop pc (ops.Invokespecial x) = hlevel below
IsInWidth-prop pc (ops.Invokestatic x) = hlevel below
IsInWidth-prop pc (ops.Invokeinterface x) = hlevel below
IsInWidth-prop pc (ops.New x) = hlevel below
IsInWidth-prop pc (ops.Anewarray x) = hlevel below
IsInWidth-prop pc (ops.Checkcast x) = hlevel below
IsInWidth-prop pc (ops.Instanceof x) = hlevel below

-- that the numbers of all instructions of some methods are of their fields' widths has one proof at most
pub AreMethodsInWidth-prop : (methods : List Method) → IsProp (AreMethodsInWidth methods)
AreMethodsInWidth-prop methods = AllByRecursion-prop (λ (m : Method). AreInWidth m.insns)
    (λ m. AllByRecursion-prop (λ x. IsInWidth x.0 x.1) (λ x. IsInWidth-prop x.0 x.1) m.insns) methods
