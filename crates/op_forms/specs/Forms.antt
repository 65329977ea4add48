-- What instructions do: one enumeration, in which the short and wide spellings of an instruction are one form (JVM
-- specification, section 6.5). What a machine does on an instruction, what a typing asks of it and what becomes of an
-- abstract state are each one table over these forms.
use Rattle.std.specs.Prelude.{ℕ, ℤ, pos, negsuc, List, [], ◌∷◌, Option, Some, None}
use Rattle.std.specs.Option.{option_map}
use Rattle.class_program.specs.code_forms.declared.insn.Case.{Case}
use Rattle.class_program.specs.code_forms.declared.insn.Insn.{Insn}
use Rattle.class_program.specs.code_forms.declared.insn.Insn.TheVariants as insns
use Rattle.jvm_values.specs.declared.ints.IntOp.{IntOp}
use Rattle.jvm_values.specs.declared.ints.IntOp.TheVariants.{Add, Sub, Mul, Div, Rem, Shl, Shr, Ushr, And, Or, Xor}
use Rattle.jvm_values.specs.declared.ints.Cond.{Cond}
use Rattle.jvm_values.specs.declared.ints.Cond.TheVariants.{Eq, Ne, Lt, Ge, Gt, Le}
use Rattle.jvm_values.specs.declared.types.Kind.{Kind}
use Rattle.jvm_values.specs.declared.types.Kind.TheVariants as kinds
use Rattle.jvm_values.specs.declared.types.Ty.{Ty}
use Rattle.jvm_values.specs.Kinds.{kind_of_code}
use Rattle.class_program.specs.declared.op.Op.{Op}
use Rattle.class_program.specs.declared.op.Op.TheVariants as ops
use Rattle.class_program.specs.declared.op.Call.{Call}
use Rattle.class_program.specs.declared.op.FieldUse.{FieldUse}
use Rattle.op_forms.specs.declared.form.Shuffle.{Shuffle as StackShuffle}
use Rattle.op_forms.specs.declared.form.Shuffle.TheVariants.{Pop, Pop2, Dup, DupX1, DupX2, Dup2, Dup2X1, Dup2X2, Swap}
use Rattle.op_forms.specs.declared.form.ItemKind.{ItemKind}
use Rattle.op_forms.specs.declared.form.ItemKind.TheVariants as items
use Rattle.op_forms.specs.declared.form.Form.{Form as FormSeen}
use Rattle.op_forms.specs.declared.form.Form.TheVariants as seen

-- ---- the forms

-- What an instruction does, whatever its spelling (JVM specification, section 6.5). Ints and locals stand as the widest spelling has
-- them, targets are places, and a call, a field or a type is what the instruction's names stand for.
pub data Form : Type 0 where
  Nop : Form
  AconstNull : Form
  Iconst : ℤ → Form
  Iload : ℕ → Form
  Aload : ℕ → Form
  Istore : ℕ → Form
  Astore : ℕ → Form
  Iinc : ℕ → ℤ → Form
  Shuffle : StackShuffle → Form
  Arith : IntOp → Form
  Ineg : Form
  Narrow : Kind → Form
  If : Cond → ℕ → Form
  IfIcmp : Cond → ℕ → Form
  IfAcmpeq : ℕ → Form
  IfAcmpne : ℕ → Form
  Ifnull : ℕ → Form
  Ifnonnull : ℕ → Form
  Goto : ℕ → Form
  Tableswitch : ℕ → ℤ → List ℕ → Form
  Lookupswitch : ℕ → List Case → Form
  Ireturn : Form
  Areturn : Form
  Return : Form
  Getstatic : ℕ → Form
  Putstatic : ℕ → Form
  Getfield : FieldUse → Form
  Putfield : FieldUse → Form
  Invokevirtual : Call → Form
  Invokespecial : Call → Form
  Invokestatic : Call → Form
  Invokeinterface : Call → Form
  New : Ty → Form
  Newarray : Kind → Form
  Anewarray : Ty → Form
  Arraylength : Form
  NumberLoad : ItemKind → Form
  Aaload : Form
  NumberStore : ItemKind → Form
  Aastore : Form
  Athrow : Form
  Checkcast : Ty → Form
  Instanceof : Ty → Form

-- the form that the code has, whose operands may be borrowed, as the definitions have it
abbrev pub form_seen : FormSeen → Form
form_seen seen.Nop = Nop
form_seen seen.AconstNull = AconstNull
form_seen (seen.Iconst x) = Iconst x
form_seen (seen.Iload x) = Iload x
form_seen (seen.Aload x) = Aload x
form_seen (seen.Istore x) = Istore x
form_seen (seen.Astore x) = Astore x
form_seen (seen.Iinc x y) = Iinc x y
form_seen (seen.Shuffle x) = Shuffle x
form_seen (seen.Arith x) = Arith x
form_seen seen.Ineg = Ineg
form_seen (seen.Narrow x) = Narrow x
form_seen (seen.If x y) = If x y
form_seen (seen.IfIcmp x y) = IfIcmp x y
form_seen (seen.IfAcmpeq x) = IfAcmpeq x
form_seen (seen.IfAcmpne x) = IfAcmpne x
form_seen (seen.Ifnull x) = Ifnull x
form_seen (seen.Ifnonnull x) = Ifnonnull x
form_seen (seen.Goto x) = Goto x
form_seen (seen.Tableswitch x y z) = Tableswitch x y z.now
form_seen (seen.Lookupswitch x y) = Lookupswitch x y.now
form_seen seen.Ireturn = Ireturn
form_seen seen.Areturn = Areturn
form_seen seen.Return = Return
form_seen (seen.Getstatic x) = Getstatic x
form_seen (seen.Putstatic x) = Putstatic x
form_seen (seen.Getfield x) = Getfield x
form_seen (seen.Putfield x) = Putfield x
form_seen (seen.Invokevirtual x) = Invokevirtual x.now
form_seen (seen.Invokespecial x) = Invokespecial x.now
form_seen (seen.Invokestatic x) = Invokestatic x.now
form_seen (seen.Invokeinterface x) = Invokeinterface x.now
form_seen (seen.New x) = New x
form_seen (seen.Newarray x) = Newarray x
form_seen (seen.Anewarray x) = Anewarray x
form_seen seen.Arraylength = Arraylength
form_seen (seen.NumberLoad x) = NumberLoad x
form_seen seen.Aaload = Aaload
form_seen (seen.NumberStore x) = NumberStore x
form_seen seen.Aastore = Aastore
form_seen seen.Athrow = Athrow
form_seen (seen.Checkcast x) = Checkcast x
form_seen (seen.Instanceof x) = Instanceof x

-- ---- the form of an instruction

-- the form of `newarray` with this code of a kind of numbers; none for long, float and double (JVM specification, section
-- 6.5.newarray)
abbrev pub number_array : ℕ → Option Form
number_array code = option_map Newarray (kind_of_code code)

-- the form of an instruction that names no pool entry; none for one that names an entry, and for one that makes an array of long,
-- float or double
abbrev pub form_of_insn : Insn → Option Form
form_of_insn insns.Nop = Some Nop
form_of_insn insns.AconstNull = Some AconstNull
form_of_insn insns.IconstM1 = Some (Iconst (negsuc 0))
form_of_insn insns.Iconst0 = Some (Iconst (pos 0))
form_of_insn insns.Iconst1 = Some (Iconst (pos 1))
form_of_insn insns.Iconst2 = Some (Iconst (pos 2))
form_of_insn insns.Iconst3 = Some (Iconst (pos 3))
form_of_insn insns.Iconst4 = Some (Iconst (pos 4))
form_of_insn insns.Iconst5 = Some (Iconst (pos 5))
form_of_insn (insns.Bipush value) = Some (Iconst value)
form_of_insn (insns.Sipush value) = Some (Iconst value)
form_of_insn (insns.Iload local) = Some (Iload local)
form_of_insn (insns.Aload local) = Some (Aload local)
form_of_insn insns.Iload0 = Some (Iload 0)
form_of_insn insns.Iload1 = Some (Iload 1)
form_of_insn insns.Iload2 = Some (Iload 2)
form_of_insn insns.Iload3 = Some (Iload 3)
form_of_insn insns.Aload0 = Some (Aload 0)
form_of_insn insns.Aload1 = Some (Aload 1)
form_of_insn insns.Aload2 = Some (Aload 2)
form_of_insn insns.Aload3 = Some (Aload 3)
form_of_insn insns.Iaload = Some (NumberLoad items.Int)
form_of_insn insns.Aaload = Some Aaload
form_of_insn insns.Baload = Some (NumberLoad items.Byte)
form_of_insn insns.Caload = Some (NumberLoad items.Char)
form_of_insn insns.Saload = Some (NumberLoad items.Short)
form_of_insn (insns.Istore local) = Some (Istore local)
form_of_insn (insns.Astore local) = Some (Astore local)
form_of_insn insns.Istore0 = Some (Istore 0)
form_of_insn insns.Istore1 = Some (Istore 1)
form_of_insn insns.Istore2 = Some (Istore 2)
form_of_insn insns.Istore3 = Some (Istore 3)
form_of_insn insns.Astore0 = Some (Astore 0)
form_of_insn insns.Astore1 = Some (Astore 1)
form_of_insn insns.Astore2 = Some (Astore 2)
form_of_insn insns.Astore3 = Some (Astore 3)
form_of_insn insns.Iastore = Some (NumberStore items.Int)
form_of_insn insns.Aastore = Some Aastore
form_of_insn insns.Bastore = Some (NumberStore items.Byte)
form_of_insn insns.Castore = Some (NumberStore items.Char)
form_of_insn insns.Sastore = Some (NumberStore items.Short)
form_of_insn insns.Pop = Some (Shuffle Pop)
form_of_insn insns.Pop2 = Some (Shuffle Pop2)
form_of_insn insns.Dup = Some (Shuffle Dup)
form_of_insn insns.DupX1 = Some (Shuffle DupX1)
form_of_insn insns.DupX2 = Some (Shuffle DupX2)
form_of_insn insns.Dup2 = Some (Shuffle Dup2)
form_of_insn insns.Dup2X1 = Some (Shuffle Dup2X1)
form_of_insn insns.Dup2X2 = Some (Shuffle Dup2X2)
form_of_insn insns.Swap = Some (Shuffle Swap)
form_of_insn insns.Iadd = Some (Arith Add)
form_of_insn insns.Isub = Some (Arith Sub)
form_of_insn insns.Imul = Some (Arith Mul)
form_of_insn insns.Idiv = Some (Arith Div)
form_of_insn insns.Irem = Some (Arith Rem)
form_of_insn insns.Ineg = Some Ineg
form_of_insn insns.Ishl = Some (Arith Shl)
form_of_insn insns.Ishr = Some (Arith Shr)
form_of_insn insns.Iushr = Some (Arith Ushr)
form_of_insn insns.Iand = Some (Arith And)
form_of_insn insns.Ior = Some (Arith Or)
form_of_insn insns.Ixor = Some (Arith Xor)
form_of_insn (insns.Iinc local by) = Some (Iinc local by)
form_of_insn insns.I2b = Some (Narrow kinds.Byte)
form_of_insn insns.I2c = Some (Narrow kinds.Char)
form_of_insn insns.I2s = Some (Narrow kinds.Short)
form_of_insn (insns.Ifeq target) = Some (If Eq target)
form_of_insn (insns.Ifne target) = Some (If Ne target)
form_of_insn (insns.Iflt target) = Some (If Lt target)
form_of_insn (insns.Ifge target) = Some (If Ge target)
form_of_insn (insns.Ifgt target) = Some (If Gt target)
form_of_insn (insns.Ifle target) = Some (If Le target)
form_of_insn (insns.IfIcmpeq target) = Some (IfIcmp Eq target)
form_of_insn (insns.IfIcmpne target) = Some (IfIcmp Ne target)
form_of_insn (insns.IfIcmplt target) = Some (IfIcmp Lt target)
form_of_insn (insns.IfIcmpge target) = Some (IfIcmp Ge target)
form_of_insn (insns.IfIcmpgt target) = Some (IfIcmp Gt target)
form_of_insn (insns.IfIcmple target) = Some (IfIcmp Le target)
form_of_insn (insns.IfAcmpeq target) = Some (IfAcmpeq target)
form_of_insn (insns.IfAcmpne target) = Some (IfAcmpne target)
form_of_insn (insns.Goto target) = Some (Goto target)
form_of_insn (insns.Tableswitch default low targets) = Some (Tableswitch default low targets)
form_of_insn (insns.Lookupswitch default cases) = Some (Lookupswitch default cases)
form_of_insn insns.Ireturn = Some Ireturn
form_of_insn insns.Areturn = Some Areturn
form_of_insn insns.Return = Some Return
form_of_insn (insns.Newarray code) = number_array code
form_of_insn insns.Arraylength = Some Arraylength
form_of_insn insns.Athrow = Some Athrow
form_of_insn (insns.Ifnull target) = Some (Ifnull target)
form_of_insn (insns.Ifnonnull target) = Some (Ifnonnull target)
form_of_insn (insns.GotoW target) = Some (Goto target)
form_of_insn (insns.WideIload local) = Some (Iload local)
form_of_insn (insns.WideAload local) = Some (Aload local)
form_of_insn (insns.WideIstore local) = Some (Istore local)
form_of_insn (insns.WideAstore local) = Some (Astore local)
form_of_insn (insns.WideIinc local by) = Some (Iinc local by)
form_of_insn _ = None

-- the form of an instruction whose names are resolved; every instruction of a closed program has one
abbrev pub form_of : Op → Option Form
form_of (ops.Plain insn) = form_of_insn insn
form_of (ops.Constant value) = Some (Iconst value)
form_of (ops.Getstatic used) = Some (Getstatic used.place)
form_of (ops.Putstatic used) = Some (Putstatic used.place)
form_of (ops.Getfield field) = Some (Getfield field)
form_of (ops.Putfield field) = Some (Putfield field)
form_of (ops.Invokevirtual call) = Some (Invokevirtual call)
form_of (ops.Invokespecial call) = Some (Invokespecial call)
form_of (ops.Invokestatic call) = Some (Invokestatic call)
form_of (ops.Invokeinterface call) = Some (Invokeinterface call)
form_of (ops.New t) = Some (New t)
form_of (ops.Anewarray t) = Some (Anewarray t)
form_of (ops.Checkcast t) = Some (Checkcast t)
form_of (ops.Instanceof t) = Some (Instanceof t)

-- ---- reordering a stack

-- What an instruction that reorders the stack makes of a stack of anything, seen top first; none where there is too little on it.
-- Every value has one word, so of the rules of the standard those for values of one word hold (JVM specification, section 6.5: pop,
-- pop2, dup, dup_x1, dup_x2, dup2, dup2_x1, dup2_x2 and swap).
abbrev pub shuffled : {A : Type 0} → StackShuffle → List A → Option (List A)
shuffled Pop (a ∷ below) = Some below
shuffled Pop2 (a ∷ b ∷ below) = Some below
shuffled Dup (a ∷ below) = Some (a ∷ a ∷ below)
shuffled DupX1 (a ∷ b ∷ below) = Some (a ∷ b ∷ a ∷ below)
shuffled DupX2 (a ∷ b ∷ c ∷ below) = Some (a ∷ b ∷ c ∷ a ∷ below)
shuffled Dup2 (a ∷ b ∷ below) = Some (a ∷ b ∷ a ∷ b ∷ below)
shuffled Dup2X1 (a ∷ b ∷ c ∷ below) = Some (a ∷ b ∷ c ∷ a ∷ b ∷ below)
shuffled Dup2X2 (a ∷ b ∷ c ∷ d ∷ below) = Some (a ∷ b ∷ c ∷ d ∷ a ∷ b ∷ below)
shuffled Swap (a ∷ b ∷ below) = Some (b ∷ a ∷ below)
shuffled _ _ = None
