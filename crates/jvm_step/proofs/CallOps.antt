-- The instruction of a call that selects is that call: no plain instruction has its form.
use Rattle.std.proofs.Common.{◌≡◌, true, false, Option, Some, None, refl, sym, ap, ◌∙◌}
use Rattle.std.specs.Option.{option_map_or, option_and_then}
use Rattle.std.proofs.lemmas.Bool.{false≢true}
use Rattle.std.proofs.lemmas.Option.{none-some}
use Rattle.class_program.specs.code_forms.declared.insn.Insn.{Insn}
use Rattle.class_program.specs.declared.op.Op.{Op}
use Rattle.class_program.specs.declared.op.Op.TheVariants as ops
use Rattle.class_program.specs.declared.op.Call.{Call}
use Rattle.op_forms.specs.Forms.{Form, form_of, form_of_insn}
use Rattle.op_forms.proofs.Plain.{is_plain, plain_forms}

no_plain : (insn : Insn) (form : Form) → is_plain form ≡ false → form_of_insn insn ≡ Some form → ⊥
no_plain insn form s e = false≢true (sym s ∙ sym (ap (λ (f : Option Form). option_map_or is_plain f true) e) ∙ plain_forms insn)

virtual_op_of : (op : Op) (call : Call) → form_of op ≡ Some (Form.Invokevirtual call) → op ≡ ops.Invokevirtual call
virtual_op_of (ops.Plain insn) call e = absurd (no_plain insn (Form.Invokevirtual call) refl e)
virtual_op_of (ops.Constant a) call e = cc
virtual_op_of (ops.Getstatic a) call e = cc
virtual_op_of (ops.Putstatic a) call e = cc
virtual_op_of (ops.Getfield a) call e = cc
virtual_op_of (ops.Putfield a) call e = cc
virtual_op_of (ops.Invokevirtual a) call e = cc
virtual_op_of (ops.Invokespecial a) call e = cc
virtual_op_of (ops.Invokestatic a) call e = cc
virtual_op_of (ops.Invokeinterface a) call e = cc
virtual_op_of (ops.New a) call e = cc
virtual_op_of (ops.Anewarray a) call e = cc
virtual_op_of (ops.Checkcast a) call e = cc
virtual_op_of (ops.Instanceof a) call e = cc

pub virtual_op : (op : Option Op) (call : Call) → option_and_then form_of op ≡ Some (Form.Invokevirtual call)
    → op ≡ Some (ops.Invokevirtual call)
virtual_op (Some op) call e = ap Some (virtual_op_of op call e)
virtual_op None call e = absurd (none-some _ e)

interface_op_of : (op : Op) (call : Call) → form_of op ≡ Some (Form.Invokeinterface call) → op ≡ ops.Invokeinterface call
interface_op_of (ops.Plain insn) call e = absurd (no_plain insn (Form.Invokeinterface call) refl e)
interface_op_of (ops.Constant a) call e = cc
interface_op_of (ops.Getstatic a) call e = cc
interface_op_of (ops.Putstatic a) call e = cc
interface_op_of (ops.Getfield a) call e = cc
interface_op_of (ops.Putfield a) call e = cc
interface_op_of (ops.Invokevirtual a) call e = cc
interface_op_of (ops.Invokespecial a) call e = cc
interface_op_of (ops.Invokestatic a) call e = cc
interface_op_of (ops.Invokeinterface a) call e = cc
interface_op_of (ops.New a) call e = cc
interface_op_of (ops.Anewarray a) call e = cc
interface_op_of (ops.Checkcast a) call e = cc
interface_op_of (ops.Instanceof a) call e = cc

pub interface_op : (op : Option Op) (call : Call) → option_and_then form_of op ≡ Some (Form.Invokeinterface call)
    → op ≡ Some (ops.Invokeinterface call)
interface_op (Some op) call e = ap Some (interface_op_of op call e)
interface_op None call e = absurd (none-some _ e)
