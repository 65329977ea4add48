-- The numbers of forms, where the numbers of the instructions are of their fields' widths (JVM specification, section 6.5).
use Rattle.std.specs.Prelude.{◌≡◌, ℕ, Option, Some}
use Rattle.jvm_values.specs.declared.types.Kind.TheVariants as kinds
use Rattle.jvm_values.specs.Kinds.{IsOfKind}
use Rattle.class_program.specs.declared.op.Op.{Op}
use Rattle.class_program.specs.Programs.{Program, insn_at}
use Rattle.class_program.specs.Widths.{HasWidths}
use Rattle.op_forms.specs.Forms.{Form, form_of}
use Rattle.op_forms.specs.Forms.Form.{Iconst, Iinc}

-- the int that a form pushes is one of 32 bits, and the number that it adds to a local one of 16 (JVM specification, sections 6.5 and
-- 6.5.iinc)
abbrev pub IsFormInWidth : Form → Type 0
IsFormInWidth (Iconst n) = IsOfKind kinds.Int n
IsFormInWidth (Iinc local by) = IsOfKind kinds.Short by
IsFormInWidth _ = Unit {0}

-- Where the numbers of a program are of their fields' widths, so are those of the form of each of its instructions.
abbrev pub FormsAreInWidth : Type 0
FormsAreInWidth =
    (p : Program) → HasWidths p → (number pc : ℕ) (op : Op) (next : Option ℕ) → insn_at p.methods number pc ≡ Some (op, next)
    → (form : Form) → form_of op ≡ Some form → IsFormInWidth form
