-- What the forms of a closed program bring into a frame.
use Rattle.std.proofs.Common.{◌≡◌, ℕ, zero, suc, ◌+◌, ◌<◌, Bool, true, false, cond, eqb, List, [], ◌∷◌, Option, Some, None, refl}
use Rattle.std.proofs.Common.{sym, ap, subst, ◌∙◌, arith}
use Rattle.std.specs.Prelude.{IfSome, slice_get, length}
use Rattle.std.specs.Option.{option_map, option_map_or}
use Rattle.std.proofs.lemmas.Bool.{false≢true}
use Rattle.std.specs.List.{AllByRecursion}
use Rattle.std.proofs.lemmas.Option.{none-some}
use Rattle.jvm_values.specs.Subtyping.{IsSlot, IsReference}
use Rattle.jvm_values.specs.Kinds.{kind_of_code}
use Rattle.jvm_values.specs.declared.types.Kind.{Kind}
use Rattle.jvm_values.proofs.Options.{some_is}
use Rattle.class_program.specs.code_forms.declared.insn.Insn.{Insn}
use Rattle.class_program.specs.code_forms.declared.insn.Insn.TheVariants as insns
use Rattle.class_program.specs.declared.op.Op.{Op}
use Rattle.class_program.specs.declared.op.Op.TheVariants as ops
use Rattle.class_program.specs.declared.program.Method.{Method}
use Rattle.class_program.specs.declared.program.StaticField.{StaticField}
use Rattle.class_program.specs.Instructions.{instruction_at, first_place}
use Rattle.class_program.specs.Programs.{Program}
use Rattle.class_program.specs.Good.{IsGood, IsGoodMethod, IsGoodOp, IsDeclaredStatic}
use Rattle.op_forms.specs.Forms.{Form, form_of, form_of_insn}
use Rattle.op_forms.specs.Forms.Form.{Getstatic, Putstatic, Getfield, Putfield, Invokevirtual, Invokespecial, Invokestatic}
use Rattle.op_forms.specs.Forms.Form.{Invokeinterface, New, Newarray, Anewarray, Checkcast}
use Rattle.code_verify.specs.Rows.{static_slot}
use Rattle.code_verify.specs.Answers.{IsGoodForm}

-- forms that name nothing of the world
abbrev is_plain : Form → Bool
is_plain (Getstatic place) = false
is_plain (Getfield used) = false
is_plain (Invokevirtual call) = false
is_plain (Invokespecial call) = false
is_plain (Invokestatic call) = false
is_plain (Invokeinterface call) = false
is_plain (New t) = false
is_plain (Anewarray t) = false
is_plain (Checkcast t) = false
is_plain _ = true

plain_good : (p : Program) (form : Form) → is_plain form ≡ true → IsGoodForm p form
plain_good p (Getstatic place) h = absurd (false≢true h)
plain_good p (Getfield used) h = absurd (false≢true h)
plain_good p (Invokevirtual call) h = absurd (false≢true h)
plain_good p (Invokespecial call) h = absurd (false≢true h)
plain_good p (Invokestatic call) h = absurd (false≢true h)
plain_good p (Invokeinterface call) h = absurd (false≢true h)
plain_good p (New t) h = absurd (false≢true h)
plain_good p (Anewarray t) h = absurd (false≢true h)
plain_good p (Checkcast t) h = absurd (false≢true h)
plain_good p _ h = tt

made_plain : (kind : Option Kind) → option_map_or is_plain (option_map Newarray kind) true ≡ true
made_plain None = refl
made_plain (Some kind) = refl

insn_plain : (insn : Insn) → option_map_or is_plain (form_of_insn insn) true ≡ true
insn_plain (insns.Newarray code) = made_plain (kind_of_code code)
insn_plain _ = refl

plain_form : (p : Program) (found : Option Form) (form : Form) → option_map_or is_plain found true ≡ true → found ≡ Some form
    → IsGoodForm p form
plain_form p found form h e =
    plain_good p form (ap (λ (x : Option Form). option_map_or is_plain x true) (sym e) ∙ h)

all_of_at : {A : Type 0} (P : A → Type 0) (xs : List A) → AllByRecursion P xs → (n : ℕ) (x : A) → slice_get xs n ≡ Some x → P x
all_of_at P [] h n x e = absurd (none-some x e)
all_of_at P (y ∷ xs) h zero x e = subst P (some_is e) h.0
all_of_at P (y ∷ xs) h (suc n) x e = all_of_at P xs h.1 n x e

pub method_good : (p : Program) → IsGood p → (n : ℕ) (m : Method) → slice_get p.methods n ≡ Some m → IsGoodMethod p m
method_good p good n m e = all_of_at (IsGoodMethod p) p.methods good.methods n m e

static_good : (p : Program) → IsGood p → (n : ℕ) (field : StaticField) → slice_get p.statics n ≡ Some field
    → IfSome (static_slot p n) (IsSlot (length p.world))
static_good p good n field e =
    subst (λ (x : Option StaticField). IfSome (option_map (λ (f : StaticField). f.slot) x) (IsSlot (length p.world))) (sym e)
    (all_of_at (IsDeclaredStatic p.world) p.statics good.statics n field e).right

op_form : (p : Program) → IsGood p → (m : Method) (op : Op) (form : Form) → IsGoodOp p m op → form_of op ≡ Some form → IsGoodForm p form
op_form p good m (ops.Plain insn) form g e = plain_form p (form_of_insn insn) form (insn_plain insn) e
op_form p good m (ops.Constant value) form g e = subst (IsGoodForm p) (some_is e) tt
op_form p good m (ops.Getstatic used) form g e = subst (IsGoodForm p) (some_is e)
    (static_good p good used.place g.named.field g.named.there)
op_form p good m (ops.Putstatic used) form g e = subst (IsGoodForm p) (some_is e) tt
op_form p good m (ops.Getfield used) form g e = subst (IsGoodForm p) (some_is e) g.named.slot
op_form p good m (ops.Putfield used) form g e = subst (IsGoodForm p) (some_is e) tt
op_form p good m (ops.Invokevirtual call) form g e = subst (IsGoodForm p) (some_is e) g.named.good.result
op_form p good m (ops.Invokespecial call) form g e = subst (IsGoodForm p) (some_is e) g.named.good.result
op_form p good m (ops.Invokestatic call) form g e = subst (IsGoodForm p) (some_is e) g.named.good.result
op_form p good m (ops.Invokeinterface call) form g e = subst (IsGoodForm p) (some_is e) g.named.good.result
op_form p good m (ops.New t) form g e =
    let r : IsReference (length p.world) t = subst (IsReference (length p.world)) (sym g.named.type_is) (omega arith, g.named.within) in
    subst (IsGoodForm p) (some_is e) r
op_form p good m (ops.Anewarray t) form g e = subst (IsGoodForm p) (some_is e) g.named
op_form p good m (ops.Checkcast t) form g e = subst (IsGoodForm p) (some_is e) g.named
op_form p good m (ops.Instanceof t) form g e = subst (IsGoodForm p) (some_is e) tt

found_good : (P : Op → Type 0) (insns : List (ℕ × Op)) → AllByRecursion (λ x. P x.1) insns → (place : ℕ) (op : Op) (next : Option ℕ)
    → instruction_at insns place ≡ Some (op, next) → P op
found_good P [] h place op next e = absurd (none-some (op, next) e)
found_good P (x ∷ insns) h place op next e = go (eqb x.0 place) (found_good P insns h.1 place op next) e
  where
    go : (b : Bool) → (instruction_at insns place ≡ Some (op, next) → P op)
        → cond b (Some (x.1, first_place insns)) (instruction_at insns place) ≡ Some (op, next) → P op
    go true later f = subst P (ap (λ v. v.0) (some_is f)) h.0
    go false later f = later f

-- the form of an instruction of a method
pub form_good : (p : Program) → IsGood p → (m : Method) → IsGoodMethod p m → (place : ℕ) (op : Op) (next : Option ℕ) (form : Form)
    → instruction_at m.insns place ≡ Some (op, next) → form_of op ≡ Some form → IsGoodForm p form
form_good p good m g place op next form e f = op_form p good m op form (found_good (IsGoodOp p m) m.insns g.insns place op next e) f
