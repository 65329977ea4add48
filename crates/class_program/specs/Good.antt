-- What holds of every closed program: its instructions name what is there, with the types that they say, and lead to
-- places where instructions stand.
use Rattle.std.specs.Prelude.{◌≡◌, ◌⊎◌, ◌<◌, ◌≤◌, ℕ, Bool, true, List, [], ◌∷◌, ◌++◌, length, slice_get, Option, Some, None}
use Rattle.std.specs.Prelude.{option_and_then, IfSome, IsTrue, false}
use Rattle.std.specs.Str.{bytes_eq}
use Rattle.std.specs.Option.{is_some}
use Rattle.std.specs.List.{AllByRecursion}
use Rattle.code_decode.specs.Codes.{targets}
use Rattle.class_world.specs.class_read.Content.{FieldContent, MethodContent, CodeContent}
use Rattle.jvm_values.specs.declared.types.Slot.{Slot}
use Rattle.jvm_values.specs.declared.types.Ty.{Ty}
use Rattle.jvm_values.specs.Kinds.{kind_of_code}
use Rattle.jvm_values.specs.Subtyping.{class_type, IsReference, IsSlot}
use Rattle.class_world.specs.World.{World, is_static, is_abstract, is_interface_class}
use Rattle.class_world.specs.Types.{is_class_below}
use Rattle.class_world.specs.Fields.{fields_of, can_be_made}
use Rattle.class_world.specs.Resolve.{field_at, method_at}
use Rattle.class_program.specs.declared.operand.Operand.{Operand}
use Rattle.class_program.specs.declared.operand.Operand.TheVariants.{Nothing, Numbers}
use Rattle.class_program.specs.declared.op.Op.{Op}
use Rattle.class_program.specs.declared.op.Op.TheVariants.{Plain, Constant, Getstatic, Putstatic, Getfield, Putfield, Invokevirtual}
use Rattle.class_program.specs.declared.op.Op.TheVariants.{Invokespecial, Invokestatic, Invokeinterface, New, Anewarray, Checkcast}
use Rattle.class_program.specs.declared.op.Op.TheVariants.{Instanceof}
use Rattle.class_program.specs.declared.op.Call.{Call}
use Rattle.class_program.specs.declared.op.FieldUse.{FieldUse}
use Rattle.class_program.specs.declared.op.StaticUse.{StaticUse}
use Rattle.class_program.specs.declared.program.CatchRange.{CatchRange}
use Rattle.class_program.specs.declared.program.Method.{Method}
use Rattle.class_program.specs.declared.program.StaticField.{StaticField}
use Rattle.class_program.specs.declared.selected.Selected.{Selected}
use Rattle.class_program.specs.declared.selected.Selected.TheVariants as answers
use Rattle.class_world.specs.Descriptors.{class_slot, slot_of}
use Rattle.class_program.specs.Operands.{operand_of}
use Rattle.class_program.specs.Instructions.{instruction_at, is_placed}
use Rattle.class_program.specs.Ops.{constructor_name}
use Rattle.class_program.specs.Methods.{with_receiver}
use Rattle.class_program.specs.Statics.{static_ref}
use Rattle.class_program.specs.Programs.{Program, ref_of, refs_of}
use Rattle.class_program.specs.Selected.{selection_at, selected_in, can_receive}

-- ---- places

-- an instruction stands at a place of a method
abbrev pub is_place : List (ℕ × Op) → ℕ → Bool
is_place insns place = is_some (instruction_at insns place)

-- a place where a range may end: one of an instruction, or behind the last one
abbrev pub IsEnd : List (ℕ × Op) → ℕ → Type 0
IsEnd insns place = IsTrue (is_place insns place) ⊎ AllByRecursion (λ x. x.0 < place) insns

-- ---- what instructions name

-- a field's place, and what it holds there, in the objects of every class that can stand where its class is named
pub record IsGoodField (world : World) (used : FieldUse) : Type 0 where
  pub class : used.class < length world
  pub no_interface : is_interface_class world used.class ≡ false
  pub slot : IsSlot (length world) used.slot
  pub right : (class : ℕ) → class < length world → IsTrue (is_class_below world class used.class)
      → slice_get (fields_of world class) used.place ≡ Some used.slot

-- a static field at its place among those of the program
pub record IsGoodStaticUse (p : Program) (used : StaticUse) : Type 0 where
  pub field : StaticField
  pub there : slice_get p.statics used.place ≡ Some field
  pub same : static_ref field ≡ used.field

-- a call names a class and a method that are there, and passes and gives what slots of the world hold
pub record IsGoodCall (world : World) (call : Call) : Type 0 where
  pub class : call.class < length world
  pub method : MethodContent
  pub there : method_at world call.method ≡ Some method
  pub params : AllByRecursion (IsSlot (length world)) call.params
  pub result : IfSome call.result (IsSlot (length world))

-- the method of a number takes these slots and then the call's parameters, and gives the call's result
pub record Takes (methods : List Method) (receiver : List Slot) (call : Call) (number : ℕ) : Type 0 where
  pub method : Method
  pub there : slice_get methods number ≡ Some method
  pub params : method.params ≡ receiver ++ call.params
  pub result : method.result ≡ call.result

-- `invokestatic` names a class, no interface, and runs a method of the program that takes the call's parameters (JVM specification,
-- section 6.5.invokestatic)
pub record IsGoodStatic (p : Program) (call : Call) : Type 0 where
  pub good : IsGoodCall p.world call
  pub class : is_interface_class p.world call.class ≡ false
  pub number : ℕ
  pub target : call.target ≡ Some number
  pub takes : Takes p.methods [] call number

-- a special call has a target exactly where its method has a body
abbrev pub SpecialRuns : Program → Call → Option ℕ → Bool → Type 0
SpecialRuns p call None abstract = IsTrue abstract
SpecialRuns p call (Some number) abstract = (abstract ≡ false) × Takes p.methods (class_slot 0 call.method.class ∷ []) call number

-- `invokespecial` from a method of class `current`, of a class: the method's class is the named one or above it, or above
-- `current`, and that of a constructor the named one
pub record IsGoodSpecial (p : Program) (current : ℕ) (call : Call) : Type 0 where
  pub good : IsGoodCall p.world call
  pub class : is_interface_class p.world call.class ≡ false
  pub constructor : IsTrue (bytes_eq good.method.name constructor_name) → call.method.class ≡ call.class
  pub above : IsTrue (is_class_below p.world call.class call.method.class) ⊎ IsTrue (is_class_below p.world current call.method.class)
  pub runs : SpecialRuns p call call.target (is_abstract good.method.flags)

-- what a call does on an object of a class: the method that it runs is declared by that class or by one above it
abbrev pub IsGoodAnswer : Program → Call → ℕ → Selected → Type 0
IsGoodAnswer p call class (answers.Method number) = (over : ℕ) × IsTrue (is_class_below p.world class over)
    × Takes p.methods (class_slot 0 over ∷ []) call number
IsGoodAnswer p call class answers.Abstract = Unit {0}
IsGoodAnswer p call class answers.NoInterface = Unit {0}

-- `invokeinterface` names an interface, `invokevirtual` a class
abbrev pub names_interface : Op → Bool
names_interface (Invokeinterface call) = true
names_interface _ = false

-- A call that selects its method by the class of the receiver: it has an answer for each class that the receiver can be
-- of, and no target.
pub record IsGoodSelecting (p : Program) (op : Op) (call : Call) : Type 0 where
  pub good : IsGoodCall p.world call
  pub class : is_interface_class p.world call.class ≡ names_interface op
  pub none : call.target ≡ None
  pub answers : (class : ℕ) → IsTrue (can_receive p.world op class)
      → (answer : Selected) × (option_and_then (selected_in (refs_of p.methods)) (selection_at p.world op class) ≡ Some answer)
      × IsGoodAnswer p call class answer

-- `new` names a class of which there are objects (JVM specification, section 6.5.new)
pub record IsGoodNew (world : World) (t : Ty) : Type 0 where
  pub class : ℕ
  pub type_is : t ≡ class_type class
  pub within : class < length world
  pub made : IsTrue (can_be_made world class)

-- what an instruction takes from the constant pool that names nothing there: nothing, or the code of `newarray`, which is
-- that of one of the five kinds of numbers
abbrev pub IsGoodPlain : Operand → Type 0
IsGoodPlain Nothing = Unit {0}
IsGoodPlain (Numbers code) = IsTrue (is_some (kind_of_code code))
IsGoodPlain _ = ⊥

-- What an instruction of a method of class `current` names is there, of the kind that the instruction wants: its constant, field,
-- call, class or array type (JVM specification, sections 5.4.3 and 6.5).
abbrev pub IsGoodName : Program → ℕ → Op → Type 0
IsGoodName p current (Plain insn) = IsGoodPlain (operand_of insn)
IsGoodName p current (Constant value) = Unit {0}
IsGoodName p current (Getstatic used) = IsGoodStaticUse p used
IsGoodName p current (Putstatic used) = IsGoodStaticUse p used
IsGoodName p current (Getfield used) = IsGoodField p.world used
IsGoodName p current (Putfield used) = IsGoodField p.world used
IsGoodName p current (Invokevirtual call) = IsGoodSelecting p (Invokevirtual call) call
IsGoodName p current (Invokespecial call) = IsGoodSpecial p current call
IsGoodName p current (Invokestatic call) = IsGoodStatic p call
IsGoodName p current (Invokeinterface call) = IsGoodSelecting p (Invokeinterface call) call
IsGoodName p current (New t) = IsGoodNew p.world t
IsGoodName p current (Anewarray t) = IsReference (length p.world) t × (t.dims < 255)
IsGoodName p current (Checkcast t) = IsReference (length p.world) t
IsGoodName p current (Instanceof t) = IsReference (length p.world) t

-- where an instruction may jump to; only those that name nothing jump
abbrev pub targets_of : Op → List ℕ
targets_of (Plain insn) = targets insn
targets_of _ = []

-- an instruction of a method is good: what it names is there, and instructions stand where it may jump to
pub record IsGoodOp (p : Program) (m : Method) (op : Op) : Type 0 where
  pub named : IsGoodName p m.class op
  pub leads : AllByRecursion (λ t. IsTrue (is_place m.insns t)) (targets_of op)

-- ---- methods and programs

-- An entry of an exception table is good: its range begins at an instruction and ends behind it, an instruction stands at its handler,
-- and the class that it catches is there (JVM specification, section 4.7.3).
pub record IsGoodRange (world : World) (m : Method) (r : CatchRange) : Type 0 where
  pub start : IsTrue (is_place m.insns r.start)
  pub end : IsEnd m.insns r.end
  pub order : r.start < r.end
  pub handler : IsTrue (is_place m.insns r.handler)
  pub catch : IfSome r.catch (λ class. class < length world)

-- a method is what its class declares at its place: it has the name, descriptor, code and parameters of that declaration
pub record IsDeclared (world : World) (m : Method) : Type 0 where
  pub content : MethodContent
  pub there : method_at world (ref_of m) ≡ Some content
  pub body : is_abstract content.flags ≡ false
  pub code : CodeContent
  pub code_is : content.code ≡ Some code
  pub max_stack : m.max_stack ≡ code.max_stack
  pub max_locals : m.max_locals ≡ code.max_locals
  pub types : List Slot
  pub params : m.params ≡ with_receiver m.class content.flags types
  pub name : m.name ≡ content.name
  pub desc : m.desc ≡ content.desc

-- A method of a program is good: it is declared by a class of the world, its slots hold what the world knows, its instructions are
-- good and stand at rising places, and so are the entries of its exception table.
pub record IsGoodMethod (p : Program) (m : Method) : Type 0 where
  pub class : m.class < length p.world
  pub declared : IsDeclared p.world m
  pub params : AllByRecursion (IsSlot (length p.world)) m.params
  pub result : IfSome m.result (IsSlot (length p.world))
  pub placed : IsTrue (is_placed m.insns)
  pub insns : AllByRecursion (λ x. IsGoodOp p m x.1) m.insns
  pub table : AllByRecursion (IsGoodRange p.world m) m.table

-- a static field is what its class declares at its place, with what it holds
pub record IsDeclaredStatic (world : World) (s : StaticField) : Type 0 where
  pub content : FieldContent
  pub there : field_at world s.class s.index ≡ Some content
  pub static : IsTrue (is_static content.flags)
  pub name : s.name ≡ content.name
  pub desc : s.desc ≡ content.desc
  pub slot : slot_of world s.desc ≡ Some s.slot
  pub right : IsSlot (length world) s.slot

-- the instruction at a place of the method of a number is good, and behind it stands the next one
pub record IsGoodAt (p : Program) (number pc : ℕ) (op : Op) (next : Option ℕ) : Type 0 where
  pub method : Method
  pub there : slice_get p.methods number ≡ Some method
  pub at : instruction_at method.insns pc ≡ Some (op, next)
  pub good : IsGoodOp p method op
  pub next_there : IfSome next (λ place. IsTrue (is_place method.insns place))

-- A program is good: its entry is its first method, all of its methods are good, its static fields are declared by their classes, and
-- it has at most 256 of them.
pub record IsGood (p : Program) : Type 0 where
  -- the entry is the method of number 0
  pub first : (m : Method) × (slice_get p.methods 0 ≡ Some m) × (ref_of m ≡ p.entry)
  pub methods : AllByRecursion (IsGoodMethod p) p.methods
  pub statics : AllByRecursion (IsDeclaredStatic p.world) p.statics
  pub few : length p.statics ≤ 256
