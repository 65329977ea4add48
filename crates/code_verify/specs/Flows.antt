-- Where a method's code leads from a place, and with what types (JVM specification, sections 4.10.1.6 and 4.10.2.2).
use Rattle.std.specs.Prelude.{ℕ, ◌++◌, ◌||◌, ◌&&◌, not, nat_eq, nat_le, nat_lt, Bool, true, false, if◌then◌else◌, List, [], ◌∷◌}
use Rattle.std.specs.Prelude.{map, filter, Option, Some, None, unwrap_or, IsTrue}
use Rattle.std.specs.List.{list_any}
use Rattle.std.specs.Option.{option_map_or, option_to_list, is_some}
use Rattle.list_views.specs.Options.{◌>>=◌, asked}
use Rattle.class_program.specs.code_forms.declared.insn.Case.{Case}
use Rattle.jvm_values.specs.declared.types.Ty.{Ty}
use Rattle.jvm_values.specs.declared.typing.PlaceType.TheVariants as places
use Rattle.jvm_values.specs.States.{PlaceTypes}
use Rattle.jvm_values.specs.Subtyping.{class_type}
use Rattle.class_program.specs.class_world.World.{World}
use Rattle.class_program.specs.class_world.Types.{is_sub, erase}
use Rattle.class_program.specs.class_world.BuiltIns.{throwable}
use Rattle.class_program.specs.declared.op.Op.{Op}
use Rattle.class_program.specs.declared.program.CatchRange.{CatchRange}
use Rattle.class_program.specs.declared.program.Method.{Method}
use Rattle.class_program.specs.Instructions.{instruction_at}
use Rattle.class_program.specs.Programs.{Program}
use Rattle.op_forms.specs.Forms.{Form, form_of}
use Rattle.op_forms.specs.Forms.Form.{If, IfIcmp, IfAcmpeq, IfAcmpne, Ifnull, Ifnonnull, Goto, Tableswitch, Lookupswitch, Ireturn}
use Rattle.op_forms.specs.Forms.Form.{Areturn, Return, Athrow}
use Rattle.frame_types.specs.Tables.{Flow}
use Rattle.code_verify.specs.Rows.{types_after}

-- ---- where a form leads

-- the next instruction may run after a form: not after a jump without a condition, a switch, a return or a throw (JVM
-- specification 4.10.2.2)
abbrev pub falls : Form → Bool
falls (Goto place) = false
falls (Tableswitch default low targets) = false
falls (Lookupswitch default cases) = false
falls Ireturn = false
falls Areturn = false
falls Return = false
falls Athrow = false
falls _ = true

-- the place to which a form may jump, if it is a jump, or a switch whose keys do not fit
abbrev pub jump : Form → Option ℕ
jump (If cond place) = Some place
jump (IfIcmp cond place) = Some place
jump (IfAcmpeq place) = Some place
jump (IfAcmpne place) = Some place
jump (Ifnull place) = Some place
jump (Ifnonnull place) = Some place
jump (Goto place) = Some place
jump (Tableswitch default low targets) = Some default
jump (Lookupswitch default cases) = Some default
jump _ = None

-- the places of a tableswitch's table (JVM specification 6.5.tableswitch)
abbrev pub table_targets : Form → List ℕ
table_targets (Tableswitch default low targets) = targets
table_targets _ = []

-- the keys of a lookupswitch, with their places (JVM specification 6.5.lookupswitch)
abbrev pub lookup_cases : Form → List Case
lookup_cases (Lookupswitch default cases) = cases
lookup_cases _ = []

-- the places to which a form may jump
abbrev pub jumps : Form → List ℕ
jumps form = option_to_list (jump form) ++ (table_targets form ++ map (λ c. c.target) (lookup_cases form))

-- the places to which a form leads without a throw, where its next instruction is at a place, or there is none
abbrev pub ways : Form → Option ℕ → List ℕ
ways form next = option_to_list (if falls form then next else None) ++ jumps form

-- a form does not lead off the code's end: it has a next instruction, or does not fall through to it (JVM specification
-- 4.10.1.6)
abbrev pub is_inside : Form → Option ℕ → Bool
is_inside form next = not (falls form) || is_some next

-- ---- handlers

-- the range of an exception table's entry has a place; its end does not belong to it (JVM specification 4.7.3)
abbrev pub covers : ℕ → CatchRange → Bool
covers place range = nat_le range.start place && nat_lt place range.end

-- the class that an entry of an exception table catches: Throwable, where it catches everything
abbrev pub caught_class : CatchRange → Ty
caught_class range = class_type (unwrap_or range.catch throwable)

-- an entry of an exception table catches Throwable or a class below it, by the true relation of classes (JVM specification
-- 4.10.1.6)
abbrev pub CanCatch : World → CatchRange → Type 0
CanCatch world range = IsTrue (is_sub world (caught_class range) (class_type throwable))

-- the types with which a handler is entered: the locals of the place where the throw was, and what is caught alone on the
-- operand stack (JVM specification 4.10.2.2)
abbrev pub caught_frame : World → PlaceTypes → CatchRange → PlaceTypes
caught_frame world frame range = record { locals = frame.locals; stack = places.Ref (erase world (caught_class range)) ∷ [] }

-- ---- what a typed place leads to

-- the flows from a form: the types after it come to each place to which it leads
abbrev pub onward : PlaceTypes → List ℕ → List Flow
onward after places = map (λ to. record { to = to; frame = after }) places

-- the flows from a place of the code to handlers: one to the handler of each range that has the place
abbrev pub caught : World → ℕ → PlaceTypes → List CatchRange → List Flow
caught world place frame ranges = map (λ range. record { to = range.handler; frame = caught_frame world frame range })
    (filter (covers place) ranges)

-- What runs at a place of a method where it has these types: the form of the instruction there, the place of the next one,
-- and the types after it. None where no instruction stands there, where it does not find what it needs, and where it leads
-- off the code's end.
unfoldable pub runs_at : Program → Method → ℕ → PlaceTypes → Option (Form × Option ℕ × PlaceTypes)
runs_at p m place frame = do
  here ← instruction_at m.insns place
  form ← form_of here.0
  inside ← asked (is_inside form here.1)
  after ← types_after p m form frame
  Some (form, here.1, after)

-- all flows from a place of a method with these types: onward from the instruction there, and to its handlers
unfoldable pub flows_from : Program → Method → ℕ → PlaceTypes → Option (List Flow)
flows_from p m place frame = do
  ran ← runs_at p m place frame
  Some (onward ran.2 (ways ran.0 ran.1) ++ caught p.world place frame m.table)

-- ---- what can be reached

-- the places to which an instruction leads without a throw, if it has a form, and where its next one is at a place or there
-- is none
abbrev pub ways_of_op : Op → Option ℕ → List ℕ
ways_of_op op next = option_map_or (λ form. ways form next) (form_of op) []

-- the places to which a place of a method leads, onward and to handlers, whatever the types are
unfoldable pub places_from : Method → ℕ → List ℕ
places_from m place =
    option_map_or (λ here. ways_of_op here.0 here.1) (instruction_at m.insns place) []
    ++ map (λ range. range.handler) (filter (covers place) m.table)

-- Some way leads from the method's start to a place, through instructions and through handlers of what they throw.
pub data IsReachable (m : Method) : ℕ → Type 0 where
  start : IsReachable m 0
  onwards : (from to : ℕ) → IsReachable m from → IsTrue (list_any (nat_eq to) (places_from m from)) → IsReachable m to
