-- What calls answer that take flows to a table, and what holds of the forms of a closed program.
use Rattle.std.specs.Prelude.{◌≡◌, ℕ, ◌<◌, Bool, false, List, length, Option, Some, None, MatchBool, IfSome}
use Rattle.jvm_values.specs.Subtyping.{IsReference, IsSlot}
use Rattle.jvm_values.specs.TypedHeaps.{WorldTypes}
use Rattle.class_program.specs.Programs.{Program}
use Rattle.op_forms.specs.Forms.{Form}
use Rattle.op_forms.specs.Forms.Form.{Getstatic, Getfield, Invokevirtual, Invokespecial, Invokestatic, Invokeinterface, New}
use Rattle.op_forms.specs.Forms.Form.{Anewarray, Checkcast}
use Rattle.frame_types.specs.declared.table.Table.{Table}
use Rattle.frame_types.specs.Tables.{Flow}
use Rattle.frame_types.specs.Growth.{IsGrown, AreRefused}
use Rattle.code_verify.specs.declared.fault.VerifyFault.{VerifyFault}
use Rattle.code_verify.specs.declared.fault.VerifyFault.TheVariants.{NoTyping, Memory}
use Rattle.code_verify.specs.Rows.{static_slot}

-- a call has given flows of types to a method's table: the table takes them, or no table that has what this one has can
-- take them
abbrev pub Comes : WorldTypes → List Flow → Bool → Table → Table → Type 0
Comes types flows ok old new = MatchBool ok (IsGrown types flows old new) (AreRefused types flows old)

-- the types that a form of instruction brings into a frame are the world's
abbrev pub IsGoodForm : Program → Form → Type 0
IsGoodForm p (Getstatic place) = IfSome (static_slot p place) (IsSlot (length p.world))
IsGoodForm p (Getfield used) = IsSlot (length p.world) used.slot
IsGoodForm p (Invokevirtual call) = IfSome call.result (IsSlot (length p.world))
IsGoodForm p (Invokespecial call) = IfSome call.result (IsSlot (length p.world))
IsGoodForm p (Invokestatic call) = IfSome call.result (IsSlot (length p.world))
IsGoodForm p (Invokeinterface call) = IfSome call.result (IsSlot (length p.world))
IsGoodForm p (New t) = IsReference (length p.world) t
IsGoodForm p (Anewarray t) = IsReference (length p.world) t × (t.dims < 255)
IsGoodForm p (Checkcast t) = IsReference (length p.world) t
IsGoodForm p _ = Unit {0}

-- a call has given to a method's table all flows from a place of the method; where the place leads to nothing, since no
-- types fit there, the call refuses
abbrev pub Looks : WorldTypes → Option (List Flow) → Bool → Table → Table → Type 0
Looks types None ok old new = ok ≡ false
Looks types (Some flows) ok old new = Comes types flows ok old new

-- a fault of verification names the method with a number, or it is want of memory
abbrev pub Names : ℕ → VerifyFault → Type 0
Names number (NoTyping method) = method ≡ number
Names number Memory = Unit {0}
