-- Typings of a method: what each local and each stack entry holds whenever a place is reached, and the least of them (JVM
-- specification, section 4.10.2).
use Rattle.std.specs.Prelude.{◌≡◌, ◌↔◌, ℕ, ◌≤◌, ◌<◌, List, [], length, slice_get, Option, Some, None, option_and_then, All, IsTrue}
use Rattle.std.specs.Option.{is_some}
use Rattle.jvm_values.specs.declared.typing.PlaceType.TheVariants as places
use Rattle.jvm_values.specs.States.{PlaceTypes, locals_from}
use Rattle.jvm_values.specs.TypedHeaps.{WorldTypes}
use Rattle.class_program.specs.declared.program.Method.{Method}
use Rattle.class_program.specs.Programs.{Program}
use Rattle.class_program.specs.Good.{IsGood, IsGoodMethod}
use Rattle.class_program.specs.class_world.Linking.{is_linked}
use Rattle.class_program.specs.class_world.WorldTypes.{types_of}
use Rattle.frame_types.specs.Places.{IsFrame}
use Rattle.frame_types.specs.Tables.{CodeTypes, Flow, Takes, IsAtMost}
use Rattle.code_verify.specs.declared.fault.VerifyFault.{VerifyFault}
use Rattle.code_verify.specs.declared.fault.VerifyFault.TheVariants.{NoTyping, Memory}
use Rattle.code_verify.specs.Operands.{place_of}
use Rattle.code_verify.specs.Flows.{flows_from, CanCatch, IsReachable}

-- The typing holds at a place: an instruction stands there that finds what it needs, and the typing takes all that it leads
-- to, also through handlers.
pub record IsTyped (p : Program) (m : Method) (typing : CodeTypes) (place : ℕ) (frame : PlaceTypes) : Type 0 where
  pub limits : IsFrame (types_of p.world) m.max_locals m.max_stack frame
  pub flows : List Flow
  pub runs : flows_from p m place frame ≡ Some flows
  pub taken : All (Takes (types_of p.world) typing) flows

-- The types that come to a method's start: its parameters in the first locals, the other locals unset, and an empty operand
-- stack (JVM specification 4.10.1.6).
abbrev pub entry_frame : WorldTypes → Method → PlaceTypes
entry_frame types m = record {
  locals = locals_from (place_of types) places.Unset m.max_locals m.params;
  stack = [];
}

-- the flow to a method's start, from outside of the method
abbrev pub entry_flow : WorldTypes → Method → Flow
entry_flow types m = record { to = 0; frame = entry_frame types m }

-- types of a method are a typing of it: they take what comes to its start and hold at each place that has types; and its
-- exception table catches only what can be thrown
pub record IsTyping (p : Program) (m : Method) (typing : CodeTypes) : Type 0 where
  pub catches : All (CanCatch p.world) m.table
  pub entry : Takes (types_of p.world) typing (entry_flow (types_of p.world) m)
  pub each : (place : ℕ) (frame : PlaceTypes) → typing place ≡ Some frame → IsTyped p m typing place frame

-- a method has a typing, so that it passes verification
abbrev pub HasTyping : Program → Method → Type 0
HasTyping p m = (typing : CodeTypes) × IsTyping p m typing

-- A typing is the least one of a method: it is at most each other one. So its places are those that can be reached.
pub record IsLeastTyping (p : Program) (m : Method) (typing : CodeTypes) : Type 0 where
  pub is_typing : IsTyping p m typing
  pub least : (other : CodeTypes) → IsTyping p m other → IsAtMost (types_of p.world) typing other
  pub reached : (place : ℕ) → IsTrue (is_some (typing place)) ↔ IsReachable m place

-- Where a method of a good program has a typing, it has a least one.
abbrev pub LeastTypingsExist : Type 0
LeastTypingsExist = (p : Program) (m : Method) → IsTrue (is_linked p.world) → IsGood p → IsGoodMethod p m → HasTyping p m
    → (typing : CodeTypes) × IsLeastTyping p m typing

-- A method has at most one least typing: two have the same types at each place.
abbrev pub LeastTypingsAreOne : Type 0
LeastTypingsAreOne = (p : Program) (m : Method) → IsTrue (is_linked p.world) → (a b : CodeTypes) → IsLeastTyping p m a
    → IsLeastTyping p m b → (place : ℕ) → a place ≡ b place

-- ---- programs

-- types of all methods, by number, are the typing of a program: the least typing of each reached method, and nothing past
-- these
pub record IsTypingOf (p : Program) (typing : ℕ → CodeTypes) : Type 0 where
  pub each : (number : ℕ) (m : Method) → slice_get p.methods number ≡ Some m → IsLeastTyping p m (typing number)
  pub no_more : (number place : ℕ) → length p.methods ≤ number → typing number place ≡ None

-- the method of a number has no typing, and those of lower numbers have one
pub record IsFirstUntyped (p : Program) (number : ℕ) : Type 0 where
  pub method : Method
  pub there : slice_get p.methods number ≡ Some method
  pub untyped : HasTyping p method → ⊥
  pub earlier : (i : ℕ) (m : Method) → i < number → slice_get p.methods i ≡ Some m → HasTyping p m

-- what a refusal of verification says of a program: the number of its first method without a typing; nothing where memory
-- is wanting
abbrev pub IsRefusal : Program → VerifyFault → Type 0
IsRefusal p (NoTyping number) = IsFirstUntyped p number
IsRefusal p Memory = Unit {0}

-- the types at a place of the method of a number, in lists by number and by place
abbrev pub typing_at : List (List (Option PlaceTypes)) → ℕ → CodeTypes
typing_at lists number place = option_and_then (λ types. option_and_then (λ found. found) (slice_get types place)) (slice_get lists number)
