-- The program of an entry, its calls and its types.
use Rattle.std.specs.Prelude.{◌≡◌, ℕ, Err}
use Rattle.class_world.specs.World.{World}
use Rattle.class_world.specs.declared.fault.LinkFault.{LinkFault}
use Rattle.class_world.specs.declared.fault.MethodName.{MethodName}
use Rattle.class_world.specs.declared.world.MethodRef.{MethodRef}
use Rattle.class_program.specs.Programs.{Program, IsClosed}
use Rattle.class_program.specs.Reached.{close_of}
use Rattle.number_graphs.specs.Graphs.{IsOnCycle, IsLeastOnCycle}
use Rattle.call_graph.specs.Calls.{Calls, IsNameOf}
use Rattle.call_graph.specs.declared.fault.CallFault.TheVariants.{Recursive}
use Rattle.frame_types.specs.Tables.{CodeTypes}
use Rattle.code_verify.specs.Typings.{IsTypingOf, IsFirstUntyped}
use Rattle.input_steps.specs.declared.refused.Place.{Place}
use Rattle.input_steps.specs.declared.refused.Place.TheVariants as places
use Rattle.input_steps.specs.declared.refused.Fault.{Fault}
use Rattle.input_steps.specs.declared.refused.Fault.TheVariants as faults
use Rattle.input_steps.specs.Steps.{IsAt, Step}

-- the program of an entry of a world: the methods that it reaches, itself first, and the static fields that these name
pub record IsProgramOf (world : World) (entry : MethodRef) (p : Program) : Type 0 where
  pub world_is : p.world ≡ world
  pub entry_is : p.entry ≡ entry
  pub closed : IsClosed p

-- an entry is refused for the first rule that its program breaks
abbrev pub RefusesProgram : World → MethodRef → Place → Fault → Type 0
RefusesProgram world entry = IsAt {C = LinkFault} (λ fault. places.Link) faults.Link (λ fault. close_of world entry ≡ Err fault)

-- no method is on a cycle of calls
abbrev pub IsAcyclic : Program → Type 0
IsAcyclic p = (a : ℕ) → IsOnCycle (Calls p) a → ⊥

-- a program is refused for the least method on a cycle of calls
abbrev pub RefusesCalls : Program → Place → Fault → Type 0
RefusesCalls p = IsAt {C = MethodName} (λ method. places.Recursion) (λ method. faults.Call (Recursive method))
    (λ method. (a : ℕ) × (IsLeastOnCycle (Calls p) a × IsNameOf p a method))

-- each method has a least typing
abbrev pub HasTypings : Program → Type 0
HasTypings p = (typing : ℕ → CodeTypes) × IsTypingOf p typing

-- a program is refused for the first method that has no typing
abbrev pub RefusesTypes : Program → Place → Fault → Type 0
RefusesTypes p = IsAt {C = MethodName} (λ method. places.Verify) faults.Untyped
    (λ method. (a : ℕ) × (IsFirstUntyped p a × IsNameOf p a method))

-- ---- the steps

-- the program of an entry is closed
abbrev pub closing : World → MethodRef → Step Program
closing world entry = record { gives = IsProgramOf world entry; refuses = RefusesProgram world entry }

-- a program's calls are tested for cycles, which this prover refuses
abbrev pub testing_calls : Program → Step (Unit {0})
testing_calls p = record { gives = λ nothing. IsAcyclic p; refuses = RefusesCalls p }

-- a program is tested for methods without a typing (JVM specification, section 4.10)
abbrev pub testing_types : Program → Step (Unit {0})
testing_types p = record { gives = λ nothing. HasTypings p; refuses = RefusesTypes p }

-- the methods of a program are given their least typings (JVM specification, section 4.10)
abbrev pub typing_methods : Program → Step (ℕ → CodeTypes)
typing_methods p = record { gives = IsTypingOf p; refuses = RefusesTypes p }
