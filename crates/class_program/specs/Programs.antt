-- Programs: a world with the methods that an entry reaches, and the static fields that these name, all resolved (JVM
-- specification, section 5.4).
use Rattle.std.specs.Prelude.{◌≡◌, ◌≤◌, ℕ, List, length, map, position, slice_get, Option, option_and_then, Ok, IsTrue}
use Rattle.std.specs.List.{list_all}
use Rattle.std.specs.Option.{option_map}
use Rattle.class_world.specs.declared.world.MethodRef.{MethodRef}
use Rattle.class_world.specs.World.{World}
use Rattle.class_world.specs.BuiltIns.{IsWorld}
use Rattle.class_world.specs.Resolve.{has_body}
use Rattle.class_program.specs.declared.op.Op.{Op}
use Rattle.class_program.specs.declared.program.Method.{Method}
use Rattle.class_program.specs.declared.program.StaticField.{StaticField}
use Rattle.class_program.specs.Instructions.{instruction_at}
use Rattle.class_program.specs.Statics.{fields_named, statics_of}
use Rattle.class_program.specs.Reached.{same_method, reached, close_of, is_closed}

-- A program: the classes of a world, the method that a run begins with, and the methods and static fields that it needs, all names
-- resolved.
pub record Program : Type 0 where
  -- the classes
  pub world : World
  -- the method that a run begins with
  pub entry : MethodRef
  -- the methods that it reaches, itself first; a method's number is its place here
  pub methods : List Method
  -- the static fields that their instructions name
  pub statics : List StaticField

-- ---- numbers

-- a method of a program as a reference: its class and its place in the class's file
abbrev pub ref_of : Method → MethodRef
ref_of m = record { class = m.class; index = m.index }

-- the methods of a program as references, in their order
abbrev pub refs_of : List Method → List MethodRef
refs_of methods = map ref_of methods

-- the number of a method of a program, by where it is declared; none where it isn't one of them
abbrev pub number_of : List Method → MethodRef → Option ℕ
number_of methods ref = position (same_method ref) (refs_of methods)

-- ---- instructions

-- the instruction at a place of the method of a number, and the place of the next one
unfoldable pub insn_at : List Method → ℕ → ℕ → Option (Op × Option ℕ)
insn_at methods number pc = option_and_then (λ m. instruction_at m.insns pc) (slice_get methods number)

-- the instruction at a place of the method of a number
abbrev pub op_at : List Method → ℕ → ℕ → Option Op
op_at methods number pc = option_map (λ x. x.0) (insn_at methods number pc)

-- ---- closed programs

-- The program is what closing gives for its entry in a linked world: its methods have bodies, and are all that their
-- instructions can run, and its static fields are those that these name.
pub record IsClosed (p : Program) : Type 0 where
  pub known : IsWorld p.world
  pub made : close_of p.world p.entry ≡ Ok p.methods
  pub reaches : refs_of p.methods ≡ reached p.world p.entry
  pub bodies : IsTrue (list_all (has_body p.world) (refs_of p.methods))
  pub statics : p.statics ≡ statics_of p.world (fields_named p.methods)
  pub few : length p.statics ≤ 256
  pub whole : IsTrue (is_closed p.world (refs_of p.methods) p.methods)
