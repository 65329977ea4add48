-- What a virtual or interface call of a program does once it knows its receiver's class, with the number of the method
-- that it runs (JVM specification, section 6.5, invokevirtual and invokeinterface).
use Rattle.std.specs.Prelude.{◌≡◌, ℕ, Bool, false, if◌then◌else◌, nat_lt, IsTrue, List, length, position, Option, Some, None}
use Rattle.std.specs.Prelude.{option_and_then}
use Rattle.std.specs.Option.{option_map, option_map_or}
use Rattle.class_program.specs.declared.op.Op.{Op}
use Rattle.class_program.specs.declared.op.Op.TheVariants.{Invokevirtual, Invokespecial, Invokestatic, Invokeinterface}
use Rattle.class_program.specs.declared.selected.Selected.{Selected}
use Rattle.class_program.specs.declared.selected.Selected.TheVariants as answers
use Rattle.class_world.specs.declared.world.MethodRef.{MethodRef}
use Rattle.class_world.specs.World.{World}
use Rattle.class_world.specs.Fields.{can_be_made}
use Rattle.class_world.specs.Resolve.{method_at}
use Rattle.class_world.specs.Select.{Selection, selected_virtual, selected_interface, is_receiver}
use Rattle.class_world.specs.Select.Selection.{Runs, Lacks, Unfit}
use Rattle.class_program.specs.Programs.{Program, refs_of, op_at}
use Rattle.class_program.specs.Reached.{same_method}

-- What a call does on an object of a class: the name and the descriptor are those of the method that resolution gave.
-- Other instructions select nothing.
unfoldable pub selection_at : World → Op → ℕ → Option Selection
selection_at world (Invokevirtual call) class = Some
    (option_map_or (λ m. selected_virtual world m.name m.desc class) (method_at world call.method) Lacks)
selection_at world (Invokeinterface call) class = Some
    (option_map_or (λ m. selected_interface world call.class m.name m.desc class) (method_at world call.method) Lacks)
selection_at world _ class = None

-- what selection gives, with the method that runs by its number among the reached ones
unfoldable pub selected_in : List MethodRef → Selection → Option Selected
selected_in refs (Runs ref) = option_map answers.Method (position (same_method ref) refs)
selected_in refs Lacks = Some answers.Abstract
selected_in refs Unfit = Some answers.NoInterface

-- the answer of an instruction on an object of a class; none where no class of the world has that number
unfoldable pub selected_for : Program → Op → ℕ → Option Selected
selected_for p op class =
    if nat_lt class (length p.world) then option_and_then (selected_in (refs_of p.methods)) (selection_at p.world op class) else None

-- the answer of the instruction at a place of the method of a number
unfoldable pub selected_at : Program → ℕ → ℕ → ℕ → Option Selected
selected_at p number pc class =
    option_and_then (selected_in (refs_of p.methods)) (option_and_then (λ op. selection_at p.world op class) (op_at p.methods number pc))

-- The instruction is a call that selects, and an object of the class can be its receiver. For an interface call it can be
-- of any class that has objects.
unfoldable pub can_receive : World → Op → ℕ → Bool
can_receive world (Invokevirtual call) class = is_receiver world call.class class
can_receive world (Invokeinterface call) class = can_be_made world class
can_receive world _ class = false

-- The instruction at a place of the method of a number is a call that selects, and an object of the class can be its receiver.
unfoldable pub can_receive_at : Program → ℕ → ℕ → ℕ → Bool
can_receive_at p number pc class = option_map_or (λ op. can_receive p.world op class) (op_at p.methods number pc) false

-- The instruction can run the method of a number: a call with a target runs that, and one that selects what it selects for a
-- class that its receiver can be of.
abbrev pub CanRun : Program → Op → ℕ → Type 0
CanRun p (Invokestatic call) number = call.target ≡ Some number
CanRun p (Invokespecial call) number = call.target ≡ Some number
CanRun p op number = (class : ℕ) × IsTrue (can_receive p.world op class)
    × (option_and_then (selected_in (refs_of p.methods)) (selection_at p.world op class) ≡ Some (answers.Method number))
