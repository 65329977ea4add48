-- Which methods of a program can call which (JVM specification, SE 8, section 6.5: invokestatic, invokespecial,
-- invokevirtual and invokeinterface).
use Rattle.std.specs.Prelude.{◌≡◌, ℕ, List, Result, Ok, Err, Some, slice_get}
use Rattle.class_program.specs.class_read.Content.{ClassContent}
use Rattle.class_world.specs.declared.fault.MethodName.{MethodName}
use Rattle.class_program.specs.declared.op.Op.{Op}
use Rattle.class_program.specs.declared.program.Method.{Method}
use Rattle.class_program.specs.Programs.{Program, op_at}
use Rattle.class_program.specs.Selected.{CanRun}
use Rattle.number_graphs.specs.Graphs.{IsOnCycle, IsLeastOnCycle}
use Rattle.call_graph.specs.declared.fault.CallFault.{CallFault}
use Rattle.call_graph.specs.declared.fault.CallFault.TheVariants.{Recursive, Memory}

-- Some instruction of the method of number `a` can run the method of number `b`. All instructions count, at places too
-- that no run comes to.
pub record Calls (p : Program) (a b : ℕ) : Type 0 where
  pub place : ℕ
  pub op : Op
  pub stands : op_at p.methods a place ≡ Some op
  pub runs : CanRun p op b

-- a method's name is that of the method of a number
pub record IsNameOf (p : Program) (a : ℕ) (name : MethodName) : Type 0 where
  pub method : Method
  pub class : ClassContent
  pub there : slice_get p.methods a ≡ Some method
  pub declares : slice_get p.world method.class ≡ Some class
  pub class_is : name.class ≡ class.name
  pub name_is : name.name ≡ method.name
  pub desc_is : name.desc ≡ method.desc

-- What the search for recursive methods answers: that no method is on a cycle of calls, or the name of the method of the least number
-- that is on one. Want of memory says nothing.
abbrev pub Answers : Program → Result (Unit {0}) CallFault → Type 0
Answers p (Ok nothing) = (a : ℕ) → IsOnCycle (Calls p) a → ⊥
Answers p (Err (Recursive method)) = (a : ℕ) × (IsLeastOnCycle (Calls p) a × IsNameOf p a method)
Answers p (Err Memory) = Unit {0}
