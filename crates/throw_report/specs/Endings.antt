-- How a run ends, and that a report says so.
use Rattle.std.specs.Prelude.{◌≡◌, ℕ, List, IsTrue, Some}
use Rattle.list_views.specs.Lists.{Has}
use Rattle.jvm_values.specs.declared.heap.Value.{Value}
use Rattle.jvm_values.specs.declared.heap.Object.TheVariants.{Instance}
use Rattle.jvm_values.specs.States.{MachineState}
use Rattle.class_program.specs.Programs.{Program}
use Rattle.jvm_step.specs.Operands.{object_at}
use Rattle.jvm_step.specs.Running.{Step, step, run}
use Rattle.throw_report.specs.declared.ways.Report.{Report}

-- a thrown reference names an object of a class that the report has
pub record ThrowsReported (report : Report) (last : MachineState) (r : ℕ) : Type 0 where
  pub class : ℕ
  pub fields : List Value
  pub object : object_at last.heap r ≡ Some (Instance class fields)
  pub listed : Has report.throws class

-- a step of the machine from a state ends the run in a way that the report has: by a return, where it says that runs return, or by a throw
-- of an object of a class that it has (JVM specification 2.6.4, 2.6.5)
abbrev pub EndsBy : Report → MachineState → Step → Type 0
EndsBy report last (Step.Going after) = ⊥
EndsBy report last (Step.Returned value) = IsTrue report.returns
EndsBy report last (Step.Threw r) = ThrowsReported report last r
EndsBy report last Step.Stuck = ⊥

-- the run from a state takes so many steps and ends with the next one, in a way that the report has
pub record EndsAsReported (p : Program) (report : Report) (state : MachineState) : Type 0 where
  pub steps : ℕ
  pub last : MachineState
  pub leads : run p steps state ≡ Step.Going last
  pub ends : EndsBy report last (step p last)
