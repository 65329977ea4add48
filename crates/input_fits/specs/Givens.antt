-- Whether what is given to a program is what a description says.
use Rattle.std.specs.Prelude.{◌≡◌, List, Some}
use Rattle.jvm_values.specs.declared.heap.Value.{Value}
use Rattle.jvm_values.specs.declared.heap.Heap.{Heap}
use Rattle.jvm_values.specs.States.{MachineState}
use Rattle.class_program.specs.Programs.{Program}
use Rattle.jvm_step.specs.Running.{start}
use Rattle.input_desc.specs.declared.desc.Desc.{Desc}
use Rattle.input_desc.specs.Fitting.{FitsDescription}

-- what is given fits a description: a run with these arguments, values of static fields and heap begins in a state that the
-- description fits
pub record IsFitting (p : Program) (desc : Desc) (args statics : List Value) (heap : Heap) : Type 0 where
  pub state : MachineState
  pub starts : start p args statics heap ≡ Some state
  pub fits : FitsDescription p desc state
