use Rattle.std.proofs.Common.{rules, arith}
use Rattle.std.specs.declared.alloc.AllocError.{AllocError}
use Rattle.jvm_values.specs.States.{state_of}
use Rattle.jvm_run.proofs.RunSteps.{returned, threw, failed}
use Rattle.jvm_run.proofs.runs.run.Goals as goal

pub returns-in-Err : goal.returns-in-Err
returns-in-Err c = record {
  run = failed _ _ (state_of c.loop-count.state) _ c.loop-count.count _ c.loop-count.invariant
      (omega arith) AllocError _ (search rules);
}

pub returns-in-Ok-Returned : goal.returns-in-Ok-Returned
returns-in-Ok-Returned c = record {
  run = returned _ _ (state_of c.loop-count.state) _ c.loop-count.count _ c.loop-count.invariant
      (omega arith) AllocError _ (search rules);
}

pub returns-in-Ok-Threw : goal.returns-in-Ok-Threw
returns-in-Ok-Threw c = record {
  run = threw _ _ (state_of c.loop-count.state) _ c.loop-count.count _ c.loop-count.invariant
      (omega arith) AllocError _ (search rules);
}
