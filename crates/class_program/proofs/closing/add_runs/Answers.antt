use Rattle.std.proofs.Common.{◌∙◌, ap}
use Rattle.class_world.specs.Worlds.{classes_of}
use Rattle.class_program.specs.Runs.{runs}
use Rattle.class_program.proofs.GoingThrough.{runs_more}
use Rattle.class_program.proofs.closing.add_runs.Goals as goal

pub loop-insn-preserved : goal.loop-insn-preserved
loop-insn-preserved c = (
  runs_more (λ x. runs (classes_of c.args.world.now) x.1) c.args.insns.now c.loop-insn.insn-index _ c.loop-insn.refs _ _
      c.as_slice.result.now c.loop-insn-test.true c.loop-insn.invariant.0 (c.as_slice.ensures ∙ c.in_ok-found.ensures.found
      ∙ ap (λ x. runs (classes_of c.args.world.now) x.1) c.insn-item.is) c.in_ok-add_all.ensures,
  c.in_ok-found.ensures.rows,
)
