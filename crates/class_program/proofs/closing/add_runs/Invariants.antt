use Rattle.std.proofs.Common.{◌≡◌, drop}
use Rattle.std.specs.Prelude.{flat_map}
use Rattle.class_world.specs.Worlds.{classes_of}
use Rattle.class_program.specs.Runs.{runs}
use Rattle.class_program.specs.Reached.{with_new}
use Rattle.class_program.specs.inner.Rows.{AreRows}
use Rattle.class_program.proofs.closing.add_runs.Given as goal

abbrev pub invariant-loop-insn : goal.invariant-loop-insn
invariant-loop-insn l = (with_new l.refs (flat_map (λ x. runs (classes_of l.world) x.1) (drop l.insn-index l.insns)) ≡ with_new
    l.initial.refs (flat_map (λ x. runs (classes_of l.world) x.1) l.insns)) × AreRows (classes_of l.world) l.rows
