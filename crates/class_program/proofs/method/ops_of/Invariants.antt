use Rattle.std.proofs.Common.{◌≡◌, ◌++◌, ℕ, length, Ok}
use Rattle.std.specs.List.{AllByRecursion}
use Rattle.std.specs.Vec.Iter.{into_iter_items, into_iter_len}
use Rattle.class_world.specs.Worlds.{classes_of}
use Rattle.class_program.specs.declared.op.Op.{Op}
use Rattle.class_program.specs.Said.{each}
use Rattle.class_program.specs.inner.Rows.{AreRows}
use Rattle.class_program.specs.Methods.{op_said}
use Rattle.class_program.specs.Widths.{IsConstantInWidth}
use Rattle.class_program.proofs.method.ops_of.Given as goal

abbrev pub invariant-loop-insn : goal.invariant-loop-insn
invariant-loop-insn l = (l.yielded ++ into_iter_items l.insn-iterator ≡ into_iter_items l.initial.insn-iterator)
    × (each (op_said (classes_of l.world) l.class l.name) l.yielded ≡ Ok l.ops)
    × (into_iter_len l.insn-iterator ≡ length (into_iter_items l.insn-iterator))
    × AllByRecursion (λ (y : ℕ × Op). IsConstantInWidth y.1) l.ops
    × AreRows (classes_of l.world) l.rows
