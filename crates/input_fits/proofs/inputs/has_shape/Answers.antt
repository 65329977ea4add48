use Rattle.std.proofs.Common.{sym, subst}
use Rattle.std.specs.Prelude.{IfOk, IsTrue, ◌↔◌}
use Rattle.jvm_values.specs.declared.shape.Shape.{Shape}
use Rattle.jvm_values.specs.Heaps.{HasShape}
use Rattle.input_fits.proofs.Shapes.{best_acyclic}
use Rattle.input_fits.proofs.inputs.has_shape.Goals as goal

pub returns-in-Tree : goal.returns-in-Tree
returns-in-Tree c = subst (λ (s : Shape). IfOk c.is_tree.result (λ answer. IsTrue answer ↔ HasShape s c.args.heap.now c.args.value))
    (sym c.in-Tree.is) c.is_tree.ensures

pub returns-in_ok-shape-in-Dag : goal.returns-in_ok-shape-in-Dag
returns-in_ok-shape-in-Dag c =
    let best = best_acyclic c.args.heap.now c.args.value c.in_ok-shape-in-Dag.field-0 c.in_ok-shape-in-Dag.ensures in
    subst (λ (s : Shape). IsTrue c.is_acyclic.result ↔ HasShape s c.args.heap.now c.args.value) (sym c.in-Dag.is) (
      λ e. best.0 (c.is_acyclic.ensures.0 e),
      λ h. c.is_acyclic.ensures.1 (best.1 h),
    )
