use Rattle.std.specs.List.{AllByRecursion, AllZip}
use Rattle.std.specs.Vec.Iter.{into_iter_items}
use Rattle.abs_cells.specs.Sound.{IsWellFormed}
use Rattle.term_graph.specs.Graphs.{GraphChild}
use Rattle.abs_expand.specs.Children.{IsLean}
use Rattle.abs_expand.proofs.splitting.lean_children.Given as goal

abbrev pub invariant-loop-child : goal.invariant-loop-child
invariant-loop-child g l = record {
  good : AllByRecursion (λ (child : GraphChild). IsWellFormed child.state) (into_iter_items l.child-iterator);
  done : AllZip IsLean l.yielded l.made;
}
