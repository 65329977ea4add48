use Rattle.std.proofs.Common.{◌≡◌, ◌++◌, length}
use Rattle.std.specs.Vec.Iter.{into_iter_items}
use Rattle.list_views.specs.Lists.{numbers_from}
use Rattle.graph_build.specs.inner.Working.{seen, with_all}
use Rattle.graph_build.proofs.growth.Growing.add_all.Given as goal

abbrev pub invariant-loop-state : goal.invariant-loop-state
invariant-loop-state g l = record {
  whole : l.yielded ++ into_iter_items l.state-iterator ≡ into_iter_items l.initial.state-iterator;
  named : l.named ≡ numbers_from (length l.initial.self.graph) (length l.yielded);
  added : seen l.self ≡ with_all (seen l.initial.self) l.yielded l.parent;
}
