use Rattle.std.proofs.Common.{◌≡◌, ◌<◌, ℕ, Some, slice_get}
use Rattle.filled_graphs.specs.filled_nodes.inner.Slots.{IsFull, IsNamedBy}
use Rattle.filled_graphs.specs.filled_nodes.Holding.{AreKept}
use Rattle.filled_graphs.proofs.filled_nodes.holding.put_children.Given as goal

abbrev pub invariant-loop-place : goal.invariant-loop-place
invariant-loop-place g l = record {
  full : (k n : ℕ) → k < l.place → slice_get l.named k ≡ Some n → IsNamedBy l.ground.origins l.namer k n → IsFull l.slots n;
  keeps : (n : ℕ) → IsFull l.initial.slots n → IsFull l.slots n;
  kept : AreKept (g.E.Expands.rules l.ground.expander) (g.S.PartSource.parts l.ground.parts.now) l.ground.filling.0 l.slots;
}
