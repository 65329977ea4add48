use Rattle.std.proofs.Common.{◌≡◌, ◌++◌, map, drop}
use Rattle.path_rules.specs.Rules.{size_slot}
use Rattle.path_rules.specs.Sizing.{size_at}
use Rattle.path_rules.specs.inner.Sizing.{sized, sizes_in}
use Rattle.path_rules.proofs.slots.push_size_slots.Given as goal

abbrev pub invariant-loop-id : goal.invariant-loop-id
invariant-loop-id g l =
    l.slots ++ map (size_slot l.stop.first (sized l.stop.node.state))
    (sizes_in (size_at l.stop.node.state) (drop l.id-index l.stop.node.state.cells))
    ≡ l.initial.slots ++ map (size_slot l.stop.first (sized l.stop.node.state))
    (sizes_in (size_at l.stop.node.state) l.stop.node.state.cells)
