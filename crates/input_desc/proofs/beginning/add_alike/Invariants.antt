use Rattle.std.proofs.Common.{◌≡◌, drop}
use Rattle.std.specs.Prelude.{filter}
use Rattle.class_world.specs.Worlds.{classes_of}
use Rattle.input_desc.specs.Initial.{with_pairs, are_alike}
use Rattle.input_desc.proofs.beginning.add_alike.Given as goal

abbrev pub invariant-loop-pair : goal.invariant-loop-pair
invariant-loop-pair g l = with_pairs (g.P.Pairs.pairs l.pairs)
    (filter (are_alike (classes_of l.world) l.inputs) (drop l.pair-index l.more)) ≡ with_pairs (g.P.Pairs.pairs l.initial.pairs)
    (filter (are_alike (classes_of l.world) l.inputs) l.more)
