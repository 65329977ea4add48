use Rattle.std.proofs.Common.{◌≡◌, ◌++◌, drop}
use Rattle.std.specs.List.{flat_map}
use Rattle.term_enc.specs.Encoding.{pattern_of}
use Rattle.term_enc.specs.Sizes.{classes_in}
use Rattle.path_rules.proofs.sizes.+push_classes.Given as goal

abbrev pub invariant-loop-child : goal.invariant-loop-child
invariant-loop-child l =
    l.names ++ flat_map (λ t. classes_in (pattern_of t)) (drop l.child-index l.child-items)
    ≡ l.initial.names ++ flat_map (λ t. classes_in (pattern_of t)) l.child-items
