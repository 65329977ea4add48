use Rattle.std.proofs.Common.{◌≡◌, ◌++◌, map, drop}
use Rattle.std.specs.List.{flat_map}
use Rattle.term_enc.specs.Encoding.{pattern_of}
use Rattle.term_enc.specs.Sizes.{variables_in}
use Rattle.path_rules.specs.Rules.{variable_of}
use Rattle.path_rules.proofs.sizes.+push_variables.Given as goal

abbrev pub invariant-loop-child : goal.invariant-loop-child
invariant-loop-child g l =
    l.names ++ flat_map (λ t. map (variable_of l.stop.first l.stop.node.state) (variables_in (pattern_of t)))
    (drop l.child-index l.child-items)
    ≡ l.initial.names ++ flat_map (λ t. map (variable_of l.stop.first l.stop.node.state) (variables_in (pattern_of t))) l.child-items
