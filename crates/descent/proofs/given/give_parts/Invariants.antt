use Rattle.std.proofs.Common.{◌≡◌, drop}
use Rattle.std.specs.List.{filter_map}
use Rattle.descent.specs.Steps.{give, parts_left, same_option}
use Rattle.descent.proofs.given.give_parts.Given as goal

abbrev pub invariant-loop-n : goal.invariant-loop-n
invariant-loop-n l = give l.number (filter_map same_option (parts_left l.set (drop l.n l.parts) (drop l.n l.steps))) l.given.items
    ≡ give l.number (filter_map same_option (parts_left l.set l.parts l.steps)) l.initial.given.items
