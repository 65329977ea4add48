use Rattle.std.proofs.Common.{◌≡◌, drop}
use Rattle.std.specs.List.{filter_map}
use Rattle.descent.specs.Steps.{parts_left, same_option}
use Rattle.bound_check.specs.Parts.{handed}
use Rattle.bound_check.proofs.parts.hand_parts.Given as goal

abbrev pub invariant-loop-n : goal.invariant-loop-n
invariant-loop-n l = handed (filter_map same_option (parts_left l.set (drop l.n l.parts) (drop l.n l.steps))) l.given.items
    ≡ handed (filter_map same_option (parts_left l.set l.parts l.steps)) l.initial.given.items
