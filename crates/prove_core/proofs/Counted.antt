-- A rule has no more variables than rows.
use Rattle.std.proofs.Common.{ℕ, ◌+◌, ◌≤◌, List, [], ◌∷◌, ◌++◌, length, arith, length-append}
use Rattle.path_rules.specs.Stops.{Stop, Leg}
use Rattle.path_rules.specs.Rules.{rows_of_stop, rows_of_leg, variables_after, rows_along, last_along}
use Rattle.path_rules.proofs.Riding.{stop_long}

pub variables_long : (first : ℕ) (stop : Stop) (rides : List (Leg × Stop))
    → variables_after (last_along first stop rides).0 (last_along first stop rides).1 ≤ first + length (rows_along first stop rides)
variables_long first stop [] = let here = stop_long first stop.state in omega (arith, here)
variables_long first stop (ride ∷ rides) =
    let next = variables_after first stop in
    let here = stop_long first stop.state in
    let more = variables_long next ride.1 rides in
    let long = length-append (rows_of_stop first stop.state) (rows_of_leg first stop ride.0 next ride.1 ++ rows_along next ride.1 rides) in
    let rest = length-append (rows_of_leg first stop ride.0 next ride.1) (rows_along next ride.1 rides) in
    omega (arith, here, more, long, rest)
