use Rattle.std.proofs.Common.{ℕ, List, length, ap, arith}
use Rattle.path_rules.proofs.Numbering.{few_numbers}
use Rattle.path_rules.proofs.stops.Stop.variable.Goals as goal

pub number_of-requires-clause-few : goal.number_of-requires-clause-few
number_of-requires-clause-few g c =
    let few = few_numbers c.self.inside.node.state c.self.inside.numbers c.self.invariant.good c.self.invariant.numbers_are in
    let same = ap (λ (ps : List (ℕ × ℕ)). length ps) c.as_slice.ensures in
    omega (arith, few, same)
