use Rattle.std.proofs.Common.{arith}
use Rattle.path_rules.proofs.Numbering.{few_numbers}
use Rattle.path_rules.proofs.stops.Stop.next.Goals as goal

pub overflow_cast-result : goal.overflow_cast-result
overflow_cast-result g c =
    let few = few_numbers c.self.inside.node.state c.self.inside.numbers c.self.invariant.good c.self.invariant.numbers_are in
    let is = c.len.ensures in
    omega (arith, few, is)

pub overflow_add-result : goal.overflow_add-result
overflow_add-result g c =
    let few = few_numbers c.self.inside.node.state c.self.inside.numbers c.self.invariant.good c.self.invariant.numbers_are in
    let is = c.len.ensures in
    let low = c.self.invariant.low in
    omega (arith, few, is, low)
