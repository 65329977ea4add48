use Rattle.std.proofs.Common.{arith}
use Rattle.path_rules.proofs.Numbering.{number_there, number_missing, place_low}
use Rattle.path_rules.proofs.numbers.number_of.Goals as goal

pub returns-in-Some-clause-number : goal.returns-in-Some-clause-number
returns-in-Some-clause-number c ids is = number_there c.args.numbers.now c.args.id c.in-Some.place (0, 0) ids c.requires.rising
    c.in-Some.ensures is

pub returns-in-Some-clause-low : goal.returns-in-Some-clause-low
returns-in-Some-clause-low c ids is =
    let number = number_there c.args.numbers.now c.args.id c.in-Some.place (0, 0) ids c.requires.rising c.in-Some.ensures is in
    let low = place_low ids c.args.id in
    omega (arith, number, low)

pub returns-in-None-clause-number : goal.returns-in-None-clause-number
returns-in-None-clause-number c ids is = number_missing c.args.numbers.now c.args.id ids c.in-None.ensures is

pub returns-in-None-clause-low : goal.returns-in-None-clause-low
returns-in-None-clause-low c ids is =
    let number = number_missing c.args.numbers.now c.args.id ids c.in-None.ensures is in
    let low = place_low ids c.args.id in
    omega (arith, number, low)
