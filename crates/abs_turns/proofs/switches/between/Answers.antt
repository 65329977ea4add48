use Rattle.std.proofs.Common.{◌∙◌, ap, refl, arith}
use Rattle.std.specs.Option.{option_and_then}
use Rattle.std.proofs.lemmas.Int.{ints}
use Rattle.abs_ints.specs.IntIntervals.{meet_of}
use Rattle.abs_ints.proofs.Making.{none_is, some_is}
use Rattle.abs_turns.proofs.switches.between.Goals as goal

pub returns-then-low-high : goal.returns-then-low-high
returns-then-low-high c = ap (option_and_then (meet_of c.args.ints)) (none_is c.args.low.now c.args.high.now (omega (arith, ints)))

pub returns : goal.returns
returns c = c.part_of.ensures
    ∙ ap (option_and_then (meet_of c.args.ints)) (some_is c.args.low.now c.args.high.now c.args.low.now c.args.high.now refl refl
    (omega (arith, ints)))
