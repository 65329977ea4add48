use Rattle.abs_ints.specs.declared.relations.Relation.TheVariants.{Below, AtLeast}
use Rattle.abs_plans.proofs.FirstCases.{taken_first}
use Rattle.abs_plans.proofs.abs_rows.arrays.case_from.Goals as goal

pub returns : goal.returns
returns c = taken_first AtLeast Below c.args.a c.args.b c.compare-cases.result c.take_first.new.self c.take_first.result
    c.first_taken.result c.compare-cases.ensures.table c.take_first.ensures c.first_taken.ensures
