use Rattle.std.proofs.Common.{sym, subst, List}
use Rattle.std.specs.List.{Any}
use Rattle.abs_ints.specs.Comparing.{FallsBetween}
use Rattle.abs_ints.specs.declared.cases.IntCase.{IntCase}
use Rattle.abs_ints.proofs.Comparisons.{compared_covers}
use Rattle.abs_ints.proofs.comparing.compare.Goals as goal

pub returns-clause-covers : goal.returns-clause-covers
returns-clause-covers c = λ m n p q h.
    let P : List IntCase → Type 0 = λ cases. Any (FallsBetween c.args.cond m n) cases in
    subst P (sym c.cases.ensures) (compared_covers c.args.cond c.args.same c.args.a c.args.b m n p q h)
