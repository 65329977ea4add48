use Rattle.std.proofs.Common.{sym, subst, List, arith}
use Rattle.std.specs.List.{Any}
use Rattle.std.proofs.lemmas.Int.{ints}
use Rattle.abs_ints.specs.Falling.{FallsUnder}
use Rattle.abs_ints.specs.declared.cases.IntCase.{IntCase}
use Rattle.abs_ints.proofs.AllCases.{AreInts, operated_covers}
use Rattle.abs_ints.proofs.operating.operate.Goals as goal

pub returns-clause-covers : goal.returns-clause-covers
returns-clause-covers c = λ m n p q.
    let P : List IntCase → Type 0 = λ cases. Any (FallsUnder c.args.op m n) cases in
    let f : AreInts c.args.a = (omega (arith, ints), omega (arith, ints)) in
    let g : AreInts c.args.b = (omega (arith, ints), omega (arith, ints)) in
    subst P (sym c.cases.ensures) (operated_covers c.args.op c.args.a c.args.b m n f g p q)
