use Rattle.std.proofs.Common.{ℕ, List, subst}
use Rattle.abs_reach.specs.Instances.{InstanceOf, IsFirstFault}
use Rattle.abs_match.proofs.SearchTurns.{no_other, only_one}
use Rattle.abs_match.proofs.finding.find_map.Goals as goal

pub returns-in-Ok : goal.returns-in-Ok
returns-in-Ok g c = subst (λ (es : List (ℕ × ℕ)). InstanceOf (g.T.Types.sub c.args.types.now) c.args.a.now c.args.b.now es)
    c.deref.ensures.value c.in-Ok.ensures.ok

pub returns-in-Err : goal.returns-in-Err
returns-in-Err g c =
    no_other c.args.a.now c.args.b.now (g.T.Types.sub c.args.types.now) c.in-Some.map.items c.in-Err._fault.clause c.in-Err._fault.id
    (only_one c.args.a.now c.args.b.now c.in-Some.is (λ m. m.items) c.in_ok-map.ensures)
    (subst (λ (es : List (ℕ × ℕ)). IsFirstFault (g.T.Types.sub c.args.types.now) c.args.a.now c.args.b.now es c.in-Err._fault.clause
    c.in-Err._fault.id) c.deref.ensures.value c.in-Err.ensures.err)
