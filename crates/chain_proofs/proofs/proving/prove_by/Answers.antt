use Rattle.std.proofs.Common.{◌∙◌, arith, length, subst, sym}
use Rattle.chain_proofs.specs.declared.proving.Turn.{Turn}
use Rattle.chain_proofs.specs.inner.Dealt.{IsSet}
use Rattle.chain_proofs.specs.inner.Sets.{TurnsOr}
use Rattle.chain_proofs.proofs.Spending.{set_given}
use Rattle.chain_proofs.proofs.Starting.{all_asked}
use Rattle.chain_proofs.proofs.Turning.{has_room, proof_more}
use Rattle.chain_proofs.proofs.proving.prove_by.Goals as goal

pub count_of-count-requires : goal.count_of-count-requires
count_of-count-requires g c = g.F.Forms.few c.args.rules.now (all_asked g.F.Forms.asks c.args.rules.now c.requires)

pub most_steps-below-requires : goal.most_steps-below-requires
most_steps-below-requires g c =
    let few = g.F.Forms.few c.args.rules.now (all_asked g.F.Forms.asks c.args.rules.now c.requires) in
    let same = c.count_of-count.ensures in
    omega (arith, few, same)

pub taken-requires-clause-is_set : goal.taken-requires-clause-is_set
taken-requires-clause-is_set g c = subst (IsSet (length c.args.rules.now)) (sym c.as_slice.ensures)
    (set_given (length c.args.rules.now) c.loop-number.sets.given.items c.loop-number.number c.in-Some.set c.loop-number.invariant.sets
    (sym c.in_ok-set.ensures ∙ c.in-Some.is))

pub taken-requires-clause-sets : goal.taken-requires-clause-sets
taken-requires-clause-sets g c = c.loop-number.invariant.sets

pub taken-requires-clause-room : goal.taken-requires-clause-room
taken-requires-clause-room g c = has_room c.args.rules.now c.most_steps-below.result c.loop-number.number c.loop-number.steps
    c.loop-number.sets.given.items c.loop-number.invariant

pub loop-number-preserved : goal.loop-number-preserved
loop-number-preserved g c =
    proof_more g.F.Forms.none c.args.rules.now c.most_steps-below.result c.loop-number.number c.loop-number.steps _
    c.loop-number.sets.given.items c.taken.new.sets.given.items c.in-Step.step c.as_slice.result.now c.loop-number.invariant
    (subst (λ (turn : Turn). TurnsOr g.F.Forms.none c.args.rules.now c.loop-number.number c.as_slice.result.now
    c.loop-number.sets.given.items turn c.taken.new.sets.given.items) c.in-Step.is c.in_ok-step.ensures)
    c.in_ok-push-in-Step.ensures.items
