use Rattle.std.proofs.Common.{subst}
use Rattle.chain_proofs.specs.Sets.{RanksOwn}
use Rattle.chain_proofs.proofs.Renumbered.{places_within, ranks_over}
use Rattle.chain_proofs.proofs.ranking.rank_step.Goals as goal

pub step-requires : goal.step-requires
step-requires g c = c.requires.asked c.args.set.now c.args.own.now c.requires.rise c.requires.own

pub step_over-requires : goal.step_over-requires
step_over-requires g c = places_within c.args.rules.now c.args.set.now c.args.own.now c.in-Some.step c.requires.own
    (subst (RanksOwn g.F.Forms.none c.args.own.now) c.in-Some.is c.in_ok-step.ensures)

pub returns-in_ok-step_over-in-Some : goal.returns-in_ok-step_over-in-Some
returns-in_ok-step_over-in-Some g c = ranks_over c.args.rules.now c.args.set.now c.args.own.now c.in-Some.step
    c.in_ok-step_over-in-Some.field-0 c.requires.own
    (subst (RanksOwn g.F.Forms.none c.args.own.now) c.in-Some.is c.in_ok-step.ensures) c.in_ok-step_over-in-Some.ensures
