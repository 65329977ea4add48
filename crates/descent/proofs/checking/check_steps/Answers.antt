use Rattle.descent.specs.Chains.{ChainsEnd, NoInfiniteChain}
use Rattle.descent.proofs.Checked.{answers_ok}
use Rattle.descent.proofs.Walked.{closed_ends, none_infinite}
use Rattle.descent.proofs.checking.check_steps.Goals as goal

pub returns-clause-ends : goal.returns-clause-ends
returns-clause-ends c = answers_ok c.walk.result _ (ChainsEnd c.args.rules.now) c.walk.ensures
    (λ e. closed_ends c.args.rules.now c.args.steps.now c.requires.rules c.requires.steps e)

pub returns-clause-no_infinite : goal.returns-clause-no_infinite
returns-clause-no_infinite c = answers_ok c.walk.result _ (NoInfiniteChain c.args.rules.now) c.walk.ensures
    (λ e. none_infinite c.args.rules.now (closed_ends c.args.rules.now c.args.steps.now c.requires.rules c.requires.steps e))
