use Rattle.std.proofs.Common.{Some}
use Rattle.rank_forms.specs.SizeReasons.{TellsSizeAt}
use Rattle.rank_search.proofs.PlainSteps.{nothing}
use Rattle.rank_forms.proofs.Told.{AreTold}
use Rattle.rank_search.proofs.plain_steps.follow_all_sizes.Given as goal

abbrev pub invariant-loop-rule : goal.invariant-loop-rule
invariant-loop-rule l = AreTold (λ rule followed. TellsSizeAt l.place rule (Some followed)) l.rules nothing l.all l.rule-index
