use Rattle.lin_core.proofs.Admitted.{all_allowed, all_small, faultless}
use Rattle.lin_core.proofs.laws.faultless_are_allowed.Goals as goal

pub returns : goal.returns
returns c = λ rows multipliers. (
  λ e. (all_allowed rows 0 multipliers e, all_small rows 0 multipliers e),
  λ h. faultless rows 0
      multipliers h.0 h.1,
)
