use Rattle.std.proofs.Common.{sym}
use Rattle.lin_core.proofs.Matching.{zeros_from_count, count_from_zeros}
use Rattle.lin_core.proofs.sums.Scratch.leaves.Goals as goal

pub returns-then-has_nonzero : goal.returns-then-has_nonzero
returns-then-has_nonzero c = (
  λ small. record {
    coefficients = zeros_from_count c.args.self.now.coefficients (sym (c.has_nonzero.ensures.0 c.if-has_nonzero.true));
    constant = c.is_at_most.ensures.0 small;
  },
  λ leaves. c.is_at_most.ensures.1 leaves.constant,
)

pub returns-else-has_nonzero : goal.returns-else-has_nonzero
returns-else-has_nonzero c =
    (λ h. absurd (cc), λ leaves. c.has_nonzero.ensures.1 (sym (count_from_zeros c.args.self.now.coefficients leaves.coefficients)))
