use Rattle.std.proofs.Common.{sym}
use Rattle.abs_reach.proofs.Same.{pairs_same, among_itself}
use Rattle.abs_reach.proofs.abs_equal.states.are_same_pairs.Goals as goal

pub returns-then-are_among : goal.returns-then-are_among
returns-then-are_among g c = (
  λ t. pairs_same _ _ c.rise.ensures c.rise-2.ensures (c.are_among.ensures.0 c.if-are_among.true) (c.are_among-then-are_among.ensures.0 t),
  λ e. c.are_among-then-are_among.ensures.1 (among_itself _ _ (sym e)),
)
