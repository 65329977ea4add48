use Rattle.std.proofs.Common.{sym, ◌∙◌}
use Rattle.std.proofs.lemmas.Bool.{false≢true}
use Rattle.abs_heap.proofs.Untold.{untold_right}
use Rattle.abs_heap.proofs.equals.lower_bound.Goals as goal

pub returns-in-None : goal.returns-in-None
returns-in-None g c = absurd
    (false≢true (sym (untold_right _ _ _ _ _ (g.met.T.Types.laws c.args.types.now) _ _ _ _ c.in-None.ensures) ∙ c.requires))
