use Rattle.std.proofs.Common.{sym, subst, ◌∙◌}
use Rattle.std.proofs.lemmas.Bool.{eq-eqb, false≢true, not_from_true}
use Rattle.abs_cells.specs.PairLists.{IsRising}
use Rattle.abs_widen.proofs.Rising.{never_itself}
use Rattle.abs_widen.proofs.pairing.are_equal.Goals as goal

pub returns-else-x-y : goal.returns-else-x-y
returns-else-x-y g c =
    let same = eq-eqb c.args.x c.args.y c.if-x-y.false in (
      λ t. absurd (false≢true (sym (not_from_true _ same) ∙ t)),
      λ h. absurd (never_itself c.args.x c.args.y c.args.state.now.eq c.if-x-y.false (subst IsRising c.eq-pairs.ensures c.rise.ensures) h),
    )
