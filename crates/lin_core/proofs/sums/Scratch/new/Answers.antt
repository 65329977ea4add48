use Rattle.std.proofs.Common.{refl, pos}
use Rattle.lin_core.proofs.Cells.{fresh_counts, fresh_sum}
use Rattle.lin_core.proofs.sums.Scratch.new.Goals as goal

pub invariant_of-result : goal.invariant_of-result
invariant_of-result c = fresh_counts _ c.args.vars (c.in_ok-vec.ensures.items_if_clones_equal (λ _ e. e)) refl refl

pub returns : goal.returns
returns c =
    let items = c.in_ok-vec.ensures.items_if_clones_equal (λ _ e. e) in
    fresh_sum (record { cells = c.in_ok-vec.field-0; round = 0; nonzero = 0; constant = pos 0 }) c.args.vars items refl refl
