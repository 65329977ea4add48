use Rattle.std.proofs.Common.{◌&&◌, sym, subst, ℕ, List}
use Rattle.abs_cells.specs.PairLists.{IsRising}
use Rattle.abs_cells.specs.IdSets.{has_id}
use Rattle.abs_cells.proofs.KeepLaws.{rising_filter}
use Rattle.abs_cells.proofs.pairs.ListPairsPairs.keep.Goals as goal

pub invariant_of-self : goal.invariant_of-self
invariant_of-self c = subst (λ (xs : List (ℕ × ℕ)). IsRising xs) (sym c.keep_listed.ensures)
    (rising_filter (λ p. has_id c.args.ids.now p.0 && has_id c.args.ids.now p.1) c.self.inside.pairs.items c.self.invariant)
