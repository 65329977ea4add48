use Rattle.std.proofs.Common.{◌≡◌, ◌∙◌, ℕ, [], List, true, sym, subst}
use Rattle.std.specs.Prelude.{IfOk}
use Rattle.abs_cells.specs.PairLists.{IsRising, has}
use Rattle.abs_heap.specs.inner.Building.{Gains}
use Rattle.abs_heap.specs.Names.{name_in, IsImage}
use Rattle.abs_heap.proofs.children.named_pairs.Goals as goal

pub listed_pairs-requires-clause-pairs : goal.listed_pairs-requires-clause-pairs
listed_pairs-requires-clause-pairs g c = subst IsRising (sym (c.as_slice.ensures.value ∙ c.in_ok-listed.ensures.value))
    c.in_ok-listed.ensures.rising

pub returns : goal.returns
returns g c =
    subst (λ (ps : List (ℕ × ℕ)). IfOk c.listed_pairs.result (λ pairs. Gains c.args.cells.now (IsImage (name_in c.args.names.now)
    (λ x y. has x y ps ≡ true)) [] (g.P.Pairs.pairs pairs))) (c.as_slice.ensures.value ∙ c.in_ok-listed.ensures.value)
    c.listed_pairs.ensures
