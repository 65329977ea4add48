use Rattle.std.proofs.Common.{zip, reverse, List, ℕ, sym, subst}
use Rattle.list_views.proofs.Quantified.{all_back}
use Rattle.abs_widen.specs.Visits.{IsPaired, local_pairs}
use Rattle.abs_widen.specs.inner.Visiting.{ArePaired}
use Rattle.abs_widen.proofs.positions.visit_frame.Goals as goal

pub visit_entries-requires-clause-paired : goal.visit_entries-requires-clause-paired
visit_entries-requires-clause-paired g c =
    subst (λ (l : List ℕ). ArePaired c.args.a.now c.args.b.now (zip l c.stack-2.result.now)) (sym c.stack.ensures)
    (subst (λ (l : List ℕ). ArePaired c.args.a.now c.args.b.now (zip (reverse c.args.frame.now.stack) l)) (sym c.stack-2.ensures)
    (all_back (IsPaired c.args.a.now c.args.b.now)
    (local_pairs c.args.a.now c.args.b.now c.args.frame.now.locals c.args.other.now.locals)
    (zip (reverse c.args.frame.now.stack) (reverse c.args.other.now.stack)) c.requires.paired))
