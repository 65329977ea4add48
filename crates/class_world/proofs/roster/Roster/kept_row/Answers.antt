use Rattle.std.proofs.Common.{◌≡◌, List, ℕ, ap, subst}
use Rattle.std.specs.Prelude.{IfOk}
use Rattle.class_world.proofs.Indexes.{kept_from}
use Rattle.class_world.proofs.roster.Roster.kept_row.Goals as goal

pub returns : goal.returns
returns c =
    subst (λ (want : List ℕ). IfOk c.kept_counts.result (λ counts. counts ≡ want))
    (kept_from c.args.self.now.classes c.args.class c.at-view.result.now c.view.inside.fields c.as_slice.result.now
    c.requires.within c.at-view.ensures (ap (λ x. x.fields) c.view.view_is) c.as_slice.ensures)
    c.kept_counts.ensures
