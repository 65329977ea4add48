use Rattle.std.proofs.Common.{◌≡◌, subst, ap, List, ℕ}
use Rattle.std.specs.Prelude.{IfOk}
use Rattle.class_world.proofs.Tables.{interfaces_from}
use Rattle.class_world.proofs.named.Named.interfaces_of.Goals as goal

pub returns : goal.returns
returns c =
    subst (λ (want : List ℕ). IfOk c.numbers_of.result (λ found. found ≡ want))
    (interfaces_from c.args.self.now.classes c.args.class c.at-view.result.now c.view.inside.interfaces c.as_slice.result.now
    c.requires c.at-view.ensures (ap (λ x. x.interfaces) c.view.view_is) c.as_slice.ensures)
    c.numbers_of.ensures
