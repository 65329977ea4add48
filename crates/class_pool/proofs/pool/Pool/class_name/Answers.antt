use Rattle.std.proofs.Common.{◌≡◌, false, subst}
use Rattle.std.specs.Prelude.{is_some}
use Rattle.std.specs.Option.{option_map_or}
use Rattle.class_pool.specs.Entry.{is_class}
use Rattle.class_pool.specs.Text.{entry_at}
use Rattle.class_pool.proofs.LookUps.{kind_from, class_some}
use Rattle.class_pool.proofs.pool.Pool.class_name.Goals as goal

pub returns-clause-kind : goal.returns-clause-kind
returns-clause-kind c =
    subst (λ entries. is_some c.class_name.result ≡ option_map_or is_class (entry_at entries c.args.i) false) c.self.view_is
    (kind_from _ c.class_name.result _ _ c.class_name.ensures (class_some c.self.inside.entries c.args.i c.self.invariant))
