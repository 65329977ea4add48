use Rattle.std.proofs.Common.{◌≡◌, false, subst}
use Rattle.std.specs.Prelude.{is_some}
use Rattle.std.specs.Option.{option_map_or}
use Rattle.class_pool.specs.Entry.{is_member}
use Rattle.class_pool.specs.Text.{entry_at}
use Rattle.class_pool.proofs.LookUps.{kind_from, member_some}
use Rattle.class_pool.proofs.pool.Pool.member.Goals as goal

pub returns-clause-kind : goal.returns-clause-kind
returns-clause-kind c =
    subst (λ entries. is_some c.member.result ≡ option_map_or is_member (entry_at entries c.args.i) false) c.self.view_is
    (kind_from _ c.member.result _ _ c.member.ensures (member_some c.self.inside.entries c.args.i c.self.invariant))
