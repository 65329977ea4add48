use Rattle.std.proofs.Common.{subst, sym}
use Rattle.descent.specs.Conditions.{IsRule}
use Rattle.rank_forms.proofs.building.gather_all.Goals as goal

pub gather-requires : goal.gather-requires
gather-requires c = subst IsRule (sym c.rule-item.is) (c.requires c.loop-rule.rule-index c.rule-item.result c.loop-rule-test.true)
