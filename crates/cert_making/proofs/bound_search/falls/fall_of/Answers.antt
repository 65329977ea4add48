use Rattle.std.proofs.Common.{List, ◌∙◌, sym, subst}
use Rattle.descent.specs.declared.rules.PathRule.{PathRule}
use Rattle.descent.specs.Conditions.{AreRules}
use Rattle.cert_making.proofs.bound_search.falls.fall_of.Goals as goal

pub by_rows-requires : goal.by_rows-requires
by_rows-requires c = subst (λ (rs : List PathRule). AreRules rs) (c.as_slice.ensures ∙ sym c.as_slice-2.ensures)
    (c.are_rules.ensures c.if-not-are_rules.false)
