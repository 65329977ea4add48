use Rattle.descent.specs.Components.{AreClasses}
use Rattle.descent.proofs.Classes.{if_ok_then, table_classes}
use Rattle.descent.proofs.grouping.components.Goals as goal

pub returns : goal.returns
returns c = if_ok_then _ _ c.put_all.result _ (λ classes. AreClasses c.args.rules.now classes) c.put_all.ensures
    (λ classes e. table_classes c.args.rules.now _ _ classes c.as_slice.ensures c.in_ok-table.ensures e)
