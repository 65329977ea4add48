use Rattle.class_world.proofs.Rules.{refuses_missing, missing_more, passed_on}
use Rattle.class_world.proofs.linking.Hierarchy.all_present.Goals as goal

pub returns-in_err-interface_present : goal.returns-in_err-interface_present
returns-in_err-interface_present c = passed_on _ _ _ c.from_residual.ensures.1
    (refuses_missing c.args.self.now.roster.now.classes c.args.names.now c.loop-name.name-index _
    c.in_err-interface_present.field-0.0 c.loop-name-test.true c.loop-name.invariant c.in_err-interface_present.ensures)

pub loop-name-preserved : goal.loop-name-preserved
loop-name-preserved c = missing_more c.args.self.now.roster.now.classes c.args.names.now c.loop-name.name-index _
    c.loop-name-test.true c.loop-name.invariant c.in_ok-interface_present.ensures
