use Rattle.class_world.proofs.Gathering.{rows_none, rows_more}
use Rattle.class_world.proofs.roster.Roster.sought_table.Goals as goal

pub loop-class-init : goal.loop-class-init
loop-class-init c = rows_none c.args.self.now.classes _ c.new-rows.ensures

pub loop-class-preserved : goal.loop-class-preserved
loop-class-preserved c = rows_more c.args.self.now.classes c.loop-class.class c.loop-class.rows _ _ c.loop-class.invariant
    c.in_ok-sought_in.ensures c.in_ok-push.ensures.items
