use Rattle.std.proofs.Common.{◌∙◌}
use Rattle.class_world.proofs.FieldLemmas.{own_row, own_none}
use Rattle.class_world.proofs.roster.Roster.added_by.Goals as goal

pub returns-then-class-own : goal.returns-then-class-own
returns-then-class-own c = c.as_slice.ensures ∙ own_row c.args.self.now.classes c.args.own.now c.args.class _ c.requires
    c.if-class-own.true c.index-own-class.is

pub returns-else-class-own : goal.returns-else-class-own
returns-else-class-own c = own_none c.args.self.now.classes c.args.own.now c.args.class c.requires c.if-class-own.false
