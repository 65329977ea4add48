use Rattle.std.proofs.Common.{sym}
use Rattle.class_world.specs.Worlds.{classes_of}
use Rattle.class_program.proofs.GoingThrough.{at_within}
use Rattle.class_world.proofs.ShortCodes.{short_at}
use Rattle.class_program.proofs.method.method_of.Goals as goal

pub declared-requires-clause-class : goal.declared-requires-clause-class
declared-requires-clause-class c = at_within (classes_of c.args.world.now) c.args.method _ (sym c.in-Some.ensures)

pub declared-requires-clause-short : goal.declared-requires-clause-short
declared-requires-clause-short c = short_at (classes_of c.args.world.now) c.args.method _ c.args.world.now.short (sym c.in-Some.ensures)
