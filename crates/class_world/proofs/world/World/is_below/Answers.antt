use Rattle.std.proofs.Common.{ap, ltb, arith}
use Rattle.class_world.proofs.Below.{not_below}
use Rattle.class_world.proofs.world.World.is_below.Goals as goal

pub returns-else-b-len : goal.returns-else-b-len
returns-else-b-len c = not_below c.args.self.now.roster.classes c.args.a c.args.b (ltb c.args.b c.len.result) c.requires
    (omega (arith, c.len.ensures, c.if-b-len.false)) (ap (ltb c.args.b) c.len.ensures)
