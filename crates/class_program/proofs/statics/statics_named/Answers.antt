use Rattle.std.proofs.Common.{arith}
use Rattle.class_world.specs.Worlds.{classes_of}
use Rattle.class_program.proofs.StaticLists.{statics_kept, statics_many}
use Rattle.class_program.proofs.statics.statics_named.Goals as goal

pub returns-then-len-gt-MOST : goal.returns-then-len-gt-MOST
returns-then-len-gt-MOST c =
    statics_many (classes_of c.args.world.now) c.args.methods.now c.in_ok-named.named c.in_ok-statics.statics c.in_ok-named.ensures
    c.in_ok-statics.ensures (omega (arith, c.len.ensures, c.if-len-gt-MOST.true))

pub returns : goal.returns
returns c =
    statics_kept (classes_of c.args.world.now) c.args.methods.now c.in_ok-named.named c.in_ok-statics.statics c.in_ok-named.ensures
    c.in_ok-statics.ensures (omega (arith, c.len.ensures, c.if-len-gt-MOST.false))
