use Rattle.std.proofs.Common.{arith}
use Rattle.class_world.specs.Worlds.{classes_of}
use Rattle.desc_steps.specs.Names.{names_of}
use Rattle.desc_steps.proofs.Naming.{one_more, few_so_far, all_named}
use Rattle.desc_steps.proofs.names.class_names.Goals as goal

pub push-requires : goal.push-requires
push-requires c =
    let few = few_so_far (names_of (classes_of c.args.world.now)) c.loop-class.names c.loop-class.class c.loop-class.invariant in
    omega (arith, few, c.loop-class-test.true, c.len-class-end.ensures, c.args.world.now.roster.few)

pub loop-class-preserved : goal.loop-class-preserved
loop-class-preserved c = one_more (names_of (classes_of c.args.world.now)) c.loop-class.names c.push.new.self c.loop-class.class
    c.class_name.result.now c.loop-class.invariant c.class_name.ensures c.in_ok-push.ensures.ok

pub returns : goal.returns
returns c = all_named (classes_of c.args.world.now) c.loop-class.names c.loop-class.class c.loop-class.invariant
    (omega (arith, c.loop-class-test.false, c.len-class-end.ensures))
