use Rattle.std.proofs.Common.{◌∙◌}
use Rattle.class_world.proofs.Rules.{passed_on}
use Rattle.class_world.proofs.Links.{enrol_fits, link_first, link_later, link_none, linked_is, world_is}
use Rattle.class_world.proofs.Few.{few_world}
use Rattle.class_world.proofs.ShortCodes.{short_world}
use Rattle.class_world.proofs.Indexes.{distinct_world}
use Rattle.class_world.proofs.world.World.link.Goals as goal

pub enrol-requires : goal.enrol-requires
enrol-requires c = enrol_fits c.args.classes.items c.in_ok-with_built_ins.field-0 c.in_ok-with_built_ins.ensures c.requires.count

pub returns-in_err-roster-clause-fault : goal.returns-in_err-roster-clause-fault
returns-in_err-roster-clause-fault c = passed_on _ _ _ c.from_residual-in_err-roster.ensures.1
    (link_first c.args.classes.items c.in_ok-with_built_ins.field-0 _ c.in_ok-with_built_ins.ensures c.in_err-roster.ensures.fault)

pub returns-in_err-above-clause-fault : goal.returns-in_err-above-clause-fault
returns-in_err-above-clause-fault c =
    passed_on _ _ _ c.from_residual-in_err-above.ensures.1
    (link_later c.args.classes.items c.in_ok-with_built_ins.field-0 c.in_ok-roster.roster.classes _ c.in_ok-with_built_ins.ensures
    c.in_ok-roster.ensures.classes c.in_ok-roster.ensures.fault c.in_err-above.ensures.fault)

pub invariant_of-result-clause-known : goal.invariant_of-result-clause-known
invariant_of-result-clause-known c = world_is c.args.classes.items c.in_ok-with_built_ins.field-0 c.in_ok-roster.roster.classes
    c.in_ok-with_built_ins.ensures c.in_ok-roster.ensures.classes c.in_ok-roster.ensures.fault c.in_ok-above.ensures.fault

pub invariant_of-result-clause-few : goal.invariant_of-result-clause-few
invariant_of-result-clause-few c = few_world c.args.classes.items c.in_ok-roster.roster.classes (c.in_ok-roster.ensures.classes
    ∙ c.in_ok-with_built_ins.ensures) c.requires.read

pub members_of-requires-clause-differ : goal.members_of-requires-clause-differ
members_of-requires-clause-differ c = distinct_world c.args.classes.items c.in_ok-roster.roster.classes
    (c.in_ok-roster.ensures.classes ∙ c.in_ok-with_built_ins.ensures) c.requires.read

pub members_of-requires-clause-few : goal.members_of-requires-clause-few
members_of-requires-clause-few c = few_world c.args.classes.items c.in_ok-roster.roster.classes (c.in_ok-roster.ensures.classes
    ∙ c.in_ok-with_built_ins.ensures) c.requires.read

pub invariant_of-result-clause-short : goal.invariant_of-result-clause-short
invariant_of-result-clause-short c = short_world c.args.classes.items c.in_ok-roster.roster.classes (c.in_ok-roster.ensures.classes
    ∙ c.in_ok-with_built_ins.ensures) c.requires.read

pub returns-clause-fault : goal.returns-clause-fault
returns-clause-fault c = link_none c.args.classes.items c.in_ok-with_built_ins.field-0 c.in_ok-roster.roster.classes
    c.in_ok-with_built_ins.ensures c.in_ok-roster.ensures.classes c.in_ok-roster.ensures.fault c.in_ok-above.ensures.fault

pub members_of-requires-clause-linked : goal.members_of-requires-clause-linked
members_of-requires-clause-linked c = linked_is c.args.classes.items c.in_ok-with_built_ins.field-0 c.in_ok-roster.roster.classes
    c.in_ok-with_built_ins.ensures c.in_ok-roster.ensures.classes c.in_ok-roster.ensures.fault c.in_ok-above.ensures.fault
