use Rattle.class_world.proofs.Indexes.{field_found, field_past, field_within}
use Rattle.class_world.proofs.world.World.declared_field.Goals as goal

pub returns-in-Some-clause-place : goal.returns-in-Some-clause-place
returns-in-Some-clause-place c = field_found c.args.self.now.roster.classes c.args.self.now.index.fields c.args.class
    c.in-Some.names.now c.args.name.now c.args.desc.now _ c.args.self.now.indexed.fields c.in-Some.ensures.0 c.in-Some.ensures.1
    c.find.ensures

pub returns-in-Some-clause-within : goal.returns-in-Some-clause-within
returns-in-Some-clause-within c = field_within c.args.self.now.roster.classes c.args.class c.args.name.now c.args.desc.now _
    c.args.self.now.few (field_found c.args.self.now.roster.classes c.args.self.now.index.fields c.args.class c.in-Some.names.now
    c.args.name.now c.args.desc.now _ c.args.self.now.indexed.fields c.in-Some.ensures.0 c.in-Some.ensures.1 c.find.ensures)

pub returns-in-None-clause-place : goal.returns-in-None-clause-place
returns-in-None-clause-place c = field_past c.args.self.now.roster.classes c.args.self.now.index.fields c.args.class c.args.name.now
    c.args.desc.now c.args.self.now.indexed.fields c.in-None.ensures
