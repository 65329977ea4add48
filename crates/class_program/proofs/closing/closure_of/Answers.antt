use Rattle.std.proofs.Common.{◌≡◌, Ok, sym, ◌∙◌, ap}
use Rattle.std.specs.Prelude.{map}
use Rattle.class_world.specs.Worlds.{classes_of}
use Rattle.class_program.specs.Programs.{refs_of}
use Rattle.class_program.proofs.Closed.{closed_from}
use Rattle.class_program.proofs.Made.{numbered_refs}
use Rattle.class_program.proofs.StaticLists.{statics_found, statics_few}
use Rattle.class_program.proofs.closing.closure_of.Goals as goal

pub returns-in-Ok-placed-clause-statics : goal.returns-in-Ok-placed-clause-statics
returns-in-Ok-placed-clause-statics c =
    statics_found (classes_of c.args.world.now) c.in-Ok.found.refs c.in-Ok-placed.statics c.in-Ok.found.methods
    c.in-Ok-placed.methods c.in-Ok-placed.ensures.statics c.in-Ok-placed.ensures.methods

pub returns-in-Ok-placed-clause-few : goal.returns-in-Ok-placed-clause-few
returns-in-Ok-placed-clause-few c = statics_few (classes_of c.args.world.now) c.in-Ok.found.methods c.in-Ok-placed.statics
    c.in-Ok-placed.ensures.statics

pub returns-in-Ok-placed-clause-numbers : goal.returns-in-Ok-placed-clause-numbers
returns-in-Ok-placed-clause-numbers c =
    sym (ap refs_of c.in-Ok-placed.ensures.methods ∙ numbered_refs c.in-Ok.found.refs c.in-Ok-placed.statics c.in-Ok.found.methods
    ∙ c.in-Ok.ensures.numbers)

pub returns-in-Ok-placed-clause-whole : goal.returns-in-Ok-placed-clause-whole
returns-in-Ok-placed-clause-whole c =
    closed_from (classes_of c.args.world.now) c.in-Ok.found.refs c.in-Ok-placed.statics c.in-Ok.found.methods c.in-Ok-placed.methods
    c.in-Ok-placed.ensures.methods c.in-Ok.ensures.closed
