use Rattle.std.proofs.Common.{ap, ◌∙◌}
use Rattle.class_world.proofs.Indexes.{initialised_from}
use Rattle.class_world.proofs.roster.Roster.is_initialised.Goals as goal

pub returns : goal.returns
returns c = c.has_initialiser.ensures ∙ initialised_from c.args.self.now.classes c.args.class c.at-view.result.now
    c.view.inside.methods c.as_slice.result.now c.requires c.at-view.ensures (ap (λ x. x.methods) c.view.view_is) c.as_slice.ensures
