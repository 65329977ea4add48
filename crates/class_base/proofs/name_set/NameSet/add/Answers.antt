use Rattle.std.proofs.Common.{◌∙◌}
use Rattle.std.specs.Str.{bytes_eq}
use Rattle.class_base.proofs.Maps.{any-map, was_there}
use Rattle.class_base.proofs.name_set.NameSet.add.Goals as goal

pub returns-clause-was_there : goal.returns-clause-was_there
returns-clause-was_there c = rw (← c.self.view_is) (any-map (bytes_eq c.args.name.now) (λ k. k.now) c.self.inside.names.keys
    ∙ was_there _ _ c.in_ok-added.ensures.added)
