use Rattle.std.proofs.Common.{◌∙◌}
use Rattle.class_base.specs.Members.{same_key}
use Rattle.class_base.proofs.Maps.{any-map, was_there}
use Rattle.class_base.proofs.key_set.KeySet.add.Goals as goal

pub returns-clause-was_there : goal.returns-clause-was_there
returns-clause-was_there c = rw (← c.self.view_is) (any-map (same_key (c.args.name.now, c.args.desc.now)) (λ k. (k.0.now, k.1.now))
    c.self.inside.keys.keys ∙ was_there _ _ c.in_ok-added.ensures.added)
