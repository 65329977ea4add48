use Rattle.std.proofs.Common.{◌∙◌, sym}
use Rattle.class_base.specs.Members.{same_key}
use Rattle.class_base.proofs.Maps.{position-map}
use Rattle.class_base.proofs.key_set.KeySet.find.Goals as goal

pub returns : goal.returns
returns c = rw (← c.self.view_is)
    (c.get_index_of.ensures.index
    ∙ sym (position-map (same_key (c.args.name.now, c.args.desc.now)) (λ k. (k.0.now, k.1.now)) c.self.inside.keys.keys))
