use Rattle.std.proofs.Common.{◌∙◌, sym}
use Rattle.std.specs.Str.{bytes_eq}
use Rattle.class_base.proofs.Maps.{position-map}
use Rattle.class_base.proofs.name_set.NameSet.find.Goals as goal

pub returns : goal.returns
returns c = rw (← c.self.view_is)
    (c.get_index_of.ensures.index ∙ sym (position-map (bytes_eq c.args.name.now) (λ k. k.now) c.self.inside.names.keys))
