use Rattle.std.proofs.Common.{◌≡◌, List, ap, subst}
use Rattle.std.specs.Prelude.{IfOk}
use Rattle.class_world.specs.inner.Index.{Key}
use Rattle.class_world.proofs.Indexes.{fields_differ, fields_from}
use Rattle.class_world.proofs.roster.Roster.field_names_of.Goals as goal

pub field_names-requires : goal.field_names-requires
field_names-requires c = fields_differ c.args.self.now.classes c.args.class c.at-view.result.now c.view.inside.fields
    c.as_slice.result.now c.requires.differ c.requires.within c.at-view.ensures (ap (λ x. x.fields) c.view.view_is) c.as_slice.ensures

pub returns : goal.returns
returns c =
    subst (λ (want : List Key). IfOk c.field_names.result (λ names. names ≡ want))
    (fields_from c.args.self.now.classes c.args.class c.at-view.result.now c.view.inside.fields c.as_slice.result.now
    c.requires.within c.at-view.ensures (ap (λ x. x.fields) c.view.view_is) c.as_slice.ensures)
    c.field_names.ensures
