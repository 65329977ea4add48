use Rattle.std.proofs.Common.{◌≡◌, List, ap, subst}
use Rattle.std.specs.Prelude.{IfOk}
use Rattle.class_world.specs.inner.Index.{Key}
use Rattle.class_world.proofs.Indexes.{methods_differ, methods_from}
use Rattle.class_world.proofs.roster.Roster.method_names_of.Goals as goal

pub method_names-requires : goal.method_names-requires
method_names-requires c = methods_differ c.args.self.now.classes c.args.class c.at-view.result.now c.view.inside.methods
    c.as_slice.result.now c.requires.differ c.requires.within c.at-view.ensures (ap (λ x. x.methods) c.view.view_is) c.as_slice.ensures

pub returns : goal.returns
returns c =
    subst (λ (want : List Key). IfOk c.method_names.result (λ names. names ≡ want))
    (methods_from c.args.self.now.classes c.args.class c.at-view.result.now c.view.inside.methods c.as_slice.result.now
    c.requires.within c.at-view.ensures (ap (λ x. x.methods) c.view.view_is) c.as_slice.ensures)
    c.method_names.ensures
