use Rattle.std.proofs.Common.{ap, sym, ◌∙◌, subst}
use Rattle.std.specs.Prelude.{map, Option}
use Rattle.class_world.specs.declared.fault.LinkFault.{LinkFault}
use Rattle.class_world.specs.Linking.{Refuses, first_missing}
use Rattle.class_world.proofs.Rules.{passed_on}
use Rattle.class_world.proofs.RulesAt.{missing_at, missing_first, missing_rest, missing_root}
use Rattle.class_world.proofs.linking.Hierarchy.keeps_missing_super.Goals as goal
use Rattle.class_world.proofs.linking.Hierarchy.keeps_missing_super.Goals.{then-class-ne0+in_ok-present, else-class-ne0}

pub returns-in_err-present : goal.returns-in_err-present
returns-in_err-present c =
    let e = missing_at c.args.self.now.roster.now.classes c.args.class c.at-view.result.now c.view.inside.super_name.now
    (map (λ r. r.now) c.view.inside.interfaces) c.requires c.at-view.ensures (ap (λ x. x.super_name) c.view.view_is)
    (ap (λ x. x.interfaces) c.view.view_is) in
    passed_on _ _ _ c.from_residual.ensures.1
    (missing_first c.args.self.now.roster.now.classes c.args.class _ _ _ _ e c.if-class-ne0.true c.in_err-present.ensures)

pub returns : goal.returns
returns c =
    let world = c.args.self.now.roster.now.classes in
    let e = missing_at world c.args.class c.at-view.result.now c.view.inside.super_name.now
    (map (λ r. r.now) c.view.inside.interfaces) c.requires c.at-view.ensures (ap (λ x. x.super_name) c.view.view_is)
    (ap (λ x. x.interfaces) c.view.view_is) in
    let same = ap (λ xs. first_missing world (map (λ r. r.now) xs)) c.as_slice.ensures in
    elim c.if-class-ne0.branch [
      | then-class-ne0+in_ok-present w ↦ subst (λ (o : Option LinkFault). Refuses c.all_present.result o)
          (same ∙ sym (missing_rest c.args.class _ _ _ e w.if-class-ne0.true w.in_ok-present.ensures)) c.all_present.ensures
      | else-class-ne0 w ↦ subst (λ (o : Option LinkFault). Refuses c.all_present.result o)
          (same ∙ sym (missing_root c.args.class _ _ _ e w.if-class-ne0.false)) c.all_present.ensures
    ]
