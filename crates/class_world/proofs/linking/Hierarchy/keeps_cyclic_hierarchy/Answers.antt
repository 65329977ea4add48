use Rattle.std.proofs.Common.{ap, sym, ◌∙◌, Some}
use Rattle.class_world.specs.declared.fault.LinkFault.TheVariants.{CyclicHierarchy}
use Rattle.class_world.proofs.RulesAt.{cyclic_at, says_yes, says_no}
use Rattle.class_world.proofs.linking.Hierarchy.keeps_cyclic_hierarchy.Goals as goal

pub returns-then-is_above : goal.returns-then-is_above
returns-then-is_above c =
    let e = cyclic_at c.args.self.now.roster.now.classes c.args.class c.at-view.result.now c.view.inside.name.now c.requires
    c.at-view.ensures (ap (λ x. x.name) c.view.view_is) in
    says_yes _ _ _ e (sym c.is_above.ensures ∙ c.if-is_above.true) ∙ ap (λ x. Some (CyclicHierarchy x)) (sym c.in_ok-from_slice.ensures)

pub returns : goal.returns
returns c =
    let e = cyclic_at c.args.self.now.roster.now.classes c.args.class c.at-view.result.now c.view.inside.name.now c.requires
    c.at-view.ensures (ap (λ x. x.name) c.view.view_is) in
    says_no _ _ _ e (sym c.is_above.ensures ∙ c.if-is_above.false)
