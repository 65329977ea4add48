use Rattle.std.proofs.Common.{ap, sym, ◌∙◌, Some, ◌≡◌, ◌||◌, true, false}
use Rattle.std.specs.Option.{option_map_or}
use Rattle.std.proofs.lemmas.Bool.{or_left, or_right, or_from}
use Rattle.class_world.specs.declared.fault.LinkFault.TheVariants.{BadSuper}
use Rattle.class_world.specs.Linking.{is_bad_superclass}
use Rattle.class_world.proofs.RulesAt.{bad_at, says_yes, says_no}
use Rattle.class_world.proofs.linking.Hierarchy.keeps_bad_super.Goals as goal
use Rattle.class_world.proofs.linking.Hierarchy.keeps_bad_super.Goals.{then-bad_superclass-via-then-bad_superclass}
use Rattle.class_world.proofs.linking.Hierarchy.keeps_bad_super.Goals.{then-bad_superclass-via-else-bad_superclass+then-bad_interface}

pub returns-then-bad_superclass : goal.returns-then-bad_superclass
returns-then-bad_superclass c =
    let world = c.args.self.now.roster.now.classes in
    let a = c.is_bad_superclass-bad_superclass.result in
    let b = c.has_bad_interface-bad_interface.result in
    let e = bad_at world c.args.class c.at-view.result.now c.view.inside.flags c.view.inside.name.now a b c.requires
    c.at-view.ensures (ap (λ x. x.flags) c.view.view_is) (ap (λ x. x.name) c.view.view_is)
    (c.is_bad_superclass-bad_superclass.ensures ∙ ap (λ o. option_map_or (is_bad_superclass world c.view.inside.flags) o false)
    c.super_of.ensures)
    c.has_bad_interface-bad_interface.ensures in
    let both : (a || b) ≡ true = elim c.then-bad_superclass.branch [
      | then-bad_superclass-via-then-bad_superclass w ↦ or_left a b w.if-bad_superclass.true
      | then-bad_superclass-via-else-bad_superclass+then-bad_interface w ↦ or_right a b w.if-bad_interface.true
    ] in
    says_yes _ _ _ e both ∙ ap (λ x. Some (BadSuper x)) (sym c.in_ok-from_slice.ensures)

pub returns : goal.returns
returns c =
    let world = c.args.self.now.roster.now.classes in
    let a = c.is_bad_superclass-bad_superclass.result in
    let b = c.has_bad_interface-bad_interface.result in
    let e = bad_at world c.args.class c.at-view.result.now c.view.inside.flags c.view.inside.name.now a b c.requires
    c.at-view.ensures (ap (λ x. x.flags) c.view.view_is) (ap (λ x. x.name) c.view.view_is)
    (c.is_bad_superclass-bad_superclass.ensures ∙ ap (λ o. option_map_or (is_bad_superclass world c.view.inside.flags) o false)
    c.super_of.ensures)
    c.has_bad_interface-bad_interface.ensures in
    says_no _ _ _ e (or_from a b c.if-bad_superclass.false c.if-bad_interface.false)
