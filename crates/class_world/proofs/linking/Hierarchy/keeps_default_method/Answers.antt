use Rattle.std.proofs.Common.{ap, sym, ◌∙◌, Some}
use Rattle.std.specs.Prelude.{map}
use Rattle.std.specs.List.{list_any}
use Rattle.std.proofs.lemmas.Bool.{and_from, and_left, and_right}
use Rattle.class_read.specs.View.{method_content}
use Rattle.class_world.specs.declared.fault.LinkFault.TheVariants.{DefaultMethod}
use Rattle.class_world.specs.World.{is_interface}
use Rattle.class_world.specs.Linking.{is_default}
use Rattle.class_world.proofs.RulesAt.{default_at, says_yes, says_no}
use Rattle.class_world.proofs.linking.Hierarchy.keeps_default_method.Goals as goal
use Rattle.class_world.proofs.linking.Hierarchy.keeps_default_method.Goals.{else-has_flag-via-then-has_flag+else-has_default}
use Rattle.class_world.proofs.linking.Hierarchy.keeps_default_method.Goals.{else-has_flag-via-else-has_flag}

pub returns-then-has_default : goal.returns-then-has_default
returns-then-has_default c =
    let e = default_at c.args.self.now.roster.now.classes c.args.class c.at-view.result.now c.view.inside.flags
    c.view.inside.name.now (map method_content c.view.inside.methods) c.requires c.at-view.ensures
    (ap (λ x. x.flags) c.view.view_is) (ap (λ x. x.name) c.view.view_is) (ap (λ x. x.methods) c.view.view_is) in
    let some = sym (c.has_default.ensures ∙ ap (λ ms. list_any is_default (map method_content ms)) c.as_slice.ensures)
    ∙ c.if-has_default.true in
    let both = and_from (is_interface c.view.inside.flags) _ (sym c.has_flag.ensures ∙ c.if-has_flag.true) some in
    says_yes _ _ _ e both ∙ ap (λ x. Some (DefaultMethod x)) (sym c.in_ok-from_slice.ensures)

pub returns : goal.returns
returns c =
    let e = default_at c.args.self.now.roster.now.classes c.args.class c.at-view.result.now c.view.inside.flags
    c.view.inside.name.now (map method_content c.view.inside.methods) c.requires c.at-view.ensures
    (ap (λ x. x.flags) c.view.view_is) (ap (λ x. x.name) c.view.view_is) (ap (λ x. x.methods) c.view.view_is) in
    elim c.else-has_flag.branch [
      | else-has_flag-via-then-has_flag+else-has_default w ↦
          let none = sym (w.has_default.ensures ∙ ap (λ ms. list_any is_default (map method_content ms)) w.as_slice.ensures)
          ∙ w.if-has_default.false in
          says_no _ _ _ e (and_right (is_interface c.view.inside.flags) _ none)
      | else-has_flag-via-else-has_flag w ↦ says_no _ _ _ e
          (and_left (is_interface c.view.inside.flags) (list_any is_default (map method_content c.view.inside.methods))
          (sym c.has_flag.ensures ∙ w.if-has_flag.false))
    ]
