use Rattle.std.proofs.Common.{◌≡◌, ◌&&◌, length, Bool, ℕ, ap, ap₂, sym, ◌∙◌, arith}
use Rattle.std.specs.Option.{is_some}
use Rattle.std.specs.List.{list_any, range_with_len}
use Rattle.class_world.specs.Types.{is_class_below}
use Rattle.class_world.specs.Resolve.{declared_field}
use Rattle.class_world.specs.Hidden.{has_field_above}
use Rattle.class_world.proofs.HiddenFields.{any_below, none_more}
use Rattle.class_world.proofs.world.World.has_field_above.Goals as goal
use Rattle.class_world.proofs.world.World.has_field_above.Goals.{else-is_below-via-then-is_below+else-declares_field}
use Rattle.class_world.proofs.world.World.has_field_above.Goals.{else-is_below-via-else-is_below}

pub returns-then-declares_field : goal.returns-then-declares_field
unfolding has_field_above
returns-then-declares_field c =
    let classes = c.args.self.now.roster.classes in
    let p : ℕ → Bool = λ over. is_class_below classes c.args.interface over && is_some
    (declared_field classes over c.args.name.now c.args.desc.now) in
    sym (any_below p (length classes) c.loop-over.over (omega (arith, c.len-over-end.ensures, c.loop-over-test.true))
    (ap₂ (λ a b. a && b) (sym c.is_below.ensures ∙ c.if-is_below.true) (sym c.declares_field.ensures ∙ c.if-declares_field.true)))

pub loop-over-preserved : goal.loop-over-preserved
loop-over-preserved c =
    let classes = c.args.self.now.roster.classes in
    let p : ℕ → Bool = λ over. is_class_below classes c.args.interface over && is_some
    (declared_field classes over c.args.name.now c.args.desc.now) in
    none_more p c.loop-over.over c.loop-over.invariant (elim c.else-is_below.branch [
      | else-is_below-via-then-is_below+else-declares_field w ↦ ap₂ (λ a b. a && b) (sym c.is_below.ensures ∙ w.if-is_below.true)
          (sym w.declares_field.ensures ∙ w.if-declares_field.false)
      | else-is_below-via-else-is_below w ↦ ap
          (λ a. a && is_some (declared_field classes c.loop-over.over c.args.name.now c.args.desc.now))
          (sym c.is_below.ensures ∙ w.if-is_below.false)
    ])

pub returns : goal.returns
unfolding has_field_above
returns c =
    let classes = c.args.self.now.roster.classes in
    let p : ℕ → Bool = λ over. is_class_below classes c.args.interface over && is_some
    (declared_field classes over c.args.name.now c.args.desc.now) in
    let all : length classes ≡ c.loop-over.over = omega
    (arith, c.len-over-end.ensures, c.loop-over-test.false, c.loop-over.auto.over-end) in
    sym (ap (λ n. list_any p (range_with_len 0 n)) all ∙ c.loop-over.invariant)
