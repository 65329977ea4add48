use Rattle.std.proofs.Common.{◌≡◌, ◌&&◌, ℕ, Bool, length, ap, ap₂, sym, ◌∙◌, arith}
use Rattle.std.specs.List.{list_any, range_with_len}
use Rattle.class_world.specs.Worlds.{classes_of}
use Rattle.class_world.specs.Select.{is_receiver, receivers}
use Rattle.class_world.proofs.HiddenFields.{any_below, none_more}
use Rattle.class_program.specs.JvmDiffers.{loses}
use Rattle.class_program.proofs.Differing.{any_filtered}
use Rattle.class_program.proofs.jvm_differs.some_loses.Goals as goal
use Rattle.class_program.proofs.jvm_differs.some_loses.Goals.{else-is_receiver-via-then-is_receiver+else-loses}
use Rattle.class_program.proofs.jvm_differs.some_loses.Goals.{else-is_receiver-via-else-is_receiver}

pub returns-then-loses : goal.returns-then-loses
unfolding receivers
returns-then-loses c =
    let world = classes_of c.args.world.now in
    let q : ℕ → Bool = is_receiver world c.args.class in
    let p : ℕ → Bool = loses world c.args.named.now.name.now c.args.named.now.desc.now in
    sym (any_below (λ x. q x && p x) (length world) c.loop-receiver.receiver
    (omega (arith, c.len-receiver-end.ensures, c.loop-receiver-test.true))
    (ap₂ (λ a b. a && b) (sym c.is_receiver.ensures ∙ c.if-is_receiver.true) (sym c.loses.ensures ∙ c.if-loses.true)))
    ∙ any_filtered q p (range_with_len 0 (length world))

pub loop-receiver-preserved : goal.loop-receiver-preserved
loop-receiver-preserved c =
    let world = classes_of c.args.world.now in
    let q : ℕ → Bool = is_receiver world c.args.class in
    let p : ℕ → Bool = loses world c.args.named.now.name.now c.args.named.now.desc.now in
    none_more (λ x. q x && p x) c.loop-receiver.receiver c.loop-receiver.invariant (elim c.else-is_receiver.branch [
      | else-is_receiver-via-then-is_receiver+else-loses w ↦ ap₂ (λ a b. a && b) (sym c.is_receiver.ensures ∙ w.if-is_receiver.true)
          (sym w.loses.ensures ∙ w.if-loses.false)
      | else-is_receiver-via-else-is_receiver w ↦ ap (λ a. a && p c.loop-receiver.receiver)
          (sym c.is_receiver.ensures ∙ w.if-is_receiver.false)
    ])

pub returns : goal.returns
unfolding receivers
returns c =
    let world = classes_of c.args.world.now in
    let q : ℕ → Bool = is_receiver world c.args.class in
    let p : ℕ → Bool = loses world c.args.named.now.name.now c.args.named.now.desc.now in
    let all : length world ≡ c.loop-receiver.receiver = omega
    (arith, c.len-receiver-end.ensures, c.loop-receiver-test.false, c.loop-receiver.auto.receiver-end) in
    sym (ap (λ n. list_any (λ x. q x && p x) (range_with_len 0 n)) all ∙ c.loop-receiver.invariant)
    ∙ any_filtered q p (range_with_len 0 (length world))
