use Rattle.std.proofs.Common.{subst, ℕ, ◌+◌, sym, ◌∙◌, arith, ◌≡◌}
use Rattle.std.proofs.lemmas.Bool.{false≢true}
use Rattle.jvm_values.specs.declared.types.Ty.{Ty}
use Rattle.jvm_values.proofs.Joining.{IsLeastBelow, none_looked_at, taken, left_out, least_of_all}
use Rattle.jvm_values.proofs.joins.least_class.Goals as goal
use Rattle.jvm_values.proofs.joins.least_class.Goals.{then-is_erased_above+then-sub, else-is_erased_above}
use Rattle.jvm_values.proofs.joins.least_class.Goals.{else-is_erased_above-via-then-is_erased_above+else-sub}
use Rattle.jvm_values.proofs.joins.least_class.Goals.{else-is_erased_above-via-else-is_erased_above}

pub loop-class-init : goal.loop-class-init
loop-class-init g c = none_looked_at _ _ _ _ _ (g.met.T.Types.laws c.args.types.now) c.args.a c.args.b c.requires.left c.requires.right

pub loop-class-preserved : goal.loop-class-preserved
loop-class-preserved g c =
    let law = g.met.T.Types.laws c.args.types.now in
    let below = λ (x : Ty). IsLeastBelow (g.T.Types.sub c.args.types.now) (g.T.Types.erase c.args.types.now) c.args.a c.args.b
    (c.loop-class.class + 1) x in
    elim c.if-is_erased_above.branch [
      | then-is_erased_above+then-sub w ↦
          subst below (sym w.least-is)
          (taken _ _ _ _ _ law c.args.a c.args.b c.loop-class.class c.loop-class.least c.loop-class.invariant
          (c.is_erased_above.ensures.0 w.if-is_erased_above.true) (sym w.sub.ensures ∙ w.if-sub.true))
      | else-is_erased_above w ↦ elim w.else-is_erased_above.branch [
        | else-is_erased_above-via-then-is_erased_above+else-sub u ↦
            subst below (sym w.least-is)
            (left_out _ _ _ _ _ law c.args.a c.args.b c.loop-class.class c.loop-class.least c.loop-class.invariant
            (λ above s. false≢true (sym u.if-sub.false ∙ u.sub.ensures ∙ s)))
        | else-is_erased_above-via-else-is_erased_above u ↦
            subst below (sym w.least-is)
            (left_out _ _ _ _ _ law c.args.a c.args.b c.loop-class.class c.loop-class.least c.loop-class.invariant
            (λ above s. false≢true (sym u.if-is_erased_above.false ∙ c.is_erased_above.ensures.1 above)))
      ]
    ]

pub returns : goal.returns
returns g c =
    let law = g.met.T.Types.laws c.args.types.now in
    let all : c.loop-class.class ≡ g.T.Types.classes c.args.types.now = omega (arith, c.classes-class-end.ensures) in
    least_of_all _ _ _ _ _ law c.args.a c.args.b c.loop-class.least c.requires.class c.requires.left
    (subst (λ (n : ℕ). IsLeastBelow (g.T.Types.sub c.args.types.now) (g.T.Types.erase c.args.types.now) c.args.a c.args.b n
    c.loop-class.least) all c.loop-class.invariant)
