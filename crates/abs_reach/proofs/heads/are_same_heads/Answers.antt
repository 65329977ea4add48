use Rattle.std.proofs.Common.{◌≡◌, ◌∙◌, refl, sym, ap, arith}
use Rattle.std.proofs.lemmas.Bool.{false≢true}
use Rattle.abs_reach.specs.Instances.{head_of}
use Rattle.abs_reach.proofs.HeadLists.{next_value, all_values, value_differs}
use Rattle.abs_reach.proofs.heads.are_same_heads.Goals as goal

pub returns-then-not-is_same_head : goal.returns-then-not-is_same_head
returns-then-not-is_same_head c = (
  λ t. absurd (false≢true t),
  λ e. absurd (value_differs head_of c.args.a.now c.args.b.now c.loop-place.place c.index-a-place.result c.index-b-place.result
      c.loop-place-test.true (omega (arith, c.loop-place-test.true, c.if-a-b.false))
      (λ s. false≢true (sym c.if-not-is_same_head.true
      ∙ c.is_same_head.ensures.1 (ap head_of c.index-a-place.is ∙ s ∙ ap head_of (sym c.index-b-place.is)))) e),
)

pub loop-place-preserved : goal.loop-place-preserved
loop-place-preserved c = next_value head_of c.args.a.now c.args.b.now c.loop-place.place c.index-a-place.result
    c.index-b-place.result c.loop-place-test.true (omega (arith, c.loop-place-test.true, c.if-a-b.false))
    (ap head_of (sym c.index-a-place.is) ∙ c.is_same_head.ensures.0 c.if-not-is_same_head.false ∙ ap head_of c.index-b-place.is)
    c.loop-place.invariant

pub returns : goal.returns
returns c = (
  λ t. all_values head_of c.args.a.now c.args.b.now c.loop-place.place c.if-a-b.false c.loop-place-test.false
      c.loop-place.invariant,
  λ e. refl,
)
