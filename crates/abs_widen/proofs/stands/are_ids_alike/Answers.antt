use Rattle.std.proofs.Common.{◌≡◌, ◌∙◌, true, refl, sym}
use Rattle.std.proofs.lemmas.Bool.{false≢true}
use Rattle.abs_widen.specs.Visits.{are_alike}
use Rattle.abs_widen.proofs.Standing.{all_gone, one_gone}
use Rattle.abs_widen.proofs.Zips.{all_at}
use Rattle.abs_widen.proofs.stands.are_ids_alike.Goals as goal

pub loop-n-preserved : goal.loop-n-preserved
loop-n-preserved g c = one_gone (λ x y. are_alike c.args.a.now c.args.b.now x y ≡ true) c.args.ids.now c.args.others.now
    c.loop-n.n 0 0 c.loop-n-test.true c.if-ids-others.false (sym c.are_alike.ensures ∙ c.if-not-are_alike.false) c.loop-n.invariant

pub returns-then-not-are_alike : goal.returns-then-not-are_alike
returns-then-not-are_alike g c = (
  λ t. absurd (false≢true t),
  λ h. absurd (false≢true (sym c.if-not-are_alike.true ∙ c.are_alike.ensures
      ∙ all_at (λ x y. are_alike c.args.a.now c.args.b.now x y ≡ true) c.args.ids.now c.args.others.now c.loop-n.n 0 0 h
      c.loop-n-test.true)),
)

pub returns : goal.returns
returns g c = (
  λ t. all_gone (λ x y. are_alike c.args.a.now c.args.b.now x y ≡ true) c.args.ids.now c.args.others.now c.loop-n.n
      c.if-ids-others.false c.loop-n-test.false c.loop-n.invariant,
  λ h. refl,
)
