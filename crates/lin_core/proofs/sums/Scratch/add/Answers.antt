use Rattle.std.proofs.Common.{ap, arith, ◌≡◌, ◌∙◌, FitsSigned, to_z-of_z, rules, ℤ, ◌+ℤ◌, to_z, of_z}
use Rattle.std.specs.Int.{w128}
use Rattle.lin_core.specs.Sums.{Sum}
use Rattle.lin_core.proofs.Midway.{midway_more, midway_last}
use Rattle.lin_core.proofs.sums.Scratch.add.Goals as goal

pub loop-variable-preserved : goal.loop-variable-preserved
loop-variable-preserved c =
    let fits : FitsSigned w128 c.product.result = search rules in
    midway_more c.args.terms.now c.args.terms.now c.loop-variable.variable-index c.args.by.now c.product.result c.args.self.now
    c.loop-variable.self c.add_to.new.self c.loop-variable-test.true c.loop-variable.invariant c.product.ensures.value
    (c.product.ensures.bound c.requires.size) (simp to_z-of_z at c.add_to.ensures)

pub returns : goal.returns
returns c =
    let fits : FitsSigned w128 c.product-2.result = search rules in
    let fits2 : FitsSigned w128 c.added-self-inside.result = search rules in
    let e = simp to_z-of_z at c.added-self-inside.ensures in
    let same = ap (λ (s : Sum). s.coefficients) c.self.view_is in
    let last = ap (λ (s : Sum). s.constant) c.self.view_is in
    let back : to_z w128 (of_z w128 c.added-self-inside.result) ≡ c.added-self-inside.result = to_z-of_z fits2 in
    midway_last c.args.terms.now c.args.constant.now c.args.terms.now c.loop-variable.variable-index c.args.by.now
    c.product-2.result c.args.self.now c.loop-variable.self _ (omega arith) c.loop-variable.invariant same
    (back ∙ e ∙ ap (λ (z : ℤ). z +ℤ c.product-2.result) (last ∙ c.loop-variable.invariant.constant)) c.product-2.ensures.value
    (c.product-2.ensures.bound c.requires.size)
