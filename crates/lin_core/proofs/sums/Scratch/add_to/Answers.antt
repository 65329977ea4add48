use Rattle.std.proofs.Common.{refl, sym, ap, arith, ◌≡◌, ◌+◌, ◌-◌, ◌+ℤ◌, ◌∙◌, FitsSigned, to_z-of_z, rules}
use Rattle.std.specs.Int.{w128}
use Rattle.std.specs.Vec.{with_item}
use Rattle.lin_core.specs.declared.sums.Scratch.TheInside.{Inside}
use Rattle.lin_core.specs.Sums.{Sum, coefficient_in}
use Rattle.lin_core.proofs.Cells.{written_counts, written_sum, sized}
use Rattle.lin_core.proofs.sums.Scratch.add_to.Goals as goal

pub invariant_of-self : goal.invariant_of-self
invariant_of-self c =
    let count = sized c.self.inside c.args.self.now c.self.view_is in
    let before : FitsSigned w128 c.coefficient-before.result = search rules in
    let after : FitsSigned w128 c.added-after.result = search rules in
    let read = c.coefficient-before.ensures ∙ ap (λ (s : Sum). coefficient_in s c.args.variable) (sym c.self.view_is) in
    let one = simp to_z-of_z at c.count_of.ensures in
    let other = simp to_z-of_z at c.count_of-2.ensures in
    let cell = simp to_z-of_z at c.new.ensures in
    written_counts c.self.inside c.args.variable _ c.coefficient-before.result c.added-after.result c.new.result c.self.invariant
    (omega arith) read (cc) cell _ refl refl refl

pub returns : goal.returns
returns c =
    let before : FitsSigned w128 c.coefficient-before.result = search rules in
    let after : FitsSigned w128 c.added-after.result = search rules in
    let cell = simp to_z-of_z at c.new.ensures in
    let sum = simp to_z-of_z at c.added-after.ensures in
    let e : c.added-after.result ≡ coefficient_in c.args.self.now c.args.variable +ℤ c.args.amount.now = cc in
    let is : Inside = record {
      cells = with_item c.self.inside.cells c.args.variable c.new.result;
      round = c.self.inside.round;
      nonzero = c.self.inside.nonzero + c.count_of.result - c.count_of-2.result;
      constant = c.self.inside.constant;
    } in
    rw (← e) (written_sum c.self.inside c.args.self.now c.args.variable c.added-after.result c.new.result is c.self.view_is refl
    cell refl refl)
