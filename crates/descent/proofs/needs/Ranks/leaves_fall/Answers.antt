use Rattle.std.proofs.Common.{◌≡◌, ◌^◌, ◌-ℤ◌, FitsSigned, to_z, of_z, to_z-of_z, rules}
use Rattle.std.specs.Int.{w64, w128}
use Rattle.descent.specs.Rankings.{base_of, form_at}
use Rattle.descent.proofs.Adding.{slots_wider, fall_left}
use Rattle.descent.proofs.needs.Ranks.leaves_fall.Goals as goal

pub add_line-requires-clause-slots : goal.add_line-requires-clause-slots
add_line-requires-clause-slots c = rw c.as_slice.ensures (slots_wider _ _ c.args.rule.now.first c.requires.vars c.requires.rule.first)

pub add_line-requires-2-clause-slots : goal.add_line-requires-2-clause-slots
add_line-requires-2-clause-slots c = rw (c.as_slice-2.ensures, c.add_line.ensures.count)
    (slots_wider _ _ c.args.rule.now.last c.requires.vars c.requires.rule.last)

pub returns-clause-shown : goal.returns-clause-shown
returns-clause-shown c =
    let start = rw c.as_slice.ensures at c.add_line.ensures in
    let end = rw c.as_slice-2.ensures at c.add_line-2.ensures in
    let told = fall_left (2 ^ 111) (2 ^ 111) _ _ _ _ (base_of (form_at c.args.self.now.forms c.args.rule.now.from))
    (base_of (form_at c.args.self.now.forms c.args.rule.now.to)) c.args.fall.now c.args.scratch.now c.add_line.new.scratch
    c.add_line-2.new.scratch start end in
    let one : FitsSigned w64 c.base.result = search rules in
    let other : FitsSigned w64 c.base-2.result = search rules in
    let both : FitsSigned w128 c.difference-most.result = search rules in
    let all : FitsSigned w128 c.fallen.result = search rules in
    let a : to_z w64 (of_z w64 c.base.result) ≡ c.base.result = to_z-of_z one in
    let b : to_z w64 (of_z w64 c.base-2.result) ≡ c.base-2.result = to_z-of_z other in
    let d : to_z w128 (of_z w128 c.difference-most.result) ≡ c.difference-most.result = to_z-of_z both in
    let e : to_z w128 (of_z w128 c.fallen.result) ≡ c.fallen.result = to_z-of_z all in
    let most : to_z w128 (of_z w128 c.fallen.result)
    ≡ (base_of (form_at c.args.self.now.forms c.args.rule.now.from) -ℤ base_of
    (form_at c.args.self.now.forms c.args.rule.now.to)) -ℤ c.args.fall.now = cc
    (c.difference-most.ensures.value, c.fallen.ensures, c.base.ensures, c.base-2.ensures) in
    let leaves = rw most at c.leaves.ensures in
    (λ h. told.0 (leaves.0 h), λ h. leaves.1 (told.1 h))
