use Rattle.std.proofs.Common.{◌≡◌, ◌∙◌, ◌^◌, FitsSigned, to_z, of_z, to_z-of_z, rules}
use Rattle.std.specs.Int.{w64, w128}
use Rattle.descent.specs.Rankings.{base_of, form_at}
use Rattle.descent.proofs.Adding.{slots_wider, start_left}
use Rattle.descent.proofs.needs.Ranks.leaves_start.Goals as goal

pub add_line-requires-clause-slots : goal.add_line-requires-clause-slots
add_line-requires-clause-slots c = rw c.as_slice.ensures (slots_wider _ _ c.args.rule.now.first c.requires.vars c.requires.rule.first)

pub returns-clause-shown : goal.returns-clause-shown
returns-clause-shown c =
    let fits : FitsSigned w64 c.base.result = search rules in
    let wide : FitsSigned w128 c.from.result = search rules in
    let narrow : to_z w64 (of_z w64 c.base.result) ≡ c.base.result = to_z-of_z fits in
    let back : to_z w128 (of_z w128 c.from.result) ≡ c.from.result = to_z-of_z wide in
    let most : to_z w128 (of_z w128 c.from.result) ≡ base_of (form_at c.args.self.now.forms c.args.rule.now.from) = back
    ∙ c.from.ensures ∙ narrow ∙ c.base.ensures in
    let start = rw c.as_slice.ensures at c.add_line.ensures in
    let told = start_left (2 ^ 111) _ _ (base_of (form_at c.args.self.now.forms c.args.rule.now.from)) c.args.scratch.now
    c.add_line.new.scratch start in
    let leaves = rw most at c.leaves.ensures in
    (λ h. told.0 (leaves.0 h), λ h. leaves.1 (told.1 h))
