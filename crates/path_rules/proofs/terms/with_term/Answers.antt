use Rattle.std.proofs.Common.{◌≡◌, ◌∙◌, FitsSigned, to_z, of_z, to_z-of_z, pos, rules, sym}
use Rattle.std.specs.Int.{w64}
use Rattle.path_rules.proofs.Collecting.{same_ok, new_ok}
use Rattle.path_rules.proofs.terms.with_term.Goals as goal

pub returns-then-is_at : goal.returns-then-is_at
returns-then-is_at c =
    let fits : FitsSigned w64 c.sum_of-sum.result = search rules in
    let narrow : to_z w64 (of_z w64 c.sum_of-sum.result) ≡ c.sum_of-sum.result = to_z-of_z fits in
    same_ok c.args.term.now c.args.terms.now (to_z w64 (of_z w64 c.sum_of-sum.result)) c.place_among-place.result (0, pos 0)
    c.between.result (sym c.is_at.ensures ∙ c.if-is_at.true) c.place_among-place.ensures.split (narrow ∙ c.sum_of-sum.ensures)
    c.between.ensures

pub returns : goal.returns
returns c = new_ok c.args.term.now c.args.terms.now c.place_among-place.result c.between-2.result c.place_among-place.ensures.next
    (sym c.is_at.ensures ∙ c.if-is_at.false) c.place_among-place.ensures.split c.between-2.ensures
