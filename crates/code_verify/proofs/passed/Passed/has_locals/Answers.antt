use Rattle.std.proofs.Common.{sym, ◌∙◌}
use Rattle.code_verify.proofs.PlaceLists.{places_same}
use Rattle.code_verify.proofs.passed.Passed.has_locals.Goals as goal

pub returns : goal.returns
returns c = λ same. sym c.as_slice.ensures ∙ places_same c.as_slice.result.now c.as_slice-2.result.now (sym c.eq.ensures ∙ same)
    ∙ c.as_slice-2.ensures
