use Rattle.std.proofs.Common.{◌++◌, Some, ap, ◌∙◌}
use Rattle.std.proofs.lemmas.Bool.Decides.{Decides-eqb}
use Rattle.std.proofs.lemmas.Slice.Eq.{slice_eq-Decides, strip_prefix_is}
use Rattle.class_calls.proofs.describe.methods.has_whole_name.Goals as goal

pub returns-in-Some : goal.returns-in-Some
returns-in-Some c = λ h.
    strip_prefix_is Decides-eqb c.args.word.now c.args.method.now.name.now (Some c.in-Some.rest) c.in-Some.ensures.cases
    ∙ ap (λ xs. c.args.method.now.name.now ++ xs) ((slice_eq-Decides Decides-eqb _ _ _ c.eq.ensures).0 h)
