use Rattle.std.proofs.Common.{List, ℕ, map, sym, subst}
use Rattle.jterm.specs.inner.GenerateSaid.{HasAccepted}
use Rattle.jterm.proofs.GenerateSaying.{has_accepted}
use Rattle.jterm.proofs.generate.is_certified.Goals as goal

pub is_accepted-requires-clause-has : goal.is_accepted-requires-clause-has
is_accepted-requires-clause-has c =
    let files = map (λ file. file.items) c.args.files.now in
    subst (λ (out : List ℕ). HasAccepted out files) (sym c.as_slice.ensures)
    (has_accepted files c.args.answer.now c.requires.proves c.if-answer-eq0.true)
