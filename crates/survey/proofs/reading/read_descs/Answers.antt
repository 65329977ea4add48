use Rattle.std.proofs.Common.{◌∙◌, refl, arith}
use Rattle.survey.proofs.Kept.{some_grown}
use Rattle.survey.proofs.reading.read_descs.Goals as goal

pub loop-place-preserved : goal.loop-place-preserved
loop-place-preserved g c = record {
  some = some_grown (λ name. name.now) (g.F.Files.held c.args.files.now) (g.F.Files.held c.loop-place.files) c.args.words.now
      c.loop-place.place c.word_at.result c.word_at.result.now c.loop-place.descs.items c.read_desc.new.descs.items (omega arith)
      c.word_at.ensures refl c.loop-place.invariant.held c.in-Ok.ensures.grows c.loop-place.invariant.some;
  held = c.in-Ok.ensures.held ∙ c.loop-place.invariant.held;
}
