use Rattle.std.proofs.Common.{◌∙◌, string_bytes, arith}
use Rattle.survey.proofs.Kept.{some_grown, grown_few}
use Rattle.survey.proofs.Telling.{told_all, begun_all}
use Rattle.survey.proofs.reading.read_files.Goals as goal

pub returns-in-Err-clause-begun : goal.returns-in-Err-clause-begun
returns-in-Err-clause-begun g c = begun_all g.O.Sink.taken c.args.out.now c.loop-place.out c.read_file.new.out
    c.loop-place.invariant.told c.in-Err.ensures.begun

pub loop-place-preserved : goal.loop-place-preserved
loop-place-preserved g c = record {
  told = told_all g.O.Sink.taken c.args.out.now c.loop-place.out c.read_file.new.out c.loop-place.invariant.told c.in-Ok.ensures.told;
  some = some_grown string_bytes (g.F.Files.held c.args.files.now) (g.F.Files.held c.loop-place.files) c.args.words.now
      c.loop-place.place c.index-words-place.result c.as_str.result.now c.loop-place.kept.files.items
      c.read_file.new.kept.files.items (omega arith) c.index-words-place.is c.as_str.ensures.value c.loop-place.invariant.held
      c.in-Ok.ensures.grows c.loop-place.invariant.some;
  held = c.in-Ok.ensures.held ∙ c.loop-place.invariant.held;
  few = grown_few _ _ _ c.loop-place.place c.in-Ok.ensures.grows c.loop-place.invariant.few;
}
