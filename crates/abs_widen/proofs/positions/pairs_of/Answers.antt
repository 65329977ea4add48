use Rattle.std.proofs.Common.{◌∙◌, ℕ, Option, ap}
use Rattle.abs_widen.specs.Visits.{thrown_pair}
use Rattle.abs_widen.specs.inner.Visiting.{AreAsLong}
use Rattle.abs_widen.proofs.Zips.{all_reversed_as}
use Rattle.abs_widen.proofs.Visiting.{frames_paired, thrown_paired, pairs_are}
use Rattle.abs_widen.proofs.positions.pairs_of.Goals as goal

pub visit_frames-requires-clause-paired : goal.visit_frames-requires-clause-paired
visit_frames-requires-clause-paired g c = frames_paired c.args.a.now c.args.b.now c.frames.result.now c.frames-2.result.now
    c.frames.ensures c.frames-2.ensures

pub visit_frames-requires-clause-long : goal.visit_frames-requires-clause-long
visit_frames-requires-clause-long g c = all_reversed_as AreAsLong c.args.a.now.frames c.args.b.now.frames c.frames.result.now
    c.frames-2.result.now c.frames.ensures c.frames-2.ensures c.requires.long

pub visit_some-requires-clause-paired : goal.visit_some-requires-clause-paired
visit_some-requires-clause-paired g c = thrown_paired c.args.a.now c.args.b.now c.thrown_pair.result
    (c.thrown_pair.ensures ∙ ap (λ (x : Option ℕ). thrown_pair x c.throwing-2.result) c.throwing.ensures
    ∙ ap (λ (y : Option ℕ). thrown_pair c.args.a.now.throwing y) c.throwing-2.ensures)

pub returns-clause-ok : goal.returns-clause-ok
returns-clause-ok g c = (
  c.in_ok-visit_some.ensures.ok.0,
  pairs_are c.args.a.now c.args.b.now c.new-met.result.items c.visit_frames.new.met.items c.visit_some.new.met.items
      c.frames.result.now c.frames-2.result.now c.thrown_pair.result c.new-met.ensures.items c.frames.ensures c.frames-2.ensures
      (c.thrown_pair.ensures ∙ ap (λ (x : Option ℕ). thrown_pair x c.throwing-2.result) c.throwing.ensures
      ∙ ap (λ (y : Option ℕ). thrown_pair c.args.a.now.throwing y) c.throwing-2.ensures)
      c.in_ok-visit_frames.ensures.ok.1 c.in_ok-visit_some.ensures.ok.1,
)
