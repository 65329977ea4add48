use Rattle.std.proofs.Common.{◌≡◌, ◌∙◌, ℕ, List, length, reverse, refl, sym, ap}
use Rattle.std.proofs.lemmas.Bool.{false≢true}
use Rattle.abs_cells.specs.AbstractStates.{AbstractFrame}
use Rattle.abs_reach.specs.Instances.{head_of, positions}
use Rattle.abs_match.proofs.Leasts.{lengths_agree}
use Rattle.abs_match.proofs.Testing.{heads_to, heads_from, heads_of, fails_whole, places_tested_of}
use Rattle.abs_match.proofs.matching.place_fault.Goals as goal

pub least_place-requires-clause-count : goal.least_place-requires-clause-count
least_place-requires-clause-count g c =
    ap (λ (fs : List AbstractFrame). length fs) (c.frames-4.ensures ∙ sym c.frames.ensures)
    ∙ lengths_agree head_of head_of c.frames.result.now c.frames-2.result.now (c.are_same_heads.ensures.0 c.if-not-are_same_heads.false)
    ∙ ap (λ (fs : List AbstractFrame). length fs) (c.frames-2.ensures ∙ sym c.frames-3.ensures)

pub returns-then-not-are_same_heads : goal.returns-then-not-are_same_heads
returns-then-not-are_same_heads g c sub =
    fails_whole sub c.args.state.now c.args.target.now c.args.entries.now positions 0
    (λ h. false≢true (sym c.if-not-are_same_heads.true
    ∙ c.are_same_heads.ensures.1 (heads_of c.frames.result.now c.frames-2.result.now (reverse c.args.state.now.frames)
    (reverse c.args.target.now.frames) (sym c.frames.ensures) (sym c.frames-2.ensures)
    (heads_from c.args.state.now.frames c.args.target.now.frames h))))
    refl

pub returns : goal.returns
returns g c sub =
    let h = heads_of (reverse c.args.state.now.frames) (reverse c.args.target.now.frames) c.frames.result.now c.frames-2.result.now
    c.frames.ensures c.frames-2.ensures (c.are_same_heads.ensures.0 c.if-not-are_same_heads.false) in
    places_tested_of sub c.args.state.now c.args.target.now c.args.entries.now
    (lengths_agree head_of head_of (reverse c.args.state.now.frames) (reverse c.args.target.now.frames) h) c.frames-3.result.now
    c.frames-4.result.now c.least_place.result c.frames-3.ensures c.frames-4.ensures
    (heads_to c.args.state.now.frames c.args.target.now.frames h) c.least_place.ensures
