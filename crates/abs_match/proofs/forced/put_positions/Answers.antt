use Rattle.std.proofs.Common.{◌∙◌, List, [], ◌∷◌, length, sym, ap}
use Rattle.std.specs.Bool.{MatchBool}
use Rattle.std.proofs.lemmas.Result.{IfOk-weaker}
use Rattle.std.proofs.lemmas.Bool.{false≢true}
use Rattle.abs_cells.specs.AbstractStates.{AbstractFrame}
use Rattle.abs_cells.specs.Sound.{given_ids}
use Rattle.abs_reach.specs.Reached.{positions}
use Rattle.abs_match.specs.inner.Forced.{ArePut, NoneDoes, place_asks, state_asks}
use Rattle.abs_reach.specs.Instances.{head_of}
use Rattle.abs_match.proofs.Leasts.{lengths_agree}
use Rattle.abs_match.proofs.ForcingPlaces.{heads_differ, frames_refused, positions_put}
use Rattle.abs_match.proofs.forced.put_positions.Goals as goal

pub put_frames-requires : goal.put_frames-requires
put_frames-requires g c =
    ap (λ (fs : List AbstractFrame). length fs) (c.frames-4.ensures ∙ sym c.frames.ensures)
    ∙ lengths_agree head_of head_of c.frames.result.now c.frames-2.result.now (c.are_same_heads.ensures.0 c.if-not-are_same_heads.false)
    ∙ ap (λ (fs : List AbstractFrame). length fs) (c.frames-2.ensures ∙ sym c.frames-3.ensures)

pub returns-then-not-are_same_heads : goal.returns-then-not-are_same_heads
returns-then-not-are_same_heads g c sub = heads_differ sub c.args.state.now c.args.target.now c.frames.result.now
    c.frames-2.result.now c.frames.ensures c.frames-2.ensures
    (λ h. false≢true (sym c.if-not-are_same_heads.true ∙ c.are_same_heads.ensures.1 h))

pub returns-then-not-branch : goal.returns-then-not-branch
returns-then-not-branch g c sub = frames_refused sub c.args.state.now c.args.target.now c.frames-3.result.now c.frames-4.result.now
    c.in_ok-put_frames.field-0 c.args.todo.now.0 c.put_frames.new.todo.0 c.frames-3.ensures c.frames-4.ensures c.if-not-branch.true
    c.in_ok-put_frames.ensures

pub returns : goal.returns
returns g c sub =
    IfOk-weaker c.put_place.result
    (λ r. MatchBool r (ArePut (place_asks c.throwing.result c.throwing-2.result) (given_ids (c.throwing.result ∷ []))
    c.put_frames.new.todo.0 c.put_place.new.todo.0) (NoneDoes (place_asks c.throwing.result c.throwing-2.result)))
    (λ r. MatchBool r (ArePut (state_asks sub c.args.state.now c.args.target.now) (positions c.args.target.now) c.args.todo.now.0
    c.put_place.new.todo.0) (NoneDoes (state_asks sub c.args.state.now c.args.target.now)))
    (λ r h. positions_put sub c.args.state.now c.args.target.now c.frames-3.result.now c.frames-4.result.now c.throwing.result
    c.throwing-2.result c.in_ok-put_frames.field-0 r c.args.todo.now.0 c.put_frames.new.todo.0 c.put_place.new.todo.0
    c.frames-3.ensures c.frames-4.ensures c.throwing.ensures c.throwing-2.ensures c.if-not-branch.false c.in_ok-put_frames.ensures h)
    c.put_place.ensures.puts
