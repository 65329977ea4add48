use Rattle.std.proofs.Common.{◌≡◌, Some, None, length, ap, sym, ◌∙◌}
use Rattle.std.specs.Prelude.{slice_get}
use Rattle.class_world.specs.Worlds.{classes_of}
use Rattle.class_program.specs.Reached.{with_one, method_count}
use Rattle.class_program.proofs.Room.{body_at}
use Rattle.class_program.proofs.Saying.{answered}
use Rattle.class_program.proofs.GoingThrough.{reach_start, next_body, reach_more, reach_broken, reach_end, reach_found, reach_less}
use Rattle.class_program.proofs.GoingThrough.{reach_smaller}
use Rattle.class_program.proofs.Closed.{reach_closed}
use Rattle.class_program.proofs.Made.{reach_numbers}
use Rattle.class_program.proofs.closing.reach.Goals as goal

pub loop-next-init : goal.loop-next-init
loop-next-init c = (
  reach_start (classes_of c.args.world.now) c.args.entry _ _ c.requires.entry
      (c.in_ok-add.ensures ∙ ap (λ r. with_one r c.args.entry) c.requires.refs) c.requires.methods,
  c.requires.rows,
)

pub method_of-requires-clause-body : goal.method_of-requires-clause-body
method_of-requires-clause-body c =
    let at : slice_get c.loop-next.refs (length c.loop-next.methods) ≡ Some c.in-Some.next = ap (slice_get c.loop-next.refs)
    (sym c.len.ensures) ∙ sym c.in-Some.ensures in
    next_body (classes_of c.args.world.now) c.args.entry c.loop-next.refs c.loop-next.methods c.in-Some.next c.loop-next.invariant.0 at

pub returns-in_err-method-clause-methods : goal.returns-in_err-method-clause-methods
returns-in_err-method-clause-methods c =
    let world = (classes_of c.args.world.now) in
    let at : slice_get c.loop-next.refs (length c.loop-next.methods) ≡ Some c.in-Some.next = ap (slice_get c.loop-next.refs)
    (sym c.len.ensures) ∙ sym c.in-Some.ensures in
    let content = body_at world c.in-Some.next (next_body world c.args.entry c.loop-next.refs c.loop-next.methods c.in-Some.next
    c.loop-next.invariant.0 at) in
    answered _ _ _ _ c.from_residual-in_err-method.ensures.1
    (reach_broken world c.args.entry c.loop-next.refs c.loop-next.methods c.in-Some.next content.0 _ c.loop-next.invariant.0 at
    content.1 (c.in_err-method.ensures.method content.0 content.1))

pub loop-next-smaller : goal.loop-next-smaller
loop-next-smaller c =
    let world = (classes_of c.args.world.now) in
    let at : slice_get c.loop-next.refs (length c.loop-next.methods) ≡ Some c.in-Some.next = ap (slice_get c.loop-next.refs)
    (sym c.len.ensures) ∙ sym c.in-Some.ensures in
    reach_smaller (method_count world) c.loop-next.methods _ _
    (reach_less world c.args.entry c.loop-next.refs c.loop-next.methods c.in-Some.next c.loop-next.invariant.0 at)
    c.in_ok-push.ensures.items

pub loop-next-preserved : goal.loop-next-preserved
loop-next-preserved c =
    let world = (classes_of c.args.world.now) in
    let at : slice_get c.loop-next.refs (length c.loop-next.methods) ≡ Some c.in-Some.next = ap (slice_get c.loop-next.refs)
    (sym c.len.ensures) ∙ sym c.in-Some.ensures in
    let content = body_at world c.in-Some.next (next_body world c.args.entry c.loop-next.refs c.loop-next.methods c.in-Some.next
    c.loop-next.invariant.0 at) in (
      reach_more world c.args.entry c.loop-next.refs _ c.loop-next.methods _ c.in-Some.next content.0 c.in_ok-method.method
          c.loop-next.invariant.0 at content.1
          (c.in_ok-method.ensures.method content.0 content.1) (rw (← c.as_slice.ensures.list) c.in_ok-add_runs.ensures.refs)
          c.in_ok-push.ensures.items,
      c.in_ok-add_runs.ensures.rows,
    )

pub returns-clause-methods : goal.returns-clause-methods
returns-clause-methods c =
    let at : slice_get c.loop-next.refs (length c.loop-next.methods) ≡ None = ap (slice_get c.loop-next.refs) (sym c.len.ensures)
    ∙ sym c.in_default.ensures in
    reach_found (classes_of c.args.world.now) c.args.entry c.loop-next.refs c.loop-next.methods c.loop-next.invariant.0 at

pub returns-clause-refs : goal.returns-clause-refs
returns-clause-refs c =
    let at : slice_get c.loop-next.refs (length c.loop-next.methods) ≡ None = ap (slice_get c.loop-next.refs) (sym c.len.ensures)
    ∙ sym c.in_default.ensures in
    reach_end (classes_of c.args.world.now) c.args.entry c.loop-next.refs c.loop-next.methods c.loop-next.invariant.0 at

pub returns-clause-closed : goal.returns-clause-closed
returns-clause-closed c =
    let at : slice_get c.loop-next.refs (length c.loop-next.methods) ≡ None = ap (slice_get c.loop-next.refs) (sym c.len.ensures)
    ∙ sym c.in_default.ensures in
    reach_closed (classes_of c.args.world.now) c.args.entry c.loop-next.refs c.loop-next.methods c.loop-next.invariant.0 at

pub returns-clause-numbers : goal.returns-clause-numbers
returns-clause-numbers c =
    let at : slice_get c.loop-next.refs (length c.loop-next.methods) ≡ None = ap (slice_get c.loop-next.refs) (sym c.len.ensures)
    ∙ sym c.in_default.ensures in
    reach_numbers (classes_of c.args.world.now) c.args.entry c.loop-next.refs c.loop-next.methods c.loop-next.invariant.0 at

pub returns-clause-bodies : goal.returns-clause-bodies
returns-clause-bodies c = c.loop-next.invariant.0.bodies
