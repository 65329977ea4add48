use Rattle.std.proofs.Common.{◌≡◌, ◌≤◌, ◌<◌, ◌∙◌, length, subst, ap, refl, sym, arith}
use Rattle.graph_build.specs.Answers.{PassesLimit, HasLarge}
use Rattle.graph_build.specs.inner.Working.{Work, seen, parent_in, IsSound, IsNextOpen, MayGrow, work_left}
use Rattle.graph_build.proofs.Starting.{root_is_sound}
use Rattle.graph_build.proofs.Turning.{some_left, none_left, all_closed, first_within, first_is, next_open, stopped, has_room}
use Rattle.graph_build.proofs.Turning.{grown_sound, grown_few, less_work}
use Rattle.graph_build.proofs.building.build.Goals as goal

pub loop-alloc-init : goal.loop-alloc-init
loop-alloc-init g c =
    let rules = g.G.Grower.rules (g.G.Grower.meaning c.args.grower.now) in
    let good = g.G.Grower.good (g.G.Grower.meaning c.args.grower.now) in
    let one : length c.in_ok-growing.growing.graph ≡ 1 = ap (λ (w : Work). length w.nodes) c.in_ok-growing.ensures in
    record {
      sound = subst (λ (w : Work). IsSound rules good c.args.root w) (sym c.in_ok-growing.ensures)
          (root_is_sound rules good c.args.root c.requires.root);
      same = refl;
      few = omega (arith, one, c.requires.positive);
    }

pub at-n-requires : goal.at-n-requires
at-n-requires g c = some_left c.is_empty.result (length c.loop-alloc.growing.waiting.0) c.is_empty.ensures c.loop-alloc-test.true

pub at-requires : goal.at-requires
at-requires g c =
    let rules = g.G.Grower.rules (g.G.Grower.meaning c.args.grower.now) in
    let good = g.G.Grower.good (g.G.Grower.meaning c.args.grower.now) in
    let some = some_left c.is_empty.result (length c.loop-alloc.growing.waiting.0) c.is_empty.ensures c.loop-alloc-test.true in
    first_within rules good c.args.root (seen c.loop-alloc.growing) c.loop-alloc.invariant.sound c.at-n.result.now some c.at-n.ensures

pub plan-requires : goal.plan-requires
plan-requires g c =
    let rules = g.G.Grower.rules (g.G.Grower.meaning c.args.grower.now) in
    let good = g.G.Grower.good (g.G.Grower.meaning c.args.grower.now) in
    let some = some_left c.is_empty.result (length c.loop-alloc.growing.waiting.0) c.is_empty.ensures c.loop-alloc-test.true in
    let work = seen c.loop-alloc.growing in
    let sound = c.loop-alloc.invariant.sound in
    let n = c.at-n.result.now in
    let state = c.state.result.now in
    let is = first_is rules good c.args.root work sound n some c.at-n.ensures c.at.result.now state c.at.ensures c.state.ensures in
    record {
      next = subst (λ m. IsNextOpen (g.G.Grower.rules m) (g.G.Grower.good m) work.nodes work.parents n state)
          (sym c.loop-alloc.invariant.same) (next_open rules good c.args.root work sound n some c.at-n.ensures state is);
    }

pub grow-requires-clause-within : goal.grow-requires-clause-within
grow-requires-clause-within g c =
    let rules = g.G.Grower.rules (g.G.Grower.meaning c.args.grower.now) in
    let good = g.G.Grower.good (g.G.Grower.meaning c.args.grower.now) in
    let some = some_left c.is_empty.result (length c.loop-alloc.growing.waiting.0) c.is_empty.ensures c.loop-alloc-test.true in
    first_within rules good c.args.root (seen c.loop-alloc.growing) c.loop-alloc.invariant.sound c.at-n.result.now some c.at-n.ensures

pub grow-requires-clause-room : goal.grow-requires-clause-room
grow-requires-clause-room g c =
    has_room (g.G.Grower.rules (g.G.Grower.meaning c.loop-alloc.grower)) (g.G.Grower.good (g.G.Grower.meaning c.loop-alloc.grower))
    (seen c.loop-alloc.growing) c.at-n.result.now c.state.result.now c.args.limit c.in-Ok.plan c.requires.small c.in-Ok.ensures.plan

pub loop-alloc-smaller : goal.loop-alloc-smaller
loop-alloc-smaller g c =
    let rules = g.G.Grower.rules (g.G.Grower.meaning c.loop-alloc.grower) in
    let good = g.G.Grower.good (g.G.Grower.meaning c.loop-alloc.grower) in
    let some = some_left c.is_empty.result (length c.loop-alloc.growing.waiting.0) c.is_empty.ensures c.loop-alloc-test.true in
    let work = seen c.loop-alloc.growing in
    subst (λ (w : Work). work_left c.args.limit w < work_left c.args.limit work) (sym c.in_ok-grow-in-Ok.ensures)
    (less_work rules good work c.at-n.result.now c.state.result.now c.args.limit c.in-Ok.plan c.loop-alloc.invariant.few
    c.in-Ok.ensures.plan some)

pub loop-alloc-preserved : goal.loop-alloc-preserved
loop-alloc-preserved g c =
    let rules = g.G.Grower.rules (g.G.Grower.meaning c.args.grower.now) in
    let good = g.G.Grower.good (g.G.Grower.meaning c.args.grower.now) in
    let some = some_left c.is_empty.result (length c.loop-alloc.growing.waiting.0) c.is_empty.ensures c.loop-alloc-test.true in
    let work = seen c.loop-alloc.growing in
    let sound = c.loop-alloc.invariant.sound in
    let n = c.at-n.result.now in
    let state = c.state.result.now in
    let is = first_is rules good c.args.root work sound n some c.at-n.ensures c.at.result.now state c.at.ensures c.state.ensures in
    let may = subst (λ m. MayGrow (g.G.Grower.rules m) (g.G.Grower.good m) work n state c.args.limit c.in-Ok.plan)
    c.loop-alloc.invariant.same c.in-Ok.ensures.plan in
    record {
      sound = subst (λ (w : Work). IsSound rules good c.args.root w) (sym c.in_ok-grow-in-Ok.ensures)
          (grown_sound rules good c.args.root work.nodes work.parents work.waiting n state c.args.limit c.in-Ok.plan some
          c.at-n.ensures is sound may);
      same = c.plan.ensures.same ∙ c.loop-alloc.invariant.same;
      few = subst (λ (w : Work). length w.nodes ≤ c.args.limit) (sym c.in_ok-grow-in-Ok.ensures)
          (grown_few rules good work n state c.args.limit c.in-Ok.plan c.loop-alloc.invariant.few may);
    }

pub returns-in-Err-Nodes-clause-built : goal.returns-in-Err-Nodes-clause-built
returns-in-Err-Nodes-clause-built g c =
    let rules = g.G.Grower.rules (g.G.Grower.meaning c.args.grower.now) in
    let good = g.G.Grower.good (g.G.Grower.meaning c.args.grower.now) in
    let some = some_left c.is_empty.result (length c.loop-alloc.growing.waiting.0) c.is_empty.ensures c.loop-alloc-test.true in
    let work = seen c.loop-alloc.growing in
    let sound = c.loop-alloc.invariant.sound in
    let n = c.at-n.result.now in
    let state = c.state.result.now in
    let is = first_is rules good c.args.root work sound n some c.at-n.ensures c.at.result.now state c.at.ensures c.state.ensures in
    let why = subst (λ m. PassesLimit (g.G.Grower.rules m) work.nodes (parent_in work.parents) n state c.args.limit)
    c.loop-alloc.invariant.same (rw c.in-Err-Nodes.field-0-is at c.in-Err-Nodes.ensures.plan) in (
      stopped rules good c.args.root work sound n some c.at-n.ensures state
          (λ parent m s. PassesLimit rules work.nodes parent m s c.args.limit) is why,
      c.loop-alloc.invariant.few,
    )

pub returns-in-Err-Ids-clause-built : goal.returns-in-Err-Ids-clause-built
returns-in-Err-Ids-clause-built g c =
    let rules = g.G.Grower.rules (g.G.Grower.meaning c.args.grower.now) in
    let good = g.G.Grower.good (g.G.Grower.meaning c.args.grower.now) in
    let some = some_left c.is_empty.result (length c.loop-alloc.growing.waiting.0) c.is_empty.ensures c.loop-alloc-test.true in
    let work = seen c.loop-alloc.growing in
    let sound = c.loop-alloc.invariant.sound in
    let n = c.at-n.result.now in
    let state = c.state.result.now in
    let is = first_is rules good c.args.root work sound n some c.at-n.ensures c.at.result.now state c.at.ensures c.state.ensures in
    let why = subst (λ m. HasLarge (g.G.Grower.rules m) work.nodes (parent_in work.parents) n state) c.loop-alloc.invariant.same
    (rw c.in-Err-Ids.field-0-is at c.in-Err-Ids.ensures.plan) in (
      stopped rules good c.args.root work sound n some c.at-n.ensures state (λ parent m s. HasLarge rules work.nodes parent m s) is
          why,
      c.loop-alloc.invariant.few,
    )

pub returns-clause-built : goal.returns-clause-built
returns-clause-built g c =
    let rules = g.G.Grower.rules (g.G.Grower.meaning c.args.grower.now) in
    let good = g.G.Grower.good (g.G.Grower.meaning c.args.grower.now) in (
      all_closed rules good c.args.root (seen c.loop-alloc.growing) c.loop-alloc.invariant.sound
          (none_left c.is_empty.result (length c.loop-alloc.growing.waiting.0) c.is_empty.ensures c.loop-alloc-test.false),
      c.loop-alloc.invariant.few,
    )
