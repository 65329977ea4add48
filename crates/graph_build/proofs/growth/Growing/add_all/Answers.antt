use Rattle.std.proofs.Common.{◌≡◌, ◌++◌, ◌∷◌, sym, ap, ◌∙◌}
use Rattle.std.specs.Vec.Iter.{into_iter_items}
use Rattle.graph_build.specs.inner.Working.{seen}
use Rattle.graph_build.proofs.Adding.{added_push, named_push, whole_push, has_room_for}
use Rattle.graph_build.proofs.growth.Growing.add_all.Goals as goal

pub add-requires : goal.add-requires
add-requires g c =
    let at = c.loop-state in
    let x = c.in-Some.state in
    let steps : into_iter_items at.state-iterator ≡ x ∷ into_iter_items c.next.new.self = c.in-Some.ensures.steps.0 in
    let whole : at.yielded ++ (x ∷ into_iter_items c.next.new.self) ≡ c.args.states = ap (λ ys. at.yielded ++ ys) (sym steps)
    ∙ at.invariant.whole ∙ c.into_iter-state-iterator.ensures.into_iter_gives.0 ∙ c.into_vec-state-items.ensures in
    has_room_for (seen c.args.self.now) (seen at.self) c.args.states at.yielded (into_iter_items c.next.new.self) x c.args.parent _
    at.invariant.added whole c.requires

pub loop-state-preserved : goal.loop-state-preserved
loop-state-preserved g c =
    let at = c.loop-state in
    let x = c.in-Some.state in
    record {
      whole = whole_push at.yielded (into_iter_items at.state-iterator) (into_iter_items c.next.new.self) _ x
          c.in-Some.ensures.steps.0 at.invariant.whole;
      named = named_push (seen c.args.self.now) (seen at.self) at.named c.push.new.self c.in_ok-add.field-0 at.yielded x
          c.args.parent at.invariant.added at.invariant.named c.in_ok-add.ensures.number c.in_ok-push.ensures.items;
      added = added_push (seen c.args.self.now) (seen at.self) (seen c.add.new.self) at.yielded x c.args.parent at.invariant.added
          c.in_ok-add.ensures.added;
    }
