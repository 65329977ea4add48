use Rattle.std.proofs.Common.{◌∙◌, inl, inr}
use Rattle.std.proofs.lemmas.Option.{slice_get_past}
use Rattle.filled_graphs.proofs.Putting.{childs_state}
use Rattle.filled_graphs.proofs.filled_nodes.children.child_state.Goals as goal

pub returns-in_ok-state : goal.returns-in_ok-state
returns-in_ok-state g c = inl (childs_state c.args.children.now c.args.place c.index-children-place.result c.in_ok-state.state
    c.if-place-children.true c.index-children-place.is (c.in_ok-state.ensures ∙ c.state.ensures))

pub returns-in_ok-state-2 : goal.returns-in_ok-state-2
returns-in_ok-state-2 g c = inr (record {
  none = slice_get_past c.args.children.now c.args.place c.if-place-children.false;
  part = c.in_ok-state-2.ensures.0;
  is_first = c.in_ok-state-2.ensures.1.0;
  is = c.in_ok-state-2.ensures.1.1;
})
