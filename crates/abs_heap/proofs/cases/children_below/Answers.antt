use Rattle.std.proofs.Common.{sym, ◌∙◌, refl}
use Rattle.jvm_values.specs.TypedHeaps.{world_types}
use Rattle.abs_heap.specs.Refining.{cases_below}
use Rattle.abs_heap.specs.inner.Splitting.{crowds}
use Rattle.abs_heap.proofs.FirstCrowds.{ok_no_err, memory_alone, crowd_none, found_many, none_many}
use Rattle.abs_heap.proofs.cases.children_below.Goals as goal

pub case_children-requires-clause-room : goal.case_children-requires-clause-room
case_children-requires-clause-room g c = crowd_none
    (crowds (world_types (g.T.Types.sub c.args.types.now) (g.T.Types.erase c.args.types.now) (g.T.Types.classes c.args.types.now)
    (g.T.Types.fields c.args.types.now) (g.T.Types.can_be_made c.args.types.now)) c.args.state.now)
    (cases_below (world_types (g.T.Types.sub c.args.types.now) (g.T.Types.erase c.args.types.now)
    (g.T.Types.classes c.args.types.now) (g.T.Types.fields c.args.types.now) (g.T.Types.can_be_made c.args.types.now))
    c.args.bound) 0 _ (sym c.past_cases.ensures ∙ c.in-Ok.is)

pub returns-in-Err-clause-too_many : goal.returns-in-Err-clause-too_many
returns-in-Err-clause-too_many g c n = found_many (world_types (g.T.Types.sub c.args.types.now) (g.T.Types.erase c.args.types.now)
    (g.T.Types.classes c.args.types.now) (g.T.Types.fields c.args.types.now) (g.T.Types.can_be_made c.args.types.now))
    c.args.state.now (cases_below (world_types (g.T.Types.sub c.args.types.now) (g.T.Types.erase c.args.types.now)
    (g.T.Types.classes c.args.types.now) (g.T.Types.fields c.args.types.now) (g.T.Types.can_be_made c.args.types.now))
    c.args.bound) _ n _ refl (sym c.past_cases.ensures ∙ c.in-Err.is)

pub returns-in_ok-case_children-in-Ok-clause-too_many : goal.returns-in_ok-case_children-in-Ok-clause-too_many
returns-in_ok-case_children-in-Ok-clause-too_many g c n = none_many
    (world_types (g.T.Types.sub c.args.types.now) (g.T.Types.erase c.args.types.now) (g.T.Types.classes c.args.types.now)
    (g.T.Types.fields c.args.types.now) (g.T.Types.can_be_made c.args.types.now)) c.args.state.now
    (cases_below (world_types (g.T.Types.sub c.args.types.now) (g.T.Types.erase c.args.types.now)
    (g.T.Types.classes c.args.types.now) (g.T.Types.fields c.args.types.now) (g.T.Types.can_be_made c.args.types.now))
    c.args.bound) _ n _ (ok_no_err _ _) (sym c.past_cases.ensures ∙ c.in-Ok.is)

pub returns-in_err-case_children-in-Ok-clause-too_many : goal.returns-in_err-case_children-in-Ok-clause-too_many
returns-in_err-case_children-in-Ok-clause-too_many g c n = none_many
    (world_types (g.T.Types.sub c.args.types.now) (g.T.Types.erase c.args.types.now) (g.T.Types.classes c.args.types.now)
    (g.T.Types.fields c.args.types.now) (g.T.Types.can_be_made c.args.types.now)) c.args.state.now
    (cases_below (world_types (g.T.Types.sub c.args.types.now) (g.T.Types.erase c.args.types.now)
    (g.T.Types.classes c.args.types.now) (g.T.Types.fields c.args.types.now) (g.T.Types.can_be_made c.args.types.now))
    c.args.bound) _ n _ (memory_alone _ n c.from_residual.ensures.1) (sym c.past_cases.ensures ∙ c.in-Ok.is)
