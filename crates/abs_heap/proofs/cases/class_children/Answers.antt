use Rattle.std.proofs.Common.{refl}
use Rattle.std.proofs.lemmas.Result.{IfOk-weaker}
use Rattle.jvm_values.specs.TypedHeaps.{world_types}
use Rattle.abs_heap.proofs.Listing.{split_children, split_many, apart_children, apart_many}
use Rattle.abs_heap.proofs.Merging.{id_low}
use Rattle.abs_heap.proofs.cases.class_children.Goals as goal

pub children_below-requires-clause-x : goal.children_below-requires-clause-x
children_below-requires-clause-x g c = id_low c.args.state.now.cells c.args.x _ c.requires.good.rising c.requires.is

pub returns-then-is_comparable-clause-children : goal.returns-then-is_comparable-clause-children
returns-then-is_comparable-clause-children g c = IfOk-weaker c.children_below.result _ _
    (λ children are. split_children (world_types (g.T.Types.sub c.args.types.now) (g.T.Types.erase c.args.types.now)
    (g.T.Types.classes c.args.types.now) (g.T.Types.fields c.args.types.now) (g.T.Types.can_be_made c.args.types.now))
    c.args.state.now c.args.x c.args.bound c.args.wanted c.args.shape c.requires.is _ _ children c.is_comparable.ensures
    c.if-is_comparable.true c.lower_of-low.ensures are) c.children_below.ensures.children

pub returns-then-is_comparable-clause-too_many : goal.returns-then-is_comparable-clause-too_many
returns-then-is_comparable-clause-too_many g c n = split_many
    (world_types (g.T.Types.sub c.args.types.now) (g.T.Types.erase c.args.types.now) (g.T.Types.classes c.args.types.now)
    (g.T.Types.fields c.args.types.now) (g.T.Types.can_be_made c.args.types.now)) c.args.state.now c.args.x c.args.bound
    c.args.wanted c.args.shape c.requires.is _ _ _ n c.is_comparable.ensures c.if-is_comparable.true c.lower_of-low.ensures
    (c.children_below.ensures.too_many n)

pub returns-else-is_comparable-clause-children : goal.returns-else-is_comparable-clause-children
returns-else-is_comparable-clause-children g c = apart_children
    (world_types (g.T.Types.sub c.args.types.now) (g.T.Types.erase c.args.types.now) (g.T.Types.classes c.args.types.now)
    (g.T.Types.fields c.args.types.now) (g.T.Types.can_be_made c.args.types.now)) c.args.state.now c.args.x c.args.bound
    c.args.wanted c.args.shape c.requires.is _ _ c.is_comparable.ensures c.if-is_comparable.false c.new.ensures

pub returns-else-is_comparable-clause-too_many : goal.returns-else-is_comparable-clause-too_many
returns-else-is_comparable-clause-too_many g c n = apart_many
    (world_types (g.T.Types.sub c.args.types.now) (g.T.Types.erase c.args.types.now) (g.T.Types.classes c.args.types.now)
    (g.T.Types.fields c.args.types.now) (g.T.Types.can_be_made c.args.types.now)) c.args.state.now c.args.x c.args.bound
    c.args.wanted c.args.shape c.requires.is _ _ _ n c.is_comparable.ensures c.if-is_comparable.false refl
