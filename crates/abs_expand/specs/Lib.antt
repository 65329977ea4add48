pub mod Answers
pub mod BadStates
pub mod Expansions
pub mod Children
pub mod Laws
pub use Rattle.abs_plans.specs.abs_turns.Plans
pub use Rattle.abs_plans.specs.abs_turns.Table
pub use Rattle.abs_plans.specs.abs_turns.Throwing
pub use Rattle.abs_plans.specs.abs_turns.Turns
pub use Rattle.abs_plans.specs.abs_turns.Needs
pub use Rattle.abs_plans.specs.abs_turns.Switches
pub use Rattle.abs_plans.specs.abs_turns.ShortRows
pub use Rattle.abs_plans.specs.abs_turns.OperandsSeen
pub use Rattle.abs_plans.specs.abs_turns.PlansSeen
pub mod inner
-- libraries below, given again for the crates above
pub use Rattle.abs_plans.specs as abs_plans
pub use Rattle.abs_plans.specs.abs_turns
-- files of crates below, given again for the crates above
pub use Rattle.abs_heap.specs.Answers as AbsHeapAnswers
pub use Rattle.abs_heap.specs.Given as AbsHeapGiven
pub use Rattle.abs_heap.specs.Laws as AbsHeapLaws
pub use Rattle.abs_heap.specs.Names as AbsHeapNames
pub use Rattle.abs_heap.specs.Refining as AbsHeapRefining
pub use Rattle.abs_heap.specs.Writing as AbsHeapWriting
pub use Rattle.abs_plans.specs.FrameTypesTables
pub use Rattle.abs_reach.specs.Instances as AbsReachInstances
pub use Rattle.abs_reach.specs.Reached as AbsReachReached
pub use Rattle.class_program.specs.Programs as ClassProgramPrograms
pub use Rattle.class_program.specs.class_world.BuiltIns as ClassWorldBuiltIns
pub use Rattle.class_program.specs.class_world.Linking as ClassWorldLinking
pub use Rattle.class_program.specs.class_world.WorldTypes as ClassWorldWorldTypes
pub use Rattle.class_program.specs.declared.op.Op as ClassProgramOp
pub use Rattle.class_program.specs.declared.program.Method as ClassProgramMethod
pub use Rattle.class_program.specs.declared.program.StaticField as ClassProgramStaticField
pub use Rattle.term_graph.specs.Graphs as TermGraphGraphs
pub use Rattle.term_graph.specs.declared.links.Link as TermGraphLink
pub use Rattle.term_graph.specs.declared.links.LinkRow as TermGraphLinkRow
