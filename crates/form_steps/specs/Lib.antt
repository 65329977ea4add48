pub mod Laws
pub mod inner
-- libraries below, given again for the crates above
pub use Rattle.abs_expand.specs as abs_expand
pub use Rattle.abs_heap.specs as abs_heap
pub use Rattle.jvm_run.specs as jvm_run
pub use Rattle.jvm_run.specs.code_verify
-- files of crates below, given again for the crates above
pub use Rattle.term_graph.specs.Edges as TermGraphEdges
pub use Rattle.term_graph.specs.declared.links.LinkRow as TermGraphLinkRow
