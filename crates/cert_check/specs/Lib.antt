pub mod Certified
pub mod Walks
pub mod Valid
pub mod Ready
pub mod Laws
pub mod Parts
pub mod inner
-- libraries below, given again for the crates above
pub use Rattle.graph_check.specs as graph_check
pub use Rattle.graph_check.specs.abs_expand
pub use Rattle.plan_links.specs as plan_links
pub use Rattle.plan_links.specs.abs_plans
-- files of crates below, given again for the crates above
pub use Rattle.graph_check.specs.AbsReachKeys
pub use Rattle.path_rules.specs.Answers as PathRulesAnswers
pub use Rattle.path_rules.specs.Paths as PathRulesPaths
pub use Rattle.path_rules.specs.Rules as PathRulesRules
pub use Rattle.path_rules.specs.Stops as PathRulesStops
pub use Rattle.path_rules.specs.declared.fault.PathFault as PathRulesPathFault
