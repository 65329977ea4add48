pub mod EachRow
pub mod SteadyForms
pub mod SteadyTurns
