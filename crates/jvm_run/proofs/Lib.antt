pub mod ArrayForms
pub mod CallForms
pub mod FieldForms
pub mod FormTable
pub mod Forms
pub mod Frames
pub mod IntForms
pub mod Lists
pub mod LocalForms
pub mod Named
pub mod Numbers
pub mod ObjectForms
pub mod Objects
pub mod Placed
pub mod Returning
pub mod RunSteps
pub mod StackForms
pub mod Stepping
pub mod TypedRuns
pub mod Values
-- files of crates below, given again for the crates above
pub use Rattle.jvm_step.proofs.op_forms.Widths as OpFormsWidths
