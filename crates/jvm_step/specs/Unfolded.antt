-- definitions of crates below that the checker unfolds in functions of this crate
pub use Rattle.class_program.specs.class_world.Fields.{can_be_made}
