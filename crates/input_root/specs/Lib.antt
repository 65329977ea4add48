pub mod Roots
-- files of crates below, given again for the crates above
pub use Rattle.input_desc.specs.Descs as InputDescDescs
pub use Rattle.input_desc.specs.Fitting as InputDescFitting
pub use Rattle.input_desc.specs.Initial as InputDescInitial
pub use Rattle.input_desc.specs.declared.desc.Desc as InputDescDesc
