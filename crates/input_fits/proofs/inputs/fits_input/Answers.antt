use Rattle.class_world.specs.Worlds.{classes_of}
use Rattle.class_world.specs.WorldTypes.{types_of}
use Rattle.input_fits.proofs.Told.{reference_told}
use Rattle.input_fits.proofs.inputs.fits_input.Goals as goal

pub returns-then-has_type : goal.returns-then-has_type
returns-then-has_type c = reference_told (types_of (classes_of c.args.world.now)) c.args.heap.now c.in-Ref.t c.in-Ref.null c.in-Ref.shape
    c.args.value c.args.input.now c.has_shape.result c.in-Ref.is (c.is_allowed.ensures.0 c.if-is_allowed.true)
    (c.has_type.ensures.0 c.if-has_type.true) c.has_shape.ensures
