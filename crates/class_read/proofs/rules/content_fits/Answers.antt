use Rattle.std.proofs.Common.{arith}
use Rattle.std.proofs.lemmas.Bool.{leb-true, le-leb}
use Rattle.class_read.proofs.RuleLaws.{content_length}
use Rattle.class_read.proofs.rules.content_fits.Goals as goal

pub returns : goal.returns
returns c = λ max_stack max_locals.
    let size = content_length max_stack max_locals c.args.code.now c.args.table.now c.args.attributes.now in (
      λ is. omega (arith, size, leb-true _ _ is, c.attributes_size.ensures.size),
      λ fits. le-leb _ _
          (omega (arith, size, fits, c.attributes_size.ensures.size)),
    )
