use Rattle.std.proofs.lemmas.List.Elements.{recursion_from_All}
use Rattle.class_read.specs.Rules.{IsAttribute, IsHandler}
use Rattle.class_read.proofs.rules.is_code.Goals as goal

pub returns : goal.returns
returns c =
    let name = c.names_code.ensures.0 c.if-not-names_code.false in
    let counts = c.counts_fit.ensures.0 c.if-not-counts_fit.false in
    let size = c.content_fits.ensures c.args.max_stack c.args.max_locals in (
      λ is. record {
        name_is = name.0;
        named = name.1;
        stack_fits = c.ranges.max_stack.fits;
        locals_fit = c.ranges.max_locals.fits;
        some = counts.0;
        most = counts.1;
        table_fits = counts.2;
        handlers = recursion_from_All (IsHandler c.args.pool.now) c.args.table.now (c.are_handlers.ensures.0 c.if-not-are_handlers.false);
        attributes_fit = counts.3;
        skipped = recursion_from_All (IsAttribute c.args.pool.now) c.args.attributes.now
            (c.are_attributes.ensures.0 c.if-not-are_attributes.false);
        content_fits = size.0 is;
      },
      λ rule. size.1 rule.content_fits,
    )
