use Rattle.std.proofs.Common.{◌++◌, ap, ◌∙◌}
use Rattle.class_pool.specs.Text.{pool_bytes}
use Rattle.class_pool.proofs.Rereading.{no_pool_from_fault}
use Rattle.class_read.proofs.RuleLaws.{pool_is}
use Rattle.class_read.proofs.well_formed.rules_hold.Goals as goal

pub parts_hold-requires-clause-same : goal.parts_hold-requires-clause-same
parts_hold-requires-clause-same c =
    let text = c.as_slice-2.ensures ∙ c.in_ok-write_pool.ensures ∙ ap (λ old. old ++ pool_bytes c.as_slice.result.now)
    c.new-text.ensures ∙ ap pool_bytes c.as_slice.ensures in
    pool_is c.as_slice-2.result.now c.args.class.now.pool c.in-Ok.pool _ text c.requires c.in-Ok.ensures.found

pub returns : goal.returns
returns c =
    let text = c.as_slice-2.ensures ∙ c.in_ok-write_pool.ensures ∙ ap (λ old. old ++ pool_bytes c.as_slice.result.now)
    c.new-text.ensures ∙ ap pool_bytes c.as_slice.ensures in (
      λ is. absurd (cc),
      λ rules. absurd (no_pool_from_fault c.as_slice-2.result.now c.args.class.now.pool c.in-Err.fault text
          c.in_default.not-Memory c.in-Err.ensures.only rules.pool),
    )
