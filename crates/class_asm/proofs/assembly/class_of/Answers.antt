use Rattle.std.proofs.Common.{◌≡◌, ℕ, List, true, sym, ap, subst, ◌∙◌}
use Rattle.std.specs.List.{AllByRecursion}
use Rattle.class_asm.specs.asm_pool.Entries.{has_text}
use Rattle.class_asm.specs.asm_pool.Needs.{listing_needs}
use Rattle.class_asm.specs.asm_pool.Pools.{Numbered}
use Rattle.class_asm.specs.Classes.{class_of, class_text}
use Rattle.class_asm.proofs.Assembled.{faulty, faultless, has_class_text}
use Rattle.asm_lines.proofs.Outcomes.{is_fault}
use Rattle.class_asm.proofs.PoolBounds.{pool_texts}
use Rattle.class_asm.proofs.assembly.class_of.Goals as goal

pub returns-in-Some-clause-same : goal.returns-in-Some-clause-same
returns-in-Some-clause-same c =
    is_fault c.in-Some.fault (class_of c.args.line c.args.class.now c.args.listing.now)
    (faulty c.args.line c.args.class.now c.args.listing.now c.gather.new.first.fault c.in-Some.fault c.in_ok-pool.ensures.faults
    c.in-Some.is)

pub class_text-requires-clause-texts : goal.class_text-requires-clause-texts
class_text-requires-clause-texts c =
    subst (λ (p : Numbered). AllByRecursion (λ e. has_text e ≡ true) p.0) (sym c.in_ok-pool.ensures.pool)
    (pool_texts (listing_needs c.args.line c.args.class.now c.args.listing.now))

pub returns-clause-same : goal.returns-clause-same
returns-clause-same c =
    let class = c.args.class.now in
    let listing = c.args.listing.now in
    let text = c.in_ok-text.ensures.same ∙ ap (λ (p : Numbered). class_text p class listing) c.in_ok-pool.ensures.pool in
    faultless c.args.line class listing c.gather.new.first.fault c.in_ok-text.text c.in_ok-pool.ensures.faults c.in_default.is text

pub returns-clause-text : goal.returns-clause-text
returns-clause-text c =
    let class = c.args.class.now in
    let listing = c.args.listing.now in
    let text = c.in_ok-text.ensures.same ∙ ap (λ (p : Numbered). class_text p class listing) c.in_ok-pool.ensures.pool in
    has_class_text c.args.line class listing c.gather.new.first.fault c.in_ok-text.text c.in_ok-pool.ensures.faults c.in_default.is
    text c.in_ok-text.ensures.texts
