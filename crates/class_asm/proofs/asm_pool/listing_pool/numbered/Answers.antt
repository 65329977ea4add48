use Rattle.std.proofs.Common.{◌≡◌, ℕ, List, map, ap, ◌∙◌}
use Rattle.class_asm.specs.declared.asm_pool.entry.Entry.{Entry as Kept}
use Rattle.class_asm.specs.asm_pool.Entries.{seen}
use Rattle.class_asm.specs.asm_pool.Pools.{numbers_from}
use Rattle.class_asm.proofs.Numbered.{numbered_is}
use Rattle.class_asm.proofs.asm_pool.listing_pool.numbered.Goals as goal

pub returns-clause-pool : goal.returns-clause-pool
returns-clause-pool c =
    let numbers = c.in_ok-numbers.ensures ∙ ap (λ (xs : List (Kept × ℕ)). numbers_from 1 (map (λ (e : Kept × ℕ). seen e.0) xs))
    c.as_slice-2.ensures.value in
    c.with_numbers.ensures ∙ numbered_is c.args.firsts c.in_ok-list.list.items c.in_ok-numbers.numbers c.in_ok-list.ensures numbers
