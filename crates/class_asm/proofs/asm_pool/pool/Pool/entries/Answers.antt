use Rattle.std.proofs.Common.{◌≡◌, ℕ, List, map, true, sym, subst, ◌∙◌}
use Rattle.std.specs.List.{AllByRecursion}
use Rattle.class_asm.specs.declared.asm_pool.entry.Entry.{Entry as Kept}
use Rattle.class_asm.specs.asm_pool.Entries.{seen, has_text}
use Rattle.class_asm.specs.asm_pool.Pools.{Numbered}
use Rattle.class_asm.proofs.PoolBounds.{kept_texts}
use Rattle.class_asm.proofs.asm_pool.pool.Pool.entries.Goals as goal

abbrev HaveTexts : List (Kept × ℕ) → Type 0
HaveTexts es = AllByRecursion (λ e. has_text e ≡ true) (map (λ (e : Kept × ℕ). seen e.0) es)

pub pool_entries-requires : goal.pool_entries-requires
pool_entries-requires c =
    let texts = subst (λ (p : Numbered). AllByRecursion (λ e. has_text e ≡ true) p.0) (sym c.self.view_is) c.requires in
    kept_texts c.as_slice.result.now (subst HaveTexts (sym (c.as_slice.ensures.value ∙ c.in_ok-list.ensures)) texts)
