-- The entries of a pool with their numbers.
use Rattle.std.proofs.Common.{◌≡◌, ℕ, List, [], ◌∷◌, map, refl, ap, ◌∙◌}
use Rattle.class_asm.specs.declared.asm_pool.entry.Entry.{Entry as Kept}
use Rattle.class_asm.specs.asm_pool.Entries.{Entry, seen}
use Rattle.class_asm.specs.asm_pool.Pools.{Need, Numbered, numbers_from, numbered}
use Rattle.class_asm.proofs.Entered.{seen_need}

both : (es : List (Kept × ℕ)) → map (λ (e : Kept × ℕ). seen e.0) es ≡ map (λ (n : Need). n.0) (map seen_need es)
both [] = refl
both (e ∷ es) = ap (λ xs. seen e.0 ∷ xs) (both es)

pub kept_entries : (es : List (Kept × ℕ)) (needs : List Need) → map seen_need es ≡ needs
    → map (λ (e : Kept × ℕ). seen e.0) es ≡ map (λ (n : Need). n.0) needs
kept_entries es needs h = both es ∙ ap (λ ns. map (λ (n : Need). n.0) ns) h

abbrev pub pair : List Entry → List ℕ → Numbered
pair entries numbers = (entries, numbers)

pub numbered_is : (needs : List Need) (es : List (Kept × ℕ)) (numbers : List ℕ) → map seen_need es ≡ needs
    → numbers ≡ numbers_from 1 (map (λ (e : Kept × ℕ). seen e.0) es)
    → pair (map (λ (n : Need). n.0) needs) numbers ≡ numbered (map (λ (n : Need). n.0) needs)
numbered_is needs es numbers h p = ap (λ ns. pair (map (λ (n : Need). n.0) needs) ns)
    (p ∙ ap (λ xs. numbers_from 1 xs) (kept_entries es needs h))
