-- Whether entries make a pool, told by reading their text.
use Rattle.std.proofs.Common.{◌≡◌, ℕ, ◌+◌, List, [], ◌++◌, length, refl, sym, subst, ◌∙◌}
use Rattle.std.proofs.lemmas.List.{append-nil}
use Rattle.class_pool.specs.declared.entry.PoolEntry.{PoolEntry}
use Rattle.class_pool.specs.declared.fault.PoolFault.{PoolFault}
use Rattle.class_pool.specs.declared.fault.PoolFault.TheVariants.{Memory}
use Rattle.class_pool.specs.Text.{IsPool, pool_bytes, Unread, unread, Spells}
use Rattle.list_views.specs.Results.{IsDue}
use Rattle.class_pool.specs.Reading.{is_memory}
use Rattle.class_pool.proofs.Fields.{done}
use Rattle.class_pool.proofs.PoolLaws.{pool_written}

-- the text of entries, and nothing behind it
whole : (text : List ℕ) (es : List PoolEntry) → text ≡ pool_bytes es → pool_bytes es ++ [] ≡ text
whole text es same = append-nil (pool_bytes es) ∙ sym same

refuses : {Y : Type 0} (f : PoolFault) (y : Y) → (f ≡ Memory → ⊥) → IsDue is_memory f (done y) → ⊥
refuses Memory y other h = other refl
refuses _ y other h = cc

pub no_pool_from_fault : (text : List ℕ) (es : List PoolEntry) (f : PoolFault) → text ≡ pool_bytes es → (f ≡ Memory → ⊥)
    → ((entries : List PoolEntry) (rest : Unread) → Spells (unread text 0) entries rest
    → IsDue is_memory f (done {A = List PoolEntry × Unread} (entries, rest))) → IsPool es → ⊥
no_pool_from_fault text es f same other only pool =
    let v : Unread = record { at = 0 + length (pool_bytes es); bytes = [] } in
    let s : Spells (unread text 0) es v = subst (λ (bytes : List ℕ). Spells (record { at = 0; bytes = bytes }) es v)
    (whole text es same) (pool_written 0 es [] pool) in
    refuses f (es, v) other (only es v s)
