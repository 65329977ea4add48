-- What a call that read a pool answers.
use Rattle.std.proofs.Common.{ℕ, List, Result, Ok, Err}
use Rattle.std.specs.Prelude.{IfOk}
use Rattle.class_pool.specs.declared.entry.PoolEntry.{PoolEntry}
use Rattle.class_pool.specs.declared.fault.PoolFault.{PoolFault}
use Rattle.class_pool.specs.Text.{Unread, unread, Spells}
use Rattle.class_pool.specs.Reading.{Gives, pool_at}
use Rattle.class_pool.proofs.Fields.{IsBytes, IsBytes-drop}
use Rattle.class_pool.proofs.PoolLaws.{pool_found, pool_again}

abbrev pub Answer : Type 0
Answer = Result (List PoolEntry × ℕ) PoolFault

pub is_found : (bytes : List ℕ) (from : ℕ) (r : Answer) → IsBytes bytes
    → Gives (λ x. (x.0, unread bytes x.1)) r (pool_at (unread bytes from))
    → IfOk r (λ x. Spells (unread bytes from) x.0 (unread bytes x.1))
is_found bytes from (Ok x) fits given = pool_found (unread bytes from) x.0 (unread bytes x.1) (IsBytes-drop from bytes fits) given
is_found bytes from (Err f) fits given = tt

-- what is spelled is due
pub is_only : (bytes : List ℕ) (from : ℕ) (es : List PoolEntry) (rest : Unread) (r : Answer)
    → Gives (λ x. (x.0, unread bytes x.1)) r (pool_at (unread bytes from))
    → Spells (unread bytes from) es rest → Gives {Y = List PoolEntry × Unread} (λ x. (x.0, unread bytes x.1)) r (Ok (es, rest))
is_only bytes from es rest r given spelled = rw (← pool_again (unread bytes from) es rest spelled) given
