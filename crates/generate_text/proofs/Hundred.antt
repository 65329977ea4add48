-- The listings of 1 to 100 blocks say classes: each block passes its test, which is computed.
use Rattle.std.proofs.Common.{◌≡◌, ◌≤◌, ◌<◌, ℕ, true, List, [], Ok, refl, subst, arith, inl, inr}
use Rattle.std.specs.Fmt.{digits}
use Rattle.asm_lines.specs.Operations.{all_names}
use Rattle.class_asm.specs.asm_pool.Pools.{count_faults}
use Rattle.class_asm.specs.Classes.{assembled}
use Rattle.generate_text.specs.Listings.{listing_of}
use Rattle.generate_text.proofs.Readers.{names_and_types, code_lines}
use Rattle.generate_text.proofs.LawBlocks.{tests, same_or_less}
use Rattle.generate_text.proofs.Assembles.{firsts_from, pool_from, assembles}

one_passes : tests all_names (pool_from 1 1) (firsts_from 1 1) 1 0 4 [] 0 ≡ true
unfolding digits names_and_types code_lines
one_passes = refl

one_counted : count_faults 1 (firsts_from 1 1) ≡ []
unfolding digits names_and_types code_lines
one_counted = refl

all_pass : tests all_names (pool_from 2 100) (firsts_from 2 100) 100 0 4 [] 0 ≡ true
unfolding digits names_and_types code_lines
all_pass = refl

all_counted : count_faults 1 (firsts_from 2 100) ≡ []
unfolding digits names_and_types code_lines
all_counted = refl

abbrev Says : ℕ → Type 0
Says n = (class : List ℕ) × (assembled (listing_of n) ≡ Ok class)

pub listing_assembles : (n : ℕ) → 0 < n → n ≤ 100 → Says n
listing_assembles n some few = elim (same_or_less 1 n some) [
  | inl same ↦ subst Says same (assembles 1 1 one_passes one_counted 1 (omega arith) (omega arith))
  | inr more ↦ assembles 2 100 all_pass all_counted n more few
]
