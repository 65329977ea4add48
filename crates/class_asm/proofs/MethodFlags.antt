-- A method's flags, public but for `private`, say whether it has code, and so do the sizes of its line.
use Rattle.std.proofs.Common.{◌≡◌, ℕ, zero, suc, ◌<◌, ◌^◌, Bool, true, false, cond, not, ◌&&◌, eqb, is_some, refl, subst, ◌∙◌}
use Rattle.std.proofs.Common.{arith, inl, inr}
use Rattle.std.specs.Prelude.{bit_and, bit_or}
use Rattle.std.proofs.lemmas.Bool.{cases_lt, and_parts}
use Rattle.std.proofs.lemmas.Nat.{or_lt}
use Rattle.class_read.specs.Rules.{has_code}
use Rattle.asm_lines.specs.declared.statement.MethodLine.{MethodLine}
use Rattle.asm_lines.proofs.PlainWords.{GoodHead}
use Rattle.class_asm.specs.Rules.{method_flags}

abbrev flags_in : ℕ → ℕ
flags_in flags = cond (eqb (bit_and flags 0x0002) 0) (bit_or flags 0x0001) flags

abbrev same : Bool → Bool → Bool
same true b = b
same false b = not b

abbrev agrees : ℕ → Bool
agrees flags = same (has_code (flags_in flags)) (eqb (bit_and flags 0x0500) 0)

abbrev all_agree : ℕ → Bool
all_agree zero = true
all_agree (suc n) = agrees n && all_agree n

each_agrees : (m n : ℕ) → all_agree m ≡ true → n < m → agrees n ≡ true
each_agrees zero n h l = absurd (omega (arith, l))
each_agrees (suc m) n h l =
    let p = and_parts (agrees m) (all_agree m) h in
    elim (cases_lt n m) [
      | inl less ↦ each_agrees m n p.1 less
      | inr more ↦
          let e : m ≡ n = omega (arith, l, more) in
          subst (λ (k : ℕ). agrees k ≡ true) e p.0
    ]

same_is : (a b : Bool) → same a b ≡ true → a ≡ b
same_is true true h = refl
same_is false false h = refl
same_is true false h = absurd cc
same_is false true h = absurd cc

pub has_sizes : (head : MethodLine) → GoodHead head → has_code (method_flags head) ≡ is_some head.sizes
has_sizes head good = same_is (has_code (flags_in head.flags)) (eqb (bit_and head.flags 0x0500) 0)
    (each_agrees (2 ^ 11) head.flags refl good.flags) ∙ good.sizes

flags_fit : (flags : ℕ) (b : Bool) → flags < 2 ^ 11 → cond b (bit_or flags 0x0001) flags < 2 ^ 16
flags_fit flags true h = let l = or_lt 11 flags 1 h (omega arith) in omega (arith, l)
flags_fit flags false h = omega (arith, h)

pub flags_small : (head : MethodLine) → GoodHead head → method_flags head < 2 ^ 16
flags_small head good = flags_fit head.flags (eqb (bit_and head.flags 0x0002) 0) good.flags
