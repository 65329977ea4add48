-- The size of a code with its attributes.
use Rattle.std.proofs.Common.{◌≡◌, ℕ, ◌+◌, ◌-◌, ◌*◌, ◌^◌, ◌<◌, List, length, suc, inl, inr, sym, ◌∙◌, arith}
use Rattle.std.proofs.lemmas.Bool.Decides.{leb_tells}
use Rattle.std.specs.Prelude.{nat_le, nat_lt}
use Rattle.class_asm.specs.declared.asm_codes.code.MethodCode.{MethodCode}
use Rattle.class_asm.specs.Classes.{attributes_size, code_fits}

left_over : (b s : ℕ) → b < 2 ^ 32 → nat_le s (2 ^ 32 - 1 - b) ≡ nat_lt (b + s) (2 ^ 32)
left_over b s h = elim (leb_tells s (2 ^ 32 - 1 - b)) [
  | inl p ↦ elim (leb_tells (suc (b + s)) (2 ^ 32)) [
    | inl q ↦ p.0 ∙ sym q.0
    | inr q ↦ absurd (omega (arith, h, p.1, q.1))
  ]
  | inr p ↦ elim (leb_tells (suc (b + s)) (2 ^ 32)) [
    | inl q ↦ absurd (omega (arith, h, p.1, q.1))
    | inr q ↦ p.0 ∙ sym q.0
  ]
]

pub fits_left : (code : MethodCode) (attributes : List (ℕ × List ℕ)) → length code.bytes < 2 ^ 16 → length code.table < 2 ^ 16
    → nat_le (attributes_size attributes) (0xffffffff - (12 + length code.bytes + 8 * length code.table)) ≡ code_fits code attributes
fits_left code attributes b t = left_over (12 + length code.bytes + 8 * length code.table) (attributes_size attributes)
    (omega (arith, b, t))
