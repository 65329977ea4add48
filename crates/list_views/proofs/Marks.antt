-- Laws of lists of marks and of numbers, read with a default past their end.
use Rattle.std.proofs.Common.{replicate, get_or, zero, ℕ, suc, false, refl, ◌≡◌, sym, true, arith, inl, inr, ◌≢◌, ◌∙◌, length, set}
use Rattle.std.proofs.Common.{List, Bool, subst, ◌<◌, pos}
use Rattle.std.proofs.Math.ListN.{length-replicate}
use Rattle.std.proofs.lemmas.Bool.{cases_lt, false≢true, cases_eq}
use Rattle.std.proofs.lemmas.List.{get_or-replicate, get_or_past, get_or-set_other, get_or-set_same}

pub unmarked : (n x : ℕ) → get_or (replicate n false) x false ≡ false
unmarked zero x = refl
unmarked (suc n) zero = refl
unmarked (suc n) (suc x) = unmarked n x

pub none_marked : (n b : ℕ) → get_or (replicate n false) b false ≡ true → ⊥
none_marked n b e = elim (cases_lt b n) [
  | inl l ↦ false≢true (sym (get_or-replicate n b false false l) ∙ e)
  | inr l ↦ false≢true (sym (get_or_past (replicate n false) b false (omega (arith, l, length-replicate n false))) ∙ e)
]

pub mark_keeps : (marks : List Bool) (b x : ℕ) → get_or marks x false ≡ true → get_or (set marks b true) x false ≡ true
mark_keeps marks b x e = elim (cases_eq x b) as (λ o. get_or (set marks b true) x false ≡ true) [
  | inl s ↦
      let l : b < length marks = elim (cases_lt b (length marks)) as (λ o. b < length marks) [
        | inl k ↦ k
        | inr k ↦ absurd (false≢true (sym (get_or_past marks x false (omega (arith, k, s))) ∙ e))
      ] in
      subst (λ (y : ℕ). get_or (set marks b true) y false ≡ true) (sym s) (get_or-set_same marks b true false l)
  | inr d ↦ get_or-set_other marks b x true false d ∙ e
]

pub marked_within : (marks : List Bool) (x : ℕ) → get_or marks x false ≡ true → x < length marks
marked_within marks x e = elim (cases_lt x (length marks)) [
  | inl l ↦ l
  | inr l ↦ absurd (false≢true (sym (get_or_past marks x false l) ∙ e))
]

pub zero_at : (n x : ℕ) → get_or (replicate n (pos 0)) x (pos 0) ≡ pos 0
zero_at zero x = refl
zero_at (suc n) zero = refl
zero_at (suc n) (suc x) = zero_at n x
