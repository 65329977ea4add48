-- The instruction at a place of a closed program is good.
use Rattle.std.proofs.Common.{◌≡◌, ℕ, ◌+◌, ◌≤◌, Bool, true, false, cond, eqb, leb, List, [], ◌∷◌, Option, Some, None, refl, ap, ◌∙◌}
use Rattle.std.proofs.Common.{subst, arith}
use Rattle.std.specs.Prelude.{slice_get, option_and_then, IfSome}
use Rattle.std.specs.Option.{is_some}
use Rattle.std.proofs.lemmas.Bool.{and_parts, leb-true, eq-eqb, ne_eqb}
use Rattle.std.specs.List.{AllByRecursion}
use Rattle.std.proofs.lemmas.Option.{same_Some}
use Rattle.class_program.specs.declared.op.Op.{Op}
use Rattle.class_program.specs.declared.program.Method.{Method}
use Rattle.class_program.specs.Instructions.{first_place, instruction_at, rises_from, is_placed}
use Rattle.class_program.specs.Programs.{Program, insn_at}
use Rattle.class_program.specs.Good.{IsGoodOp, IsGoodMethod, IsGood, IsGoodAt}
use Rattle.class_program.proofs.Got.{all_at}
use Rattle.class_program.proofs.Places.{placed_rises}

-- what stands at some place has what all of the instructions have
at_has : {A : Type 0} (P : A → Type 0) (xs : List (ℕ × A)) (pc : ℕ) (x : A × Option ℕ) → AllByRecursion (λ y. P y.1) xs
    → instruction_at xs pc ≡ Some x → P x.0
at_has P [] pc x h e = cc
at_has {A} P (y ∷ ys) pc x h e = go (eqb y.0 pc) e (at_has P ys pc x h.1)
  where
    go : (b : Bool) → cond b (Some (y.1, first_place ys)) (instruction_at ys pc) ≡ Some x → (instruction_at ys pc ≡ Some x → P x.0) → P x.0
    go true f rest = let same : y.1 ≡ x.0 = cc in subst P same h.0
    go false f rest = rest f

-- an instruction stands at the first place
first_there : {A : Type 0} (xs : List (ℕ × A)) → IfSome (first_place xs) (λ place. is_some (instruction_at xs place) ≡ true)
first_there [] = tt
first_there {A} (x ∷ xs) = ap (λ b. is_some (cond b (Some (x.1, first_place xs)) (instruction_at xs x.0))) (eq-eqb x.0 x.0 refl)

-- the first place is no lower than the bound
first_above : {A : Type 0} (p : ℕ) (xs : List (ℕ × A)) → rises_from p xs ≡ true → IfSome (first_place xs) (λ place. p ≤ place)
first_above p [] e = tt
first_above p (x ∷ xs) e = leb-true p x.0 (and_parts (leb p x.0) (rises_from (x.0 + 1) xs) e).0

-- an instruction stands at the next place
next_in : {A : Type 0} (p : ℕ) (xs : List (ℕ × A)) (pc : ℕ) (op : A) (next : Option ℕ) → rises_from p xs ≡ true
    → instruction_at xs pc ≡ Some (op, next) → IfSome next (λ place. (p ≤ place) × (is_some (instruction_at xs place) ≡ true))
next_in p [] pc op next r e = cc
next_in {A} p (x ∷ xs) pc op next r e = go (eqb x.0 pc) e
    (next_in (x.0 + 1) xs pc op next (and_parts (leb p x.0) (rises_from (x.0 + 1) xs) r).1)
  where
    parts : (leb p x.0 ≡ true) × (rises_from (x.0 + 1) xs ≡ true)
    parts = and_parts (leb p x.0) (rises_from (x.0 + 1) xs) r

    low : p ≤ x.0
    low = leb-true p x.0 parts.0

    -- a place behind the first instruction
    behind : (place : ℕ) → x.0 + 1 ≤ place → is_some (instruction_at xs place) ≡ true
        → (p ≤ place) × (is_some (instruction_at (x ∷ xs) place) ≡ true)
    behind place l s = (
      omega (arith, low, l),
      ap (λ b. is_some (cond b (Some (x.1, first_place xs)) (instruction_at xs place))) (ne_eqb x.0 place (λ q. omega (arith, q, l))) ∙ s,
    )

    lift : (o : Option ℕ) → IfSome o (λ place. x.0 + 1 ≤ place) → IfSome o (λ place. is_some (instruction_at xs place) ≡ true)
        → IfSome o (λ place. (p ≤ place) × (is_some (instruction_at (x ∷ xs) place) ≡ true))
    lift None a s = tt
    lift (Some place) a s = behind place a s

    both : (o : Option ℕ) → IfSome o (λ place. (x.0 + 1 ≤ place) × (is_some (instruction_at xs place) ≡ true))
        → IfSome o (λ place. (p ≤ place) × (is_some (instruction_at (x ∷ xs) place) ≡ true))
    both None h = tt
    both (Some place) h = behind place h.0 h.1

    go : (b : Bool) → cond b (Some (x.1, first_place xs)) (instruction_at xs pc) ≡ Some (op, next)
        → (instruction_at xs pc ≡ Some (op, next)
        → IfSome next (λ place. (x.0 + 1 ≤ place) × (is_some (instruction_at xs place) ≡ true)))
        → IfSome next (λ place. (p ≤ place) × (is_some (instruction_at (x ∷ xs) place) ≡ true))
    go true f rest =
        let same : first_place xs ≡ next = ap (λ (z : A × Option ℕ). z.1) (same_Some (x.1, first_place xs) (op, next) f) in
        subst (λ (o : Option ℕ). IfSome o (λ place. (p ≤ place) × (is_some (instruction_at (x ∷ xs) place) ≡ true))) same
        (lift (first_place xs) (first_above (x.0 + 1) xs parts.1) (first_there xs))
    go false f rest = both next (rest f)

next_place : {A : Type 0} (xs : List (ℕ × A)) (pc : ℕ) (op : A) (next : Option ℕ) → is_placed xs ≡ true
    → instruction_at xs pc ≡ Some (op, next) → IfSome next (λ place. is_some (instruction_at xs place) ≡ true)
next_place xs pc op next placed e = right next (next_in 0 xs pc op next (placed_rises xs placed) e)
  where
    right : (o : Option ℕ) → IfSome o (λ place. (0 ≤ place) × (is_some (instruction_at xs place) ≡ true))
        → IfSome o (λ place. is_some (instruction_at xs place) ≡ true)
    right None h = tt
    right (Some place) h = h.1

pub good_at : (p : Program) → IsGood p → (number pc : ℕ) (op : Op) (next : Option ℕ) → insn_at p.methods number pc ≡ Some (op, next)
    → IsGoodAt p number pc op next
unfolding insn_at
good_at p good number pc op next e = go (slice_get p.methods number) refl e
  where
    go : (o : Option Method) → slice_get p.methods number ≡ o → option_and_then (λ m. instruction_at m.insns pc) o ≡ Some (op, next)
        → IsGoodAt p number pc op next
    go None s f = cc
    go (Some m) s f =
        let h = all_at (IsGoodMethod p) p.methods number m good.methods s in
        record {
          method = m;
          there = s;
          at = f;
          good = at_has (IsGoodOp p m) m.insns pc (op, next) h.insns f;
          next_there = next_place m.insns pc op next h.placed f;
        }
