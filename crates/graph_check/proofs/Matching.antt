-- The first clause of an instance that fails is one, with one id.
use Rattle.std.proofs.Common.{◌≡◌, ◌∙◌, ℕ, zero, suc, Bool, List, inl, inr, refl, sym, ap, subst}
use Rattle.list_views.proofs.Orders.{neither_below}
use Rattle.jvm_values.specs.declared.types.Ty.{Ty}
use Rattle.abs_cells.specs.AbstractStates.{AbstractState}
use Rattle.abs_match.specs.declared.clauses.MatchFault.{MatchFault}
use Rattle.abs_reach.specs.Instances.{Clause, whole_map, positions, mode, cells, aliases, sharing, shapes, number_of, HoldsClause}
use Rattle.abs_reach.specs.Instances.{FailsAt, IsFirstFault}

abbrev clause_of : ℕ → Clause
clause_of zero = whole_map
clause_of (suc zero) = positions
clause_of (suc (suc zero)) = mode
clause_of (suc (suc (suc zero))) = cells
clause_of (suc (suc (suc (suc zero)))) = aliases
clause_of (suc (suc (suc (suc (suc zero))))) = sharing
clause_of (suc (suc (suc (suc (suc (suc n)))))) = shapes

back : (clause : Clause) → clause_of (number_of clause) ≡ clause
back whole_map = refl
back positions = refl
back mode = refl
back cells = refl
back aliases = refl
back sharing = refl
back shapes = refl

module _ (sub : Ty → Ty → Bool) (state target : AbstractState) (entries : List (ℕ × ℕ)) where
  holds_or_fails : (clause : Clause) (id : ℕ) → HoldsClause sub state target entries clause
      → FailsAt sub state target entries clause id → ⊥
  holds_or_fails clause id holds (inl f) = f.0 holds.0
  holds_or_fails clause id holds (inr f) = f.fails (holds.1 id)

  id_one : (clause : Clause) (i j : ℕ) → FailsAt sub state target entries clause i → FailsAt sub state target entries clause j → i ≡ j
  id_one clause i j (inl f) (inl g) = f.1 ∙ sym g.1
  id_one clause i j (inl f) (inr g) = absurd (f.0 g.agrees)
  id_one clause i j (inr f) (inl g) = absurd (g.0 f.agrees)
  id_one clause i j (inr f) (inr g) = neither_below i j (λ l. f.fails (g.least i l)) (λ l. g.fails (f.least j l))

  clause_one : (n m i j : ℕ) (f : IsFirstFault sub state target entries n i) (g : IsFirstFault sub state target entries m j)
      → f.clause ≡ g.clause
  clause_one n m i j f g =
      let e = neither_below (number_of f.clause) (number_of g.clause)
      (λ l. holds_or_fails f.clause i (g.earlier f.clause l) f.fails)
      (λ l. holds_or_fails g.clause j (f.earlier g.clause l) g.fails) in
      sym (back f.clause) ∙ (ap clause_of e ∙ back g.clause)

  pub match_one : (a b : MatchFault) → IsFirstFault sub state target entries a.clause a.id
      → IsFirstFault sub state target entries b.clause b.id → a ≡ b
  match_one a b f g =
      let same = clause_one a.clause b.clause a.id b.id f g in
      let clause : a.clause ≡ b.clause = f.is ∙ (ap number_of same ∙ sym g.is) in
      let id : a.id ≡ b.id = id_one g.clause a.id b.id
      (subst (λ (c : Clause). FailsAt sub state target entries c a.id) same f.fails) g.fails in
      λ i. record { clause = clause i; id = id i }
