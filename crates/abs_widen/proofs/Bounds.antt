-- Bounds that stand in order are an interval.
use Rattle.std.proofs.Common.{◌≡◌, ◌≤ℤ◌, ℤ, true, Option, Some, None, refl, sym, ap, subst, ◌∙◌, arith}
use Rattle.std.specs.Prelude.{IfSome, int_le}
use Rattle.std.proofs.lemmas.Bool.{cond-true}
use Rattle.std.proofs.lemmas.Int.{ints}
use Rattle.std.proofs.lemmas.Option.{none-some}
use Rattle.list_views.proofs.Orders.{int_le_from}
use Rattle.jvm_values.proofs.Options.{some_is}
use Rattle.lin_core.specs.Intervals.{Bounds, interval_of}

module _ (lo hi : ℤ) (made : Option Bounds) (is : made ≡ interval_of lo hi) (order : lo ≤ℤ hi) where
  there : made ≡ Some (record { lo = lo; hi = hi })
  there = is ∙ cond-true (int_le lo hi) (Some (record { lo = lo; hi = hi })) None (int_le_from lo hi order)

  pub wide_is : IfSome made (λ wide. (wide.lo ≡ lo) × (wide.hi ≡ hi))
  wide_is = subst (λ (o : Option Bounds). IfSome o (λ wide. (wide.lo ≡ lo) × (wide.hi ≡ hi))) (sym there) (refl, refl)

  pub wide_there : made ≡ None → ⊥
  wide_there none = none-some (record { lo = lo; hi = hi }) (sym none ∙ there)

  pub ends_of : (wide : Bounds) → made ≡ Some wide → (wide.lo ≡ lo) × (wide.hi ≡ hi)
  ends_of wide e = let same = some_is (sym there ∙ e) in (sym (ap (λ (w : Bounds). w.lo) same), sym (ap (λ (w : Bounds). w.hi) same))
