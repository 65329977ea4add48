-- The thrown id, where there is one.
use Rattle.std.proofs.Common.{◌≡◌, ◌↔◌, ◌∙◌, ℕ, Option, Some, sym, subst}
use Rattle.jvm_values.proofs.Options.{some_is}

pub of_thrown : (P : ℕ → Type 0) (Q : Type 0) (thrown : Option ℕ) (id : ℕ) → thrown ≡ Some id → Q ↔ P id
    → Q ↔ ((other : ℕ) → thrown ≡ Some other → P other)
of_thrown P Q thrown id is e = ((λ q other f. subst P (some_is (sym is ∙ f)) (e.0 q)), (λ all. e.1 (all id is)))
