-- Paths put together.
use Rattle.std.proofs.Common.{◌≡◌, ℕ, List, [], ◌∷◌, ◌++◌, Option, Some, None, refl, sym, ap, ◌∙◌}
use Rattle.std.specs.Option.{option_and_then}
use Rattle.jvm_values.specs.Paths.{Steps, follow, Reaches}

pub here : (steps : Steps) (a b : ℕ) → a ≡ b → Reaches steps a b
here steps a b e = record { path = []; leads = ap Some e }

pub one_more : (steps : Steps) (a i c b : ℕ) → steps a i ≡ Some c → Reaches steps c b → Reaches steps a b
one_more steps a i c b e r = record { path = i ∷ r.path; leads = ap (option_and_then (follow steps r.path)) e ∙ r.leads }

and_then_after : (f g h : ℕ → Option ℕ) → ((c : ℕ) → h c ≡ option_and_then g (f c)) → (x : Option ℕ)
    → option_and_then h x ≡ option_and_then g (option_and_then f x)
and_then_after f g h e None = refl
and_then_after f g h e (Some c) = e c

pub follow-append : (steps : Steps) (p q : List ℕ) (a : ℕ) → follow steps (p ++ q) a ≡ option_and_then (follow steps q) (follow steps p a)
follow-append steps [] q a = refl
follow-append steps (i ∷ p) q a = and_then_after (follow steps p) (follow steps q) (follow steps (p ++ q)) (follow-append steps p q)
    (steps a i)

pub joined : (steps : Steps) (p q : List ℕ) (a b c : ℕ) → follow steps p a ≡ Some b → follow steps q b ≡ Some c
    → follow steps (p ++ q) a ≡ Some c
joined steps p q a b c e f = follow-append steps p q a ∙ ap (option_and_then (follow steps q)) e ∙ f

pub onward : (steps : Steps) (a b c : ℕ) → Reaches steps a b → Reaches steps b c → Reaches steps a c
onward steps a b c r s = record { path = r.path ++ s.path; leads = joined steps r.path s.path a b c r.leads s.leads }

-- what a path has after a path that it begins with
pub rest_of : (steps : Steps) (p q : List ℕ) (a b c : ℕ) → follow steps p a ≡ Some b → follow steps (p ++ q) a ≡ Some c
    → follow steps q b ≡ Some c
rest_of steps p q a b c e f = sym (ap (option_and_then (follow steps q)) e) ∙ sym (follow-append steps p q a) ∙ f
