-- The rows of marks are the test of what is above.
use Rattle.std.proofs.Common.{◌≡◌, ◌||◌, ℕ, zero, suc, ◌<◌, ◌≤◌, Bool, false, eqb, List, [], ◌++◌, length, get_or, sym, refl, ap}
use Rattle.std.proofs.Common.{ap₂, ◌∙◌, subst, inl, inr, arith}
use Rattle.std.specs.List.{list_any}
use Rattle.std.proofs.lemmas.Bool.{cases_lt}
use Rattle.std.proofs.lemmas.List.{get_or_past, same_lists, get_or_default}
use Rattle.class_world.specs.World.{World, supers_of, is_above, leads_up, listed}
use Rattle.class_world.specs.lemmas.Walks.{IsIn, IsIn-from_any, any-from_IsIn}
use Rattle.class_world.specs.inner.Once.{supers_once}
use Rattle.class_world.proofs.Indexes.{no_super, no_interfaces}
use Rattle.class_world.proofs.Onces.{any_cong, any_supers, leads_once}
use Rattle.class_world.specs.inner.Marking.{listed_at, IsRow, IsClosed}
use Rattle.class_world.specs.inner.Tables.{values_to}
use Rattle.class_world.proofs.Tables.{length-values, get_or-values}
use Rattle.class_world.specs.lemmas.Linked.{supers_closed}
use Rattle.class_world.proofs.Marking.{In-get}

leads_cong : (f g : ℕ → List ℕ) → ((a : ℕ) → f a ≡ g a) → (k a b : ℕ) → leads_up f k a b ≡ leads_up g k a b
leads_cong f g h zero a b = refl
leads_cong f g h (suc k) a b =
    any_cong (λ c. eqb b c || leads_up f k c b) (λ c. eqb b c || leads_up g k c b) (f a)
    (λ c. ap (λ x. eqb b c || x) (leads_cong f g h k c b))
    ∙ ap (list_any (λ c. eqb b c || leads_up g k c b)) (h a)

-- past the end no class extends anything
none_past : (world : World) (a : ℕ) → length world ≤ a → [] ≡ supers_once world a
unfolding supers_once
none_past world a l = ap₂ (λ o xs. listed o ++ xs) (no_super world a l) (no_interfaces world a l)

over_once : (world : World) (a x : ℕ) → IsIn x (supers_once world a) → IsIn x (supers_of world a)
over_once world a x i = IsIn-from_any x (supers_of world a) (sym (any_supers world a (eqb x)) ∙ any-from_IsIn x (supers_once world a) i)

pub listed_is : (world : World) (supers : List (List ℕ)) → supers ≡ values_to (supers_once world) (length world) → (a : ℕ)
    → listed_at supers a ≡ supers_once world a
listed_is world supers e a = elim (cases_lt a (length world)) [
  | inl l ↦ ap (λ t. get_or t a []) e ∙ get_or-values (supers_once world) (length world) a [] l
  | inr l ↦
      let n = length-values (supers_once world) (length world) in
      let m : length supers ≡ length world = ap length e ∙ n in
      get_or_past supers a [] (omega (arith, l, m)) ∙ none_past world a l
]

pub table_closed : (world : World) (supers : List (List ℕ)) → supers ≡ values_to (supers_once world) (length world) → IsClosed supers
table_closed world supers e = record {
  within = λ a k l.
      let m : length supers ≡ length world = ap length e ∙ length-values (supers_once world) (length world) in
      let at = listed_is world supers e a in
      let i = In-get (supers_once world a) k (subst (λ (xs : List ℕ). k < length xs) at l) in
      subst (λ (xs : List ℕ). get_or xs k 0 < length supers) (sym at)
      (omega (arith, m, supers_closed world a (get_or (supers_once world a) k 0) (over_once world a _ i)));
}

pub row_is : (world : World) (supers : List (List ℕ)) (class : ℕ) (row : List Bool)
    → supers ≡ values_to (supers_once world) (length world) → IsRow supers class row
    → row ≡ values_to (is_above world class) (length world)
unfolding is_above
row_is world supers class row e r =
    let m : length supers ≡ length world = ap length e ∙ length-values (supers_once world) (length world) in
    let n = length-values (leads_up (supers_of world) (length world) class) (length world) in
    same_lists row (values_to (leads_up (supers_of world) (length world) class) (length world)) (omega (arith, r.len, m, n))
    (λ k d l.
    let here : k < length world = omega (arith, l, r.len, m) in
    get_or_default row k d false l
    ∙ r.marked k (omega (arith, here, m))
    ∙ leads_cong (listed_at supers) (supers_once world) (listed_is world supers e) (length supers) class k
    ∙ leads_once (supers_once world) (supers_of world) (any_supers world) (length supers) class k
    ∙ ap (λ x. leads_up (supers_of world) x class k) m
    ∙ sym (get_or-values (leads_up (supers_of world) (length world) class) (length world) k d here))
