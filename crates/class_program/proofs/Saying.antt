-- Faults of what is said of the items of a list, one after the other.
use Rattle.std.proofs.Common.{◌≡◌, ◌++◌, ℕ, ◌+◌, ◌<◌, List, [], ◌∷◌, length, get_or, take, drop, Ok, Err, sym, refl, ap, ◌∙◌, subst, arith}
use Rattle.std.specs.Prelude.{Result, IsErrAnd}
use Rattle.list_views.specs.Results.{each, IsDue}
use Rattle.list_views.proofs.Steps.{each_broken, at_item, handed_on}
use Rattle.class_world.specs.declared.fault.LinkFault.{LinkFault}
use Rattle.class_program.specs.Said.{Said, is_memory, Says}

-- a fault that is answered
pub answered : {X Y : Type 0} (view : X → Y) (r : Result X LinkFault) (fault : LinkFault) (said : Said Y)
    → IsErrAnd r (λ e. e ≡ fault) → IsDue is_memory fault said → Says view r said
answered view (Ok value) fault said h due = absurd h
answered view (Err e) fault said h due = subst (λ (f : LinkFault). IsDue is_memory f said) (sym h) due

-- a fault of an item is one of the list
pub first_broken : {A B : Type 0} (said : A → Said B) (all xs rest : List A) (x : A) (ys : List B) (fault : LinkFault)
    → all ≡ xs ++ x ∷ rest → each said xs ≡ Ok ys → IsDue is_memory fault (said x) → IsDue is_memory fault (each said all)
first_broken said all xs rest x ys fault a e due =
    handed_on is_memory fault (said x) (each said all) (λ f. ap (each said) a ∙ each_broken said xs rest x ys fault e f) due

pub fault_of_item : {A B : Type 0} (said : A → Said B) (xs : List A) (i : ℕ) (d : A) (ys : List B) (fault : LinkFault)
    → i < length xs → each said (take i xs) ≡ Ok ys → IsDue is_memory fault (said (get_or xs i d)) → IsDue is_memory fault (each said xs)
fault_of_item said xs i d ys fault l h due = first_broken said xs (take i xs) (drop (i + 1) xs) (get_or xs i d) ys fault
    (at_item xs i d l) h due
