-- Reading tables by number.
use Rattle.std.proofs.Common.{◌≡◌, ℕ, zero, suc, ◌+◌, ◌<◌, List, [], ◌∷◌, ◌++◌, length, get_or, Some, sym, refl, ap, ◌∙◌, inl, inr}
use Rattle.std.proofs.Common.{arith, add-one, length-append}
use Rattle.std.specs.Prelude.{slice_get, position, map, filter_map}
use Rattle.std.specs.Borrow.{Bor}
use Rattle.std.specs.Option.{option_map_or}
use Rattle.std.proofs.lemmas.Option.{slice_get_read}
use Rattle.class_read.specs.Content.{ClassContent}
use Rattle.std.specs.Str.{bytes_eq}
use Rattle.std.proofs.lemmas.Bool.{cases_lt}
use Rattle.std.proofs.lemmas.List.{get_or_append_left}
use Rattle.std.proofs.Math.Seq.{get_or-append_seam}
use Rattle.class_world.specs.World.{World, class_of, interfaces_of}
use Rattle.class_world.specs.inner.Tables.{values_to, names_of}
use Rattle.code_forms.proofs.class_base.Maps.{position-map}
use Rattle.class_world.proofs.Maps.{filter_map_map}

pub values_more : {A : Type 0} (f : ℕ → A) (n : ℕ) → values_to f (n + 1) ≡ values_to f n ++ f n ∷ []
unfolding values_to
values_more f n = ap (values_to f) (add-one n)

pub length-values : {A : Type 0} (f : ℕ → A) (n : ℕ) → length (values_to f n) ≡ n
unfolding values_to
length-values f zero = refl
length-values f (suc n) = omega (arith, length-append (values_to f n) (f n ∷ []), length-values f n)

pub values_of_world : (world : World) (name : List ℕ) (names : List (List ℕ)) → names ≡ names_of world
    → position (bytes_eq name) names ≡ class_of world name
values_of_world world name names e = ap (position (bytes_eq name)) e ∙ position-map (bytes_eq name) (λ c. c.name) world

pub get_or-values : {A : Type 0} (f : ℕ → A) (n a : ℕ) (d : A) → a < n → get_or (values_to f n) a d ≡ f a
unfolding values_to
get_or-values f zero a d l = absurd (omega (arith, l))
get_or-values f (suc n) a d l = elim (cases_lt a n) [
  | inl k ↦ get_or_append_left (values_to f n) (f n ∷ []) d a (omega (arith, k, length-values f n)) ∙ get_or-values f n a d k
  | inr k ↦
      let s : a ≡ n = omega (arith, k, l) in
      let e : a ≡ length (values_to f n) = omega (arith, s, length-values f n) in
      ap (λ x. get_or (values_to f n ++ f n ∷ []) x d) e ∙ get_or-append_seam (values_to f n) (f n) [] d ∙ ap f (sym s)
]

-- the class that indexing reads
pub class_at : (world : World) (class : ℕ) (c : ClassContent) → class < length world → c ≡ get_or world class c
    → slice_get world class ≡ Some c
class_at world class c l e = slice_get_read world (length world) class c refl l e

pub interfaces_from : (world : World) (class : ℕ) (c : ClassContent) (names refs : List (Bor (List ℕ))) → class < length world
    → c ≡ get_or world class c → map (λ r. r.now) names ≡ c.interfaces → refs ≡ names
    → filter_map (λ r. class_of world r.now) refs ≡ interfaces_of world class
interfaces_from world class c names refs l e p q =
    ap (filter_map (λ r. class_of world r.now)) q
    ∙ sym (filter_map_map (class_of world) (λ r. r.now) names)
    ∙ ap (filter_map (class_of world)) p
    ∙ ap (λ o. option_map_or (λ x. filter_map (class_of world) x.interfaces) o []) (sym (class_at world class c l e))
