-- Pairs of all positions of two states, and those that cells name.
use Rattle.std.proofs.Common.{◌≡◌, ℕ, suc, ◌+◌, ◌≤◌, Bool, true, false, List, [], ◌∷◌, ◌++◌, length, map, reverse, Option, Some}
use Rattle.std.proofs.Common.{None, refl, sym, ap, subst, ◌∙◌, arith}
use Rattle.std.specs.Bool.{MatchBool}
use Rattle.std.specs.List.{list_all, flat_map}
use Rattle.std.proofs.lemmas.List.{length-map}
use Rattle.std.proofs.lemmas.Bool.{MatchBool-at_true, MatchBool-at_false}
use Rattle.std.proofs.lemmas.Option.{none-some}
use Rattle.jvm_values.proofs.Options.{some_is}
use Rattle.jvm_values.specs.declared.types.Kind.{Kind}
use Rattle.jvm_values.specs.declared.types.Ty.{Ty}
use Rattle.jvm_values.specs.declared.shape.Shape.{Shape}
use Rattle.abs_cells.specs.declared.cells.Cell.{Cell}
use Rattle.abs_cells.specs.declared.cells.Cell.TheVariants.{Obj, Nums, Refs}
use Rattle.abs_cells.specs.AbstractStates.{AbstractFrame, AbstractState}
use Rattle.abs_cells.specs.Cells.{ids_in}
use Rattle.abs_cells.specs.Sound.{given_ids, ids_of_frame}
use Rattle.abs_reach.specs.Instances.{image_in, head_of}
use Rattle.abs_reach.specs.Reached as reached
use Rattle.abs_match.specs.inner.Forced.{ArePut, NoneDoes, stacked, fields_of, numbers_length, array_length, place_asks, frames_ask}
use Rattle.abs_match.specs.inner.Forced.{state_asks, fields_ask, cell_asks}
use Rattle.abs_match.proofs.Forcing.{none_put, put_more, put_both, none_more, positions_flat, all_put, all_few}
use Rattle.abs_match.proofs.Leasts.{lengths_agree}
use Rattle.abs_match.proofs.Testing.{heads_from, heads_of, places_from}

module _ (sub : Ty → Ty → Bool) (state target : AbstractState) where
  frames_less : (entries : List (ℕ × ℕ)) → state_asks sub state target entries
      → frames_ask (reverse target.frames) (reverse state.frames) entries
  frames_less entries h id =
      places_from sub state target entries
      (lengths_agree head_of head_of (reverse state.frames) (reverse target.frames)
      (heads_from state.frames target.frames h.0.0)) id (h.0.1 id)

  frames_less_of : (theirs ours : List AbstractFrame) → theirs ≡ reverse target.frames → ours ≡ reverse state.frames
      → (entries : List (ℕ × ℕ)) → state_asks sub state target entries → frames_ask theirs ours entries
  frames_less_of theirs ours e f entries h =
      subst (λ (ts : List AbstractFrame). frames_ask ts ours entries) (sym e)
      (subst (λ (os : List AbstractFrame). frames_ask (reverse target.frames) os entries) (sym f) (frames_less entries h))

  thrown_less : (thrown mine : Option ℕ) → thrown ≡ target.throwing → mine ≡ state.throwing → (entries : List (ℕ × ℕ))
      → state_asks sub state target entries → place_asks thrown mine entries
  thrown_less thrown mine e f entries h =
      subst (λ (t : Option ℕ). place_asks t mine entries) (sym e)
      (subst (λ (o : Option ℕ). place_asks target.throwing o entries) (sym f) (λ id is. h.1.1 id is))

  pub heads_differ : (ours theirs : List AbstractFrame) → ours ≡ reverse state.frames → theirs ≡ reverse target.frames
      → (map head_of ours ≡ map head_of theirs → ⊥) → NoneDoes (state_asks sub state target)
  heads_differ ours theirs e f n entries h = n (heads_of ours theirs (reverse state.frames) (reverse target.frames) (sym e) (sym f)
      (heads_from state.frames target.frames h.0.0))

  pub frames_refused : (theirs ours : List AbstractFrame) (r : Bool) (old new : List (ℕ × ℕ)) → theirs ≡ reverse target.frames
      → ours ≡ reverse state.frames → r ≡ false
      → MatchBool r (ArePut (frames_ask theirs ours) (flat_map ids_of_frame theirs) old new) (NoneDoes (frames_ask theirs ours))
      → NoneDoes (state_asks sub state target)
  frames_refused theirs ours r old new e f is h =
      none_more (frames_ask theirs ours) (state_asks sub state target) (frames_less_of theirs ours e f)
      (MatchBool-at_false (ArePut (frames_ask theirs ours) (flat_map ids_of_frame theirs) old new)
      (NoneDoes (frames_ask theirs ours)) is h)

  pub positions_put : (theirs ours : List AbstractFrame) (thrown mine : Option ℕ) (s r : Bool) (old mid new : List (ℕ × ℕ))
      → theirs ≡ reverse target.frames → ours ≡ reverse state.frames → thrown ≡ target.throwing → mine ≡ state.throwing → s ≡ true
      → MatchBool s (ArePut (frames_ask theirs ours) (flat_map ids_of_frame theirs) old mid) (NoneDoes (frames_ask theirs ours))
      → MatchBool r (ArePut (place_asks thrown mine) (given_ids (thrown ∷ [])) mid new) (NoneDoes (place_asks thrown mine))
      → MatchBool r (ArePut (state_asks sub state target) (reached.positions target) old new) (NoneDoes (state_asks sub state target))
  positions_put theirs ours thrown mine s true old mid new e f g h is p q =
      put_more (state_asks sub state target) (state_asks sub state target) (flat_map ids_of_frame theirs ++ given_ids (thrown ∷ []))
      (reached.positions target) old new (λ entries a. a) same
      (put_both (frames_ask theirs ours) (place_asks thrown mine) (state_asks sub state target) (flat_map ids_of_frame theirs)
      (given_ids (thrown ∷ [])) old mid new (frames_less_of theirs ours e f) (thrown_less thrown mine g h)
      (MatchBool-at_true (ArePut (frames_ask theirs ours) (flat_map ids_of_frame theirs) old mid)
      (NoneDoes (frames_ask theirs ours)) is p) q)
    where
      same : (test : ℕ → Bool)
          → list_all test (reached.positions target) ≡ list_all test (flat_map ids_of_frame theirs ++ given_ids (thrown ∷ []))
      same test =
          positions_flat target.frames target.throwing test
          ∙ ap (λ (fs : List AbstractFrame). list_all test (flat_map ids_of_frame fs ++ given_ids (target.throwing ∷ []))) (sym e)
          ∙ ap (λ (t : Option ℕ). list_all test (flat_map ids_of_frame theirs ++ given_ids (t ∷ []))) (sym g)
  positions_put theirs ours thrown mine s false old mid new e f g h is p q = none_more (place_asks thrown mine)
      (state_asks sub state target) (thrown_less thrown mine g h) q

-- ---- cells

module _ (sub : Ty → Ty → Bool) (below : Cell) where
  pub instance_less : (class : ℕ) (ids : List ℕ) (entries : List (ℕ × ℕ)) → cell_asks sub (Obj class ids) below entries
      → fields_ask ids below entries
  instance_less class ids entries h = (h.0, (ap fields_of h.1.0, h.1.1))

  pub numbers_less : (kind : Kind) (len : ℕ) (mine : Option ℕ) → mine ≡ numbers_length below → (entries : List (ℕ × ℕ))
      → cell_asks sub (Nums kind len) below entries → place_asks (Some len) mine entries
  numbers_less kind len mine e entries h id is = (h.0, (ap (image_in entries) (sym (some_is is)) ∙ h.1.1, e ∙ ap numbers_length h.1.0))

  pub array_less : (element : Ty) (len : ℕ) (shape : Shape) (mine : Option ℕ) → mine ≡ array_length below → (entries : List (ℕ × ℕ))
      → cell_asks sub (Refs element len shape) below entries → place_asks (Some len) mine entries
  array_less element len shape mine e entries h id is =
      (h.image, (ap (image_in entries) (sym (some_is is)) ∙ h.length_is, e ∙ ap array_length h.is))

-- what is asked more, of pairs that were put or of none that does
pub puts_more : (asks more : List (ℕ × ℕ) → Type 0) (ids : List ℕ) (r : Bool) (old new : List (ℕ × ℕ))
    → ((entries : List (ℕ × ℕ)) → more entries → asks entries) → length new ≤ length old + length ids
    → MatchBool r (ArePut asks ids old new) (NoneDoes asks)
    → MatchBool r (ArePut more ids old new × (length new ≤ length old + length ids)) (NoneDoes more)
puts_more asks more ids true old new less few p = (put_more asks more ids ids old new less (λ test. refl) p, few)
puts_more asks more ids false old new less few p = none_more asks more less p

pub puts_more_both : (asks more : List (ℕ × ℕ) → Type 0) (ids : List ℕ) (r : Bool) (old new : List (ℕ × ℕ))
    → ((entries : List (ℕ × ℕ)) → more entries → asks entries)
    → MatchBool r (ArePut asks ids old new × (length new ≤ length old + length ids)) (NoneDoes asks)
    → MatchBool r (ArePut more ids old new × (length new ≤ length old + length ids)) (NoneDoes more)
puts_more_both asks more ids true old new less p = (put_more asks more ids ids old new less (λ test. refl) p.0, p.1)
puts_more_both asks more ids false old new less p = none_more asks more less p

-- the pairs of an instance's fields
pub fields_put : (ids images : List ℕ) (below : Cell) (r : Bool) (old new : List (ℕ × ℕ)) → fields_of below ≡ Some images
    → MatchBool r ((length ids ≡ length images) × (new ≡ stacked ids images old)) (length ids ≡ length images → ⊥)
    → MatchBool r (ArePut (fields_ask ids below) ids old new × (length new ≤ length old + length ids)) (NoneDoes (fields_ask ids below))
fields_put ids images below true old new is h = (
  all_put (fields_ask ids below) ids images old new (λ entries a. a.1.1 ∙ ap (map Some) (some_is (sym a.1.0 ∙ is))) h.0 h.1,
  all_few ids images old new h.1,
)
fields_put ids images below false old new is n =
    λ entries a. n (sym (length-map ids (image_in entries)) ∙ ap (λ (xs : List (Option ℕ)). length xs) a.1.1 ∙ length-map a.0 Some
    ∙ ap (λ (xs : List ℕ). length xs) (some_is (sym a.1.0 ∙ is)))

pub no_fields : (ids : List ℕ) (below : Cell) → fields_of below ≡ None → NoneDoes (fields_ask ids below)
no_fields ids below e entries a = none-some a.0 (sym e ∙ a.1.0)

pub instance_put : (sub : Ty → Ty → Bool) (cell below : Cell) (class : ℕ) (ids given : List ℕ) (r : Bool) (old new : List (ℕ × ℕ))
    → cell ≡ Obj class ids → given ≡ ids
    → MatchBool r (ArePut (fields_ask given below) given old new × (length new ≤ length old + length given))
    (NoneDoes (fields_ask given below))
    → MatchBool r (ArePut (cell_asks sub cell below) (ids_in cell) old new × (length new ≤ length old + length (ids_in cell)))
    (NoneDoes (cell_asks sub cell below))
instance_put sub cell below class ids given r old new is same h =
    subst (λ (c : Cell). MatchBool r (ArePut (cell_asks sub c below) (ids_in c) old new
    × (length new ≤ length old + length (ids_in c))) (NoneDoes (cell_asks sub c below))) (sym is)
    (puts_more_both (fields_ask ids below) (cell_asks sub (Obj class ids) below) ids r old new (instance_less sub below class ids)
    (subst (λ (xs : List ℕ). MatchBool r (ArePut (fields_ask xs below) xs old new × (length new ≤ length old + length xs))
    (NoneDoes (fields_ask xs below))) same h))

pub numbers_put : (sub : Ty → Ty → Bool) (cell below : Cell) (kind : Kind) (len : ℕ) (mine : Option ℕ) (r : Bool)
    (old new : List (ℕ × ℕ)) → cell ≡ Nums kind len → mine ≡ numbers_length below → length new ≤ length old + 1
    → MatchBool r (ArePut (place_asks (Some len) mine) (len ∷ []) old new) (NoneDoes (place_asks (Some len) mine))
    → MatchBool r (ArePut (cell_asks sub cell below) (ids_in cell) old new × (length new ≤ length old + length (ids_in cell)))
    (NoneDoes (cell_asks sub cell below))
numbers_put sub cell below kind len mine r old new is e few h =
    subst (λ (c : Cell). MatchBool r (ArePut (cell_asks sub c below) (ids_in c) old new
    × (length new ≤ length old + length (ids_in c))) (NoneDoes (cell_asks sub c below))) (sym is)
    (puts_more (place_asks (Some len) mine) (cell_asks sub (Nums kind len) below) (len ∷ []) r old new
    (numbers_less sub below kind len mine e) few h)

pub array_put : (sub : Ty → Ty → Bool) (cell below : Cell) (element : Ty) (len : ℕ) (shape : Shape) (mine : Option ℕ) (r : Bool)
    (old new : List (ℕ × ℕ)) → cell ≡ Refs element len shape → mine ≡ array_length below → length new ≤ length old + 1
    → MatchBool r (ArePut (place_asks (Some len) mine) (len ∷ []) old new) (NoneDoes (place_asks (Some len) mine))
    → MatchBool r (ArePut (cell_asks sub cell below) (ids_in cell) old new × (length new ≤ length old + length (ids_in cell)))
    (NoneDoes (cell_asks sub cell below))
array_put sub cell below element len shape mine r old new is e few h =
    subst (λ (c : Cell). MatchBool r (ArePut (cell_asks sub c below) (ids_in c) old new
    × (length new ≤ length old + length (ids_in c))) (NoneDoes (cell_asks sub c below))) (sym is)
    (puts_more (place_asks (Some len) mine) (cell_asks sub (Refs element len shape) below) (len ∷ []) r old new
    (array_less sub below element len shape mine e) few h)

pub nothing_named : (sub : Ty → Ty → Bool) (cell below : Cell) (old : List (ℕ × ℕ)) → ids_in cell ≡ []
    → ArePut (cell_asks sub cell below) (ids_in cell) old old × (length old ≤ length old + length (ids_in cell))
nothing_named sub cell below old e = (
  subst (λ (ids : List ℕ). ArePut (cell_asks sub cell below) ids old old) (sym e)
      (none_put (cell_asks sub cell below) old),
  omega arith,
)
