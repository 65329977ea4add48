-- What ids reach, meet and may be in, in states that are alike.
use Rattle.std.proofs.Common.{◌≡◌, ◌∙◌, ◌⊎◌, ◌↔◌, ℕ, true, List, Option, Some, None, slice_get, inl, inr, sym, subst}
use Rattle.std.specs.Option.{option_and_then}
use Rattle.std.specs.List.{All}
use Rattle.jvm_values.specs.Paths.{Reaches, IsDagFrom}
use Rattle.jvm_values.specs.declared.shape.Shape.{Shape}
use Rattle.abs_cells.specs.declared.cells.Cell.{Cell}
use Rattle.abs_cells.specs.AbstractStates.{AbstractState}
use Rattle.abs_cells.specs.Cells.{is_reference, is_hazy, ids_of, cell_in, cell_at, HasCell, Share}
use Rattle.abs_cells.specs.Closures.{KnownFrom, counted_steps, SharesThere, MayBeIn, IsFiniteId}
use Rattle.abs_expand.specs.AbsHeapGiven.{AreFresh}
use Rattle.abs_expand.specs.AbsHeapNames.{name_in, IsImage}
use Rattle.abs_expand.specs.AbsHeapWriting.{is_array_of_references, IsAffected, IsMet, IsNullId, MakesNoCycle, Write, GainsPair, JoinsItem}
use Rattle.one_expansion.proofs.Alike.{Alike, back, has_alike, cell_alike}

-- ---- from one to the other

module _ (a b : AbstractState) (s : Alike a b) where
  pub fresh_there : (ids : List ℕ) → AreFresh a ids → AreFresh b ids
  fresh_there ids f = record {
    rise = f.rise;
    free = subst (λ (cs : List (ℕ × Cell)). All (λ id. cell_in cs id ≡ None) ids) s.cells f.free;
    least = λ id m c l. elim (f.least id m c l) [ inl h ↦ inl (has_alike a b (λ _. true) m s h) | inr k ↦ inr k ];
  }

  known_there : (x y : ℕ) → KnownFrom a x y → KnownFrom b x y
  known_there x y k =
      subst (λ (cs : List (ℕ × Cell)). Reaches (λ p i. option_and_then (λ cell. slice_get (ids_of cell) i) (cell_in cs p)) x y) s.cells k

  null_there : (w : ℕ) → IsNullId a w → IsNullId b w
  null_there w h = sym (cell_alike a b w s) ∙ h

  shares_there : (k x : ℕ) → SharesThere a k x → SharesThere b k x
  shares_there k x h = record {
    q = h.q;
    from_x = known_there x h.q h.from_x;
    hazy = has_alike a b is_hazy h.q s h.hazy;
    share = (s.share k h.q).0 h.share;
  }

  may_be_there : (k x : ℕ) → MayBeIn a k x → MayBeIn b k x
  may_be_there k x h = record {
    counts = has_alike a b is_reference k s h.counts;
    there = elim h.there [ inl f ↦ inl (known_there x k f) | inr f ↦ inr (shares_there k x f) ];
  }

  affected_there : (k x : ℕ) → IsAffected a k x → IsAffected b k x
  affected_there k x (inl h) = inl ((s.share k x).0 h.0, has_alike a b is_hazy x s h.1)
  affected_there k x (inr h) = inr (h.0, has_alike a b is_array_of_references k s h.1)

  met_there : (w z : ℕ) → IsMet a w z → IsMet b w z
  met_there w z h = record {
    from = h.from;
    known = known_there w h.from h.known;
    meets = elim h.meets [ inl e ↦ inl e | inr f ↦ inr ((s.share h.from z).0 f) ];
  }

  pub joins_there : (k item : ℕ) (shape : Shape) (x y : ℕ) → JoinsItem a k item shape x y → JoinsItem b k item shape x y
  joins_there k item shape x y h = record { is_item = h.is_item; why = elim h.why [ inl f ↦ inl ((s.share k y).0 f) | inr f ↦ inr f ] }

-- ---- in both directions

pub image_both : (name : ℕ → ℕ) (one other : ℕ → ℕ → Type 0) → ((x y : ℕ) → one x y ↔ other x y) → (x y : ℕ)
    → IsImage name one x y ↔ IsImage name other x y
image_both name one other same x y = (
  λ h. record { x = h.x; y = h.y; were = (same h.x h.y).0 h.were; left = h.left; right = h.right },
  λ h. record { x = h.x; y = h.y; were = (same h.x h.y).1 h.were; left = h.left; right = h.right },
)

module _ (a b : AbstractState) (s : Alike a b) where
  turned : Alike b a
  turned = back a b s

  pub null_both : (w : ℕ) → IsNullId a w ↔ IsNullId b w
  null_both w = (null_there a b s w, null_there b a turned w)

  pub affected_both : (k x : ℕ) → IsAffected a k x ↔ IsAffected b k x
  affected_both k x = (affected_there a b s k x, affected_there b a turned k x)

  -- the other state's steps over some cells
  abbrev Acyclic : List (ℕ × Cell) → ℕ → Type 0
  Acyclic cs x = IsDagFrom (counted_steps (record b { cells = cs })) x

  finite_there : (x : ℕ) → IsFiniteId a x → IsFiniteId b x
  finite_there x h = record {
    acyclic = subst (λ (cs : List (ℕ × Cell)). Acyclic cs x) s.cells h.acyclic;
    hazy = λ q cell k e. h.hazy q cell (known_there b a turned x q k) (cell_alike a b q s ∙ e);
  }

  no_cycle_there : (k w : ℕ) → MakesNoCycle a k w → MakesNoCycle b k w
  no_cycle_there k w h = record { finite = finite_there w h.finite; apart = λ f. h.apart (may_be_there b a turned k w f) }

  gains_there : (names : List (ℕ × ℕ)) (write : Write) (x y : ℕ) → GainsPair a names write x y → GainsPair b names write x y
  gains_there names write x y h = record {
    x = h.x;
    z = h.z;
    affected = affected_there a b s write.object h.x h.affected;
    met = met_there a b s write.value h.z h.met;
    written = λ f. h.written (null_there b a turned write.value f);
    left = h.left;
    right = h.right;
  }

pub no_cycle_both : (a b : AbstractState) (s : Alike a b) (k w : ℕ) → MakesNoCycle a k w ↔ MakesNoCycle b k w
no_cycle_both a b s k w = (no_cycle_there a b s k w, no_cycle_there b a (back a b s) k w)

-- what a write makes pairs of
pub shared_both : (a b : AbstractState) (s : Alike a b) (names : List (ℕ × ℕ)) (write : Write) (x y : ℕ)
    → (IsImage (name_in names) (Share a) x y ⊎ GainsPair a names write x y) ↔ (IsImage (name_in names) (Share b) x y
    ⊎ GainsPair b names write x y)
shared_both a b s names write x y =
    let images = image_both (name_in names) (Share a) (Share b) s.share x y in (
      λ h. elim h [ inl f ↦ inl (images.0 f) | inr f ↦ inr (gains_there a b s names write x y f) ],
      λ h. elim h [ inl f ↦ inl (images.1 f) | inr f ↦ inr (gains_there b a (back a b s) names write x y f) ],
    )
