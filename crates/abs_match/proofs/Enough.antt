-- An id is a pair with each other one of a sort of which something holds, exactly where it holds of no image of those with
-- which the id is no pair.
use Rattle.std.proofs.Common.{◌≡◌, ◌≢◌, ℕ, Bool, true, false, not, List, Option, Some, None, ◌⊎◌, inl, inr, ◌↔◌, refl, sym, ap, subst, ◌∙◌}
use Rattle.std.proofs.lemmas.Bool.{false≢true, not-true, not_from_false, cases_Bool}
use Rattle.std.proofs.lemmas.Option.{none-some}
use Rattle.jvm_values.proofs.Options.{some_is}
use Rattle.abs_cells.specs.declared.cells.Cell.{Cell}
use Rattle.abs_cells.specs.declared.cells.Cell.TheVariants.{Int, Null, Obj, Nums, Refs, Unk}
use Rattle.abs_cells.specs.AbstractStates.{AbstractState}
use Rattle.abs_cells.specs.IdSets.{has_id}
use Rattle.abs_cells.specs.PairLists.{has}
use Rattle.abs_cells.specs.Cells.{is_known, is_hazy, is_int, cell_at, HasCell, AreEqual, Share}
use Rattle.abs_cells.specs.Closures.{MayMeet, MayBeIn}
use Rattle.abs_reach.specs.Instances.{image_in, is_no_int, AreMapped, MayBeOne, SharesEnough}
use Rattle.abs_reach.specs.Known.{MayMeetSome, SomeMayBeIn, MayBeInSome}
use Rattle.abs_match.specs.inner.Matching.{IsApartImage, AllMapped, PairsEnough}

-- a test that fails where something holds
pub denied : (b : Bool) (P Q : Type 0) → ((b ≡ true) ↔ P) → ((P → ⊥) ↔ Q) → ((not b ≡ true) ↔ Q)
denied b P Q h k = (
  λ t. k.0 (λ p. false≢true (sym (not-true b t) ∙ h.1 p)),
  λ q. elim (cases_Bool b) [
    | inl t ↦ absurd (k.1 q (h.0 t))
    | inr f ↦ not_from_false b f
  ],
)

module _ (target : AbstractState) (entries pairs : List (ℕ × ℕ)) (sort other_sort : Cell → Bool) (R : ℕ → ℕ → Type 0) (id image : ℕ)
    (set : List ℕ) (is : HasCell sort target id) (maps : image_in entries id ≡ Some image) (set_is : (m : ℕ)
    → (has_id set m ≡ true) ↔ IsApartImage target.cells entries pairs other_sort id m) where
  abbrev pub Enough : Type 0
  Enough = (other other_image : ℕ) → AreMapped target entries sort other_sort id other image other_image → R image other_image
      → has id other pairs ≡ true

  pub enough : ((m : ℕ) → has_id set m ≡ true → R image m → ⊥) → Enough
  enough none other other_image mp r = elim (cases_Bool (has id other pairs)) [
    | inl t ↦ t
    | inr f ↦ absurd (none other_image
        ((set_is other_image).1
        (record {
          y = other;
          cell = mp.other_is.cell;
          is = mp.other_is.is;
          sort_is = mp.other_is.sort_is;
          differ = mp.differ;
          free = f;
          maps = mp.other_maps;
        })) r)
  ]

  pub none_left : Enough → (m : ℕ) → has_id set m ≡ true → R image m → ⊥
  none_left all m t r =
      let a = (set_is m).0 t in
      false≢true (sym a.free
      ∙ all a.y m (record {
        differ = a.differ;
        is = is;
        other_is = record { cell = a.cell; is = a.is; sort_is = a.sort_is };
        maps = maps;
        other_maps = a.maps;
      }) r)

  pub in_state : (state : AbstractState) → AllMapped state entries → (m : ℕ) → has_id set m ≡ true → HasCell (λ _. true) state m
  in_state state mapped m t = let a = (set_is m).0 t in mapped a.y m a.maps

  pub exactly : ((P : Type 0) (b : Bool) → ((b ≡ true) ↔ P) → ((P → ⊥) ↔ ((m : ℕ) → has_id set m ≡ true → R image m → ⊥))
      → ((not b ≡ true) ↔ Enough))
  exactly P b h k = denied b P Enough h (λ n. enough (k.0 n), λ e. k.1 (none_left e))

module _ (state : AbstractState) (image : ℕ) (set : List ℕ) (there : (m : ℕ) → has_id set m ≡ true → HasCell (λ _. true) state m) where
  pub meets_none : (MayMeetSome state image set → ⊥) ↔ ((m : ℕ) → has_id set m ≡ true → MayMeet state image m → ⊥)
  meets_none = (λ n m t r. n (record { y = m; is_in = t; there = there m t; may_meet = r }), λ all s. all s.y s.is_in s.may_meet)

  pub is_in_none : (MayBeInSome state image set → ⊥) ↔ ((m : ℕ) → has_id set m ≡ true → MayBeIn state image m → ⊥)
  is_in_none = (λ n m t r. n (record { y = m; is_in = t; there = there m t; may_be_in = r }), λ all s. all s.y s.is_in s.may_be_in)

  pub holds_none : (SomeMayBeIn state set image → ⊥) ↔ ((m : ℕ) → has_id set m ≡ true → MayBeIn state m image → ⊥)
  holds_none = (λ n m t r. n (record { k = m; is_in = t; may_be_in = r }), λ all s. all s.k s.is_in s.may_be_in)

-- the same of pairs with one object, whatever the id's image is called
pub pairs_enough : (state target : AbstractState) (entries : List (ℕ × ℕ)) (id image : ℕ) → image_in entries id ≡ Some image
    → ((other other_image : ℕ) → AreMapped target entries is_no_int is_no_int id other image other_image
    → MayBeOne state image other_image → AreEqual target id other) ↔ PairsEnough state target entries id
pairs_enough state target entries id image maps = (
  λ all other im other_image mp one.
      let same : im ≡ image = some_is (sym mp.maps ∙ maps) in
      all other other_image (subst (λ (i : ℕ). AreMapped target entries is_no_int is_no_int id other i other_image) same mp)
      (subst (λ (i : ℕ). MayBeOne state i other_image) same one),
  λ all other other_image mp one. all other image other_image mp one,
)

pub int_is_free : (state target : AbstractState) (entries : List (ℕ × ℕ)) (id : ℕ) (cell : Cell) → cell_at target id ≡ Some cell
    → is_int cell ≡ true → PairsEnough state target entries id
int_is_free state target entries id cell at int other image other_image mp one =
    let same : mp.is.cell ≡ cell = some_is (sym mp.is.is ∙ at) in
    absurd (false≢true (sym (ap not int) ∙ ap is_no_int (sym same) ∙ mp.is.sort_is))

pub unmapped_is_free : (state target : AbstractState) (entries : List (ℕ × ℕ)) (id : ℕ) → image_in entries id ≡ None
    → PairsEnough state target entries id
unmapped_is_free state target entries id e other image other_image mp one = absurd (none-some image (sym e ∙ mp.maps))

-- ---- sharing

-- an id whose cell is not of a sort
pub not_of_sort : (sort : Cell → Bool) (target : AbstractState) (id : ℕ) (cell : Cell) → cell_at target id ≡ Some cell
    → sort cell ≡ false → HasCell sort target id → ⊥
not_of_sort sort target id cell at n h =
    let same : h.cell ≡ cell = some_is (sym h.is ∙ at) in
    false≢true (sym n ∙ ap sort (sym same) ∙ h.sort_is)

pub known_not_hazy : (cell : Cell) → is_known cell ≡ true → is_hazy cell ≡ false
known_not_hazy (Int interval) k = refl
known_not_hazy Null k = refl
known_not_hazy (Obj class ids) k = refl
known_not_hazy (Nums kind len) k = refl
known_not_hazy (Refs element len shape) k = absurd (false≢true k)
known_not_hazy (Unk bound nullable shape) k = absurd (false≢true k)

pub shares_nothing : (state target : AbstractState) (entries : List (ℕ × ℕ)) (id : ℕ)
    → ((HasCell is_known target id → ⊥) × (HasCell is_hazy target id → ⊥)) ⊎ (image_in entries id ≡ None)
    → SharesEnough state target entries id
shares_nothing state target entries id (inl n) = record
    { meets = λ o i oi mp r. absurd (n.1 mp.is); is_in = λ o i oi mp r. absurd (n.0 mp.is); holds = λ o i oi mp r. absurd (n.1 mp.is) }
shares_nothing state target entries id (inr e) = record {
  meets = λ o i oi mp r. absurd (none-some i (sym e ∙ mp.maps));
  is_in = λ o i oi mp r. absurd (none-some i (sym e ∙ mp.maps));
  holds = λ o i oi mp r. absurd (none-some i (sym e ∙ mp.maps));
}

module _ (state target : AbstractState) (entries : List (ℕ × ℕ)) (id image : ℕ) (maps : image_in entries id ≡ Some image) where
  named : (sort other_sort : Cell → Bool) (other im other_image : ℕ)
      → AreMapped target entries sort other_sort id other im other_image → im ≡ image
  named sort other_sort other im other_image mp = some_is (sym mp.maps ∙ maps)

  pub known_shares : (HasCell is_hazy target id → ⊥)
      → ((other other_image : ℕ) → AreMapped target entries is_known is_hazy id other image other_image
      → MayBeIn state image other_image → Share target id other) ↔ SharesEnough state target entries id
  known_shares never = (
    λ all. record {
      meets = λ o i oi mp r. absurd (never mp.is);
      is_in = λ o i oi mp r. let same = named is_known is_hazy o i oi mp in all o oi
          (subst (λ (k : ℕ). AreMapped target entries is_known is_hazy id o k oi) same mp) (subst (λ (k : ℕ). MayBeIn state k oi) same r);
      holds = λ o i oi mp r. absurd (never mp.is);
    },
    λ s o oi mp r. s.is_in o image oi mp r,
  )

  pub hazy_shares : (HasCell is_known target id → ⊥)
      → (((other other_image : ℕ) → AreMapped target entries is_hazy is_hazy id other image other_image
      → MayMeet state image other_image → Share target id other)
      × ((other other_image : ℕ) → AreMapped target entries is_hazy is_known id other image other_image
      → MayBeIn state other_image image → Share target id other)) ↔ SharesEnough state target entries id
  hazy_shares never = (
    λ all. record {
      meets = λ o i oi mp r. let same = named is_hazy is_hazy o i oi mp in all.0 o oi
          (subst (λ (k : ℕ). AreMapped target entries is_hazy is_hazy id o k oi) same mp) (subst (λ (k : ℕ). MayMeet state k oi) same r);
      is_in = λ o i oi mp r. absurd (never mp.is);
      holds = λ o i oi mp r. let same = named is_hazy is_known o i oi mp in all.1 o oi
          (subst (λ (k : ℕ). AreMapped target entries is_hazy is_known id o k oi) same mp) (subst (λ (k : ℕ). MayBeIn state oi k) same r);
    },
    λ s. (λ o oi mp r. s.meets o image oi mp r, λ o oi mp r. s.holds o image oi mp r),
  )
