-- The children of a split are one list of states, with one link each.
use Rattle.std.proofs.Common.{◌≡◌, ◌∙◌, ◌<◌, ◌⊎◌, ◌↔◌, ◌==◌, ℕ, suc, Bool, true, false, ◌&&◌, eqb, List, [], ◌∷◌, map, zip, length}
use Rattle.std.proofs.Common.{Option, Some, None, inl, inr, refl, sym, ap, subst, arith}
use Rattle.std.specs.Prelude.{nat_lt, if◌then◌else◌}
use Rattle.std.specs.List.{AllZip}
use Rattle.std.specs.Option.{option_map}
use Rattle.std.proofs.lemmas.Bool.{ltb-true, eqb-true, or_cases, and_parts, false≢true}
use Rattle.jvm_values.proofs.Options.{some_is}
use Rattle.jvm_values.specs.declared.types.Ty.{Ty}
use Rattle.jvm_values.specs.declared.shape.Shape.{Shape}
use Rattle.jvm_values.specs.TypedHeaps.{WorldTypes}
use Rattle.abs_cells.specs.declared.cells.Cell.{Cell}
use Rattle.abs_cells.specs.declared.cells.Cell.TheVariants as cells
use Rattle.abs_cells.specs.AbstractStates.{AbstractState}
use Rattle.abs_cells.specs.Cells.{are_compatible, cell_in, cell_at, AreEqual, Share}
use Rattle.abs_expand.specs.AbsHeapAnswers.{AreNullChildren, AreClassChildren, AreEqualAnswers}
use Rattle.abs_expand.specs.AbsHeapGiven.{with_cells}
use Rattle.abs_expand.specs.AbsHeapLaws.{plain_link}
use Rattle.abs_expand.specs.AbsHeapNames.{one_name, cell_named, IsPairOf}
use Rattle.abs_expand.specs.AbsHeapRefining.{IsWithCell, cell_of_slot, length_cell, JoinsFields, IsInstanceChild, IsArrayChild, Case}
use Rattle.abs_expand.specs.AbsHeapRefining.{instance, numbers, references, IsCase, cases_of, rank_of, stays_before, Stays, merged_cell}
use Rattle.abs_expand.specs.AbsHeapRefining.{IsMergedChild, IsApartChild, IsEqualChild, both, alone}
use Rattle.abs_expand.specs.TermGraphGraphs.{GraphChild}
use Rattle.one_expansion.proofs.Alike.{Alike, IsAlikeChild, given_cells, given_alike}
use Rattle.one_expansion.proofs.Acts.{joined_both, either_both}
use Rattle.one_expansion.proofs.FreshIds.{fresh_one, fresh_id_one}

-- ---- lists of children

abbrev zero_link : Option (ℕ × ℕ) → AbstractState → GraphChild
zero_link merged state = record { state = state; link = plain_link false merged }

same_links : (merged : Option (ℕ × ℕ)) (one other : AbstractState) → Alike one other
    → IsAlikeChild (zero_link merged one) (zero_link merged other)
same_links merged one other s = record { states = s; links = refl }

pub listed_as : (cs ds xs ys : List GraphChild) → xs ≡ cs → ys ≡ ds → AllZip IsAlikeChild cs ds → AllZip IsAlikeChild xs ys
listed_as cs ds xs ys e f s =
    subst (λ (zs : List GraphChild). AllZip IsAlikeChild zs ys) (sym e)
    (subst (λ (zs : List GraphChild). AllZip IsAlikeChild cs zs) (sym f) s)

itself_both : {P : Type 0} → P ↔ P
itself_both = (λ h. h, λ h. h)

-- ---- null, or not

module _ (state : AbstractState) where
  with_cell_same : (x : ℕ) (cell : Cell) (one other : AbstractState) → IsWithCell state x cell one → IsWithCell state x cell other
      → Alike one other
  with_cell_same x cell one other g h = given_alike g h refl refl (λ id. refl) (λ a b. itself_both) (λ a b. itself_both)

  pub null_same : (x : ℕ) (wholes others : List GraphChild) → AreNullChildren state x wholes → AreNullChildren state x others
      → AllZip IsAlikeChild wholes others
  null_same x wholes others g h =
      let cell : cells.Unk g.bound true g.shape ≡ cells.Unk h.bound true h.shape = some_is (sym g.was ∙ h.was) in
      let bound : g.bound ≡ h.bound = cc in
      let shape : g.shape ≡ h.shape = cc in
      let known : cells.Unk h.bound false h.shape ≡ cells.Unk g.bound false g.shape =
      ap (λ (t : Ty). cells.Unk t false h.shape) (sym bound) ∙ ap (cells.Unk g.bound false) (sym shape) in
      let given : IsWithCell state x (cells.Unk g.bound false g.shape) h.other = subst (λ (c : Cell). IsWithCell state x c h.other)
      known h.other_is in
      listed_as (zero_link None g.null ∷ zero_link None g.other ∷ []) (zero_link None h.null ∷ zero_link None h.other ∷ []) wholes
      others g.are h.are (
        same_links None g.null h.null (with_cell_same x cells.Null g.null h.null g.null_is h.null_is),
        (same_links None g.other h.other (with_cell_same x (cells.Unk g.bound false g.shape) g.other h.other g.other_is given), tt),
      )

-- ---- a class, or an array

module _ (types : WorldTypes) (state : AbstractState) (x : ℕ) (shape : Shape) where
  abbrev field_cells : ℕ → List ℕ → List (ℕ × Cell)
  field_cells class ids = (x, cells.Obj class ids) ∷ zip ids (map (cell_of_slot types.erase shape) (types.fields class))

  abbrev Joins : ℕ → List ℕ → ℕ → ℕ → Type 0
  Joins class ids = JoinsFields (types.fields class) ids state x shape

  joins_as : (class : ℕ) (ids others : List ℕ) → ids ≡ others → (a b : ℕ) → Joins class ids a b → Joins class others a b
  joins_as class ids others e a b h = subst (λ (is : List ℕ). Joins class is a b) e h

  instance_same : (class : ℕ) (one other : AbstractState) → IsInstanceChild types state x shape class one
      → IsInstanceChild types state x shape class other → Alike one other
  instance_same class one other g h =
      let ids = fresh_one state g.ids h.ids (g.count ∙ sym h.count) g.fresh h.fresh in
      let same : (k : ℕ) → with_cells (field_cells class g.ids) state k ≡ with_cells (field_cells class h.ids) state k =
      λ k. ap (λ (is : List ℕ). with_cells (field_cells class is) state k) ids in
      let to = joins_as class g.ids h.ids ids in
      let from = joins_as class h.ids g.ids (sym ids) in
      given_alike g.is h.is refl refl same
      (λ a b. either_both itself_both (joined_both types.sub (Joins class g.ids) (Joins class h.ids) one.cells other.cells
      (given_cells g.is h.is same) to from a b))
      (λ a b. either_both itself_both (to a b, from a b))

  array_same : (cell : ℕ → Cell) (one other : AbstractState) → IsArrayChild state x cell one → IsArrayChild state x cell other
      → Alike one other
  array_same cell one other g h =
      let len = fresh_id_one state g.len h.len g.fresh h.fresh in
      given_alike g.is h.is refl refl (λ k. ap (λ (n : ℕ). with_cells ((x, cell n) ∷ (n, length_cell) ∷ []) state k) len)
      (λ a b. itself_both) (λ a b. itself_both)

  case_same : (case : Case) (one other : AbstractState) → IsCase types state x shape case one
      → IsCase types state x shape case other → Alike one other
  case_same (instance class) one other g h = instance_same class one other g h
  case_same (numbers kind) one other g h = array_same (λ len. cells.Nums kind len) one other g h
  case_same (references element) one other g h = array_same (λ len. cells.Refs element len shape) one other g h

  cases_same : (cases : List Case) (ones others : List AbstractState) → AllZip (IsCase types state x shape) cases ones
      → AllZip (IsCase types state x shape) cases others
      → AllZip IsAlikeChild (map (zero_link None) ones) (map (zero_link None) others)
  cases_same [] [] [] g h = tt
  cases_same [] [] (o ∷ os) g h = absurd h
  cases_same [] (n ∷ ns) os g h = absurd g
  cases_same (c ∷ cs) [] os g h = absurd g
  cases_same (c ∷ cs) (n ∷ ns) [] g h = absurd h
  cases_same (c ∷ cs) (n ∷ ns) (o ∷ os) g h = (same_links None n o (case_same c n o g.0 h.0), cases_same cs ns os g.1 h.1)

pub class_same : (types : WorldTypes) (state : AbstractState) (x : ℕ) (wanted : Ty) (wholes others : List GraphChild)
    → AreClassChildren types state x wanted wholes → AreClassChildren types state x wanted others → AllZip IsAlikeChild wholes others
class_same types state x wanted wholes others g h =
    let cell : cells.Unk g.bound false g.shape ≡ cells.Unk h.bound false h.shape = some_is (sym g.was ∙ h.was) in
    let bound : h.bound ≡ g.bound = cc in
    let shape : h.shape ≡ g.shape = cc in
    let given : AllZip (IsCase types state x g.shape) (cases_of types g.bound wanted) h.states =
    subst (λ (t : Ty). AllZip (IsCase types state x g.shape) (cases_of types t wanted) h.states) bound
    (subst (λ (f : Shape). AllZip (IsCase types state x f) (cases_of types h.bound wanted) h.states) shape h.are) in
    listed_as (map (zero_link None) g.states) (map (zero_link None) h.states) wholes others g.is h.is
    (cases_same types state x g.shape (cases_of types g.bound wanted) g.states h.states g.are given)

-- ---- two ids that may be one object

one_before : (r i q j : ℕ) → stays_before r i q j ≡ true → (r < q) ⊎ ((r ≡ q) × (i < j))
one_before r i q j e = elim (or_cases (nat_lt r q) ((r == q) && nat_lt i j) e) [
  | inl l ↦ inl (ltb-true r q l)
  | inr l ↦ let parts = and_parts (r == q) (nat_lt i j) l in inr (eqb-true r q parts.0, ltb-true i j parts.1)
]

not_both_before : (r i q j : ℕ) → stays_before r i q j ≡ true → stays_before q j r i ≡ true → ⊥
not_both_before r i q j e f = elim (one_before r i q j e) [
  | inl l ↦ elim (one_before q j r i f) [ inl m ↦ omega (arith, l, m) | inr m ↦ let s = m.0 in omega (arith, l, s) ]
  | inr l ↦ let s = l.0 in let k = l.1 in elim (one_before q j r i f)
      [ inl m ↦ omega (arith, s, m) | inr m ↦ let p = m.1 in omega (arith, k, p) ]
]

module _ (sub : Ty → Ty → Bool) (state : AbstractState) (x y : ℕ) where
  never_both : Stays state x y → Stays state y x → ⊥
  never_both s t =
      let left : s.left ≡ t.right = some_is (sym s.left_is ∙ t.right_is) in
      let right : s.right ≡ t.left = some_is (sym s.right_is ∙ t.left_is) in
      not_both_before (rank_of s.left) x (rank_of s.right) y s.before
      (subst (λ (c : Cell). stays_before (rank_of c) y (rank_of s.left) x ≡ true) (sym right)
      (subst (λ (c : Cell). stays_before (rank_of t.left) y (rank_of c) x ≡ true) (sym left) t.before))

  abbrev StaysSo : ℕ → ℕ → Type 0
  StaysSo stays goes = IsPairOf x y stays goes × Stays state stays goes

  -- which one stays
  stays_one : (stays goes other more : ℕ) → StaysSo stays goes → StaysSo other more → (stays ≡ other) × (goes ≡ more)
  stays_one stays goes other more (inl p, s) (inl q, t) = (p.0 ∙ sym q.0, p.1 ∙ sym q.1)
  stays_one stays goes other more (inr p, s) (inr q, t) = (p.0 ∙ sym q.0, p.1 ∙ sym q.1)
  stays_one stays goes other more (inl p, s) (inr q, t) = absurd
      (never_both (named stays goes x y p.0 p.1 s) (named other more y x q.0 q.1 t))
    where
      named : (i j u v : ℕ) → i ≡ u → j ≡ v → Stays state i j → Stays state u v
      named i j u v e f st = subst (λ (n : ℕ). Stays state n v) e (subst (λ (n : ℕ). Stays state i n) f st)
  stays_one stays goes other more (inr p, s) (inl q, t) = absurd
      (never_both (named other more x y q.0 q.1 t) (named stays goes y x p.0 p.1 s))
    where
      named : (i j u v : ℕ) → i ≡ u → j ≡ v → Stays state i j → Stays state u v
      named i j u v e f st = subst (λ (n : ℕ). Stays state n v) e (subst (λ (n : ℕ). Stays state i n) f st)

  merged_same : (stays goes : ℕ) (one other : AbstractState) → IsMergedChild sub state stays goes one
      → IsMergedChild sub state stays goes other → Alike one other
  merged_same stays goes one other g h =
      let left : g.left ≡ h.left = some_is (sym g.left_is ∙ h.left_is) in
      let right : g.right ≡ h.right = some_is (sym g.right_is ∙ h.right_is) in
      let cell : merged_cell sub g.left g.right ≡ merged_cell sub h.left h.right =
      ap (λ (c : Cell). merged_cell sub c g.right) left ∙ ap (merged_cell sub h.left) right in
      given_alike g.is h.is refl refl
      (λ id. ap (λ (c : Cell). if id == goes then None else option_map (cell_named (one_name goes stays))
      (cell_in ((stays, c) ∷ state.cells) id)) cell)
      (λ a b. itself_both) (λ a b. itself_both)

  apart_same : (one other : AbstractState) → IsApartChild state x y one → IsApartChild state x y other → Alike one other
  apart_same one other g h = given_alike g h refl refl (λ id. refl) (λ a b. itself_both) (λ a b. itself_both)

  abbrev linked : Option (ℕ × ℕ) × AbstractState → GraphChild
  linked p = zero_link p.0 p.1

  both_same : (stays goes other more : ℕ) (one two m n : AbstractState) → stays ≡ other → goes ≡ more
      → IsMergedChild sub state stays goes one → IsMergedChild sub state other more two
      → IsApartChild state x y m → IsApartChild state x y n
      → AllZip IsAlikeChild (map linked ((Some (goes, stays), one) ∷ (None, m) ∷ []))
      (map linked ((Some (more, other), two) ∷ (None, n) ∷ []))
  both_same stays goes other more one two m n e f g h i j =
      let given : IsMergedChild sub state stays goes two =
      subst (λ (k : ℕ). IsMergedChild sub state k goes two) (sym e) (subst (λ (k : ℕ). IsMergedChild sub state other k two) (sym f) h) in
      let links : plain_link false (Some (goes, stays)) ≡ plain_link false (Some (more, other)) =
      ap (λ (k : ℕ). plain_link false (Some (k, stays))) f ∙ ap (λ (k : ℕ). plain_link false (Some (more, k))) e in
      (record { states = merged_same stays goes one two g given; links = links }, (same_links None m n (apart_same m n i j), tt))

  equal_child_same : (b : Bool) (pairs others : List (Option (ℕ × ℕ) × AbstractState)) → IsEqualChild sub state x y b pairs
      → IsEqualChild sub state x y b others
      → AllZip IsAlikeChild (map linked pairs) (map linked others)
  equal_child_same true pairs others (both stays goes one m pair stay is apart) (both other more two n pair2 stay2 is2 apart2) =
      let ids = stays_one stays goes other more (pair, stay) (pair2, stay2) in
      both_same stays goes other more one two m n ids.0 ids.1 is is2 apart apart2
  equal_child_same false pairs others (alone m apart) (alone n apart2) = (same_links None m n (apart_same m n apart apart2), tt)

  pub equal_same : (wholes others : List GraphChild) → AreEqualAnswers sub state x y wholes → AreEqualAnswers sub state x y others
      → AllZip IsAlikeChild wholes others
  equal_same wholes others g h =
      let left : h.are.left ≡ g.are.left = some_is (sym h.are.left_is ∙ g.are.left_is) in
      let right : h.are.right ≡ g.are.right = some_is (sym h.are.right_is ∙ g.are.right_is) in
      let given : IsEqualChild sub state x y (are_compatible sub g.are.left g.are.right) h.pairs =
      subst (λ (c : Cell). IsEqualChild sub state x y (are_compatible sub c g.are.right) h.pairs) left
      (subst (λ (c : Cell). IsEqualChild sub state x y (are_compatible sub h.are.left c) h.pairs) right h.are.are) in
      listed_as (map linked g.pairs) (map linked h.pairs) wholes others g.is h.is
      (equal_child_same (are_compatible sub g.are.left g.are.right) g.pairs h.pairs g.are.are given)
