-- What the calls answer, and what they ask.
use Rattle.std.specs.Prelude.{◌≡◌, ℕ, Bool, true, false, List, [], ◌∷◌, map, Option, Some, None}
use Rattle.std.specs.List.{AllZip}
use Rattle.jvm_values.specs.TypedHeaps.{WorldTypes}
use Rattle.jvm_values.specs.declared.types.Ty.{Ty}
use Rattle.jvm_values.specs.declared.shape.Shape.{Shape}
use Rattle.abs_cells.specs.declared.cells.Cell.TheVariants as cells
use Rattle.abs_cells.specs.AbstractStates.{AbstractState}
use Rattle.abs_cells.specs.Cells.{cell_at}
use Rattle.term_graph.specs.Graphs.{GraphChild}
use Rattle.abs_heap.specs.Counts.{case_counts, IsFirstTooMany}
use Rattle.abs_heap.specs.Names.{IsPairOf}
use Rattle.abs_heap.specs.Refining.{IsWithCell, IsCase, cases_of, Stays, IsMergedChild, IsApartChild, AreEqualChildren}
use Rattle.abs_heap.specs.Writing.{IsItemChild}
use Rattle.abs_heap.specs.Laws.{plain_link}

-- an id's object may be null or not, so that it can be split: its cell is `Unk`, nullable, with some bound and shape
pub record IsNullable (state : AbstractState) (x : ℕ) : Type 0 where
  pub bound : Ty
  pub shape : Shape
  pub is : cell_at state x ≡ Some (cells.Unk bound true shape)

-- the two children of a split of a nullable id, in order: in the first the id is null, and in the second it is an object
-- below its bound
pub record AreNullChildren (state : AbstractState) (x : ℕ) (children : List GraphChild) : Type 0 where
  pub bound : Ty
  pub shape : Shape
  pub was : cell_at state x ≡ Some (cells.Unk bound true shape)
  pub null : AbstractState
  pub null_is : IsWithCell state x cells.Null null
  pub other : AbstractState
  pub other_is : IsWithCell state x (cells.Unk bound false shape) other
  pub are : children ≡ record { state = null; link = plain_link false None } ∷ record { state = other; link = plain_link false None } ∷ []

-- in a child an item of an array of references, which is the id `k`, is read under the id `item`
abbrev pub IsLoaded : (Ty → Ty → Bool) → AbstractState → ℕ → ℕ → AbstractState → Type 0
IsLoaded sub state k item child = (element : Ty) (len : ℕ) (shape : Shape) → cell_at state k ≡ Some (cells.Refs element len shape)
    → IsItemChild sub state k element shape item child

-- a child in which two ids that may be one object are one, with its link, which tells which id went into which
pub record IsMergedAnswer (sub : Ty → Ty → Bool) (state : AbstractState) (x y : ℕ) (child : GraphChild) : Type 0 where
  pub stays : ℕ
  pub goes : ℕ
  pub pair : IsPairOf x y stays goes
  pub stay : Stays state stays goes
  pub is : IsMergedChild sub state stays goes child.state
  pub link : child.link ≡ plain_link false (Some (goes, stays))

-- a child in which two ids that may be one object are two, with its link
pub record IsApartAnswer (state : AbstractState) (x y : ℕ) (child : GraphChild) : Type 0 where
  pub is : IsApartChild state x y child.state
  pub link : child.link ≡ plain_link false None

-- the children of a split of two ids that may be one object, each with its link
pub record AreEqualAnswers (sub : Ty → Ty → Bool) (state : AbstractState) (x y : ℕ) (children : List GraphChild) : Type 0 where
  pub pairs : List (Option (ℕ × ℕ) × AbstractState)
  pub are : AreEqualChildren sub state x y pairs
  pub is : children ≡ map (λ p. record { state = p.1; link = plain_link false p.0 }) pairs

-- an id's object may be of any type below a bound, so that it can be split by class: its cell is `Unk` and not nullable
pub record IsObjectBelow (state : AbstractState) (x : ℕ) : Type 0 where
  pub bound : Ty
  pub shape : Shape
  pub is : cell_at state x ≡ Some (cells.Unk bound false shape)

-- the children of a split of an id by class, in order, where its object is wanted to be of a type: one for each case, with
-- links of no step
pub record AreClassChildren (types : WorldTypes) (state : AbstractState) (x : ℕ) (wanted : Ty) (children : List GraphChild) : Type 0 where
  pub bound : Ty
  pub shape : Shape
  pub was : cell_at state x ≡ Some (cells.Unk bound false shape)
  pub states : List AbstractState
  pub are : AllZip (IsCase types state x shape) (cases_of types bound wanted) states
  pub is : children ≡ map (λ s. record { state = s; link = plain_link false None }) states

-- the number of the first child of a split by class that would have too many ids
pub record IsFirstTooManyChild (types : WorldTypes) (state : AbstractState) (x : ℕ) (wanted : Ty) (n : ℕ) : Type 0 where
  pub bound : Ty
  pub shape : Shape
  pub was : cell_at state x ≡ Some (cells.Unk bound false shape)
  pub first : IsFirstTooMany (case_counts types state (cases_of types bound wanted)) n
