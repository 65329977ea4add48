-- The join of two reference types: the least erased type that both are below.
use Rattle.std.specs.Prelude.{◌≡◌, ℕ, ◌-◌, ◌⊎◌, Bool, IsTrue, Option, Some, None, nat_lt, if◌then◌else◌}
use Rattle.jvm_values.specs.declared.types.Ty.{Ty}
use Rattle.jvm_values.specs.declared.types.Base.{Base}
use Rattle.jvm_values.specs.declared.types.Base.TheVariants.{Class, Num}
use Rattle.jvm_values.specs.Subtyping.{IsErased}

-- an upper bound of two types: an erased type, one that stands for itself in assignments, that both are below
pub record IsErasedAbove (sub : Ty → Ty → Bool) (erase : Ty → Ty) (a b top : Ty) : Type 0 where
  pub left : IsTrue (sub a top)
  pub right : IsTrue (sub b top)
  pub erased : IsErased erase top

-- the join of two types: an erased type that both are below, and that is below every other such type
pub record IsJoin (sub : Ty → Ty → Bool) (erase : Ty → Ty) (a b join : Ty) : Type 0 where
  pub above : IsErasedAbove sub erase a b join
  pub least : (top : Ty) → IsErasedAbove sub erase a b top → IsTrue (sub join top)

-- the type of the items of an array of references; none where the type is no such array
abbrev pub item_under : ℕ → Base → Option Ty
item_under dims (Class class) = if nat_lt 0 dims then Some (record { dims = dims - 1; base = Class class }) else None
item_under dims (Num kind) = if nat_lt 1 dims then Some (record { dims = dims - 1; base = Num kind }) else None

-- the type of the items of an array of references; none for a class and for an array of numbers
abbrev pub item_of : Ty → Option Ty
item_of t = item_under t.dims t.base

-- one of two types is no array of references
abbrev pub AreApart : Ty → Ty → Type 0
AreApart a b = (item_of a ≡ None) ⊎ (item_of b ≡ None)
