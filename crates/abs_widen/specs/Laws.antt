-- What holds of every widening.
use Rattle.std.specs.Prelude.{ℕ, List}
use Rattle.jvm_values.specs.TypedHeaps.{WorldTypes, AreLawful}
use Rattle.abs_cells.specs.AbstractStates.{AbstractState}
use Rattle.abs_cells.specs.Cells.{AreEqual}
use Rattle.abs_cells.specs.Sound.{IsSound}
use Rattle.abs_reach.specs.Instances.{InstanceOf}
use Rattle.abs_widen.specs.Visits.{AreTooMany}
use Rattle.abs_widen.specs.Widening.{AreAlike, IsWidening}

-- one state is an instance of another one by some map
abbrev pub IsInstance : WorldTypes → AbstractState → AbstractState → Type 0
IsInstance types state target = (entries : List (ℕ × ℕ)) × InstanceOf types.sub state target entries

-- no id is a pair with itself: pairs have two different ids
abbrev pub AreProper : AbstractState → Type 0
AreProper state = (id : ℕ) → AreEqual state id id → ⊥

-- Both states are instances of the one's widening by the other.
abbrev pub WideningsAreWider : Type 0
WideningsAreWider =
    (types : WorldTypes) (a b result : AbstractState) → IsSound types a → IsSound types b → AreProper a → AreProper b → AreAlike a b
    → IsWidening types a b result → IsInstance types a result × IsInstance types b result

-- A widening of two sound states is sound.
abbrev pub WideningsAreSound : Type 0
WideningsAreSound =
    (types : WorldTypes) (a b result : AbstractState) → AreLawful types → IsSound types a → IsSound types b → AreAlike a b
    → IsWidening types a b result → IsSound types result

-- Where there is a widening there are not too many pairs.
abbrev pub WideningsAreFew : Type 0
WideningsAreFew = (types : WorldTypes) (a b result : AbstractState) → IsWidening types a b result → AreTooMany a b → ⊥
