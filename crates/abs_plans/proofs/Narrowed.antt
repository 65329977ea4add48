-- The steps of a narrowing that changes its int.
use Rattle.std.proofs.Common.{◌≡◌, ℕ, Bool, true, false, if◌then◌else◌, List, [], ◌∷◌, map, Option, Some, None, ap}
use Rattle.std.proofs.lemmas.Option.{none-some}
use Rattle.abs_cells.specs.lin_core.Intervals.{Bounds, interval_of}
use Rattle.jvm_values.specs.declared.types.Kind.{Kind}
use Rattle.jvm_values.specs.Kinds.{least_of, greatest_of}
use Rattle.jvm_values.proofs.Options.{some_is}
use Rattle.abs_cells.specs.AbstractStates.{AbstractFrame}
use Rattle.abs_ints.specs.Cases.{only, inside, case_between}
use Rattle.abs_ints.specs.Narrowings.{are_of_kind}
use Rattle.abs_ints.specs.declared.cases.IntCase.{IntCase}
use Rattle.abs_ints.specs.declared.cases.Way.TheVariants.{Inside}
use Rattle.abs_turns.specs.Plans.{Goal, Turn}
use Rattle.abs_turns.specs.Turns.{Here, interval_of_id, turn_narrowing, turns_narrowing}
use Rattle.abs_turns.specs.Stops.{narrowed_to}

module _ (here : Here) (kind : Kind) (x : ℕ) (kept : Turn) (frames : List AbstractFrame) (goal : Goal) (r : Bounds) where
  at : (b : Bool) (k : Option Bounds) (a : Bounds) → (if b then None else k) ≡ Some r
      → map (λ (case : IntCase). turn_narrowing kept frames goal case.result)
      (only (if b then case_between Inside (Some a) (Some a) [] else inside a a k [])) ≡ turn_narrowing kept frames goal (Some r) ∷ []
  at true k a f = absurd (none-some r f)
  at false None a f = absurd (none-some r f)
  at false (Some k) a f = ap (λ s. turn_narrowing kept frames goal (Some s) ∷ []) (some_is f)

  pub narrowed_steps : narrowed_to kind (interval_of_id here.state x) ≡ Some r
      → turns_narrowing here kind x kept frames goal ≡ turn_narrowing kept frames goal (Some r) ∷ []
  narrowed_steps e = at (are_of_kind kind (interval_of_id here.state x)) (interval_of (least_of kind) (greatest_of kind))
      (interval_of_id here.state x) e
