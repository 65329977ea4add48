-- Steps that make no id: they send none anywhere, and their rows name none.
use Rattle.std.specs.Prelude.{◌≡◌, ℕ, Bool, true, false}
use Rattle.std.specs.List.{AllByRecursion}
use Rattle.abs_plans.specs.abs_turns.Plans.{Act, nothing, makes, writes, item, object, array, nowhere, Turn, Plan, ends, steps, by_null}
use Rattle.abs_plans.specs.abs_turns.Plans.{by_class, by_equal}

-- an act makes a fresh id
abbrev pub makes_id : Act → Bool
makes_id nothing = false
makes_id (makes cell) = true
makes_id (writes write) = false
makes_id (item k) = true
makes_id (object class) = true
makes_id (array slot len) = true

-- a step sends no id anywhere, and its rows are the same whatever id they are given
pub record SendsNone (turn : Turn) : Type 0 where
  pub goal : turn.goal ≡ nowhere
  pub rows : (a b : ℕ) → turn.rows a ≡ turn.rows b

-- a step is steady: where its act makes no id, it sends none anywhere, and its rows name none
abbrev pub IsSteady : Turn → Type 0
IsSteady turn = makes_id turn.act ≡ false → SendsNone turn

-- each step of a plan is steady; a plan that ends or splits has no steps
abbrev pub AreSteady : Plan → Type 0
AreSteady ends = Unit {0}
AreSteady (steps turns) = AllByRecursion IsSteady turns
AreSteady (by_null x) = Unit {0}
AreSteady (by_class x wanted) = Unit {0}
AreSteady (by_equal x y) = Unit {0}
