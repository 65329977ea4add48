-- The cases of a comparison of two abstract ints.
use Rattle.std.specs.Prelude.{ℤ, pos, negsuc, ◌≡◌, Bool, true, false, if◌then◌else◌, Option, None, List, [], ◌∷◌}
use Rattle.std.specs.List.{cons_option}
use Rattle.lin_core.specs.Intervals.{Bounds, IsIn}
use Rattle.jvm_values.specs.Ints.{cond_holds}
use Rattle.jvm_values.specs.declared.ints.Cond.{Cond}
use Rattle.jvm_values.specs.declared.ints.Cond.TheVariants.{Eq, Ne, Lt, Ge, Gt, Le}
use Rattle.abs_ints.specs.Cases.{case_between, at_least_zero, is_zero, AllTrueOf}
use Rattle.abs_ints.specs.IntIntervals.{meet_of, below_of, up_to_of, above_of, from_of}
use Rattle.abs_ints.specs.declared.cases.IntCase.{IntCase}
use Rattle.abs_ints.specs.declared.cases.ShortRow.{ShortRow}
use Rattle.abs_ints.specs.declared.cases.Way.{Way}
use Rattle.abs_ints.specs.declared.cases.Way.TheVariants.{Inside, Over, Under, Zero, Taken, Next}
use Rattle.abs_ints.specs.declared.relations.Relation.{Relation}
use Rattle.abs_ints.specs.declared.relations.Relation.TheVariants.{Equal, Below, AtMost, Above, AtLeast}

-- the ints of `a` that stand in a relation to some int of `b`, if there are any
abbrev pub standing_so : Relation → Bounds → Bounds → Option Bounds
standing_so Equal a b = meet_of a b
standing_so Below a b = below_of a b
standing_so AtMost a b = up_to_of a b
standing_so Above a b = above_of a b
standing_so AtLeast a b = from_of a b

-- the relation in which the right int stands to the left one
abbrev pub exchanged : Relation → Relation
exchanged Equal = Equal
exchanged Below = Above
exchanged AtMost = AtLeast
exchanged Above = Below
exchanged AtLeast = AtMost

-- the row that says a relation between two ints: the left one minus the right one is 0, or the greater one minus the lesser
-- one is at least 0, or at least 1
abbrev pub row_of : Relation → ShortRow
row_of Equal = is_zero (pos 1) (negsuc 0) (pos 0) (pos 0)
row_of Below = at_least_zero (negsuc 0) (pos 1) (pos 0) (negsuc 0)
row_of AtMost = at_least_zero (negsuc 0) (pos 1) (pos 0) (pos 0)
row_of Above = at_least_zero (pos 1) (negsuc 0) (pos 0) (negsuc 0)
row_of AtLeast = at_least_zero (pos 1) (negsuc 0) (pos 0) (pos 0)

-- the case of a relation between a and b, where it is possible: both are narrowed to what it allows
abbrev pub related : Relation → Way → Bounds → Bounds → Option IntCase
related relation way a b = case_between way (standing_so relation a b) (standing_so (exchanged relation) b a) (row_of relation ∷ [])

-- the cases that are there, in order
abbrev pub both_of : Option IntCase → Option IntCase → List IntCase
both_of first second = cons_option first (cons_option second [])

-- the cases of a condition between two ints: where it holds, then where it does not; two ints differ by being below or above
abbrev pub cases_between : Cond → Bounds → Bounds → List IntCase
cases_between Eq a b = cons_option (related Equal Taken a b) (both_of (related Below Next a b) (related Above Next a b))
cases_between Ne a b = cons_option (related Below Taken a b) (both_of (related Above Taken a b) (related Equal Next a b))
cases_between Lt a b = both_of (related Below Taken a b) (related AtLeast Next a b)
cases_between Ge a b = both_of (related AtLeast Taken a b) (related Below Next a b)
cases_between Gt a b = both_of (related Above Taken a b) (related AtMost Next a b)
cases_between Le a b = both_of (related AtMost Taken a b) (related Above Next a b)

-- the one case of a condition between an int and itself, which says nothing more of it
abbrev pub cases_of_one : Cond → Bounds → Bounds → List IntCase
cases_of_one cond a b = record {
  left = a;
  right = b;
  result = None;
  rows = [];
  way = if cond_holds cond (pos 0) (pos 0) then Taken
      else Next;
} ∷ []

-- the cases of a condition between two ints, which may be one (JVM specification, 6.5.if_icmp<cond>, 6.5.if<cond>)
abbrev pub compared : Cond → Bool → Bounds → Bounds → List IntCase
compared cond same a b = if same then cases_of_one cond a b else cases_between cond a b

-- a way is the one on which the machine goes on from a condition between two ints: the condition holds, or it does not. The
-- ways of operators are no condition's
abbrev pub GoesBetween : Way → Cond → ℤ → ℤ → Type 0
GoesBetween Taken cond left right = cond_holds cond left right ≡ true
GoesBetween Next cond left right = cond_holds cond left right ≡ false
GoesBetween Inside cond left right = ⊥
GoesBetween Over cond left right = ⊥
GoesBetween Under cond left right = ⊥
GoesBetween Zero cond left right = ⊥

-- two ints fall in a case of a condition between them: they lie in its intervals, its rows are true of them, and its way is
-- taken
pub record FallsBetween (cond : Cond) (left right : ℤ) (case : IntCase) : Type 0 where
  pub left_in : IsIn left case.left
  pub right_in : IsIn right case.right
  pub rows_hold : AllTrueOf left right (pos 0) case.rows
  pub way_taken : GoesBetween case.way cond left right
