-- The first case of a comparison by order is the case in which it holds, if that is there.
use Rattle.std.proofs.Common.{◌≡◌, ◌∙◌, ℕ, Bool, true, false, if◌then◌else◌, List, [], ◌∷◌, Option, Some, None, MatchOption, refl}
use Rattle.std.proofs.Common.{sym, ap, subst}
use Rattle.std.specs.List.{cons_option}
use Rattle.std.specs.Option.{option_and_then, option_map}
use Rattle.std.proofs.lemmas.Option.{none-some}
use Rattle.jvm_values.proofs.Options.{some_is}
use Rattle.abs_cells.specs.lin_core.Intervals.{Bounds}
use Rattle.abs_ints.specs.Cases.{case_between}
use Rattle.abs_ints.specs.Comparing.{related, both_of, row_of, standing_so, exchanged}
use Rattle.abs_ints.specs.declared.cases.IntCase.{IntCase}
use Rattle.abs_ints.specs.declared.cases.ShortRow.{ShortRow}
use Rattle.abs_ints.specs.declared.cases.Way.{Way}
use Rattle.abs_ints.specs.declared.cases.Way.TheVariants.{Taken, Next}
use Rattle.abs_ints.specs.declared.relations.Relation.{Relation}
use Rattle.abs_plans.specs.abs_rows.inner.Accesses.{if_taken}

way_is : (way : Way) (left right : Option Bounds) (rows : List ShortRow) (c : IntCase) → case_between way left right rows ≡ Some c
    → c.way ≡ way
way_is way None right rows c e = absurd (none-some c e)
way_is way (Some a) None rows c e = absurd (none-some c e)
way_is way (Some a) (Some b) rows c e = ap (λ (x : IntCase). x.way) (sym (some_is e))

taken_is : (c : IntCase) → c.way ≡ Taken → if_taken c ≡ Some c
taken_is c e = rw e refl

next_is : (c : IntCase) → c.way ≡ Next → if_taken c ≡ None
next_is c e = rw e refl

pub first_of_two : (r s : Option IntCase) → ((c : IntCase) → r ≡ Some c → c.way ≡ Taken)
    → ((c : IntCase) → s ≡ Some c → c.way ≡ Next) → (old new : List IntCase) (first : Option IntCase) → old ≡ both_of r s
    → MatchOption first ((old ≡ []) × (new ≡ [])) (λ item. old ≡ item ∷ new) → option_and_then if_taken first ≡ r
first_of_two (Some c) s t n old new None e m = cc
first_of_two (Some c) s t n old new (Some d) e m = let same : d ≡ c = cc in ap (λ (x : IntCase). if_taken x) same ∙ taken_is c (t c refl)
first_of_two None None t n old new None e m = refl
first_of_two None None t n old new (Some d) e m = cc
first_of_two None (Some c) t n old new None e m = cc
first_of_two None (Some c) t n old new (Some d) e m = let same : d ≡ c = cc in ap (λ (x : IntCase). if_taken x) same ∙ next_is c (n c refl)

pub taken_first : (relation other : Relation) (a b : Bounds) (old new : List IntCase) (first found : Option IntCase)
    → old ≡ both_of (related relation Taken a b) (related other Next a b)
    → MatchOption first ((old ≡ []) × (new ≡ [])) (λ item. old ≡ item ∷ new) → found ≡ option_and_then if_taken first
    → found ≡ related relation Taken a b
taken_first relation other a b old new first found e m f =
    f ∙ first_of_two (related relation Taken a b) (related other Next a b)
    (way_is Taken (standing_so relation a b) (standing_so (exchanged relation) b a) (row_of relation ∷ []))
    (way_is Next (standing_so other a b) (standing_so (exchanged other) b a) (row_of other ∷ [])) old new first e m
