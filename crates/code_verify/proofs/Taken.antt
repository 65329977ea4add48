-- Operands that are taken one list after the other.
use Rattle.std.proofs.Common.{◌≡◌, Bool, true, false, cond, List, [], ◌∷◌, ◌++◌, Option, Some, None, refl, sym, ap, ◌∙◌}
use Rattle.std.specs.Prelude.{MatchBool}
use Rattle.std.specs.Option.{option_and_then}
use Rattle.std.proofs.lemmas.Bool.{false≢true}
use Rattle.jvm_values.specs.declared.typing.PlaceType.{PlaceType}
use Rattle.jvm_values.specs.TypedHeaps.{WorldTypes}
use Rattle.code_verify.specs.declared.want.Want.{Want}
use Rattle.code_verify.specs.Operands.{fits}
use Rattle.code_verify.specs.Rows.{taken}

-- two lists of operands
pub taken_both : (types : WorldTypes) (asks more : List Want) (stack : List PlaceType)
    → taken types (asks ++ more) stack ≡ option_and_then (taken types more) (taken types asks stack)
taken_both types [] more stack = refl
taken_both types (want ∷ asks) more [] = refl
taken_both types (want ∷ asks) more (place ∷ below) = go (fits types want place) (taken_both types asks more below)
  where
    go : (b : Bool) → taken types (asks ++ more) below ≡ option_and_then (taken types more) (taken types asks below)
        → cond b (taken types (asks ++ more) below) None ≡ option_and_then (taken types more) (cond b (taken types asks below) None)
    go true e = e
    go false e = refl

-- the first are missing
pub none_taken : (types : WorldTypes) (asks more : List Want) (stack rest : List PlaceType) (ok : Bool) → ok ≡ false
    → MatchBool ok (taken types asks stack ≡ Some rest) (taken types asks stack ≡ None) → taken types (asks ++ more) stack ≡ None
none_taken types asks more stack rest true e h = absurd (false≢true (sym e))
none_taken types asks more stack rest false e h = taken_both types asks more stack ∙ ap (option_and_then (taken types more)) h

after_first : (types : WorldTypes) (asks more : List Want) (stack rest : List PlaceType) → taken types asks stack ≡ Some rest
    → taken types (asks ++ more) stack ≡ taken types more rest
after_first types asks more stack rest h = taken_both types asks more stack ∙ ap (option_and_then (taken types more)) h

-- the first are there
pub first_taken : (types : WorldTypes) (asks more : List Want) (stack rest last : List PlaceType) (ok ended : Bool) → ok ≡ true
    → MatchBool ok (taken types asks stack ≡ Some rest) (taken types asks stack ≡ None)
    → MatchBool ended (taken types more rest ≡ Some last) (taken types more rest ≡ None)
    → MatchBool ended (taken types (asks ++ more) stack ≡ Some last) (taken types (asks ++ more) stack ≡ None)
first_taken types asks more stack rest last false ended e h k = absurd (false≢true e)
first_taken types asks more stack rest last true true e h k = after_first types asks more stack rest h ∙ k
first_taken types asks more stack rest last true false e h k = after_first types asks more stack rest h ∙ k
