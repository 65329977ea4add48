-- The first class that isn't there, among the parameters and then the result.
use Rattle.std.proofs.Common.{◌≡◌, ℕ, ◌++◌, List, [], ◌∷◌, Option, Some, None, refl, ap, sym, ◌∙◌}
use Rattle.std.specs.Option.{option_or, option_to_list}
use Rattle.list_views.proofs.Options.{or_none}
use Rattle.class_world.specs.class_base.declared.types.FieldType.{FieldType}
use Rattle.class_world.specs.World.{World}
use Rattle.class_world.specs.Descriptors.{meaning_of}
use Rattle.class_program.specs.Signatures.{first_missing_class, missing_class}

or_again : {A : Type 0} (a b c : Option A) → option_or a (option_or b c) ≡ option_or (option_or a b) c
or_again None b c = refl
or_again (Some x) b c = refl

missing_both : (world : World) (ts us : List FieldType)
    → first_missing_class world (ts ++ us) ≡ option_or (first_missing_class world ts) (first_missing_class world us)
missing_both world [] us = refl
missing_both world (t ∷ ts) us =
    ap (option_or (missing_class (meaning_of world t))) (missing_both world ts us)
    ∙ or_again (missing_class (meaning_of world t)) (first_missing_class world ts) (first_missing_class world us)

-- one among the parameters comes first
pub missing_param : (world : World) (params seen : List FieldType) (returned : Option FieldType) (name : List ℕ)
    → Some name ≡ first_missing_class world seen → seen ≡ params
    → Some name ≡ first_missing_class world (params ++ option_to_list returned)
missing_param world params seen returned name e same =
    ap (λ o. option_or o (first_missing_class world (option_to_list returned))) (e ∙ ap (first_missing_class world) same)
    ∙ sym (missing_both world params (option_to_list returned))

-- else it is that of the result
pub missing_result : (world : World) (params seen : List FieldType) (returned : Option FieldType) (t : FieldType) (o : Option (List ℕ))
    → None ≡ first_missing_class world seen → seen ≡ params → returned ≡ Some t → o ≡ missing_class (meaning_of world t)
    → o ≡ first_missing_class world (params ++ option_to_list returned)
missing_result world params seen returned t o e same is p =
    p ∙ sym (or_none (missing_class (meaning_of world t)))
    ∙ ap (λ x. option_or x (first_missing_class world (t ∷ []))) (e ∙ ap (first_missing_class world) same)
    ∙ sym (missing_both world params (t ∷ []))
    ∙ ap (λ r. first_missing_class world (params ++ option_to_list r)) (sym is)
