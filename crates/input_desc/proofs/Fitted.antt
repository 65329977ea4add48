-- Descriptions that are made of texts and pairs.
use Rattle.std.proofs.Common.{◌≡◌, ℕ, eqb, List, ◌++◌, length, Option, None, Result, Ok, Err, refl, sym, ap, subst, ◌∙◌}
use Rattle.std.specs.Prelude.{IfOk, not}
use Rattle.std.specs.Option.{option_or}
use Rattle.std.proofs.lemmas.Bool.{eq-eqb}
use Rattle.class_program.specs.Programs.{Program}
use Rattle.input_text.specs.declared.fault.DescFault.{DescFault}
use Rattle.input_text.specs.declared.fault.DescFault.TheVariants.{ParamCount, StaticCount}
use Rattle.input_text.specs.declared.texts.InputText.{InputText}
use Rattle.input_text.specs.declared.texts.DescText.{DescText}
use Rattle.input_desc.specs.declared.desc.Input.{Input}
use Rattle.input_desc.specs.declared.desc.Desc.{Desc}
use Rattle.input_desc.specs.Due.{IsFault, is_memory, fault_if, IsMemoryOr}
use Rattle.input_desc.specs.Given.{params_of, statics_of, slots_of}
use Rattle.input_desc.specs.Descs.{inputs_from, later_fault, desc_fault, Describes, IsGoodDesc, IsOwnDesc}
use Rattle.input_desc.specs.inner.Words.{Finds, IsMade, Fitted}
use Rattle.input_desc.proofs.Faultless.{memory_due}
use Rattle.input_desc.proofs.GoodDescs.{made_is_good}

-- what is made of what was found
pub fitted_from : (p : Program) (texts' : List InputText) (same share pairs : List (ℕ × ℕ)) (found : List (Option Input))
    (result : Result Desc DescFault) → pairs ≡ same ++ share → Finds p texts' pairs (Ok found)
    → IsMemoryOr result (λ desc. IsMade found same share desc) → Fitted p texts' same share result
fitted_from p texts' same share pairs found (Ok desc) e h made = (
  ap (later_fault p texts') (sym e)
      ∙ h.0,
  subst (λ xs. IsMade xs same share desc) h.1 made,
)
fitted_from p texts' same share pairs found (Err fault) e h made = memory_due fault (later_fault p texts' (same ++ share)) made

-- behind the counts
past_counts : (p : Program) (text : DescText) → length text.params ≡ length (params_of p)
    → length text.statics ≡ length (statics_of p)
    → desc_fault p text ≡ later_fault p (text.params ++ text.statics) (text.same ++ text.share)
unfolding desc_fault
past_counts p text l m =
    let later = later_fault p (text.params ++ text.statics) (text.same ++ text.share) in
    ap (λ b. option_or (fault_if (not b) ParamCount)
    (option_or (fault_if (not (eqb (length text.statics) (length (statics_of p)))) StaticCount) later))
    (eq-eqb (length text.params) (length (params_of p)) l)
    ∙ ap (λ b. option_or (fault_if (not b) StaticCount) later) (eq-eqb (length text.statics) (length (statics_of p)) m)

pub fitted_describes : (p : Program) (text : DescText) (texts' : List InputText) (result : Result Desc DescFault)
    → length text.params ≡ length (params_of p) → length text.statics ≡ length (statics_of p) → texts' ≡ text.params ++ text.statics
    → Fitted p texts' text.same text.share result → Describes p text result
fitted_describes p text texts' (Ok desc) l m e h =
    let pairs = text.same ++ text.share in
    let none : desc_fault p text ≡ None = past_counts p text l m ∙ ap (λ xs. later_fault p xs pairs) (sym e) ∙ h.0 in (
      none,
      record {
        inputs_are = h.1.inputs_are ∙ ap (inputs_from p.world (slots_of p)) e;
        same_is = h.1.same_is;
        share_is =
            h.1.share_is;
      },
    )
fitted_describes p text texts' (Err fault) l m e h =
    let same : later_fault p texts' (text.same ++ text.share) ≡ desc_fault p text = ap
    (λ xs. later_fault p xs (text.same ++ text.share)) e ∙ sym (past_counts p text l m) in
    subst (λ o. IsFault is_memory fault o) same h

pub fitted_is_good : (p : Program) (texts' : List InputText) (same share : List (ℕ × ℕ)) (result : Result Desc DescFault)
    → length texts' ≡ length (slots_of p) → Fitted p texts' same share result → IfOk result (IsGoodDesc p)
fitted_is_good p texts' same share (Ok desc) l h = made_is_good p texts' same share (inputs_from p.world (slots_of p) texts') desc l
    (h.0, refl) h.1
fitted_is_good p texts' same share (Err fault) l h = tt

pub own_if : (p : Program) (text : DescText) (result : Result Desc DescFault) → Describes p text result → IfOk result (IsGoodDesc p)
    → IfOk result (IsOwnDesc p)
own_if p text (Ok desc) is good = record { text = text; faultless = is.0; described = is.1; good = good }
own_if p text (Err fault) is good = tt
