-- The form of a cut among a step's own forms and those that are added.
use Rattle.std.proofs.Common.{◌≡◌, ℕ, Bool, true, false, cond, List, [], ◌∷◌, ◌++◌, Option, Some, None, Result, Ok, Err, IfOk, refl, sym, ap, ◌∙◌}
use Rattle.std.specs.Prelude.{◌==◌}
use Rattle.descent.specs.declared.proof.CutForm.{CutForm}
use Rattle.descent.specs.declared.proof.RankStep.{RankStep}
use Rattle.descent.specs.Rankings.{form_at}
use Rattle.bound_text.specs.declared.texts.BoundEntry.{BoundEntry}
use Rattle.abs_cells.specs.AbstractStates.{AbstractState}
use Rattle.bound_check.specs.declared.bound.RootForm.{RootForm}
use Rattle.bound_check.specs.Entries.{whole_forms}
use Rattle.bound_check.specs.Bounds.{root_form}
use Rattle.bound_check.specs.inner.Forms.{form_over}

some_cases : (here : Bool) (first : CutForm) (rest added : List CutForm) (cut : ℕ) (form : CutForm)
    → (form_at rest cut ≡ Some form → form_at (rest ++ added) cut ≡ Some form) → cond here (Some first) (form_at rest cut) ≡ Some form
    → cond here (Some first) (form_at (rest ++ added) cut) ≡ Some form
some_cases true first rest added cut form more e = e
some_cases false first rest added cut form more e = more e

some_own : (own added : List CutForm) (cut : ℕ) (form : CutForm) → form_at own cut ≡ Some form → form_at (own ++ added) cut ≡ Some form
some_own [] added cut form e = absurd (cc)
some_own (first ∷ rest) added cut form e = some_cases (first.cut == cut) first rest added cut form
    (λ k. some_own rest added cut form k) e

none_cases : (here : Bool) (first : CutForm) (rest added : List CutForm) (cut : ℕ)
    → (form_at rest cut ≡ None → form_at (rest ++ added) cut ≡ form_at added cut) → cond here (Some first) (form_at rest cut) ≡ None
    → cond here (Some first) (form_at (rest ++ added) cut) ≡ form_at added cut
none_cases true first rest added cut more e = absurd (cc)
none_cases false first rest added cut more e = more e

none_own : (own added : List CutForm) (cut : ℕ) → form_at own cut ≡ None → form_at (own ++ added) cut ≡ form_at added cut
none_own [] added cut e = refl
none_own (first ∷ rest) added cut e = none_cases (first.cut == cut) first rest added cut (λ k. none_own rest added cut k) e

pub own_form : (step : RankStep) (entry : BoundEntry) (form : CutForm) → form_at step.forms 0 ≡ Some form
    → form_at (whole_forms step entry) 0 ≡ Some form
own_form step entry form e = some_own step.forms entry.forms 0 form e

pub added_form : (step : RankStep) (entry : BoundEntry) (form : CutForm) → form_at step.forms 0 ≡ None
    → form_at entry.forms 0 ≡ Some form → form_at (whole_forms step entry) 0 ≡ Some form
added_form step entry form e f = none_own step.forms entry.forms 0 e ∙ f

pub no_form : (step : RankStep) (entry : BoundEntry) → form_at step.forms 0 ≡ None → form_at entry.forms 0 ≡ None
    → form_at (whole_forms step entry) 0 ≡ None
no_form step entry e f = none_own step.forms entry.forms 0 e ∙ f

-- a form of 0 is the whole form at a cut without one
pub no_root_form : {E : Type 0} (root : AbstractState) (sized : ℕ → Bool) (step : RankStep) (entry : BoundEntry)
    (result : Result RootForm E) → form_at (whole_forms step entry) 0 ≡ None
    → IfOk result (λ (over : RootForm). (r : AbstractState) (s : ℕ → Bool) → over ≡ form_over r s None step)
    → IfOk result (λ (form : RootForm). form ≡ root_form root sized step entry)
no_root_form root sized step entry (Ok form) e is = is root sized ∙ ap (λ (o : Option CutForm). form_over root sized o step) (sym e)
no_root_form root sized step entry (Err error) e is = tt
