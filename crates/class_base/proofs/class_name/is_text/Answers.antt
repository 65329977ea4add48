use Rattle.std.proofs.Common.{◌≡◌, Bool, true, false, sym, refl}
use Rattle.std.proofs.lemmas.Str.{is_utf8-from_IsUtf8, IsUtf8-from_is_utf8}
use Rattle.class_base.proofs.class_name.is_text.Goals as goal

is_not : (b : Bool) → (b ≡ true → ⊥) → false ≡ b
is_not true h = absurd (h refl)
is_not false h = refl

pub returns-in-Ok : goal.returns-in-Ok
returns-in-Ok c = sym (is_utf8-from_IsUtf8 _ c.in-Ok.ensures.cases.1)

pub returns-in-Err : goal.returns-in-Err
returns-in-Err c = is_not _ (λ h. c.in-Err.ensures.cases.0 (IsUtf8-from_is_utf8 _ h))
