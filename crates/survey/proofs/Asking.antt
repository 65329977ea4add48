-- Words that name descriptions, one after another.
use Rattle.std.proofs.Common.{◌≡◌, ℕ, ◌<◌, true, false, List, [], ◌∷◌, length, codes, refl, ap, cond, arith}
use Rattle.std.specs.Str.{bytes_eq}
use Rattle.survey.specs.Words.{behind_descs, descs_in}

-- ---- by the first two words

pub first_desc : (word name : List ℕ) (words : List (List ℕ)) → bytes_eq word (codes "--desc") ≡ true
    → (descs_in (word ∷ name ∷ words) ≡ name ∷ descs_in words) × (behind_descs (word ∷ name ∷ words) ≡ behind_descs words)
first_desc word name words e = (ap (λ b. cond b (name ∷ descs_in words) []) e, ap (λ b. cond b (behind_descs words) (word ∷ name ∷ words)) e)

pub no_desc : (word name : List ℕ) (words : List (List ℕ)) → bytes_eq word (codes "--desc") ≡ false
    → (descs_in (word ∷ name ∷ words) ≡ []) × (behind_descs (word ∷ name ∷ words) ≡ word ∷ name ∷ words)
no_desc word name words e = (ap (λ b. cond b (name ∷ descs_in words) []) e, ap (λ b. cond b (behind_descs words) (word ∷ name ∷ words)) e)

pub few_words : (words : List (List ℕ)) → length words < 2 → (descs_in words ≡ []) × (behind_descs words ≡ words)
few_words [] l = (refl, refl)
few_words (word ∷ []) l = (refl, refl)
few_words (word ∷ name ∷ words) l = absurd (omega (arith, l))
