-- The terms of rank steps, step by step.
use Rattle.std.proofs.Common.{◌≡◌, ℕ, ℤ, suc, ◌+◌, ◌<◌, Bool, List, [], ◌∷◌, ◌++◌, length, drop, append_assoc, refl, sym, ap, ◌∙◌, arith}
use Rattle.abs_cells.specs.AbstractStates.{AbstractState}
use Rattle.descent.specs.declared.proof.ProofStep.{ProofStep}
use Rattle.bound_text.specs.declared.texts.BoundEntry.{BoundEntry}
use Rattle.bound_check.specs.declared.bound.RootForm.{RootForm}
use Rattle.bound_check.specs.Parts.{rank_at}
use Rattle.bound_check.specs.Bounds.{entry_of, term_of, terms_from}
use Rattle.bound_check.proofs.Missing.{drop_is}

pub one_term : (root : AbstractState) (sized : ℕ → Bool) (steps : List ProofStep) (entries : List BoundEntry) (n : ℕ)
    (old new all : List (ℕ × RootForm)) → n < length steps
    → new ≡ old ++ term_of root sized steps n (rank_at steps n) (entry_of n entries)
    → old ++ terms_from root sized steps entries n (drop n steps) ≡ all
    → new ++ terms_from root sized steps entries (n + 1) (drop (n + 1) steps) ≡ all
one_term root sized steps entries n old new all l is e =
    let d = drop_is steps n l in
    let next : suc n ≡ n + 1 = omega arith in
    let here = term_of root sized steps n (rank_at steps n) (entry_of n entries) in
    let rest = terms_from root sized steps entries (suc n) (drop (suc n) steps) in
    ap (λ (k : ℕ). new ++ terms_from root sized steps entries k (drop k steps)) (sym next)
    ∙ (ap (λ (t : List (ℕ × RootForm)). t ++ rest) is
    ∙ (append_assoc old here rest
    ∙ (ap (λ (s : List ProofStep). old ++ terms_from root sized steps entries n s) (sym d.1) ∙ e)))
