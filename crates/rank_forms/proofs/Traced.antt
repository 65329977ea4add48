-- A trail is gathered tie by tie, the last first.
use Rattle.std.proofs.Common.{◌≡◌, ℕ, suc, ◌+◌, ◌-◌, ◌<◌, List, [], ◌∷◌, ◌++◌, get_or, Option, Some, None, ap, arith, ◌∙◌, sym}
use Rattle.std.proofs.Common.{append_assoc}
use Rattle.rank_forms.specs.declared.rule_links.links.Tie.{Tie}
use Rattle.rank_forms.specs.rule_links.Ties.{Known, last_of, trail_by, trail_from}

-- one tie of a trail more
pub trail_next : (known : Known) (from n count : ℕ) (tie : Tie) → n < count → last_of (get_or known from None) ≡ Some tie
    → trail_from (count - n) known from ≡ tie ∷ trail_from (count - (n + 1)) known tie.link.from
trail_next known from n count tie low e =
    let s : count - n ≡ suc (count - (n + 1)) = omega arith in
    ap (λ (k : ℕ). trail_from k known from) s ∙ ap (λ (o : Option Tie). trail_by o (trail_from (count - (n + 1)) known)) e

pub more_trail : (known : Known) (from n count : ℕ) (tie : Tie) (old new all : List Tie) → n < count
    → last_of (get_or known from None) ≡ Some tie → new ≡ old ++ tie ∷ [] → old ++ trail_from (count - n) known from ≡ all
    → new ++ trail_from (count - (n + 1)) known tie.link.from ≡ all
more_trail known from n count tie old new all low e pushed h =
    ap (λ (l : List Tie). l ++ trail_from (count - (n + 1)) known tie.link.from) pushed
    ∙ append_assoc old (tie ∷ []) (trail_from (count - (n + 1)) known tie.link.from)
    ∙ ap (λ (l : List Tie). old ++ l) (sym (trail_next known from n count tie low e)) ∙ h
