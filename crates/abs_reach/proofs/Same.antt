-- Frames and states of the same parts, and pairs that are among one another.
use Rattle.std.proofs.Common.{◌≡◌, ◌<◌, ◌∙◌, ℕ, max, Bool, true, false, List, refl, sym, ap, arith}
use Rattle.std.specs.Prelude.{reverse}
use Rattle.std.proofs.lemmas.List.{reverse-reverse}
use Rattle.abs_cells.proofs.list_views.Truths.{same_truth}
use Rattle.abs_cells.proofs.Checking.{low_pair}
use Rattle.abs_cells.specs.AbstractStates.{AbstractFrame, AbstractState}
use Rattle.abs_cells.specs.PairLists.{pair_of, IsRising, has_pair, AreAmong}
use Rattle.abs_cells.proofs.PackedLaws.{is_one_list}

pub turned_same : {X : Type 0} (xs ys : List X) → reverse xs ≡ reverse ys → xs ≡ ys
turned_same xs ys e = sym (reverse-reverse xs) ∙ ap (λ zs. reverse zs) e ∙ reverse-reverse ys

pub frame_same : (f g : AbstractFrame) → (f.method ≡ g.method) × (f.pc ≡ g.pc) → (f.locals ≡ g.locals) × (f.stack ≡ g.stack) → f ≡ g
frame_same f g p i =
    ap (λ m. record f { method = m }) p.0
    ∙ ap (λ m. record { method = g.method; pc = m; locals = f.locals; stack = f.stack }) p.1
    ∙ ap (λ m. record { method = g.method; pc = g.pc; locals = m; stack = f.stack }) i.0
    ∙ ap (λ m. record g { stack = m }) i.1

pub state_same : (s t : AbstractState) → (s.throwing ≡ t.throwing) × (s.frames ≡ t.frames)
    → (s.cells ≡ t.cells) × ((s.eq ≡ t.eq) × (s.share ≡ t.share)) → s ≡ t
state_same s t p w =
    ap (λ x. record s { throwing = x }) p.0
    ∙ ap (λ x. record { frames = x; throwing = t.throwing; cells = s.cells; eq = s.eq; share = s.share }) p.1
    ∙ ap (λ x. record { frames = t.frames; throwing = t.throwing; cells = x; eq = s.eq; share = s.share }) w.0
    ∙ ap (λ x. record { frames = t.frames; throwing = t.throwing; cells = t.cells; eq = x; share = s.share }) w.1.0
    ∙ ap (λ x. record t { share = x }) w.1.1

pub pairs_same : (xs ys : List (ℕ × ℕ)) → IsRising xs → IsRising ys → AreAmong xs ys → AreAmong ys xs → xs ≡ ys
pairs_same xs ys r s f g =
    is_one_list xs ys r s (λ p l. same_truth (has_pair p xs) (has_pair p ys)
    (λ h. ap (λ q. has_pair q ys) (sym (low_pair p l)) ∙ f p.0 p.1 (ap (λ q. has_pair q xs) (low_pair p l) ∙ h))
    (λ h. ap (λ q. has_pair q xs) (sym (low_pair p l)) ∙ g p.0 p.1 (ap (λ q. has_pair q ys) (low_pair p l) ∙ h)))

pub among_itself : (xs ys : List (ℕ × ℕ)) → xs ≡ ys → AreAmong xs ys
among_itself xs ys e a b h = ap (λ zs. has_pair (pair_of a b) zs) (sym e) ∙ h
