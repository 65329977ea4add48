-- Which ids are sized in a state.
use Rattle.std.proofs.Common.{◌≡◌, ℕ, Bool, true, false, Option, Some, None, refl, sym, ap, ◌∙◌, subst, IsTrue}
use Rattle.std.specs.Prelude.{is_some, not}
use Rattle.std.specs.Option.{option_map}
use Rattle.std.proofs.lemmas.Bool.{false≢true}
use Rattle.abs_cells.specs.declared.cells.Cell.{Cell}
use Rattle.abs_cells.specs.AbstractStates.{AbstractState}
use Rattle.abs_cells.specs.Cells.{is_int, cell_at, HasCell}
use Rattle.abs_cells.specs.Patterns.{Pattern, IsSized}
use Rattle.term_enc.specs.declared.terms.PatternTerm.{PatternTerm}
use Rattle.term_enc.specs.Encoding.{pattern_of, Encodes}
use Rattle.path_rules.specs.Sizing.{size_at}
use Rattle.path_rules.proofs.Sized.{size_some, size_none, has_no_int, int_unsized, missing_unsized}
use Rattle.bound_check.specs.inner.Forms.{is_sized}
use Rattle.bound_check.specs.Bounds.{AreSizedIds}

by_answer : (state : AbstractState) (id : ℕ) (answer : Option PatternTerm) (o : Option Pattern) → size_at state id ≡ o
    → Encodes state id answer → is_some answer ≡ is_some o
by_answer state id None None e h = refl
by_answer state id None (Some pattern) e h = absurd (h (size_some state id pattern e).sized.sized)
by_answer state id (Some term) None e h = absurd (size_none state id e h.0)
by_answer state id (Some term) (Some pattern) e h = refl

pub encoded_sized : (state : AbstractState) (id : ℕ) (answer : Option PatternTerm) → Encodes state id answer
    → is_some answer ≡ is_sized state id
encoded_sized state id answer h = by_answer state id answer (size_at state id) refl h

pub int_no_size : (state : AbstractState) (id : ℕ) (cell : Cell) → cell_at state id ≡ Some cell → is_int cell ≡ true
    → false ≡ is_sized state id
int_no_size state id cell c i = ap (λ (o : Option Pattern). is_some o) (int_unsized state id cell c i)

pub none_no_size : (state : AbstractState) (id : ℕ) → cell_at state id ≡ None → false ≡ is_sized state id
none_no_size state id e = ap (λ (o : Option Pattern). is_some o) (missing_unsized state id e)

sized_has : (state : AbstractState) (id : ℕ) (o : Option Pattern) → size_at state id ≡ o → IsTrue (is_some o)
    → HasCell (λ (cell : Cell). not (is_int cell)) state id × IsSized state id
sized_has state id None e t = absurd (false≢true t)
sized_has state id (Some pattern) e t =
    let small = size_some state id pattern e in
    (has_no_int state id pattern small.sized.is, small.sized.sized)

has_sized : (state : AbstractState) (id : ℕ) (o : Option Pattern) → size_at state id ≡ o → IsSized state id → IsTrue (is_some o)
has_sized state id None e s = absurd (size_none state id e s)
has_sized state id (Some pattern) e s = refl

pub sized_ids : (root : AbstractState) → AreSizedIds root (is_sized root)
sized_ids root id = (sized_has root id (size_at root id) refl, λ h. has_sized root id (size_at root id) refl h.1)
