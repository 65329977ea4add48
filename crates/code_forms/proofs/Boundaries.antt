-- A table without a bad boundary is one whose entries are good.
use Rattle.std.proofs.Common.{◌≡◌, ℕ, Bool, true, false, not, cond, List, [], ◌∷◌, Option, Some, None, Result, Ok, Err, refl, ap}
use Rattle.std.specs.Prelude.{OnOk}
use Rattle.std.specs.List.{AllByRecursion}
use Rattle.code_forms.specs.declared.fault.CodeFault.{CodeFault}
use Rattle.class_base.specs.declared.handler.Handler.{Handler}
use Rattle.code_forms.specs.Faults.{Gives}
use Rattle.code_forms.specs.Tables.{may_end, bad_boundary, earlier, first_bad_boundary, boundary_fault, IsEntry}

passed : (b : Bool) (place : ℕ) (rest : Option ℕ) → cond (not b) (Some place) rest ≡ None → (b ≡ true) × (rest ≡ None)
passed true place rest e = (refl, e)
passed false place rest e = absurd cc

good_entry : (begins : ℕ → Bool) (length : ℕ) (h : Handler) → bad_boundary begins length h ≡ None → IsEntry begins length h
good_entry begins length h e =
    let handled = cond (not (begins h.handler)) (Some h.handler) None in
    let a = passed (begins h.start) h.start (cond (not (may_end begins length h.start h.end)) (Some h.end) handled) e in
    let b = passed (may_end begins length h.start h.end) h.end handled a.1 in
    let d = passed (begins h.handler) h.handler None b.1 in
    record { start = a.0; end = b.0; handler = d.0 }

neither : (a b : Option ℕ) → earlier a b ≡ None → (a ≡ None) × (b ≡ None)
neither None b e = (refl, e)
neither (Some place) b e = absurd cc

good_table : (begins : ℕ → Bool) (length : ℕ) (hs : List Handler) → first_bad_boundary begins length hs ≡ None
    → AllByRecursion (IsEntry begins length) hs
good_table begins length [] e = tt
good_table begins length (h ∷ hs) e =
    let p = neither (bad_boundary begins length h) (first_bad_boundary begins length hs) e in
    (good_entry begins length h p.0, good_table begins length hs p.1)

entry_passes : (begins : ℕ → Bool) (length : ℕ) (h : Handler) → IsEntry begins length h → bad_boundary begins length h ≡ None
entry_passes begins length h g = rw (g.start, g.end, g.handler) refl

table_passes : (begins : ℕ → Bool) (length : ℕ) (hs : List Handler) → AllByRecursion (IsEntry begins length) hs
    → first_bad_boundary begins length hs ≡ None
table_passes begins length [] g = refl
table_passes begins length (h ∷ hs) g = rw (entry_passes begins length h g.0, table_passes begins length hs g.1) refl

no_fault : (o : Option ℕ) (x : Unit {0}) → boundary_fault o ≡ Ok x → o ≡ None
no_fault None x e = refl
no_fault (Some place) x e = absurd cc

pub is_good : (begins : ℕ → Bool) (length : ℕ) (hs : List Handler) (r : Result (Unit {0}) CodeFault)
    → Gives (λ x. x) r (boundary_fault (first_bad_boundary begins length hs)) → OnOk r (AllByRecursion (IsEntry begins length) hs)
is_good begins length hs (Ok x) given = good_table begins length hs (no_fault (first_bad_boundary begins length hs) x given)
is_good begins length hs (Err e) given = tt

pub passes_good : (begins : ℕ → Bool) (length : ℕ) (hs : List Handler) → AllByRecursion (IsEntry begins length) hs
    → boundary_fault (first_bad_boundary begins length hs) ≡ Ok tt
passes_good begins length hs g = ap boundary_fault (table_passes begins length hs g)

pub without_fault : (begins : ℕ → Bool) (length : ℕ) (hs : List Handler)
    → boundary_fault (first_bad_boundary begins length hs) ≡ Ok tt → AllByRecursion (IsEntry begins length) hs
without_fault begins length hs e = good_table begins length hs (no_fault (first_bad_boundary begins length hs) tt e)
