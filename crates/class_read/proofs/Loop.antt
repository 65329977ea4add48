-- One more step of a repeated reading.
use Rattle.std.proofs.Common.{◌≡◌, ℕ, suc, ◌+◌, ◌-◌, ◌<◌, ◌≤◌, List, [], ◌∷◌, ◌++◌, Result, Ok, Err, refl, sym, ◌∙◌, arith}
use Rattle.class_read.specs.declared.fault.ClassFault.{ClassFault}
use Rattle.class_base.proofs.list_views.Steps.{handed_on}
use Rattle.class_read.specs.Reading.{Read, repeated, collected, is_memory, Fails, Gives}

-- a fault of a part is the fault of the whole
pub fails_along : {X Y : Type 0} (e : ClassFault) (f : Result X ClassFault) (g : Result Y ClassFault) → (f ≡ Err e → g ≡ Err e)
    → Fails e f → Fails e g
fails_along e f g h q = handed_on is_memory e f g h q

pub goes : {S : Type 0} (step : S → List ℕ → Read S) (count i : ℕ) (made next : S) (bytes rest : List ℕ) (all : Read S)
    → i < count → step made bytes ≡ Ok (next, rest) → repeated step (count - i) made bytes ≡ all
    → repeated step (count - (i + 1)) next rest ≡ all
unfolding repeated
goes step count i made next bytes rest all lt stepped so_far =
    let k : count - i ≡ suc (count - (i + 1)) = omega arith in
    let one : repeated step (count - i) made bytes ≡ repeated step (count - (i + 1)) next rest = rw (k, stepped) refl in
    sym one ∙ so_far

-- a result that is the fault of a step
pub ends : {S X : Type 0} (view : X → S × List ℕ) (r : Result X ClassFault) (d e : ClassFault) (step : S → List ℕ → Read S)
    (count i : ℕ) (made : S) (bytes : List ℕ) (all : Read S)
    → r ≡ Err d → d ≡ e → i < count → Fails e (step made bytes) → repeated step (count - i) made bytes ≡ all → Gives view r all
unfolding repeated
ends view r d e step count i made bytes all is same lt stepped so_far =
    let k : count - i ≡ suc (count - (i + 1)) = omega arith in
    let whole : Fails e all = fails_along e (step made bytes) all
    (λ h. let one : repeated step (count - i) made bytes ≡ Err e = rw (k, h) refl in sym so_far ∙ one) stepped in
    rw (is, same) whole

pub is_done : {S : Type 0} (step : S → List ℕ → Read S) (count i : ℕ) (made : S) (bytes : List ℕ) (all : Read S)
    → count ≤ i → repeated step (count - i) made bytes ≡ all → all ≡ Ok (made, bytes)
unfolding repeated
is_done step count i made bytes all le so_far =
    let k : count - i ≡ 0 = omega arith in
    let one : repeated step (count - i) made bytes ≡ Ok (made, bytes) = rw k refl in
    sym so_far ∙ one

-- one more of a list
pub collects : {A : Type 0} (read : List ℕ → Read A) (count i : ℕ) (made next : List A) (x : A) (bytes rest : List ℕ) (all : Read (List A))
    → i < count → read bytes ≡ Ok (x, rest) → next ≡ made ++ x ∷ [] → repeated (collected read) (count - i) made bytes ≡ all
    → repeated (collected read) (count - (i + 1)) next rest ≡ all
unfolding collected
collects read count i made next x bytes rest all lt reads more so_far =
    let stepped : collected read made bytes ≡ Ok (next, rest) = rw (reads, more) refl in
    goes (collected read) count i made next bytes rest all lt stepped so_far

pub ends_collecting : {A X : Type 0} (view : X → List A × List ℕ) (r : Result X ClassFault) (d e : ClassFault) (read : List ℕ
    → Read A) (count i : ℕ) (made : List A) (bytes : List ℕ) (all : Read (List A))
    → r ≡ Err d → d ≡ e → i < count → Fails e (read bytes) → repeated (collected read) (count - i) made bytes ≡ all → Gives view r all
unfolding collected
ends_collecting view r d e read count i made bytes all is same lt failed so_far =
    ends view r d e (collected read) count i made bytes all is same lt
    (fails_along e (read bytes) (collected read made bytes) (λ h. rw h refl) failed) so_far
