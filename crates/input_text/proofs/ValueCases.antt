-- What values are read as, case by case.
use Rattle.std.proofs.Common.{◌≡◌, ℕ, ℤ, Bool, true, false, List, Result, Ok, Err, refl, sym, ap, ◌∙◌, subst, negsuc, pos, ◌&&◌}
use Rattle.std.proofs.Common.{cond, to_z, of_z, w32}
use Rattle.input_text.proofs.Numbers.{int_kept}
use Rattle.std.specs.Prelude.{int_le}
use Rattle.std.specs.Prelude.{is_some}
use Rattle.serde_json.specs.Data.{Num, unsigned, negative, float, Data, null, boolean, number, string, array, object}
use Rattle.serde_json.specs.Find.{as_null}
use Rattle.json_view.specs.Located.{Located}
use Rattle.json_view.specs.Reading.{has_field, int_of, only_of}
use Rattle.json_view.specs.declared.fault.JsonFault.{JsonFault}
use Rattle.json_view.specs.declared.fault.JsonFault.TheVariants.{NotJson, WrongKind, MissingField, UnknownField, OutOfRange, Memory}
use Rattle.jvm_values.specs.declared.heap.Value.{Value}
use Rattle.jvm_values.specs.declared.heap.Value.TheVariants.{Int, Null}
use Rattle.input_text.specs.Answers.{Says}
use Rattle.input_text.specs.Fields.{an_int}
use Rattle.input_text.specs.Values.{int_value, ref_value, value_by, value_of}

err_of : {A : Type 0} {a b : JsonFault} → (let r : Result A JsonFault = Err a in r) ≡ Err b → a ≡ b
err_of e = cc

null_by : (value : Data) (here : Located) → is_some (as_null value) ≡ true → value_by value here ≡ Ok Null
null_by null here e = refl
null_by (boolean b) here e = let no : ⊥ = cc in absurd no
null_by (number n) here e = let no : ⊥ = cc in absurd no
null_by (string s) here e = let no : ⊥ = cc in absurd no
null_by (array items) here e = let no : ⊥ = cc in absurd no
null_by (object fields) here e = let no : ⊥ = cc in absurd no

-- null
pub null_is : (here : Located) → is_some (as_null here.value) ≡ true → value_of here ≡ Ok Null
unfolding value_of
null_is here e = null_by here.value here e

field_by : (name place : List ℕ) (value : Data) → has_field name (record { value = value; place = place }) ≡ true
    → value_by value (record { value = value; place = place }) ≡ ref_value (record { value = value; place = place })
field_by name place null e = let no : ⊥ = cc in absurd no
field_by name place (boolean b) e = refl
field_by name place (number n) e = let no : ⊥ = cc in absurd no
field_by name place (string s) e = refl
field_by name place (array items) e = refl
field_by name place (object fields) e = refl

-- an object with a field
pub ref_is : (name : List ℕ) (here : Located) → has_field name here ≡ true → value_of here ≡ ref_value here
unfolding value_of
ref_is name here e = field_by name here.place here.value e

int_by : (place : List ℕ) (value : Data) (n : ℤ) → an_int (record { value = value; place = place }) ≡ Ok n
    → value_by value (record { value = value; place = place }) ≡ Ok (Int n)
unfolding an_int int_of int_value
int_by place null n e = let no : ⊥ = cc in absurd no
int_by place (boolean b) n e = let no : ⊥ = cc in absurd no
int_by place (number k) n e = rw e
int_by place (string s) n e = let no : ⊥ = cc in absurd no
int_by place (array items) n e = let no : ⊥ = cc in absurd no
int_by place (object fields) n e = let no : ⊥ = cc in absurd no

-- an int
pub int_is : (here : Located) (n : ℤ) → an_int here ≡ Ok n → value_of here ≡ Ok (Int (to_z w32 (of_z w32 n)))
unfolding value_of
int_is here n e = int_by here.place here.value n e ∙ ap (λ (z : ℤ). Ok (Int z)) (sym (int_kept n here e))

no_kind : (place p : List ℕ) (t : Bool) (n : ℤ) → cond t (Ok n) (Err (OutOfRange place)) ≡ Err (WrongKind p) → ⊥
no_kind place p true n e = cc
no_kind place p false n e = cc

number_by : (place p : List ℕ) (n : Num) → an_int (record { value = number n; place = place }) ≡ Err (WrongKind p)
    → int_value (record { value = number n; place = place }) ≡ ref_value (record { value = number n; place = place })
unfolding an_int int_of int_value ref_value only_of
number_by place p (unsigned k) e = absurd (no_kind place p (int_le (negsuc 2147483647) (pos k) && int_le (pos k) (pos 2147483647))
    (pos k) e)
number_by place p (negative z) e = absurd (no_kind place p (int_le (negsuc 2147483647) z && int_le z (pos 2147483647)) z e)
number_by place p (float x) e = refl

kind_by : (place p : List ℕ) (value : Data) → is_some (as_null value) ≡ false
    → an_int (record { value = value; place = place }) ≡ Err (WrongKind p)
    → value_by value (record { value = value; place = place }) ≡ ref_value (record { value = value; place = place })
kind_by place p null f e = let no : ⊥ = cc in absurd no
kind_by place p (boolean b) f e = refl
kind_by place p (number n) f e = number_by place p n e
kind_by place p (string s) f e = refl
kind_by place p (array items) f e = refl
kind_by place p (object fields) f e = refl

-- what is read as a reference
pub wrong_kind_is : (here : Located) (p : List ℕ) → is_some (as_null here.value) ≡ false → an_int here ≡ Err (WrongKind p)
    → value_of here ≡ ref_value here
unfolding value_of
wrong_kind_is here p f e = kind_by here.place p here.value f e

abbrev Other : JsonFault → Type 0
Other (WrongKind p) = ⊥
Other NotJson = Unit {0}
Other (MissingField p) = Unit {0}
Other (UnknownField p) = Unit {0}
Other (OutOfRange p) = Unit {0}
Other Memory = Unit {0}

other_by : (place : List ℕ) (value : Data) (fault : JsonFault) → Other fault
    → an_int (record { value = value; place = place }) ≡ Err fault → value_by value (record { value = value; place = place }) ≡ Err fault
unfolding an_int int_of int_value
other_by place null fault o e = absurd (subst Other (sym (err_of e)) o)
other_by place (boolean b) fault o e = absurd (subst Other (sym (err_of e)) o)
other_by place (number k) fault o e = rw e
other_by place (string s) fault o e = absurd (subst Other (sym (err_of e)) o)
other_by place (array items) fault o e = absurd (subst Other (sym (err_of e)) o)
other_by place (object fields) fault o e = absurd (subst Other (sym (err_of e)) o)

-- another fault
pub other_is : (here : Located) (fault : JsonFault) → Other fault → an_int here ≡ Err fault → value_of here ≡ Err fault
unfolding value_of
other_is here fault o e = other_by here.place here.value fault o e

-- the fault of reading an int stands for the value, where it isn't of the wrong kind
pub other_says : (here : Located) (fault : JsonFault) → ((p : List ℕ) → fault ≡ WrongKind p → ⊥)
    → Says {A = ℤ} (Err fault) (an_int here) → Says {A = Value} (Err fault) (value_of here)
other_says here (WrongKind p) n e = absurd (n p refl)
other_says here NotJson n e = other_is here NotJson tt e
other_says here (MissingField p) n e = other_is here (MissingField p) tt e
other_says here (UnknownField p) n e = other_is here (UnknownField p) tt e
other_says here (OutOfRange p) n e = other_is here (OutOfRange p) tt e
other_says here Memory n e = tt

-- what is read as a reference, by the fault itself
pub ref_says : (here : Located) (fault : JsonFault) (p : List ℕ) → fault ≡ WrongKind p → is_some (as_null here.value) ≡ false
    → Says {A = ℤ} (Err fault) (an_int here) → value_of here ≡ ref_value here
ref_says here fault p is f e = wrong_kind_is here p f (subst (λ (x : JsonFault). Says {A = ℤ} (Err x) (an_int here)) is e)
