-- What a reader of a certificate's JSON answers: what the value says, or the first fault, or want of memory.
use Rattle.std.specs.Prelude.{Bool, true, false, List, ℕ, length, Result, Err}
use Rattle.list_views.specs.Results as results
use Rattle.json_view.specs.Located.{Located}
use Rattle.json_view.specs.declared.fault.JsonFault.{JsonFault}
use Rattle.json_view.specs.declared.fault.JsonFault.TheVariants as faults
use Rattle.cert_form.specs.declared.fault.CertFault.{CertFault}
use Rattle.cert_form.specs.declared.fault.CertFault.TheVariants.{Json, Limit, Memory}

-- a reader of a certificate's JSON: from a value with its place to what the value says, or the first fault
abbrev pub Reader : Type 0 → Type 0
Reader A = Located → Result A CertFault

-- the fault says that memory ran out
abbrev pub is_memory : CertFault → Bool
is_memory Memory = true
is_memory fault = false

-- the answer of a call is what a reader says, where `shows` is what a clause sees of it; want of memory may stand in its place
abbrev pub Tells : {T A : Type 0} → (T → A) → Result T CertFault → Result A CertFault → Type 0
Tells shows answer said = results.Gives is_memory shows answer said

-- the answer of a call is what a reader says, seen as it is; want of memory may stand in its place
abbrev pub Says : {A : Type 0} → Result A CertFault → Result A CertFault → Type 0
Says answer said = Tells (λ value. value) answer said

-- a fault of JSON as a fault of certificates; want of memory is the same for both
abbrev pub lifted : JsonFault → CertFault
lifted faults.Memory = Memory
lifted fault = Json fault

-- what is read of JSON, with its fault as one of certificates
abbrev pub json : {A : Type 0} → Result A JsonFault → Result A CertFault
json said = results.with_fault Json said

-- the value at this place is of the wrong kind
abbrev pub wrong_kind : {A : Type 0} → Located → Result A CertFault
wrong_kind here = Err (Json (faults.WrongKind here.place))

-- the value at this place is of the right kind, and out of its range
abbrev pub out_of_range : {A : Type 0} → Located → Result A CertFault
out_of_range here = Err (Json (faults.OutOfRange here.place))

-- the value at this place passes a limit of certificates
abbrev pub past_limit : {A : Type 0} → Located → Result A CertFault
past_limit here = Err (Limit here.place)

-- whether something is read, without what it is, or its first fault
abbrev pub done : {A : Type 0} → Result A CertFault → Result (Unit {0}) CertFault
done said = results.mapped (λ value. tt) said

-- how many entries are read of a list, or the first fault
abbrev pub counted : {A : Type 0} → Result (List A) CertFault → Result ℕ CertFault
counted said = results.mapped length said
