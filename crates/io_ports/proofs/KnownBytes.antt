-- What a reader gave in pieces, seen whole.
use Rattle.std.proofs.Common.{◌≡◌, ◌<◌, ◌+◌, ℕ, List, ◌++◌, length, IfSome, None, Some, sym, ap, ◌∙◌, subst, append-nil}
use Rattle.std.proofs.Common.{length-append, arith, ◌-◌, take, drop, take-add}
use Rattle.std.proofs.lemmas.List.{take_rest}
use Rattle.std.proofs.KnownBytes.{Appends-trans}
use Rattle.std.specs.declared.option.Option.{Option}
use Rattle.std.specs.Io.KnownBytes.{Appends, Consumes, IsAtEnd}

-- a writer that had taken the first bytes took so many of the rest
pub more_taken : (a b c : Option (List ℕ)) (bytes : List ℕ) (done count : ℕ) → Appends a b (take done bytes)
    → Appends b c (take count (take (length bytes - done) (drop done bytes))) → Appends a c (take (done + count) bytes)
more_taken a b c bytes done count before now =
    let rest : Appends b c (take count (drop done bytes)) = subst (λ l. Appends b c (take count l)) (take_rest bytes done) now in
    subst (Appends a c) (sym (take-add done count bytes)) (Appends-trans a b c _ _ before rest)
