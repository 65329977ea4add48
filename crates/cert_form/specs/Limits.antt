-- How long a certificate may be.
use Rattle.std.specs.Prelude.{ℕ}

-- the most bytes of a certificate: 16 MiB
abbrev pub most_certificate_bytes : ℕ
most_certificate_bytes = 16777216
