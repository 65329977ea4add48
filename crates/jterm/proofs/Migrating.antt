-- A certificate is migrated exactly where it is accepted.
use Rattle.std.proofs.Common.{None, refl}
use Rattle.cert_making.specs.migrate_call.Laws.{MigratesWhatIsAccepted}
use Rattle.jterm.specs.Laws.{AcceptedMigrate}

pub accepted_migrate : MigratesWhatIsAccepted → AcceptedMigrate
accepted_migrate law cert desc classes =
    let is = law cert desc classes in (
      λ h. (
        refl,
        refl,
        is.done.0
            (record { outcome = record { status = h.0.status; out = h.0.out }; done = h.1.0; answer = h.1.1.2 }),
      ),
      λ h.
          let m = is.done.1 h.2 in
          (record { status = m.outcome.status; out = m.outcome.out; reason = None; its = None }, (m.done, (refl, refl, m.answer))),
    )
