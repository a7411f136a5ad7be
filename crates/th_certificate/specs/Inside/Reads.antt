use Rattle.std.specs.Prelude.{◌≡◌, ◌⊎◌, Result, Ok, Err, IfErr, IfOk}
use Rattle.th_certificate.specs.Certified.{Certified}
use Rattle.th_certificate.specs.Faults.{no_memory}
use Rattle.th_certificate.specs.declared.faults.CertFault.{CertFault}

-- the certificate or the fault of some records was read; an allocation failure may come in place of either
pub record IsReadOf (owed result : Result Certified CertFault) : Type 0 where
  pub certificate : IfOk result (λ certificate. owed ≡ Ok certificate)
  pub fault : IfErr result (λ fault. (fault ≡ no_memory) ⊎ (owed ≡ Err fault))
