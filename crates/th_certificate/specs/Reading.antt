-- The certificate in some bytes.
use Rattle.std.specs.Prelude.{ℕ, ◌+◌, ◌&&◌, ◌==◌, Bool, false, List, [], ◌∷◌, length, Option, Some, None, Result, Ok, Err, if◌then◌else◌, bytes_eq, codes, nat_lt}
use Rattle.th_certificate.specs.Limits.{max_certificate}
use Rattle.th_csv.specs.Records.{Fields, records_of}
use Rattle.th_certificate.specs.Certified.{Certified, HeightRows}
use Rattle.th_certificate.specs.Faults.{too_long}
use Rattle.th_certificate.specs.Statements.{Draft, begun, statement_of, with_statement}
use Rattle.th_certificate.specs.declared.faults.CertFault.{CertFault}
use Rattle.th_certificate.specs.declared.faults.CertKind.{CertKind}
use Rattle.th_certificate.specs.declared.faults.CertKind.TheVariants.{BadHeader, Truncated}

-- the rows of lowest or highest heights, which only version 2 has
abbrev pub in_version_2 : ℕ → HeightRows → Option HeightRows
in_version_2 version rows = if version == 2 then Some rows else None

-- the certificate of a draft at the end of the records; without a cost, the record after the last one is missing
abbrev pub ended : ℕ → Draft → Option ℕ → Result Certified CertFault
ended row draft None = Err (record { row = row; kind = Truncated })
ended row draft (Some cost) = Ok (record {
  version = draft.version;
  heights = draft.heights;
  low = in_version_2 draft.version draft.low;
  high = in_version_2 draft.version draft.high;
  flows = draft.flows;
  cost = cost;
})

-- the result of the later records after what was read of this one, or this record's fault
abbrev pub after : {A : Type 0} → ℕ → (A → Result Certified CertFault) → Result A CertKind → Result Certified CertFault
after row later (Ok read) = later read
after row later (Err kind) = Err (record { row = row; kind = kind })

-- the certificate of a draft and the records after it, the first of which has number `row`; or the fault of the first that has one
abbrev pub certificate_after : List Fields → ℕ → Draft → Result Certified CertFault
certificate_after [] row draft = ended row draft draft.cost
certificate_after (this ∷ rest) row draft = after row (λ statement. certificate_after rest (row + 1) (with_statement draft statement)) (statement_of draft this)

-- whether a record is the header of a certificate
abbrev pub is_header : Fields → Bool
is_header (kind ∷ key ∷ number ∷ []) = bytes_eq kind (codes "kind") && (bytes_eq key (codes "key") && bytes_eq number (codes "value"))
is_header _ = false

-- the certificate of the records under the header, the first of which is record 2
abbrev pub certificate_under : List Fields → Result Certified CertFault
certificate_under [] = Err (record { row = 2; kind = Truncated })
certificate_under (this ∷ rest) = after 2 (certificate_after rest 3) (begun this)

-- the certificate in all records, or the first kind of fault of the first faulty record; the header is record 1
abbrev pub certificate_in : List Fields → Result Certified CertFault
certificate_in [] = Err (record { row = 1; kind = BadHeader })
certificate_in (this ∷ rest) = if is_header this then certificate_under rest else Err (record { row = 1; kind = BadHeader })

-- the certificate in some bytes, or its first fault
abbrev pub certificate_of : List ℕ → Result Certified CertFault
certificate_of bytes = if nat_lt max_certificate (length bytes) then Err too_long else certificate_in (records_of bytes)
