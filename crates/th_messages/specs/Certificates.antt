-- What helps against a fault of a certificate.
use Rattle.std.specs.Prelude.{ℕ, List, codes}
use Rattle.th_certificate.specs.declared.faults.CertKind.{CertKind}
use Rattle.th_certificate.specs.declared.faults.CertKind.TheVariants.{BadHeader, FieldCount, BadKind, BadName, BadNumber, TooLarge, Truncated, NoMemory}

-- a fault of a certificate
abbrev pub certificate_help : CertKind → List ℕ
certificate_help BadHeader = codes "a certificate begins with the line: kind,key,value"
certificate_help FieldCount = codes "each line has 3 fields, separated by commas"
certificate_help BadKind = codes "the lines are V, then H, L, U and F, and Z last"
certificate_help BadName = codes "each point is named once for H, once for L and once for U"
certificate_help BadNumber = codes "heights are metres with a dot; flows are numbered 1, 2, 3 and so on"
certificate_help TooLarge = codes "a number has too many digits, or the file more than 8 MiB"
certificate_help Truncated = codes "the end is missing: get the file again"
certificate_help NoMemory = codes "this is no fault of the certificate"
