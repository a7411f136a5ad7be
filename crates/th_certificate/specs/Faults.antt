-- The faults of a certificate, and their texts.
use Rattle.std.specs.Prelude.{ℕ, List, ◌++◌, codes}
use Rattle.std.specs.Fmt.{decimal}
use Rattle.th_certificate.specs.declared.faults.CertFault.{CertFault}
use Rattle.th_certificate.specs.declared.faults.CertKind.{CertKind}
use Rattle.th_certificate.specs.declared.faults.CertKind.TheVariants.{BadHeader, FieldCount, BadKind, BadName, BadNumber, TooLarge, Truncated, NoMemory}

-- out of memory, and a certificate of too many bytes
abbrev pub no_memory : CertFault
no_memory = record { row = 0; kind = NoMemory }

abbrev pub too_long : CertFault
too_long = record { row = 0; kind = TooLarge }

-- the text of a kind of fault
abbrev pub kind_text : CertKind → List ℕ
kind_text BadHeader = codes "C1 bad header"
kind_text FieldCount = codes "C2 field count"
kind_text BadKind = codes "C3 bad kind"
kind_text BadName = codes "C4 bad name"
kind_text BadNumber = codes "C5 bad number"
kind_text TooLarge = codes "C6 too large"
kind_text Truncated = codes "C7 truncated"
kind_text NoMemory = codes "out of memory"

-- the text of a fault, with its record
abbrev pub fault_text : CertFault → List ℕ
fault_text fault = codes "record " ++ decimal fault.row ++ codes ": " ++ kind_text fault.kind
