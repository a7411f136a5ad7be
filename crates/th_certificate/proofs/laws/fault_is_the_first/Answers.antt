use Rattle.th_certificate.proofs.FirstFaultLaws.{fault_from, fault_to, in_from, in_to, read_from, read_to}
use Rattle.th_certificate.proofs.laws.fault_is_the_first.Goals as goal

pub returns-clause-records : goal.returns-clause-records
returns-clause-records c = λ records fault. (in_to records fault, in_from records fault)

pub returns-clause-bytes : goal.returns-clause-bytes
returns-clause-bytes c = λ bytes fault. (fault_to bytes fault, fault_from bytes fault)

pub returns-clause-none : goal.returns-clause-none
returns-clause-none c = λ bytes. (λ read. read_to bytes read.0 read.1, read_from bytes)
