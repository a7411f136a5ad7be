use Rattle.std.proofs.Common.{◌-◌, length}
use Rattle.th_report.proofs.NameLemmas.{zeros_before}
use Rattle.th_report.proofs.laws.padded_name_is_read_back.Goals as goal

pub returns : goal.returns
returns c = λ name is. zeros_before (16 - length name) name name is
