use Rattle.th_meant.proofs.SlipLemmas.{slip_back, slip_differs, slip_digits, slip_length}
use Rattle.th_meant.proofs.laws.slips_go_both_ways.Goals as goal

pub returns-clause-back : goal.returns-clause-back
returns-clause-back c = λ meant typed digits slip. slip_back slip digits

pub returns-clause-digits : goal.returns-clause-digits
returns-clause-digits c = λ meant typed digits slip. slip_digits slip digits

pub returns-clause-length : goal.returns-clause-length
returns-clause-length c = λ digits slip is. slip_length is

pub returns-clause-another : goal.returns-clause-another
returns-clause-another c = λ digits slip is. slip_differs is
