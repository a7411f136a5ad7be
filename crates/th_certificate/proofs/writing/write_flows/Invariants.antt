use Rattle.std.proofs.Common.{◌≡◌, ◌+◌, ◌++◌, drop, map}
use Rattle.std.specs.List.{enumerate_from}
use Rattle.th_csv.specs.Texts.{csv_text}
use Rattle.th_certificate.specs.Texts.{flow_row}
use Rattle.th_certificate.proofs.writing.write_flows.Given as goal

abbrev pub invariant-loop-place : goal.invariant-loop-place
invariant-loop-place l = l.writer.text ++ csv_text (map flow_row (enumerate_from (l.place + 1) (drop l.place l.flows))) ≡ l.initial.writer.text ++ csv_text (map flow_row (enumerate_from 1 l.flows))
