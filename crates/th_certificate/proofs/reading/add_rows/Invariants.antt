use Rattle.std.proofs.Common.{◌≡◌, ◌<◌, ◌+◌, ◌^◌, length}
use Rattle.th_certificate.specs.Reading.{certificate_after}
use Rattle.th_certificate.proofs.reading.add_rows.Given as goal

abbrev pub invariant-records : goal.invariant-records
invariant-records l = record {
  few : length l.reader.records + l.row + 1 < 2 ^ 32;
  due : certificate_after l.reader.records l.row l.draft ≡ certificate_after l.initial.reader.records 3 l.initial.draft;
}

abbrev pub decreases-records : goal.decreases-records
decreases-records l = length l.reader.records
