use Rattle.std.proofs.Common.{◌≡◌, ◌++◌, All, Some, drop, map, take}
use Rattle.gsi_word.specs.Names.{name_of}
use Rattle.th_csv.specs.Texts.{csv_text}
use Rattle.th_network.specs.Heights.{heights_at}
use Rattle.th_network.specs.Networks.{points_of}
use Rattle.th_certificate.specs.Certified.{rows_at}
use Rattle.th_certificate.specs.Texts.{height_row}
use Rattle.th_certificate.proofs.writing.write_heights.Given as goal

abbrev pub invariant-loop-k : goal.invariant-loop-k
invariant-loop-k l =
    let names = points_of l.network in
    let heights = heights_at names l.heights in
    record {
      text : l.writer.text ++ csv_text (map (height_row l.letter) (rows_at (drop l.k names) heights)) ≡ l.initial.writer.text ++ csv_text (map (height_row l.letter) (rows_at names heights));
      names : All (λ name. name_of name ≡ Some name) (take l.k names);
    }
