use Rattle.std.proofs.Common.{map, sym, ap, ◌∙◌}
use Rattle.gsi_word.specs.Words.{parts_of}
use Rattle.th_entries.specs.Words.{measured}
use Rattle.th_entries.proofs.MeasuredLemmas.{none_seen}
use Rattle.th_entries.proofs.words.see_measured.Goals as goal

pub returns-else-may_measure : goal.returns-else-may_measure
returns-else-may_measure c = sym (none_seen (map parts_of c.args.words.now) c.args.seen.now measured (c.may_measure.ensures c.if-may_measure.false))
