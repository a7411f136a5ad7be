use Rattle.std.proofs.Common.{[], rules}
use Rattle.th_runs.proofs.NoteLemmas.{all_noted, sightless_of_all}
use Rattle.th_runs.proofs.adjusting.AdjustSurveyCommand.texts.Goals as goal

pub returns-clause-texts : goal.returns-clause-texts
returns-clause-texts g c = λ tolds read. search rules

pub returns-clause-noted : goal.returns-clause-noted
returns-clause-noted g c = λ tolds read. record {
  books = sightless_of_all tolds.books read.first c.args.reader.now (all_noted 1 tolds.books [] _ read.first c.args.reader.now read.read) read.new.books;
  remarks = search rules;
}
