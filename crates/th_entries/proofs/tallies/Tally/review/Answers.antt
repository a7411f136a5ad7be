use Rattle.std.proofs.Common.{rules, ap, sym, subst, ◌∙◌, filter, List}
use Rattle.std.proofs.lemmas.Fn.{filter_same}
use Rattle.th_entries.specs.Seen.{AreSeenIn}
use Rattle.th_entries.specs.Sights.{no_sight_in}
use Rattle.th_entries.specs.Spellings.{Mention, mentions_of}
use Rattle.th_entries.proofs.Kept.{is_used, kept}
use Rattle.th_entries.proofs.MentionLemmas.{mentions_of-push}
use Rattle.th_entries.proofs.tallies.Tally.review.Goals as goal

pub returns-clause-review : goal.returns-clause-review
returns-clause-review c = λ names number parsed seen. let is = seen c.in_default.is in record {
  counts = is.counts;
  no_sight = c.note.ensures parsed is.watch ∙ ap (λ own. no_sight_in own parsed) is.book;
  entries = c.shrink_to_fit.ensures.items ∙ filter_same _ is_used _ (λ x b f' k. search rules) _ _ c.retain.ensures.filtered ∙ ap (filter is_used) is.entered.entries ∙ kept number parsed;
  lookalikes = is.lookalikes;
  directions = is.directions;
  changes = is.changes;
}

pub returns-clause-names : goal.returns-clause-names
returns-clause-names c = λ names number parsed seen before own.
    let is = seen c.in_default.is in
    subst (λ (mentions : List Mention). AreSeenIn mentions c.args.self.names) (sym (mentions_of-push before number parsed)) (is.seen (mentions_of before) own)
