use Rattle.std.proofs.Common.{Some, refl, ap, ◌∙◌}
use Rattle.std.proofs.lemmas.Option.{slice_get_read}
use Rattle.th_network.proofs.MarkLemmas.{added_before, added_mark, spreads_mark, spreads_none}
use Rattle.th_network.proofs.marks.Marks.mark.Goals as goal

pub returns-in_ok-push : goal.returns-in_ok-push
returns-in_ok-push c = record {
  added = added_mark _ _ c.requires;
  spreads = spreads_mark _ _ _ _ _ c.requires c.index.ensures c.if-not-index.true c.in_ok-push.ensures.items;
}

pub returns-else-not-index : goal.returns-else-not-index
returns-else-not-index c = record {
  added = added_before _ _ (slice_get_read _ _ _ c.index.result.now refl c.requires c.index.ensures ∙ ap Some c.if-not-index.false);
  spreads = spreads_none _ _;
}
