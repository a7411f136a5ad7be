use Rattle.std.proofs.Common.{ℤ, ap, w64, ◌∙◌}
use Rattle.std.proofs.lemmas.Int.{to_z-of_z}
use Rattle.th_meant.specs.Inside.Named.{named_in}
use Rattle.th_meant.proofs.RowLemmas.{are_named_in, if_ok}
use Rattle.th_meant.proofs.named.heights_named.Goals as goal

pub returns : goal.returns
returns c =
    let entries = c.args.entries.now in
    let rows = c.args.rows.now in
    let limit = to_z-of_z w64 c.args.limit c.ranges.limit in
    if_ok c.heights_computed.result
    (λ named same. are_named_in entries c.args.limit rows named.items c.computed_are_named.ensures (same ∙ ap (λ (own : ℤ). named_in entries own rows) limit)) c.heights_computed.ensures
