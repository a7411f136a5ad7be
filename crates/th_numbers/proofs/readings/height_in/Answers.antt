use Rattle.std.proofs.Common.{Option, ap, pos, w64, ◌∙◌, arith}
use Rattle.std.proofs.lemmas.Int.{fits_signed_from_abs, to_z-of_z}
use Rattle.std.specs.Option.{option_map_or}
use Rattle.th_entries.specs.declared.entries.Entry.{Entry}
use Rattle.th_numbers.specs.Lists.{is_used}
use Rattle.th_numbers.proofs.KindLemmas.{same_found}
use Rattle.th_numbers.proofs.readings.height_in.Goals as goal

pub returns-clause-value : goal.returns-clause-value
returns-clause-value c =
    to_z-of_z w64 c.height_among.result (fits_signed_from_abs w64 c.height_among.result (omega (arith, c.height_among.ensures.small)))
    ∙ c.height_among.ensures.value ∙ ap (λ (found : Option Entry). option_map_or (λ (entry : Entry). entry.length) found (pos 0))
    (same_found (is_used c.args.kind c.args.o.now) c.around.result.now c.args.kinds.now.entries.now c.around.ensures)
