use Rattle.std.proofs.Common.{◌≡◌, Some, slice_get, sym, ap, ◌∙◌}
use Rattle.std.proofs.lemmas.Bool.{false≢true}
use Rattle.std.proofs.lemmas.Option.{get_or_from_slice_get, slice_get-get_or, slice_get_past}
use Rattle.std.proofs.lemmas.Slice.Eq.{bytes_eq-Decides}
use Rattle.th_points.proofs.points.stands_at.Goals as goal

pub returns-in-Some : goal.returns-in-Some
returns-in-Some c =
    let names = c.args.names.now in
    let there = c.in-Some.there.now in
    let name = c.args.name.now in
    let at : slice_get names c.args.place ≡ Some there = slice_get-get_or names c.args.place there c.in-Some.ensures.lookup.3.0 ∙ ap Some (sym c.in-Some.ensures.lookup.1) in (
      (λ equal. at ∙ ap Some ((bytes_eq-Decides there name).0 (sym c.eq.ensures ∙ equal))),
      (λ found. c.eq.ensures ∙ (bytes_eq-Decides there name).1 (sym (get_or_from_slice_get names c.args.place there there at) ∙ get_or_from_slice_get names c.args.place name there found)),
    )

pub returns-in-None : goal.returns-in-None
returns-in-None c = (
  (λ equal. absurd (false≢true equal)),
  (λ found. absurd (cc (sym (slice_get_past c.args.names.now c.args.place c.in-None.ensures.lookup.3) ∙ found))),
)
