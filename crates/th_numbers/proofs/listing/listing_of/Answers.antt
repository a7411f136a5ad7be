use Rattle.std.proofs.Common.{◌∙◌, ◌++◌, List, ap, map}
use Rattle.th_observations.specs.Observed.{Observed}
use Rattle.th_entries.specs.declared.entries.HeightKind.TheVariants as height
use Rattle.th_numbers.specs.Lists.{changes, entered}
use Rattle.th_numbers.specs.declared.candidates.Candidate.TheVariants.{Sight}
use Rattle.th_numbers.proofs.ListLemmas.{listed_same}
use Rattle.th_numbers.proofs.listing.listing_of.Goals as goal

pub returns : goal.returns
returns c =
    let all = c.observations-observations.ensures.observations in
    let run = c.of-runs.ensures ∙ all in
    let entries = c.args.kinds.now.entries.now in
    let (tied, are, is) = c.in_ok-benchmarks.ensures in (
      tied,
      are,
      listed_same _ _ _ _ _ _ _ _
          (c.in_ok-entered.ensures ∙ ap (λ (os : List Observed). entered os height.Instrument entries ++ entered os height.Reflector entries) run)
          (c.in_ok-changes.ensures ∙ ap (λ (os : List Observed). changes os entries) run)
          (c.in_ok-sights.ensures ∙ ap (map Sight) all) is,
    )
