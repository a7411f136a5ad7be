use Rattle.std.proofs.Common.{List, ℕ, Option, Some, None, All, length, subst, sym, ap, ◌∙◌}
use Rattle.std.specs.List.{zip}
use Rattle.std.proofs.lemmas.List.{length-map}
use Rattle.th_points.specs.Ends.{AreBelow, ends_in}
use Rattle.th_points.proofs.PlaceLemmas.{ends_within}
use Rattle.th_points.specs.Points.{points}
use Rattle.th_checker.specs.Inside.Tests.{AreBalances, AreMapsAt, first_place, listed_in, slack_verdict_at}
use Rattle.th_checker.specs.Verdicts.{first_unbalanced, if_found, slack_verdict}
use Rattle.th_checker.specs.declared.verdicts.Reason.TheVariants.{FlowTooLarge, Unbalanced}
use Rattle.th_checker.proofs.CheckLemmas.{flow_is, maps_at_names, slack_is, too_large_found, unbalanced_found}
use Rattle.th_checker.proofs.PlaceLemmas.{weight_by}
use Rattle.th_checker.proofs.checking.check_flows.Goals as goal

pub invariant_of-tested : goal.invariant_of-tested
invariant_of-tested c =
    let observations = c.args.observations.now in
    let benchmarks = c.args.benchmarks.now in
    let names = c.args.points.now.names.keys in
    let ends = c.args.points.now.ends.items in
    let below = ends_within observations benchmarks names ends c.requires.points in
    record {
      tested = record {
        few = c.requires.few;
        ended = ap length (c.deref.ensures.value ∙ c.requires.points.placed) ∙ length-map observations (ends_in (points observations benchmarks));
        within = subst (λ (es : List (ℕ × ℕ)). All (AreBelow c.len.result) es) (sym c.deref.ensures.value) (subst (λ (n : ℕ). All (AreBelow n) ends) (sym c.len.ensures.len) below);
        weighed = ap length (c.deref-2.ensures.value ∙ c.in_ok-weights.ensures) ∙ length-map observations (weight_by c.args.weights.now);
        flowing = ap length c.flows.ensures.flows ∙ c.requires.each;
        in_range = c.flows.ensures.in_range;
      };
    }

pub returns-in-Some : goal.returns-in-Some
returns-in-Some c =
    let observations = c.args.observations.now in
    let certificate = c.args.certificate.now in
    let found = too_large_found c.args.weights.now observations certificate.flows c.flows.result.now c.deref-2.result.now (Some c.in-Some.number) (c.deref-2.ensures.value ∙ c.in_ok-weights.ensures) c.flows.ensures.flows c.in-Some.ensures in
    ap (λ (f : Option ℕ). if_found f FlowTooLarge (if_found (first_unbalanced observations c.args.benchmarks.now certificate.flows) Unbalanced (slack_verdict observations c.args.weights.now certificate))) found

pub returns-in-Some-first_unbalanced : goal.returns-in-Some-first_unbalanced
returns-in-Some-first_unbalanced c =
    let observations = c.args.observations.now in
    let benchmarks = c.args.benchmarks.now in
    let certificate = c.args.certificate.now in
    let names = c.args.points.now.names.keys in
    let ends = c.args.points.now.ends.items in
    let flows = c.flows.result.now in
    let none = too_large_found c.args.weights.now observations certificate.flows flows c.deref-2.result.now None (c.deref-2.ensures.value ∙ c.in_ok-weights.ensures) c.flows.ensures.flows c.in_default.ensures in
    let sums : AreBalances (length names) (zip ends flows) c.in_ok-balances.balances.items =
    subst (λ (es : List (ℕ × ℕ)). AreBalances (length names) (zip es flows) c.in_ok-balances.balances.items) c.deref.ensures.value
    (subst (λ (n : ℕ). AreBalances n (zip c.deref.result.now flows) c.in_ok-balances.balances.items) c.len.ensures.len c.in_ok-balances.ensures) in
    let found = unbalanced_found observations benchmarks certificate.flows flows names ends c.in_ok-balances.balances.items (Some c.in-Some-first_unbalanced.name) c.requires.points c.flows.ensures.flows sums
    (c.in-Some-first_unbalanced.ensures ∙ ap (λ (ns : List (List ℕ)). first_place benchmarks ns c.deref-3.result.now) c.as_slice.ensures.keys ∙ ap (first_place benchmarks names) c.deref-3.ensures.value) in
    ap (λ (f : Option (List ℕ)). if_found f Unbalanced (slack_verdict observations c.args.weights.now certificate)) found
    ∙ ap (λ (f : Option ℕ). if_found f FlowTooLarge (if_found (first_unbalanced observations benchmarks certificate.flows) Unbalanced (slack_verdict observations c.args.weights.now certificate))) none

pub check_slack-requires-clause-maps : goal.check_slack-requires-clause-maps
check_slack-requires-clause-maps c =
    subst (λ (n : ℕ). AreMapsAt n c.args.maps.now) (sym c.len.ensures.len) (maps_at_names c.args.points.now.names.keys c.args.certificate.now c.args.maps.now c.requires.maps)

pub returns : goal.returns
returns c =
    let observations = c.args.observations.now in
    let benchmarks = c.args.benchmarks.now in
    let weights = c.args.weights.now in
    let certificate = c.args.certificate.now in
    let maps = c.args.maps.now in
    let names = c.args.points.now.names.keys in
    let ends = c.args.points.now.ends.items in
    let flows = c.flows.result.now in
    let none = too_large_found weights observations certificate.flows flows c.deref-2.result.now None (c.deref-2.ensures.value ∙ c.in_ok-weights.ensures) c.flows.ensures.flows c.in_default.ensures in
    let sums : AreBalances (length names) (zip ends flows) c.in_ok-balances.balances.items =
    subst (λ (es : List (ℕ × ℕ)). AreBalances (length names) (zip es flows) c.in_ok-balances.balances.items) c.deref.ensures.value
    (subst (λ (n : ℕ). AreBalances n (zip c.deref.result.now flows) c.in_ok-balances.balances.items) c.len.ensures.len c.in_ok-balances.ensures) in
    let balanced = unbalanced_found observations benchmarks certificate.flows flows names ends c.in_ok-balances.balances.items None c.requires.points c.flows.ensures.flows sums
    (c.in_default-first_unbalanced.ensures ∙ ap (λ (ns : List (List ℕ)). first_place benchmarks ns c.deref-3.result.now) c.as_slice.ensures.keys ∙ ap (first_place benchmarks names) c.deref-3.ensures.value) in
    let slack = slack_is observations benchmarks weights names ends c.requires.points certificate maps c.deref-2.result.now (c.deref-2.ensures.value ∙ c.in_ok-weights.ensures) c.requires.maps in
    c.check_slack.ensures
    ∙ ap (λ (es : List (ℕ × ℕ)). slack_verdict_at c.deref-2.result.now (zip observations es) certificate maps.heights.items (listed_in maps.low) (listed_in maps.high)) c.deref.ensures.value
    ∙ slack
    ∙ flow_is observations benchmarks weights certificate none balanced
