use Rattle.std.proofs.Common.{◌≡◌, FitsSigned, of_z, rules, subst, sym, to_z, w64, ◌∙◌}
use Rattle.std.proofs.lemmas.Int.{to_z-of_z}
use Rattle.th_changes.specs.Flows.{net}
use Rattle.th_changes.specs.Inside.Sums.{flows_of}
use Rattle.th_changes.specs.Kept.{IsKept}
use Rattle.th_changes.proofs.ReroutedLemmas.{line_of}
use Rattle.th_changes.proofs.kept.KeptFlows.line.Goals as goal

pub returns : goal.returns
returns c =
    let own = c.args.self.now in
    let case = own.case.now in
    let survey = case.network.now in
    let number = c.args.number.now in
    let net_fits : FitsSigned w64 c.net.result = search rules in
    let flowing : to_z w64 (of_z w64 c.net.result) ≡ net number survey (flows_of own.sums.items) = to_z-of_z w64 c.net.result net_fits ∙ c.net.ensures in
    let lost_fits : FitsSigned w64 own.lost = search rules in
    line_of survey number case.cost (flows_of own.sums.items) _ (subst (IsKept survey case.cost (flows_of own.sums.items)) (sym (to_z-of_z w64 own.lost lost_fits)) own.kept) flowing
