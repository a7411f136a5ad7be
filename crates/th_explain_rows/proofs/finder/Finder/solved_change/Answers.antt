use Rattle.std.proofs.Common.{◌≡◌, ◌∙◌, ℤ, FitsSigned, ap, rules, w64}
use Rattle.std.proofs.lemmas.Int.{to_z-of_z}
use Rattle.th_numbers.specs.Candidates.{number_of}
use Rattle.th_explain_rows.specs.Rows.{limit_size}
use Rattle.th_explain_rows.specs.declared.finder.Finder.{Finder}
use Rattle.th_explain_rows.specs.declared.finder.Misfit.{Misfit}
use Rattle.th_explain_rows.proofs.PassLemmas.{change_found, explained_in}
use Rattle.th_explain_rows.proofs.finder.Finder.solved_change.Goals as goal

pub returns-clause-found : goal.returns-clause-found
returns-clause-found c =
    let misfit : Misfit = c.args.self.now.misfit in
    let survey = misfit.case.now.network.now in
    let limit : ℤ = misfit.limit in
    let candidate = c.args.candidate.now in
    let fits : FitsSigned w64 limit = search rules in
    let size : c.limit_size-size.result ≡ limit_size limit = c.limit_size-size.ensures ∙ ap limit_size (to_z-of_z w64 limit fits) in
    let own : Finder = c.least_of.new.self in
    let case : own.mending.sieve.case.now ≡ misfit.case.now = own.mending.same ∙ own.same ∙ ap (λ (own : Misfit). own.case.now) c.in_ok-most.ensures.misfit in
    change_found survey limit candidate c.args.whole.now c.requires c.in_ok-most.most c.in_ok-most.ensures.most c.freed_is_one.ensures c.args.least c.next.result c.lesser-nearer.result c.lesser-nearer.ensures c.next.ensures c.in_ok-found.found c.at_most.result
    (explained_in own.mending.sieve.case.now misfit.case.now c.limit_size-size.result (limit_size limit) c.number-number.result (number_of candidate) c.lesser-nearer.result c.in_ok-found.found case size c.number-number.ensures c.in_ok-found.ensures.found)
    c.at_most.ensures
