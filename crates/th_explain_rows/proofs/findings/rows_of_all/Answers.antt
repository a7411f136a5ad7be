use Rattle.std.proofs.Common.{◌≡◌, ◌∙◌, Option, ap, length, subst, sym}
use Rattle.std.specs.List.{AllZip, enumerate_from}
use Rattle.th_changes.specs.declared.cases.Case.{Case}
use Rattle.th_explain_rows.specs.Explanations.{IsEnough}
use Rattle.th_explain_rows.specs.Inside.Sifting.{IsSiftedOrBehind}
use Rattle.th_explain_rows.specs.Rows.{IsBestBeyond}
use Rattle.th_explain_rows.specs.declared.rows.Cutoff.{Cutoff}
use Rattle.th_explain_rows.specs.Inside.Passing.{AreRowsOf}
use Rattle.th_explain_rows.specs.declared.finder.Finder.{Finder}
use Rattle.th_explain_rows.specs.declared.finder.Misfit.{Misfit}
use Rattle.th_explain_rows.proofs.FindLemmas.{own_rows}
use Rattle.th_explain_rows.proofs.findings.rows_of_all.Goals as goal

pub rows_ahead-requires : goal.rows_ahead-requires
rows_ahead-requires g c =
    let own = c.in_ok-own.own in
    let later : Finder = c.filtered.new.finder in
    subst (λ (case : Case). AllZip (IsSiftedOrBehind case.network.now own.filter own.cutoff) (enumerate_from 0 c.args.candidates.now) own.freed.items)
    (sym (later.same ∙ ap (λ (own : Misfit). own.case.now) c.in_ok-own.ensures.misfit)) c.in_ok-own.ensures.found

pub returns-clause-rows : goal.returns-clause-rows
returns-clause-rows g c =
    let misfit : Misfit = c.args.finder.now.misfit in
    let candidates = c.args.candidates.now in
    let rows = c.in_ok-rows.rows.items in
    let filter = c.in_ok-own.own.filter in
    let cutoff = c.in_ok-own.own.cutoff in
    let (own, numbers, all) = c.in_ok-rows.ensures.rows in
    let later : Finder = c.filtered.new.finder in
    let case : Case = later.mending.case.now in
    let same : c.all_passed.new.finder.misfit ≡ misfit = c.in_ok-all.ensures.misfit in
    let given : case ≡ misfit.case.now = later.same ∙ ap (λ (own : Misfit). own.case.now) (c.in_ok-own.ensures.misfit ∙ same) in
    subst (λ (own : Case). AreRowsOf own misfit.limit candidates rows) given
    (own_rows case.network.now case.cost misfit.limit candidates rows filter cutoff own
    (c.in_ok-own.ensures.limit ∙ ap (λ (own : Misfit). own.limit) same)
    (subst (λ (own : Case). IsBestBeyond own.network.now misfit.limit candidates filter.best) (sym given)
    (subst (λ (own : Misfit). IsBestBeyond own.case.now.network.now own.limit candidates filter.best) same c.in_ok-own.ensures.best))
    numbers all
    (subst (λ (own : Option Cutoff). IsEnough own (length c.in_ok-rows.rows.items)) (sym (c.in_ok-own.ensures.cutoff ∙ c.in_ok-all.ensures.all)) tt))
