use Rattle.std.proofs.Common.{◌≡◌, ◌∙◌, ap, subst, sym}
use Rattle.std.specs.List.{AllZip, enumerate_from}
use Rattle.th_changes.specs.declared.cases.Case.{Case}
use Rattle.th_explain_rows.specs.Explanations.{IsEnough}
use Rattle.th_explain_rows.specs.Inside.Sifting.{IsSiftedOrBehind}
use Rattle.th_explain_rows.specs.Rows.{IsBestBeyond}
use Rattle.th_explain_rows.specs.Inside.Passing.{AreRowsOf}
use Rattle.th_explain_rows.specs.declared.finder.Finder.{Finder}
use Rattle.th_explain_rows.specs.declared.finder.Misfit.{Misfit}
use Rattle.th_explain_rows.proofs.FindLemmas.{own_rows}
use Rattle.th_explain_rows.proofs.findings.rows_before_cutoff.Goals as goal

pub rows_ahead-requires : goal.rows_ahead-requires
rows_ahead-requires g c =
    let own = c.in_ok-own.own in
    let later : Finder = c.filtered.new.finder in
    subst (λ (case : Case). AllZip (IsSiftedOrBehind case.network.now own.filter own.cutoff) (enumerate_from 0 c.args.numbers.all.now) own.freed.items)
    (sym (later.same ∙ ap (λ (own : Misfit). own.case.now) c.in_ok-own.ensures.misfit)) c.in_ok-own.ensures.found

pub returns-then-is_enough-clause-rows : goal.returns-then-is_enough-clause-rows
returns-then-is_enough-clause-rows g c =
    let misfit : Misfit = c.args.finder.now.misfit in
    let candidates = c.args.numbers.all.now in
    let rows = c.in_ok-rows.rows.items in
    let filter = c.in_ok-own.own.filter in
    let cutoff = c.in_ok-own.own.cutoff in
    let (own, numbers, all) = c.in_ok-rows.ensures.rows in
    let later : Finder = c.filtered.new.finder in
    let case : Case = later.mending.case.now in
    let same : c.passed_before_cutoff.new.finder.misfit ≡ misfit = c.in_ok-found.ensures.misfit in
    let given : case ≡ misfit.case.now = later.same ∙ ap (λ (own : Misfit). own.case.now) (c.in_ok-own.ensures.misfit ∙ same) in
    subst (λ (own : Case). AreRowsOf own misfit.limit candidates rows) given
    (own_rows case.network.now case.cost misfit.limit candidates rows filter cutoff own
    (c.in_ok-own.ensures.limit ∙ ap (λ (own : Misfit). own.limit) same)
    (subst (λ (own : Case). IsBestBeyond own.network.now misfit.limit candidates filter.best) (sym given)
    (subst (λ (own : Misfit). IsBestBeyond own.case.now.network.now own.limit candidates filter.best) same c.in_ok-own.ensures.best))
    numbers all
    (subst (IsEnough cutoff) c.in_ok-rows.rows.ok.0 (subst (IsEnough cutoff) c.len.ensures (c.is_enough.ensures c.if-is_enough.true))))
