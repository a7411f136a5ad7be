use Rattle.std.proofs.Common.{◌≡◌, All, List, subst, sym}
use Rattle.std.proofs.lemmas.List.Elements.{All-push}
use Rattle.th_changes.specs.declared.kept.KeptFlows.{KeptFlows}
use Rattle.th_explain.proofs.keeping.copies_of.Goals as goal

pub loop-preserved : goal.loop-preserved
loop-preserved c =
    let Same : KeptFlows → Type 0 = λ own. own.case.now ≡ c.args.case.now in
    subst (λ (own : List KeptFlows). All Same own) (sym c.in_ok-push.ensures.items) (All-push Same c.loop.copies.items c.in_ok-own.own c.loop.invariant c.in_ok-own.ensures)
