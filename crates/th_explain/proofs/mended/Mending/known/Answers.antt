use Rattle.std.proofs.Common.{◌≡◌, ◌∙◌, ℤ, List, ap, get_or, length, rules, subst, sym, arith}
use Rattle.std.proofs.lemmas.List.Elements.{All-get_or}
use Rattle.th_changes.specs.declared.numbers.Number.{Number}
use Rattle.th_explain.specs.Mended.{AreLowestWith}
use Rattle.th_explain.specs.declared.mended.Mended.{Mended}
use Rattle.th_explain.proofs.mended.Mending.known.Goals as goal

pub returns-then-own-change : goal.returns-then-own-change
returns-then-own-change c =
    let survey = c.args.self.now.case.now.network.now in
    let kept : List Mended = c.args.self.now.kept.items in
    let own : Mended = c.own-item.result in
    let number : own.number ≡ c.args.number.now = search rules in
    let change : own.change ≡ c.args.change = search rules in
    let heights : c.in_ok-from_slice.field-0.items ≡ own.heights.items = search rules in
    let here : own ≡ get_or kept c.loop-own.own-index own = c.own-item.is ∙ ap (λ (all : List Mended). get_or all c.loop-own.own-index own) c.deref-own-items.ensures.value in
    let lowest : AreLowestWith survey own.number own.change own.heights.items =
    subst (λ (own : Mended). AreLowestWith survey own.number own.change own.heights.items) (sym here)
    (All-get_or (λ (own : Mended). AreLowestWith survey own.number own.change own.heights.items) kept c.loop-own.own-index own (omega (arith, c.loop-own-test.true, ap length c.deref-own-items.ensures.value)) c.args.self.now.lowest) in
    subst (λ (number : Number). AreLowestWith survey number c.args.change c.in_ok-from_slice.field-0.items) number
    (subst (λ (change : ℤ). AreLowestWith survey own.number change c.in_ok-from_slice.field-0.items) change
    (subst (AreLowestWith survey own.number own.change) (sym heights) lowest))
