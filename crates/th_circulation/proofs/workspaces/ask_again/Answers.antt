use Rattle.std.proofs.Common.{◌≡◌, ◌+◌, ℕ, ap, ◌∙◌, arith}
use Rattle.th_circulation.proofs.AskedLemmas.{answered_again, none_named_again}
use Rattle.th_circulation.proofs.workspaces.ask_again.Goals as goal

pub returns-clause-counts : goal.returns-clause-counts
returns-clause-counts g c =
    let known = c.requires.potentials in
    let before = c.in_ok-ask_of_none.ensures in
    let e = c.in_ok-search.ensures in
    let none = none_named_again c.args.vertices c.args.arcs.now.items known.0 c.in_ok-search.field-0 c.potentials_exclude_negative_cycles.ensures known.1 e.answer in
    let cycles : g.S.Search.cycles c.search.new.self ≡ g.S.Search.cycles c.ask_of_none.new.search + 0 = e.cycles ∙ ap (λ (n : ℕ). g.S.Search.cycles c.ask_of_none.new.search + n) none in
    let earlier_cycles = before.one_step_each in
    let calls = e.calls in
    let earlier_calls = before.all_calls in
    let refusals = e.refusals in
    let earlier_refusals = before.refused in
    record {
      more_steps = omega arith;
      one_step_each = omega arith;
      all_calls = omega arith;
      few_calls = omega arith;
      asked = omega arith;
      refused = omega arith;
    }

pub returns-clause-asked : goal.returns-clause-asked
returns-clause-asked g c =
    let known = c.requires.potentials in
    answered_again c.args.vertices c.args.arcs.now.items known.0 c.in_ok-search.field-0 (g.S.Search.asked c.search.new.self) c.potentials_exclude_negative_cycles.ensures known.1 c.in_ok-search.ensures.answer c.in_ok-search.ensures.asked
