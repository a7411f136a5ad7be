use Rattle.std.proofs.Common.{◌≡◌, ◌∙◌, true, false, FitsSigned, List, ap, length, rules, subst, sym, w64}
use Rattle.std.proofs.lemmas.Int.{to_z-of_z}
use Rattle.std.proofs.lemmas.List.{length-map}
use Rattle.std.specs.List.{count_by}
use Rattle.th_blunders.specs.Blunders.{is_blunder}
use Rattle.th_blunders.specs.Residuals.{residuals}
use Rattle.th_observations.specs.Observed.{Observed}
use Rattle.th_changes.specs.Freed.{cost_of}
use Rattle.th_network.specs.Heights.{residual}
use Rattle.th_network.specs.Networks.{HaveSameEnds, Survey, at_points_of}
use Rattle.th_numbers.specs.Readings.{reread}
use Rattle.th_numbers.proofs.BookLemmas.{book_row_of, no_book_row}
use Rattle.th_numbers.proofs.RereadLemmas.{same_ends_read}
use Rattle.th_numbers.proofs.readings.Reading.row_if_cheaper.Goals as goal

pub with_differences-requires : goal.with_differences-requires
with_differences-requires c =
    let observations : List Observed = c.args.self.now.network.now.observations in
    subst (HaveSameEnds observations) (sym c.requires.read) (same_ends_read c.args.self.now.kinds.now.entries.now c.args.book.now.number observations)

pub blunder_count-blunders-requires-clause-each : goal.blunder_count-blunders-requires-clause-each
blunder_count-blunders-requires-clause-each c =
    let own : Survey = c.in_ok-own.own in
    ap length (c.deref.ensures.value ∙ c.in_ok-fit.ensures.residuals) ∙ length-map own.observations (λ o. residual o (at_points_of own c.low.result.now)) ∙ sym (ap length c.observations.ensures.observations)

pub returns-then-not-is_cheaper : goal.returns-then-not-is_cheaper
returns-then-not-is_cheaper c =
    let survey = c.args.self.now.network.now in
    let entries = c.args.self.now.kinds.now.entries.now in
    let number = c.args.book.now.number in
    let own : Survey = c.in_ok-own.own in
    let same : own ≡ reread entries number survey =
    c.in_ok-own.ensures ∙ ap (λ (observations : List Observed). record survey { observations = observations }) c.requires.read in
    let fails : c.is_cheaper.result ≡ false = search rules in
    record {
      row =
          no_book_row survey entries c.args.self.now.cost number own same c.in_ok-best.best.low c.in_ok-best.ensures.low c.in_ok-fit.fit.cost
          (c.in_ok-fit.ensures.cost ∙ ap (λ (low : List _). cost_of own (at_points_of own low)) c.low.ensures) (sym c.is_cheaper.ensures.cheaper ∙ fails);
    }

pub returns : goal.returns
returns c =
    let survey = c.args.self.now.network.now in
    let entries = c.args.self.now.kinds.now.entries.now in
    let own : Survey = c.in_ok-own.own in
    let same : own ≡ reread entries c.args.book.now.number survey =
    c.in_ok-own.ensures ∙ ap (λ (observations : List Observed). record survey { observations = observations }) c.requires.read in
    let holds : c.is_cheaper.result ≡ true = search rules in
    let fits : FitsSigned w64 c.args.self.now.limit = search rules in
    let counted : c.blunder_count-blunders.result ≡ count_by (is_blunder c.args.self.now.limit) c.in_ok-fit.fit.residuals.items =
    c.blunder_count-blunders.ensures ∙ ap (λ limit. count_by (is_blunder limit) c.deref.result.now) (to_z-of_z w64 c.args.self.now.limit fits) ∙ ap (count_by (is_blunder c.args.self.now.limit)) c.deref.ensures.value in
    record {
      row =
          book_row_of survey entries c.args.self.now.cost c.args.self.now.limit c.args.book.now own same c.in_ok-best.best.low c.in_ok-best.ensures.low c.in_ok-fit.fit.cost
          (c.in_ok-fit.ensures.cost ∙ ap (λ (low : List _). cost_of own (at_points_of own low)) c.low.ensures) c.in_ok-fit.fit.residuals.items
          (c.in_ok-fit.ensures.residuals ∙ ap (λ (low : List _). residuals own.observations (at_points_of own low)) c.low.ensures) c.blunder_count-blunders.result counted (sym c.is_cheaper.ensures.cheaper ∙ holds) c.row_of_book.result c.row_of_book.ensures;
    }
