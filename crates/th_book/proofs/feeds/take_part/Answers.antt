use Rattle.std.proofs.Common.{◌∷◌, List, ℕ, sym, ap, ◌∙◌}
use Rattle.std.proofs.lemmas.Result.{err_from_is_err_and}
use Rattle.gsi_block.specs.Pieces.{lines_due}
use Rattle.th_book.proofs.FeedLemmas.{IsTaking-begun, IsTaking-wanting, next_within}
use Rattle.th_book.proofs.Seeing.{seen_begun, seen_more}
use Rattle.th_book.proofs.feeds.take_part.Goals as goal

pub give-requires : goal.give-requires
give-requires g c =
    let gives = λ (later : List ℕ). c.take-taken.ensures.gives c.if-complete.true later ∙ ap (λ (line : List ℕ). line ∷ lines_due c.take-taken.new.self later) (sym c.line.ensures) in
    next_within c.args.book.now c.args.lines.now c.args.book.now c.args.lines.now c.take-taken.new.self c.args.piece.now c.args.piece.now c.line.result.now c.take-taken.result.0 (IsTaking-begun c.args.book.now c.args.lines.now c.args.piece.now) gives c.requires

pub returns-in_err-give-clause-wanting : goal.returns-in_err-give-clause-wanting
returns-in_err-give-clause-wanting g c =
    let p = err_from_is_err_and c.from_residual.result c.from_residual.ensures.1 in
    let gives = λ (later : List ℕ). c.take-taken.ensures.gives c.if-complete.true later ∙ ap (λ (line : List ℕ). line ∷ lines_due c.take-taken.new.self later) (sym c.line.ensures) in
    rw (p.1, p.2)
    (IsTaking-wanting c.args.book.now c.args.lines.now c.args.book.now c.give.new.book c.args.lines.now c.take-taken.new.self c.args.piece.now c.args.piece.now c.line.result.now c.take-taken.result.0 c.in_err-give.field-0.0 (IsTaking-begun c.args.book.now c.args.lines.now c.args.piece.now) gives c.in_err-give.ensures.wanting c.in_err-give.ensures.kind)

pub returns-in_ok-give-clause-seen : goal.returns-in_ok-give-clause-seen
returns-in_ok-give-clause-seen g c =
    let has_seen = g.W.Witness.has_seen in
    let gives = λ (later : List ℕ). c.take-taken.ensures.gives c.if-complete.true later ∙ ap (λ (line : List ℕ). line ∷ lines_due c.take-taken.new.self later) (sym c.line.ensures) in
    seen_more has_seen c.args.book.now c.args.lines.now c.args.piece.now c.args.witness.now c.args.book.now c.give.new.book c.args.lines.now c.take-taken.new.self c.args.piece.now c.line.result.now c.take-taken.result.0 c.args.witness.now c.give.new.witness (seen_begun has_seen c.args.book.now c.args.lines.now c.args.piece.now c.args.witness.now) gives c.in_ok-give.ensures.seen
