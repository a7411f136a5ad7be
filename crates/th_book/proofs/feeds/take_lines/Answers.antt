use Rattle.std.proofs.Common.{◌≡◌, ℕ, List, [], drop, take, refl, sym, subst, arith}
use Rattle.std.proofs.lemmas.Bool.Decides.{nat_tests}
use Rattle.std.proofs.lemmas.List.{nil_from_length}
use Rattle.std.proofs.lemmas.Result.{err_from_is_err_and}
use Rattle.gsi_block.specs.Pieces.{LineState}
use Rattle.th_book.specs.Feeds.{IsWantingIn}
use Rattle.th_book.specs.Inside.Feeds.{AreTaken, IsGiven}
use Rattle.th_book.specs.Inside.Witnesses.{AreSeen, IsSeenNext}
use Rattle.th_book.proofs.Seeing.{seen_more, seen_then}
use Rattle.th_book.proofs.FeedLemmas.{IsTaking, IsTaking-more, IsTaking-then, IsTaking-wanting, IsTaking-wanting_in, next_within}
use Rattle.th_book.proofs.feeds.take_lines.Goals as goal
use Rattle.th_book.proofs.feeds.take_lines.Goals.{in-Some+then-is_empty, in-Some+else-is_empty+in_ok-give, in_default+in_ok-taken}

pub pass_empty-requires : goal.pass_empty-requires
pass_empty-requires g c =
    next_within c.args.book.now c.args.lines.now c.pieces.book c.pieces.lines c.take_whole.new.self c.args.piece.now c.pieces.rest.now c.in-Some.line.now c.in-Some.taken c.pieces.invariant.0 c.in-Some.ensures.gives c.requires

pub give-requires : goal.give-requires
give-requires g c =
    next_within c.args.book.now c.args.lines.now c.pieces.book c.pieces.lines c.take_whole.new.self c.args.piece.now c.pieces.rest.now c.in-Some.line.now c.in-Some.taken c.pieces.invariant.0 c.in-Some.ensures.gives c.requires

pub returns-in_err-give-clause-wanting : goal.returns-in_err-give-clause-wanting
returns-in_err-give-clause-wanting g c =
    let p = err_from_is_err_and c.from_residual.result c.from_residual.ensures.1 in
    rw (p.1, p.2)
    (IsTaking-wanting c.args.book.now c.args.lines.now c.pieces.book c.give.new.book c.pieces.lines c.take_whole.new.self c.args.piece.now c.pieces.rest.now c.in-Some.line.now c.in-Some.taken c.in_err-give.field-0.0 c.pieces.invariant.0 c.in-Some.ensures.gives c.in_err-give.ensures.wanting c.in_err-give.ensures.kind)

pub returns-in_err-taken-clause-wanting : goal.returns-in_err-taken-clause-wanting
returns-in_err-taken-clause-wanting g c =
    let p = err_from_is_err_and c.from_residual-in_err-taken.result c.from_residual-in_err-taken.ensures.1 in
    let wanting = subst (λ (before : LineState). IsWantingIn c.pieces.book before c.take_part.new.book c.take_part.new.lines c.pieces.rest.now c.in_err-taken.field-0.0) (c.in_default.ensures.none refl) c.in_err-taken.ensures.wanting in
    rw (p.1, p.2)
    (IsTaking-wanting_in c.args.book.now c.args.lines.now c.pieces.book c.take_part.new.book c.pieces.lines c.take_part.new.lines c.args.piece.now c.pieces.rest.now c.in_err-taken.field-0.0 c.pieces.invariant.0 wanting)

pub pieces-preserved : goal.pieces-preserved
pieces-preserved g c =
    let more = IsTaking-more c.args.book.now c.args.lines.now c.pieces.book in
    let next : IsTaking c.args.book.now c.args.lines.now c.match-take_whole.book c.match-take_whole.lines c.args.piece.now (drop c.match-take_whole.taken c.pieces.rest.now) = elim c.match-take_whole.branch [
      | in-Some+then-is_empty w ↦
          let empty : w.in-Some.line.now ≡ [] = nil_from_length w.in-Some.line.now (grind (arith, nat_tests, w.is_empty-in-Some.ensures, w.if-is_empty)) in
          let given = subst (IsGiven c.pieces.book w.pass_empty.new.self) (sym empty) w.pass_empty.ensures.given in
          rw (w.book-is, w.lines-is, w.taken-is)
          (more w.pass_empty.new.self c.pieces.lines c.take_whole.new.self c.args.piece.now c.pieces.rest.now w.in-Some.line.now w.in-Some.taken c.pieces.invariant.0 w.in-Some.ensures.gives given)
      | in-Some+else-is_empty+in_ok-give w ↦
          rw (w.book-is, w.lines-is, w.taken-is)
          (more w.give.new.book c.pieces.lines c.take_whole.new.self c.args.piece.now c.pieces.rest.now w.in-Some.line.now w.in-Some.taken c.pieces.invariant.0 w.in-Some.ensures.gives w.in_ok-give.ensures.given)
      | in_default+in_ok-taken w ↦
          let taken = subst (λ (before : LineState). AreTaken c.pieces.book before w.take_part.new.book w.take_part.new.lines (take w.in_ok-taken.taken c.pieces.rest.now)) (w.in_default.ensures.none refl) w.in_ok-taken.ensures.taken in
          rw (w.book-is, w.lines-is, w.taken-is)
          (IsTaking-then c.args.book.now c.args.lines.now c.pieces.book w.take_part.new.book c.pieces.lines w.take_part.new.lines c.args.piece.now c.pieces.rest.now w.in_ok-taken.taken c.pieces.invariant.0 taken)
    ] in
    let seen : AreSeen g.W.Witness.has_seen c.args.book.now c.args.lines.now c.args.piece.now c.args.witness.now c.match-take_whole.book c.match-take_whole.lines (drop c.match-take_whole.taken c.pieces.rest.now) c.match-take_whole.witness = elim c.match-take_whole.branch [
      | in-Some+then-is_empty w ↦
          let empty : w.in-Some.line.now ≡ [] = nil_from_length w.in-Some.line.now (grind (arith, nat_tests, w.is_empty-in-Some.ensures, w.if-is_empty)) in
          let sees = subst (λ (line : List ℕ). IsSeenNext g.W.Witness.has_seen c.pieces.book w.pass_empty.new.self line c.pieces.witness w.pass_empty.new.witness) (sym empty) w.pass_empty.ensures.seen in
          rw (w.book-is, w.lines-is, w.taken-is, w.witness-is)
          (seen_more g.W.Witness.has_seen c.args.book.now c.args.lines.now c.args.piece.now c.args.witness.now c.pieces.book w.pass_empty.new.self c.pieces.lines c.take_whole.new.self c.pieces.rest.now w.in-Some.line.now w.in-Some.taken c.pieces.witness w.pass_empty.new.witness c.pieces.invariant.1 w.in-Some.ensures.gives sees)
      | in-Some+else-is_empty+in_ok-give w ↦
          rw (w.book-is, w.lines-is, w.taken-is, w.witness-is)
          (seen_more g.W.Witness.has_seen c.args.book.now c.args.lines.now c.args.piece.now c.args.witness.now c.pieces.book w.give.new.book c.pieces.lines c.take_whole.new.self c.pieces.rest.now w.in-Some.line.now w.in-Some.taken c.pieces.witness w.give.new.witness c.pieces.invariant.1 w.in-Some.ensures.gives w.in_ok-give.ensures.seen)
      | in_default+in_ok-taken w ↦
          let more = subst (λ (before : LineState). AreSeen g.W.Witness.has_seen c.pieces.book before c.pieces.rest.now c.pieces.witness w.take_part.new.book w.take_part.new.lines (drop w.in_ok-taken.taken c.pieces.rest.now) w.take_part.new.witness) (w.in_default.ensures.none refl) w.in_ok-taken.ensures.seen in
          rw (w.book-is, w.lines-is, w.taken-is, w.witness-is)
          (seen_then g.W.Witness.has_seen c.args.book.now c.args.lines.now c.args.piece.now c.args.witness.now c.pieces.book w.take_part.new.book c.pieces.lines w.take_part.new.lines c.pieces.rest.now (drop w.in_ok-taken.taken c.pieces.rest.now) c.pieces.witness w.take_part.new.witness c.pieces.invariant.1 more)
    ] in
    subst
    (λ (rest : List ℕ). IsTaking c.args.book.now c.args.lines.now c.match-take_whole.book c.match-take_whole.lines c.args.piece.now rest × AreSeen g.W.Witness.has_seen c.args.book.now c.args.lines.now c.args.piece.now c.args.witness.now c.match-take_whole.book c.match-take_whole.lines rest c.match-take_whole.witness)
    (sym c.split_at.ensures.back)
    (next, seen)
