use Rattle.std.proofs.Common.{◌≡◌, [], ◌∷◌, List, length, Result, Err, Ok, sym, ap, ◌∙◌, rules, subst}
use Rattle.th_observations.specs.Observed.{Observed}
use Rattle.th_book.specs.Due.{BookState, EndsWithSight, due}
use Rattle.th_book.specs.Feeds.{FeedState, feed_due}
use Rattle.th_book.specs.declared.faults.BookFault.{BookFault}
use Rattle.th_book.proofs.Reading.{finished_ok}
use Rattle.th_book.specs.Books.{parsed_of}
use Rattle.th_book.specs.Witnesses.{IsSeeing}
use Rattle.th_book.proofs.FeedLemmas.{end_due, last_within}
use Rattle.th_book.proofs.Seeing.{finished_on, seeing_end, seeing_last}
use Rattle.th_book.proofs.feeds.BookFeed.finish_to.Goals as goal
use Rattle.th_book.proofs.feeds.BookFeed.finish_to.Goals.{in-Some-finish+in_ok-read, in_default-finish}

pub read-requires : goal.read-requires
read-requires g c =
    let inside = c.self.inside in
    last_within (record { book = inside.book; lines = inside.lines; bytes = inside.bytes; wanting = inside.wanting }) c.in-Some-finish.line.now c.in_default.is c.if-bytes-gt-MAX_BOOK.false c.self.invariant c.in-Some-finish.ensures

pub returns-in_err-read-clause-finished : goal.returns-in_err-read-clause-finished
returns-in_err-read-clause-finished g c =
    let inside = c.self.inside in
    let feed : FeedState = record { book = inside.book; lines = inside.lines; bytes = inside.bytes; wanting = inside.wanting } in
    let left = end_due feed (c.in-Some-finish.line.now ∷ []) c.if-bytes-gt-MAX_BOOK.false c.in-Some-finish.ensures in
    let is : c.from_residual.result ≡ Err c.in_err-read.field-0.0 = search rules in
    rw is (record {
      ok = search rules;
      fault = λ kept. ap (λ (own : FeedState). feed_due own []) (sym c.self.view_is) ∙ left ∙ (c.in_err-read.ensures.answered.refused kept).was [];
      lasting = search rules;
      too_long = search rules;
      wanting = λ wanting none.
          subst
          (λ (given : Result (List Observed) BookFault). EndsWithSight given c.in_err-read.field-0.0.line)
          (sym (ap (λ (own : FeedState). feed_due own []) (sym c.self.view_is) ∙ left))
          (c.in_err-read.ensures.answered.wanting wanting).observes;
      full = search rules;
    })

pub returns-clause-finished : goal.returns-clause-finished
returns-clause-finished g c =
    let inside = c.self.inside in
    let feed : FeedState = record { book = inside.book; lines = inside.lines; bytes = inside.bytes; wanting = inside.wanting } in
    let same : due c.match-finish.book [] ≡ feed_due c.args.self [] = elim c.match-finish.branch [
      | in-Some-finish+in_ok-read w ↦
          ap (λ (book : BookState). due book []) w.book-is
          ∙ w.in_ok-read.ensures.answered.taken.keeps []
          ∙ sym (ap (λ (own : FeedState). feed_due own []) (sym c.self.view_is) ∙ end_due feed (w.in-Some-finish.line.now ∷ []) c.if-bytes-gt-MAX_BOOK.false w.in-Some-finish.ensures)
      | in_default-finish w ↦
          ap (λ (book : BookState). due book []) w.book-is
          ∙ sym (ap (λ (own : FeedState). feed_due own []) (sym c.self.view_is) ∙ end_due feed [] c.if-bytes-gt-MAX_BOOK.false w.in_default-finish.ensures.0)
    ] in
    record {
      ok = finished_ok _ c.finish-2.result (feed_due c.args.self []) (c.finish-2.ensures.answer ∙ same);
      fault = search rules;
      lasting = search rules;
      too_long = search rules;
      wanting = search rules;
      full = search rules;
    }

pub returns-clause-seen : goal.returns-clause-seen
returns-clause-seen g c =
    let inside = c.self.inside in
    let feed : FeedState = record { book = inside.book; lines = inside.lines; bytes = inside.bytes; wanting = inside.wanting } in
    let same : due c.match-finish.book [] ≡ feed_due c.args.self [] = elim c.match-finish.branch [
      | in-Some-finish+in_ok-read w ↦
          ap (λ (book : BookState). due book []) w.book-is
          ∙ w.in_ok-read.ensures.answered.taken.keeps []
          ∙ sym (ap (λ (own : FeedState). feed_due own []) (sym c.self.view_is) ∙ end_due feed (w.in-Some-finish.line.now ∷ []) c.if-bytes-gt-MAX_BOOK.false w.in-Some-finish.ensures)
      | in_default-finish w ↦
          ap (λ (book : BookState). due book []) w.book-is
          ∙ sym (ap (λ (own : FeedState). feed_due own []) (sym c.self.view_is) ∙ end_due feed [] c.if-bytes-gt-MAX_BOOK.false w.in_default-finish.ensures.0)
    ] in
    finished_on _ c.finish-2.result (feed_due c.args.self []) _ (c.finish-2.ensures.answer ∙ same) (λ observations ok start number text seeing.
    let inner : IsSeeing g.W.Witness.has_seen start number text [] feed c.args.witness.now = subst (λ (own : FeedState). IsSeeing g.W.Witness.has_seen start number text [] own c.args.witness.now) (sym c.self.view_is) seeing in
    let is : feed_due feed [] ≡ Ok observations = ap (λ (own : FeedState). feed_due own []) c.self.view_is ∙ ok in
    elim c.match-finish.branch [
      | in-Some-finish+in_ok-read w ↦
          subst
          (g.W.Witness.has_seen start number (parsed_of text) (length (parsed_of text)))
          (sym w.witness-is)
          (seeing_last g.W.Witness.has_seen feed w.read.new.self w.in-Some-finish.line.now c.args.witness.now w.read.new.witness observations is w.in-Some-finish.ensures w.in_ok-read.ensures.seen start number text inner)
      | in_default-finish w ↦
          subst
          (g.W.Witness.has_seen start number (parsed_of text) (length (parsed_of text)))
          (sym w.witness-is)
          (seeing_end g.W.Witness.has_seen feed c.args.witness.now observations is w.in_default-finish.ensures.0 start number text inner)
    ])
