use Rattle.std.proofs.Common.{sym, ap, ◌∙◌}
use Rattle.th_book.specs.declared.faults.BookFault.{BookFault}
use Rattle.th_book.proofs.Holding.{kind_lasts_of_sight}
use Rattle.th_book.proofs.Observing.{HasSight, kept_fault, observed_ok, unkept_err, wanting_err}
use Rattle.th_book.proofs.books.Book.observe.Goals as goal

pub returns-in-Ok-clause-observed : goal.returns-in-Ok-clause-observed
returns-in-Ok-clause-observed c =
    let has : HasSight c.args.entry.now c.in-Some-Some.target c.in-Some-Some.sighted = record { named = c.in-Some-Some.is-0; read = c.in-Some-Some.is-1 } in
    observed_ok c.add.result c.args.setup.now c.args.self.now c.add.new.self c.args.entry.now c.in-Some-Some.target c.in-Some-Some.sighted c.in-Ok.sight has c.in-Ok.ensures.fault c.in-Ok.ensures.seen c.add.ensures.added c.add.ensures.room

pub returns-in-Ok-clause-kept : goal.returns-in-Ok-clause-kept
returns-in-Ok-clause-kept c =
    unkept_err c.add.result c.args.setup.now c.args.self.now c.add.new.self c.args.entry.now c.add.ensures.wanting

pub returns-in-Ok-clause-wanting : goal.returns-in-Ok-clause-wanting
returns-in-Ok-clause-wanting c =
    let has : HasSight c.args.entry.now c.in-Some-Some.target c.in-Some-Some.sighted = record { named = c.in-Some-Some.is-0; read = c.in-Some-Some.is-1 } in
    wanting_err c.add.result c.args.setup.now c.args.self.now c.add.new.self c.args.entry.now c.in-Some-Some.target c.in-Some-Some.sighted has c.in-Ok.ensures.fault c.add.ensures.wanting c.add.ensures.full

pub refuse-requires-clause-lasting : goal.refuse-requires-clause-lasting
refuse-requires-clause-lasting c =
    kind_lasts_of_sight c.args.setup.now c.in-Some-Some.target c.in-Err.kind c.in-Err.ensures.fault

pub returns-in-Err-clause-kept : goal.returns-in-Err-clause-kept
returns-in-Err-clause-kept c = λ other.
    let has : HasSight c.args.entry.now c.in-Some-Some.target c.in-Some-Some.sighted = record { named = c.in-Some-Some.is-0; read = c.in-Some-Some.is-1 } in
    kept_fault c.args.setup.now c.args.self.now c.refuse.new.self c.args.entry.now c.in-Some-Some.target c.in-Some-Some.sighted c.in-Err.kind c.refuse.result has c.in-Err.ensures.fault c.refuse.ensures.fault c.refuse.ensures.kept

pub returns-in-Err-clause-wanting : goal.returns-in-Err-clause-wanting
returns-in-Err-clause-wanting c = λ none.
    let lasts = kind_lasts_of_sight c.args.setup.now c.in-Some-Some.target c.in-Err.kind c.in-Err.ensures.fault in
    absurd (lasts (ap (λ (fault : BookFault). fault.kind) (sym c.refuse.ensures.fault) ∙ none))
