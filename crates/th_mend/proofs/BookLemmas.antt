-- A book that was read for its changes, and faults to report.
use Rattle.std.proofs.Common.{◌≡◌, ◌≢◌, ℕ, List, [], ◌++◌, Ok, Err, refl, sym, ap, subst, ◌∙◌}
use Rattle.std.proofs.lemmas.List.{append-nil}
use Rattle.th_book.specs.Books.{book_answer, parsed_of}
use Rattle.th_book.specs.Feeds.{FeedState, feed_due}
use Rattle.th_book.specs.Lines.{ParsedLine}
use Rattle.th_book.specs.Witnesses.{IsReadTo, IsSeeing}
use Rattle.th_book.specs.declared.faults.BookFault.{BookFault}
use Rattle.th_book.specs.declared.faults.BookKind.{BookKind}
use Rattle.th_book.specs.declared.faults.BookKind.TheVariants as book_kind
use Rattle.th_mend.specs.declared.changes.Change.{Change}
use Rattle.th_mend.specs.Edits.{edits_of}
use Rattle.th_mend.specs.Inside.Forces.{IsLocating}
use Rattle.th_mend.specs.Inside.Located.{edits_then}
use Rattle.th_mend.specs.Inside.Stops.{IsStopOf, fault_of_book, fault_of_mended, fault_of_stop, of_kind}
use Rattle.th_mend.specs.Inside.Texts.{IsRead}
use Rattle.th_mend.specs.MendedBooks.{checked, if_faultless, mended, mended_by, mended_text, unless_faulty}
use Rattle.th_mend.specs.declared.edits.Edit.{Edit}
use Rattle.th_mend.specs.declared.faults.MendFault.{MendFault}
use Rattle.th_mend.specs.declared.faults.MendFault.TheVariants as mend_fault
use Rattle.th_mend.specs.declared.sought.Locating.{Locating}
use Rattle.th_mend.specs.declared.sought.Sought.{Sought}
use Rattle.th_mend.specs.declared.stops.Stop.{Stop}
use Rattle.th_mend.specs.declared.stops.Stop.TheVariants as stop
use Rattle.th_mend.proofs.LocatedLemmas.{edits_same}

-- a fault of another kind than an allocation failure is reported
pub other_kind : (kind : BookKind) (fault : MendFault) → of_kind kind fault ≢ mend_fault.NoMemory → of_kind kind fault ≡ fault
other_kind book_kind.NoMemory fault none = absurd (none refl)
other_kind (book_kind.Block own) fault none = refl
other_kind book_kind.RepeatedWord fault none = refl
other_kind book_kind.NoPointNumber fault none = refl
other_kind book_kind.BadName fault none = refl
other_kind book_kind.BadNumber fault none = refl
other_kind book_kind.BadUnit fault none = refl
other_kind book_kind.TooLarge fault none = refl
other_kind book_kind.SightBeforeSetup fault none = refl
other_kind book_kind.NoInstrumentHeight fault none = refl
other_kind book_kind.NoReflectorHeight fault none = refl
other_kind book_kind.SightToItself fault none = refl
other_kind book_kind.BookTooLong fault none = refl

-- the book has a fault
pub book_fault : (changes : List Change) (bytes : List ℕ) (own : BookFault) (fault : MendFault) → fault ≡ fault_of_book own → fault ≢ mend_fault.NoMemory → (own.kind ≢ book_kind.NoMemory → book_answer 1 bytes ≡ Err own)
    → mended changes bytes ≡ Err fault
book_fault changes bytes own fault is other found =
    let kind : own.kind ≢ book_kind.NoMemory = λ none. other (is ∙ ap (λ kind. of_kind kind (mend_fault.Book own)) none) in
    let told : fault ≡ mend_fault.Book own = is ∙ other_kind own.kind (mend_fault.Book own) (λ none. other (is ∙ none)) in
    ap (λ answer. unless_faulty answer (mended_by bytes (edits_of (parsed_of bytes) changes))) (found kind) ∙ ap Err (sym told)

-- a book that was read has no fault
pub read_mended : (changes : List Change) (bytes : List ℕ) (locating : Locating) → IsRead changes bytes locating → mended changes bytes ≡ mended_by bytes (edits_of (parsed_of bytes) changes)
read_mended changes bytes locating read =
    ap (λ answer. unless_faulty answer (mended_by bytes (edits_of (parsed_of bytes) changes))) read.faultless.1

-- its edits were found
pub located : (changes : List Change) (bytes : List ℕ) (locating : Locating) (edits : List Edit) → IsRead changes bytes locating → edits_of (parsed_of bytes) changes ≡ Ok edits → mended changes bytes ≡ checked (mended_text edits bytes)
located changes bytes locating edits read found = read_mended changes bytes locating read ∙ ap (mended_by bytes) found

-- a record has a fault
pub not_located : (changes : List Change) (bytes : List ℕ) (locating : Locating) (stopped : Stop) (fault : MendFault) → IsRead changes bytes locating → fault ≡ fault_of_stop stopped
    → IsStopOf (edits_of (parsed_of bytes) changes) stopped → fault ≢ mend_fault.NoMemory → mended changes bytes ≡ Err fault
not_located changes bytes locating (stop.Row own) fault read told found other = read_mended changes bytes locating read ∙ ap (mended_by bytes) found ∙ ap Err (sym told)
not_located changes bytes locating stop.NoMemory fault read told found other = absurd (other told)

-- before the first byte of a book nothing was seen
pub begun : (changes : List Change) (bytes : List ℕ) (feed : FeedState) (locating : Locating) → ((bytes : List ℕ) → feed_due feed bytes ≡ book_answer 1 bytes) → ((bytes : List ℕ) → IsReadTo 1 (parsed_of bytes) 0 feed.book feed.lines bytes)
    → ((number : ℕ) (parsed : List ParsedLine) → IsLocating changes number parsed 0 locating) → IsSeeing IsLocating changes 1 bytes (bytes ++ []) feed locating
begun changes bytes feed locating owes begins known = subst (λ rest. IsSeeing IsLocating changes 1 bytes rest feed locating) (sym (append-nil bytes)) (record {
  due = owes bytes;
  seen = λ faultless. record { place = 0; read = begins bytes; seen = known 1 (parsed_of bytes) };
})
