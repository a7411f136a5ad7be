-- What a witness sees while a book is read.
use Rattle.std.proofs.Common.{◌≡◌, ◌<◌, ◌≤◌, ℕ, zero, suc, ◌+◌, Bool, true, false, cond, List, [], ◌∷◌, ◌++◌, map, length, take, drop, append-nil, append_assoc, length-drop, Option, Some, None, Result, Ok, Err, refl, sym, ap, ◌∙◌, subst, arith}
use Rattle.std.specs.Prelude.{nat_lt}
use Rattle.std.specs.Result.{OnOk}
use Rattle.std.proofs.lemmas.Bool.{ltb-false}
use Rattle.std.proofs.lemmas.List.{take-append-drop}
use Rattle.gsi_word.specs.Words.{parts_of, result_map}
use Rattle.gsi_word.specs.declared.words.Word.{Word}
use Rattle.gsi_block.specs.Blocks.{block_at, block_with}
use Rattle.gsi_block.specs.Lines.{lines_of}
use Rattle.gsi_block.specs.Pieces.{LineState, lines_due}
use Rattle.th_observations.specs.Observed.{Observed}
use Rattle.th_book.specs.Books.{IsFaultless, answer, book_answer, observations_of, parsed_of, too_long}
use Rattle.th_book.specs.Due.{BookState, IsRefused, after_parsed, after_unless, empty, setup_after}
use Rattle.th_book.specs.Entered.{entered_by, nothing}
use Rattle.th_book.specs.Faults.{first_fault}
use Rattle.th_book.specs.Feeds.{FeedState, feed_due}
use Rattle.th_book.specs.Limits.{max_book}
use Rattle.th_book.specs.Lines.{ParsedLine, words_in}
use Rattle.th_book.specs.Places.{line_at}
use Rattle.th_book.specs.Witnesses.{IsBlankAt, IsBlockAt, IsPlace, IsSeeing, IsSeenTo, Keeps}
use Rattle.th_book.specs.Inside.Entries.{setup_by}
use Rattle.th_book.specs.Inside.Effects.{IsBlockLine, IsLeft, IsTakenIn, entry_fault, line_fault, state_with}
use Rattle.th_book.specs.Inside.Witnesses.{AreSeen, IsSeenNext}
use Rattle.th_book.specs.declared.setups.Setup.{Setup}
use Rattle.th_book.specs.declared.entries.Entered.{Entered}
use Rattle.th_book.specs.declared.faults.BookFault.{BookFault}
use Rattle.th_book.proofs.Holding.{after-taken, counted_none}
use Rattle.th_book.proofs.Keeping.{Keeps-more}
use Rattle.th_book.proofs.Reading.{length-lines_of}
use Rattle.th_book.proofs.Soundness.{no_kind}

-- an answer is no fault
no_fault : (fault : Option BookFault) (given observations : List Observed) → answer fault given ≡ Ok observations → fault ≡ None
no_fault None given observations e = refl
no_fault (Some fault) given observations e = cc

answered : (long : Bool) (fault : Option BookFault) (given observations : List Observed) → cond long (Err too_long) (answer fault given) ≡ Ok observations → (long ≡ false) × (fault ≡ None)
answered true fault given observations e = cc
answered false fault given observations e = (refl, no_fault fault given observations e)

length-map : (lines : List (List ℕ)) → length (map block_at lines) ≡ length lines
length-map [] = refl
length-map (line ∷ lines) = ap suc (length-map lines)

-- a book that gives observations has no fault in a line, and no more lines than it may have bytes
pub faultless_first : (number : ℕ) (bytes : List ℕ) (observations : List Observed) → book_answer number bytes ≡ Ok observations → first_fault (parsed_of bytes) ≡ None
faultless_first number bytes observations is =
    (answered (nat_lt max_book (length bytes)) (first_fault (parsed_of bytes)) (observations_of number (parsed_of bytes)) observations is).1

pub faultless_lines : (number : ℕ) (bytes : List ℕ) (observations : List Observed) → book_answer number bytes ≡ Ok observations → length (lines_of bytes) ≤ max_book
faultless_lines number bytes observations is =
    let short = ltb-false max_book (length bytes) (answered (nat_lt max_book (length bytes)) (first_fault (parsed_of bytes)) (observations_of number (parsed_of bytes)) observations is).0 in
    omega (arith, short, length-lines_of bytes)

faultless_short : (number : ℕ) (bytes : List ℕ) → IsFaultless number bytes → length (parsed_of bytes) ≤ max_book
faultless_short number bytes faultless = omega (arith, faultless_lines number bytes faultless.0 faultless.1, length-map (lines_of bytes))

-- a new book holds nothing
pub keeps_empty : (number : ℕ) (parsed : List ParsedLine) (state : BookState) → state ≡ empty number → Keeps number parsed 0 state
keeps_empty number parsed state is =
    subst (Keeps number parsed 0) (sym is) (record { book = refl; lines = refl; faultless = refl; setup = tt; observations = refl })

-- what a book holds after a line, with any room
keeps_room : (number : ℕ) (parsed : List ParsedLine) (place : ℕ) (state : BookState) (room : ℕ) → Keeps number parsed place state → Keeps number parsed place (record state { room = room })
keeps_room number parsed place state room keeps = record {
  book = keeps.book;
  lines = keeps.lines;
  faultless = keeps.faultless;
  setup = keeps.setup;
  observations = keeps.observations;
}

keeps_next : (number : ℕ) (parsed : List ParsedLine) (place : ℕ) (state : BookState) (line : ParsedLine) → IsPlace parsed place → line_at parsed place ≡ line → Keeps number parsed place state → Keeps number parsed (suc place) (after_parsed state line)
keeps_next number parsed place state line here is keeps =
    subst
    (λ (own : ParsedLine). Keeps number parsed (suc place) (after_parsed state own))
    is
    (Keeps-more number parsed place state keeps (no_kind parsed place here.faultless here.within))

keeps_entry : (number : ℕ) (parsed : List ParsedLine) (place : ℕ) (state new : BookState) (line : List ℕ) (entry : Entered) → state.fault ≡ None → None ≡ line_fault state.setup (block_at line) → IsLeft state.setup (words_in (block_at line)) entry → IsPlace parsed place → line_at parsed place ≡ block_at line → Keeps number parsed place state → new ≡ state_with state entry new.room → Keeps number parsed (suc place) new
keeps_entry number parsed place state new line entry sound none left here is keeps holds =
    subst
    (Keeps number parsed (suc place))
    (sym (holds ∙ after-taken state line entry new.room sound none left))
    (keeps_room number parsed (suc place) (after_parsed state (block_at line)) new.room (keeps_next number parsed place state (block_at line) here is keeps))

-- a blank line is counted
after_blank : (state : BookState) → state.fault ≡ None → after_parsed state (Ok None) ≡ record state { lines = state.lines + 1 }
after_blank state sound = ap (λ (fault : Option BookFault). after_unless fault state (Ok None)) sound ∙ counted
  where
    unchanged : (running : Option Setup) → setup_after running [] ≡ running
    unchanged None = refl
    unchanged (Some setup) = refl

    counted : after_unless None state (Ok None) ≡ record state { lines = state.lines + 1 }
    counted =
        let setup = unchanged state.setup in
        let observations = append-nil state.observations in
        let fault = sym sound in
        cc

-- a block is taken and seen
pub seen_block : {S W A : Type 0} → (has_seen : S → ℕ → List ParsedLine → ℕ → W → Type 0) (given : Result A BookFault) (state new : BookState) (line : List ℕ) (entry : Entered) (words : List Word) (before after : W) → state.fault ≡ None → entry_fault (setup_by entry state.setup) entry ≡ line_fault state.setup (block_at line) → IsLeft state.setup (words_in (block_at line)) entry → IsBlockLine words line → entry ≡ entered_by (map parts_of words) → ((start : S) (number : ℕ) (parsed : List ParsedLine) (place : ℕ) → IsBlockAt parsed place state.setup entry (map parts_of words) → has_seen start number parsed place before → has_seen start number parsed (suc place) after) → OnOk given (IsTakenIn state new entry) → OnOk given (IsSeenNext has_seen state new line before after)
seen_block has_seen (Ok value) state new line entry words before after sound same left read enters sees taken = λ start number parsed place here is keeps seen. (
  keeps_entry number parsed place state new line entry sound (sym taken.fine ∙ same) left here is keeps taken.state,
  sees start number parsed place
      (record {
        here = here;
        block = block_with words read.0;
        is = is ∙ read.1;
        says = refl;
        enters = enters;
        runs = keeps.setup;
      })
      seen,
)
seen_block has_seen (Err fault) state new line entry words before after sound same left read enters sees taken = tt

-- and so is one that enters nothing
pub seen_idle : {S W : Type 0} → (has_seen : S → ℕ → List ParsedLine → ℕ → W → Type 0) (state : BookState) (line : List ℕ) (words : List Word) (before after : W) → state.fault ≡ None → None ≡ line_fault state.setup (block_at line) → IsLeft state.setup (words_in (block_at line)) nothing → IsBlockLine words line → nothing ≡ entered_by (map parts_of words) → ((start : S) (number : ℕ) (parsed : List ParsedLine) (place : ℕ) → IsBlockAt parsed place state.setup nothing (map parts_of words) → has_seen start number parsed place before → has_seen start number parsed (suc place) after) → IsSeenNext has_seen state (record state { lines = state.lines + 1 }) line before after
seen_idle has_seen state line words before after sound none left read enters sees =
    seen_block has_seen given state (record state { lines = state.lines + 1 }) line nothing words before after sound none left read enters sees (record { fine = refl; state = sym (counted_none state); room = omega arith })
  where
    given : Result ℕ BookFault
    given = Ok 0

-- a blank line is taken and seen
pub seen_blank : {S W : Type 0} → (has_seen : S → ℕ → List ParsedLine → ℕ → W → Type 0) (state : BookState) (line : List ℕ) (before after : W) → block_at line ≡ Ok None → ((start : S) (number : ℕ) (parsed : List ParsedLine) (place : ℕ) → IsBlankAt parsed place → has_seen start number parsed place before → has_seen start number parsed (suc place) after) → IsSeenNext has_seen state (record state { lines = state.lines + 1 }) line before after
seen_blank has_seen state line before after blank sees = λ start number parsed place here is keeps seen. (
  subst (Keeps number parsed (suc place)) (after_blank state keeps.faultless) (keeps_next number parsed place state (Ok None) here (is ∙ blank) keeps),
  sees start number parsed place (record { here = here; blank = is ∙ blank }) seen,
)

-- and no line of theirs is refused
pub seen_refused : {S W : Type 0} → (has_seen : S → ℕ → List ParsedLine → ℕ → W → Type 0) (state new : BookState) (line : List ℕ) (fault : BookFault) (before after : W) → IsRefused state new line fault → IsSeenNext has_seen state new line before after
seen_refused has_seen state new line fault before after refused = λ start number parsed place here is keeps seen.
    let next = after_parsed state (block_at line) in
    let fine = (keeps_next number parsed place state (block_at line) here is keeps).faultless in
    let ok : answer None next.observations ≡ Err fault = sym (ap (λ found. answer found next.observations) fine) ∙ refused.was [] in
    absurd (not_err next.observations fault ok)
  where
    not_err : (observations : List Observed) (fault : BookFault) → answer None observations ≡ Err fault → ⊥
    not_err observations fault e = cc

-- the line that is next is that at the place
record IsNext (parsed : List ParsedLine) (place : ℕ) (line : ParsedLine) (rest : List ParsedLine) : Type 0 where
  pub within : place < length parsed
  pub here : line_at parsed place ≡ line
  pub behind : rest ≡ drop (suc place) parsed

next_line : (parsed : List ParsedLine) (place : ℕ) (line : ParsedLine) (rest : List ParsedLine) → line ∷ rest ≡ drop place parsed → IsNext parsed place line rest
next_line [] place line rest e = let none : List ParsedLine = [] in absurd (omega (arith, ap length e, length-drop place none))
next_line (own ∷ parsed) zero line rest e = record { within = omega arith; here = cc; behind = cc }
next_line (own ∷ parsed) (suc place) line rest e =
    let later = next_line parsed place line rest e in
    record { within = omega (arith, later.within); here = later.here; behind = later.behind }

-- one more line is seen
seen_line : {S W : Type 0} → (has_seen : S → ℕ → List ParsedLine → ℕ → W → Type 0) (start : S) (number : ℕ) (parsed : List ParsedLine) (book new : BookState) (lines after : LineState) (rest later line : List ℕ) (before own : W) → first_fault parsed ≡ None → length parsed ≤ max_book → lines_due lines rest ≡ line ∷ lines_due after later → IsSeenNext has_seen book new line before own → IsSeenTo has_seen start number parsed book lines rest before → IsSeenTo has_seen start number parsed new after later own
seen_line has_seen start number parsed book new lines after rest later line before own none short gives sees was =
    let next = next_line parsed was.place (block_at line) (map block_at (lines_due after later)) (sym (ap (map block_at) gives) ∙ was.read.left) in
    let more = sees start number parsed was.place (record { faultless = none; short = short; within = next.within }) next.here was.read.keeps was.seen in
    record {
      place = suc was.place;
      read = record { within = omega (arith, next.within); keeps = more.0; left = next.behind };
      seen = more.1;
    }

-- a piece is seen from its front
pub seen_begun : {S W : Type 0} → (has_seen : S → ℕ → List ParsedLine → ℕ → W → Type 0) (book : BookState) (lines : LineState) (piece : List ℕ) (witness : W) → AreSeen has_seen book lines piece witness book lines piece witness
seen_begun has_seen book lines piece witness = λ start number parsed later none short was. was

pub seen_more : {S W : Type 0} → (has_seen : S → ℕ → List ParsedLine → ℕ → W → Type 0) (old_book : BookState) (old_lines : LineState) (piece : List ℕ) (first : W) (book new : BookState) (lines after : LineState) (rest line : List ℕ) (many : ℕ) (before own : W) → AreSeen has_seen old_book old_lines piece first book lines rest before → ((later : List ℕ) → lines_due lines (take many rest ++ later) ≡ line ∷ lines_due after later) → IsSeenNext has_seen book new line before own → AreSeen has_seen old_book old_lines piece first new after (drop many rest) own
seen_more has_seen old_book old_lines piece first book new lines after rest line many before own are gives sees = λ start number parsed later none short was.
    let whole : rest ++ later ≡ take many rest ++ (drop many rest ++ later) = ap (λ (own : List ℕ). own ++ later) (sym (take-append-drop many rest)) ∙ append_assoc (take many rest) (drop many rest) later in
    seen_line has_seen start number parsed book new lines after (rest ++ later) (drop many rest ++ later) line before own none short
    (ap (lines_due lines) whole ∙ gives (drop many rest ++ later))
    sees
    (are start number parsed later none short was)

pub seen_then : {S W : Type 0} → (has_seen : S → ℕ → List ParsedLine → ℕ → W → Type 0) (old_book : BookState) (old_lines : LineState) (piece : List ℕ) (first : W) (book new : BookState) (lines after : LineState) (rest last : List ℕ) (before own : W) → AreSeen has_seen old_book old_lines piece first book lines rest before → AreSeen has_seen book lines rest before new after last own → AreSeen has_seen old_book old_lines piece first new after last own
seen_then has_seen old_book old_lines piece first book new lines after rest last before own are more = λ start number parsed later none short was.
    more start number parsed later none short (are start number parsed later none short was)

-- the lines of a piece are seen
pub seeing_more : {S W : Type 0} → (has_seen : S → ℕ → List ParsedLine → ℕ → W → Type 0) (old new : FeedState) (piece : List ℕ) (before after : W) → ((later : List ℕ) → feed_due new later ≡ feed_due old (piece ++ later)) → AreSeen has_seen old.book old.lines piece before new.book new.lines [] after → (start : S) (number : ℕ) (text later : List ℕ) → IsSeeing has_seen start number text (piece ++ later) old before → IsSeeing has_seen start number text later new after
seeing_more has_seen old new piece before after fed are start number text later seeing = record {
  due = fed later ∙ seeing.due;
  seen = λ faultless. are start number (parsed_of text) later (faultless_first number text faultless.0 faultless.1) (faultless_short number text faultless) (seeing.seen faultless);
}

-- where no line is left, all were seen
seen_end : {S W : Type 0} → (has_seen : S → ℕ → List ParsedLine → ℕ → W → Type 0) (start : S) (number : ℕ) (parsed : List ParsedLine) (book : BookState) (lines : LineState) (rest : List ℕ) (witness : W) → lines_due lines rest ≡ [] → IsSeenTo has_seen start number parsed book lines rest witness → has_seen start number parsed (length parsed) witness
seen_end has_seen start number parsed book lines rest witness left is =
    let none = ap length (sym (ap (map block_at) left) ∙ is.read.left) in
    let all : is.place ≡ length parsed = omega (arith, none, length-drop is.place parsed, is.read.within) in
    subst (λ place. has_seen start number parsed place witness) all is.seen

-- a last line without an end is seen
seen_last : {S W : Type 0} → (has_seen : S → ℕ → List ParsedLine → ℕ → W → Type 0) (start : S) (number : ℕ) (parsed : List ParsedLine) (book new : BookState) (lines : LineState) (line : List ℕ) (before after : W) → first_fault parsed ≡ None → length parsed ≤ max_book → lines_due lines [] ≡ line ∷ [] → IsSeenNext has_seen book new line before after → IsSeenTo has_seen start number parsed book lines [] before → has_seen start number parsed (length parsed) after
seen_last has_seen start number parsed book new lines line before after none short left sees is =
    let next = next_line parsed is.place (block_at line) [] (sym (ap (map block_at) left) ∙ is.read.left) in
    let nothing = ap length next.behind in
    let all : suc is.place ≡ length parsed = omega (arith, nothing, length-drop (suc is.place) parsed, next.within) in
    let more = sees start number parsed is.place (record { faultless = none; short = short; within = next.within }) next.here is.read.keeps is.seen in
    subst (λ place. has_seen start number parsed place after) all more.1

-- a book that is finished was seen as a whole
pub seeing_end : {S W : Type 0} → (has_seen : S → ℕ → List ParsedLine → ℕ → W → Type 0) (feed : FeedState) (witness : W) (observations : List Observed) → feed_due feed [] ≡ Ok observations → lines_due feed.lines [] ≡ [] → (start : S) (number : ℕ) (text : List ℕ) → IsSeeing has_seen start number text [] feed witness → has_seen start number (parsed_of text) (length (parsed_of text)) witness
seeing_end has_seen feed witness observations ok left start number text seeing =
    seen_end has_seen start number (parsed_of text) feed.book feed.lines [] witness left (seeing.seen (observations, sym seeing.due ∙ ok))

pub seeing_last : {S W : Type 0} → (has_seen : S → ℕ → List ParsedLine → ℕ → W → Type 0) (feed : FeedState) (new : BookState) (line : List ℕ) (before after : W) (observations : List Observed) → feed_due feed [] ≡ Ok observations → lines_due feed.lines [] ≡ line ∷ [] → IsSeenNext has_seen feed.book new line before after → (start : S) (number : ℕ) (text : List ℕ) → IsSeeing has_seen start number text [] feed before → has_seen start number (parsed_of text) (length (parsed_of text)) after
seeing_last has_seen feed new line before after observations ok left sees start number text seeing =
    let is = sym seeing.due ∙ ok in
    seen_last has_seen start number (parsed_of text) feed.book new feed.lines line before after (faultless_first number text observations is) (faultless_short number text (observations, is)) left sees (seeing.seen (observations, is))

-- what a finished book says where it gives observations
pub finished_on : {A : Type 0} (items : A → List Observed) (given : Result A BookFault) (answer : Result (List Observed) BookFault) (P : Type 0) → result_map items given ≡ answer → ((observations : List Observed) → answer ≡ Ok observations → P) → OnOk given P
finished_on items (Ok observations) answer P e says = says (items observations) (sym e)
finished_on items (Err fault) answer P e says = tt
