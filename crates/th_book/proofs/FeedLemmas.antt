-- A book that comes in pieces gives what the pieces joined give.
use Rattle.std.proofs.Common.{◌≡◌, ◌<◌, ◌≤◌, ℕ, suc, ◌+◌, Bool, true, false, cond, List, [], ◌∷◌, ◌++◌, length, map, take, drop, None, Result, Err, refl, sym, ap, ◌∙◌, subst, arith, append_assoc, length-append, zero-add}
use Rattle.std.specs.Prelude.{nat_lt, is_none}
use Rattle.std.proofs.lemmas.Bool.{le-ltb}
use Rattle.std.proofs.lemmas.List.{take-append-drop}
use Rattle.gsi_block.specs.Blocks.{block_at}
use Rattle.gsi_block.specs.Lines.{lines_of}
use Rattle.gsi_block.specs.Pieces.{LineState, cut_line, cut_lines, lines_due}
use Rattle.th_observations.specs.Observed.{Observed}
use Rattle.th_book.specs.Books.{answer_of, book_answer, lines_answer, too_long}
use Rattle.th_book.specs.Limits.{max_book}
use Rattle.th_book.specs.Due.{BookState, IsRefused, IsWanting, due}
use Rattle.th_book.specs.Feeds.{FeedState, IsWantingIn, IsWithin, feed_due}
use Rattle.th_book.specs.Inside.Feeds.{AreTaken, IsGiven}
use Rattle.th_book.specs.declared.faults.BookFault.{BookFault}
use Rattle.th_book.specs.declared.faults.BookKind.TheVariants.{NoMemory}
use Rattle.th_book.proofs.Reading.{length-lines_of}

-- lines that are cut are read as the lines themselves
pub cut_read : ((line : List ℕ) → block_at (cut_line line) ≡ block_at line) → (lines : List (List ℕ)) → map block_at (cut_lines lines) ≡ map block_at lines
cut_read law [] = refl
cut_read law (line ∷ lines) =
    ap (λ first. first ∷ map block_at (cut_lines lines)) (law line) ∙ ap (λ rest. block_at line ∷ rest) (cut_read law lines)

-- a new feed owes what its bytes give
pub new_feed_due : (number : ℕ) (book : BookState) (lines : LineState) → ((line : List ℕ) → block_at (cut_line line) ≡ block_at line) → ((given : List (List ℕ)) → due book given ≡ lines_answer number given) → ((text : List ℕ) → lines_due lines text ≡ cut_lines (lines_of text)) → (bytes : List ℕ) → feed_due (record { book = book; lines = lines; bytes = 0; wanting = None }) bytes ≡ book_answer number bytes
new_feed_due number book lines law owes cut bytes =
    ap (λ size. cond (nat_lt max_book size) (Err too_long) (due book (lines_due lines bytes))) (zero-add (length bytes))
    ∙ ap (λ (given : Result (List Observed) BookFault). cond (nat_lt max_book (length bytes)) (Err too_long) given)
    (ap (due book) (cut bytes) ∙ owes (cut_lines (lines_of bytes)) ∙ ap (answer_of number) (cut_read law (lines_of bytes)))

-- and has no more lines due than bytes
pub new_feed_counted : (book : BookState) (lines : LineState) → book.lines ≡ 0 → ((text : List ℕ) → lines_due lines text ≡ cut_lines (lines_of text)) → (later : List ℕ) → book.lines + length (lines_due lines later) ≤ 0 + length later
new_feed_counted book lines none cut later =
    let many = ap length (cut later) ∙ as_many (lines_of later) in
    omega (arith, none, many, length-lines_of later)
  where
    as_many : (lines : List (List ℕ)) → length (cut_lines lines) ≡ length lines
    as_many [] = refl
    as_many (line ∷ lines) = ap suc (as_many lines)

pub given_refused : (old new : BookState) (line : List ℕ) (fault : BookFault) → IsRefused old new line fault → IsGiven old new line
given_refused old new line fault refused = record {
  keeps = λ rest. refused.stays rest ∙ sym (refused.was rest);
  counted = go (is_none old.fault) refused.lines;
}
  where
    go : (none : Bool) → new.lines ≡ cond none (old.lines + 1) old.lines → new.lines ≤ old.lines + 1
    go true e = omega (arith, e)
    go false e = omega (arith, e)

-- a piece is being taken: its front came, and the rest is left
pub record IsTaking (old_book : BookState) (old_lines : LineState) (book : BookState) (lines : LineState) (piece rest : List ℕ) : Type 0 where
  pub front : List ℕ
  pub cut : piece ≡ front ++ rest
  pub keeps : (later : List ℕ) → due book (lines_due lines later) ≡ due old_book (lines_due old_lines (front ++ later))
  pub counted : (later : List ℕ) → book.lines + length (lines_due lines later) ≤ old_book.lines + length (lines_due old_lines (front ++ later))

pub IsTaking-begun : (book : BookState) (lines : LineState) (piece : List ℕ) → IsTaking book lines book lines piece piece
IsTaking-begun book lines piece = record {
  front = [];
  cut = refl;
  keeps = λ later. refl;
  counted = λ later. omega arith;
}

-- the line that is next, and what is due behind it
next_due : (old_book : BookState) (old_lines : LineState) (book : BookState) (lines new : LineState) (piece rest line : List ℕ) (many : ℕ) → (is : IsTaking old_book old_lines book lines piece rest) → ((later : List ℕ) → lines_due lines (take many rest ++ later) ≡ line ∷ lines_due new later) → (later : List ℕ) → due book (line ∷ lines_due new later) ≡ due old_book (lines_due old_lines ((is.front ++ take many rest) ++ later))
next_due old_book old_lines book lines new piece rest line many is gives later =
    ap (due book) (sym (gives later))
    ∙ is.keeps (take many rest ++ later)
    ∙ ap (λ (text : List ℕ). due old_book (lines_due old_lines text)) (sym (append_assoc is.front (take many rest) later))

next_counted : (old_book : BookState) (old_lines : LineState) (book : BookState) (lines new : LineState) (piece rest line : List ℕ) (many : ℕ) → (is : IsTaking old_book old_lines book lines piece rest) → ((later : List ℕ) → lines_due lines (take many rest ++ later) ≡ line ∷ lines_due new later) → (later : List ℕ) → (book.lines + 1) + length (lines_due new later) ≤ old_book.lines + length (lines_due old_lines ((is.front ++ take many rest) ++ later))
next_counted old_book old_lines book lines new piece rest line many is gives later =
    let text = ap (λ (own : List ℕ). length (lines_due old_lines own)) (append_assoc is.front (take many rest) later) in
    omega (arith, text, is.counted (take many rest ++ later), ap length (gives later))

next_cut : (piece front rest : List ℕ) (many : ℕ) → piece ≡ front ++ rest → piece ≡ (front ++ take many rest) ++ drop many rest
next_cut piece front rest many cut =
    cut ∙ ap (λ (own : List ℕ). front ++ own) (sym (take-append-drop many rest)) ∙ sym (append_assoc front (take many rest) (drop many rest))

-- one more line of the piece is given
pub IsTaking-more : (old_book : BookState) (old_lines : LineState) (book after : BookState) (lines new : LineState) (piece rest line : List ℕ) (many : ℕ) → IsTaking old_book old_lines book lines piece rest → ((later : List ℕ) → lines_due lines (take many rest ++ later) ≡ line ∷ lines_due new later) → IsGiven book after line → IsTaking old_book old_lines after new piece (drop many rest)
IsTaking-more old_book old_lines book after lines new piece rest line many is gives given = record {
  front = is.front ++ take many rest;
  cut = next_cut piece is.front rest many is.cut;
  keeps = λ later. given.keeps (lines_due new later) ∙ next_due old_book old_lines book lines new piece rest line many is gives later;
  counted = λ later. omega (arith, given.counted, next_counted old_book old_lines book lines new piece rest line many is gives later);
}

-- while a line is given, there are fewer before it than a book may have
pub next_within : (old_book : BookState) (old_lines : LineState) (book : BookState) (lines new : LineState) (piece rest line : List ℕ) (many : ℕ) → IsTaking old_book old_lines book lines piece rest → ((later : List ℕ) → lines_due lines (take many rest ++ later) ≡ line ∷ lines_due new later) → old_book.lines + length (lines_due old_lines piece) ≤ max_book → book.lines < max_book
next_within old_book old_lines book lines new piece rest line many is gives within =
    let text = ap (λ (own : List ℕ). length (lines_due old_lines own)) (next_cut piece is.front rest many is.cut) in
    omega (arith, text, within, next_counted old_book old_lines book lines new piece rest line many is gives (drop many rest))

-- memory was wanting for it
pub IsTaking-wanting : (old_book : BookState) (old_lines : LineState) (book after : BookState) (lines new : LineState) (piece rest line : List ℕ) (many : ℕ) (fault : BookFault) → IsTaking old_book old_lines book lines piece rest → ((later : List ℕ) → lines_due lines (take many rest ++ later) ≡ line ∷ lines_due new later) → IsWanting book after line fault → fault.kind ≡ NoMemory → IsWantingIn old_book old_lines after new piece fault
IsTaking-wanting old_book old_lines book after lines new piece rest line many fault is gives wanting kind =
    subst
    (λ (own : BookState). IsWantingIn old_book old_lines own new piece fault)
    (sym wanting.unchanged)
    (record {
      line = line;
      front = is.front ++ take many rest;
      rest = drop many rest;
      cut = next_cut piece is.front rest many is.cut;
      keeps = λ later. next_due old_book old_lines book lines new piece rest line many is gives later;
      observes = wanting.observes;
      full = wanting.full;
      kind = kind;
    })

-- a part of the rest is taken
pub IsTaking-then : (old_book : BookState) (old_lines : LineState) (book after : BookState) (lines new : LineState) (piece rest : List ℕ) (many : ℕ) → IsTaking old_book old_lines book lines piece rest → AreTaken book lines after new (take many rest) → IsTaking old_book old_lines after new piece (drop many rest)
IsTaking-then old_book old_lines book after lines new piece rest many is taken = record {
  front = is.front ++ take many rest;
  cut = next_cut piece is.front rest many is.cut;
  keeps = λ later. taken.keeps later ∙ is.keeps (take many rest ++ later) ∙ ap (λ (text : List ℕ). due old_book (lines_due old_lines text)) (sym (append_assoc is.front (take many rest) later));
  counted = λ later.
      let text = ap (λ (own : List ℕ). length (lines_due old_lines own)) (append_assoc is.front (take many rest) later) in
      omega (arith, text, taken.counted later, is.counted (take many rest ++ later));
}

-- memory was wanting in the rest
pub IsTaking-wanting_in : (old_book : BookState) (old_lines : LineState) (book after : BookState) (lines new : LineState) (piece rest : List ℕ) (fault : BookFault) → IsTaking old_book old_lines book lines piece rest → IsWantingIn book lines after new rest fault → IsWantingIn old_book old_lines after new piece fault
IsTaking-wanting_in old_book old_lines book after lines new piece rest fault is wanting = record {
  line = wanting.line;
  front = is.front ++ wanting.front;
  rest = wanting.rest;
  cut = is.cut ∙ ap (λ (own : List ℕ). is.front ++ own) wanting.cut ∙ sym (append_assoc is.front wanting.front wanting.rest);
  keeps = λ later. wanting.keeps later ∙ is.keeps (wanting.front ++ later) ∙ ap (λ (text : List ℕ). due old_book (lines_due old_lines text)) (sym (append_assoc is.front wanting.front later));
  observes = wanting.observes;
  full = wanting.full;
  kind = wanting.kind;
}

-- a piece that was taken keeps what is due
pub fed_short : (old new : FeedState) (piece : List ℕ) → new.bytes ≡ old.bytes + length piece → AreTaken old.book old.lines new.book new.lines piece → (later : List ℕ) → feed_due new later ≡ feed_due old (piece ++ later)
fed_short old new piece size taken later =
    ap (λ (given : Result (List Observed) BookFault). cond (nat_lt max_book (new.bytes + length later)) (Err too_long) given) (taken.keeps later)
    ∙ ap (λ many. cond (nat_lt max_book many) (Err too_long) (due old.book (lines_due old.lines (piece ++ later)))) same
  where
    same : new.bytes + length later ≡ old.bytes + length (piece ++ later)
    same = omega (arith, size, length-append piece later)

-- what is due at the end of a book that is not too long
pub end_due : (feed : FeedState) (lines : List (List ℕ)) → feed.bytes ≤ max_book → lines_due feed.lines [] ≡ lines → feed_due feed [] ≡ due feed.book lines
end_due feed lines short left =
    ap (λ long. cond long (Err too_long) (due feed.book (lines_due feed.lines []))) (le-ltb max_book (feed.bytes + 0) (omega (arith, short)))
    ∙ ap (due feed.book) left

-- a last line that has no end is one that a book may have
pub last_within : (feed : FeedState) (line : List ℕ) → feed.wanting ≡ None → feed.bytes ≤ max_book → IsWithin feed → lines_due feed.lines [] ≡ line ∷ [] → feed.book.lines < max_book
last_within feed line none short within left =
    omega (arith, within.counted none short [], ap length left)
