-- What a book holds after one more line.
use Rattle.std.proofs.Common.{◌≡◌, ◌≢◌, ◌≤◌, ℕ, ◌+◌, Bool, true, false, cond, List, [], ◌∷◌, ◌++◌, length, map, Option, Some, None, Result, Ok, Err, refl, sym, ap, ◌∙◌, append-nil, arith, subst}
use Rattle.std.specs.Prelude.{is_none, option_to_list}
use Rattle.std.specs.List.{list_all}
use Rattle.std.proofs.lemmas.Bool.{false≢true, and_parts}
use Rattle.std.proofs.lemmas.Option.{none-some, same_Some}
use Rattle.std.specs.Result.{IfErr, OnOk}
use Rattle.gsi_word.specs.Words.{Parts}
use Rattle.gsi_block.specs.Blocks.{block_at}
use Rattle.th_observations.specs.Observed.{Observed}
use Rattle.th_book.specs.Lines.{ParsedLine, is_sight, point_name, words_in}
use Rattle.th_book.specs.Faults.{Row, Standing, block_faults, fault_in, first_applying, kind_of, own_faults, sight_faults}
use Rattle.th_book.specs.Books.{answer, known, known_name}
use Rattle.th_book.specs.Due.{BookState, IsAnswered, IsRefused, IsTaken, IsWanting, after, after_parsed, after_unless, after_words, due, due_parsed, setup_after, standing_in}
use Rattle.th_book.specs.Entered.{nothing}
use Rattle.th_book.specs.Inside.Entries.{setup_by}
use Rattle.th_book.specs.Inside.Effects.{IsKept, IsLeft, IsTakenIn, IsWantingFor, block_fault, entry_fault, is_seen, line_fault, observation_by, observed_from, sight_fault, standing_of, state_refusing, state_with}
use Rattle.th_book.specs.declared.entries.Entered.{Entered}
use Rattle.th_book.specs.declared.setups.Setup.{Setup}
use Rattle.th_book.specs.declared.faults.BookFault.{BookFault}
use Rattle.th_book.specs.declared.faults.BookKind.{BookKind}
use Rattle.th_book.specs.declared.faults.BookKind.TheVariants.{Block, NoMemory}
use Rattle.th_book.proofs.Keeping.{fault_stays_due}

-- a kind of fault that a book keeps, as each but want of memory
abbrev is_kept : BookKind → Bool
is_kept NoMemory = false
is_kept _ = true

abbrev are_kept : List Row → Bool
are_kept rows = list_all (λ row. is_kept row.1) rows

-- the first of some rows that applies is kept where each of them is
row_kept : (rows : List Row) (kind : BookKind) → are_kept rows ≡ true → first_applying rows ≡ Some kind → is_kept kind ≡ true
row_kept [] kind kept e = absurd (none-some kind e)
row_kept (row ∷ rows) kind kept e = go row.0 (and_parts _ _ kept).0 e (row_kept rows kind (and_parts _ _ kept).1)
  where
    go : (applies : Bool) → is_kept row.1 ≡ true → cond applies (Some row.1) (first_applying rows) ≡ Some kind → (first_applying rows ≡ Some kind → is_kept kind ≡ true) → is_kept kind ≡ true
    go true own same later = ap is_kept (sym (same_Some row.1 kind same)) ∙ own
    go false own same later = later same

kind_kept : (standing : Standing) (parsed : ParsedLine) (kind : BookKind) → kind_of standing parsed ≡ Some kind → is_kept kind ≡ true
kind_kept standing (Err fault) kind e = ap is_kept (sym (same_Some (Block fault) kind e))
kind_kept standing (Ok None) kind e = absurd (none-some kind e)
kind_kept standing (Ok (Some block)) kind e = row_kept (block_faults standing block.words) kind (all (is_sight block.words)) e
  where
    all : (sight : Bool) → are_kept (own_faults block.words ++ cond sight (sight_faults standing (point_name block.words)) []) ≡ true
    all true = refl
    all false = refl

-- no line has a want of memory as its fault
pub kind_lasts : (standing : Standing) (parsed : ParsedLine) (kind : BookKind) → Some kind ≡ kind_of standing parsed → kind ≢ NoMemory
kind_lasts standing parsed kind e = λ wanting. false≢true (sym (ap is_kept wanting) ∙ kind_kept standing parsed kind (sym e))

-- nor has a block
pub kind_lasts_of_block : (running : Option Setup) (words : List Parts) (kind : BookKind) → block_fault running words ≡ Some kind → kind ≢ NoMemory
kind_lasts_of_block running words kind e = λ wanting. false≢true (sym (ap is_kept wanting) ∙ row_kept (block_faults (standing_in running words) words) kind (all (is_sight words)) e)
  where
    all : (sight : Bool) → are_kept (own_faults words ++ cond sight (sight_faults (standing_in running words) (point_name words)) []) ≡ true
    all true = refl
    all false = refl

-- nor a sight
pub kind_lasts_of_sight : (setup : Option Setup) (target : List ℕ) (kind : BookKind) → Some kind ≡ sight_fault setup target → kind ≢ NoMemory
kind_lasts_of_sight setup target kind e = λ wanting. false≢true (sym (ap is_kept wanting) ∙ row_kept (sight_faults (standing_of setup) (Some target)) kind refl (sym e))

-- what is due does not depend on the room
due_any_room : (state : BookState) (room : ℕ) (lines : List ParsedLine) → due_parsed (record state { room = room }) lines ≡ due_parsed state lines
due_any_room state room [] = refl
due_any_room state room (parsed ∷ rest) =
    ap (λ (own : BookState). due_parsed own rest) (by_fault state.fault) ∙ due_any_room (after_parsed state parsed) room rest
  where
    by_kind : (kind : Option BookKind) → after_words (record state { room = room }) (words_in parsed) kind ≡ record (after_words state (words_in parsed) kind) { room = room }
    by_kind None = refl
    by_kind (Some kind) = refl

    by_fault : (fault : Option BookFault) → after_unless fault (record state { room = room }) parsed ≡ record (after_unless fault state parsed) { room = room }
    by_fault (Some fault) = refl
    by_fault None = by_kind (kind_of (standing_in state.setup (words_in parsed)) parsed)

-- what is held after a line without a fault, whatever room there is then
pub after-taken : (state : BookState) (line : List ℕ) (entry : Entered) (room : ℕ) → state.fault ≡ None → None ≡ line_fault state.setup (block_at line) → IsLeft state.setup (words_in (block_at line)) entry → state_with state entry room ≡ record (after state line) { room = room }
after-taken state line entry room sound none left =
    with_entry
    ∙ ap (λ (own : BookState). record own { room = room }) (ap (after_words state (words_in (block_at line))) none
    ∙ ap (λ (fault : Option BookFault). after_unless fault state (block_at line)) (sym sound))
  where
    with_entry : state_with state entry room ≡ record (after_words state (words_in (block_at line)) None) { room = room }
    with_entry =
        let observation = left.observation state.book (state.lines + 1) in
        let setup = left.setup in
        cc

-- what is held after a line with a fault
after-refused : (state : BookState) (line : List ℕ) (kind : BookKind) → state.fault ≡ None → Some kind ≡ line_fault state.setup (block_at line) → after state line ≡ state_refusing state kind
after-refused state line kind sound is =
    ap (λ (fault : Option BookFault). after_unless fault state (block_at line)) sound
    ∙ ap (after_words state (words_in (block_at line))) (sym is)

-- a line without a fault is taken
IsTaken-entry : (state : BookState) (line : List ℕ) (entry : Entered) (room : ℕ) → state.fault ≡ None → None ≡ line_fault state.setup (block_at line) → IsLeft state.setup (words_in (block_at line)) entry → state.room ≤ room → IsTaken state (state_with state entry room) line
IsTaken-entry state line entry room sound none left more = record {
  keeps = λ rest. ap (λ (own : BookState). due own rest) (after-taken state line entry room sound none left) ∙ due_any_room (after state line) room (map block_at rest);
  faultless = sound;
  lines = refl;
  room = more;
}

-- a line that has no effect is counted
pub counted_none : (state : BookState) → state_with state nothing state.room ≡ record state { lines = state.lines + 1 }
counted_none state =
    let setup = unchanged state.setup in
    let observations = append-nil state.observations in
    cc
  where
    unchanged : (running : Option Setup) → setup_by nothing running ≡ running
    unchanged None = refl
    unchanged (Some setup) = refl

-- and so it is taken, if it has no fault
pub IsTaken-none : (state : BookState) (line : List ℕ) → state.fault ≡ None → None ≡ line_fault state.setup (block_at line) → IsLeft state.setup (words_in (block_at line)) nothing → IsTaken state (record state { lines = state.lines + 1 }) line
IsTaken-none state line sound none left =
    subst (λ (own : BookState). IsTaken state own line) (counted_none state) (IsTaken-entry state line nothing state.room sound none left (omega arith))

-- a blank line has no effect
pub IsTaken-blank : (state : BookState) (line : List ℕ) → state.fault ≡ None → block_at line ≡ Ok None → IsTaken state (record state { lines = state.lines + 1 }) line
IsTaken-blank state line sound blank =
    IsTaken-none state line sound
    (subst (λ (parsed : ParsedLine). None ≡ line_fault state.setup parsed) (sym blank) refl)
    (subst (λ (parsed : ParsedLine). IsLeft state.setup (words_in parsed) nothing) (sym blank) (record { setup = same state.setup; observation = λ book place. refl }))
  where
    same : (running : Option Setup) → setup_by nothing running ≡ setup_after running []
    same None = refl
    same (Some setup) = refl

-- the fault of a line is answered
pub IsRefused-line : (state : BookState) (line : List ℕ) (kind : BookKind) → state.fault ≡ None → Some kind ≡ line_fault state.setup (block_at line) → IsRefused state (state_refusing state kind) line (fault_in state.lines kind)
IsRefused-line state line kind sound is = record {
  was = λ rest. ap (λ (own : BookState). due own rest) (after-refused state line kind sound is) ∙ fault_stays_due (fault_in state.lines kind) (state_refusing state kind) (map block_at rest) refl;
  stays = λ rest. fault_stays_due (fault_in state.lines kind) (state_refusing state kind) (map block_at rest) refl;
  lines = ap (λ (fault : Option BookFault). cond (is_none fault) (state.lines + 1) state.lines) (sym sound);
}

-- a fault that was found before is answered again
pub IsRefused-before : (state : BookState) (line : List ℕ) (fault : BookFault) → state.fault ≡ Some fault → IsRefused state state line fault
IsRefused-before state line fault found = record {
  was = λ rest. fault_stays_due fault state (map block_at (line ∷ rest)) found;
  stays = λ rest. fault_stays_due fault state (map block_at rest) found;
  lines = ap (λ (own : Option BookFault). cond (is_none own) (state.lines + 1) state.lines) (sym found);
}

-- memory is wanting at a line that gives an observation
IsWanting-entry : (state : BookState) (line : List ℕ) (entry : Entered) → state.fault ≡ None → None ≡ line_fault state.setup (block_at line) → IsLeft state.setup (words_in (block_at line)) entry → is_seen entry ≡ true → state.room ≤ length state.observations → IsWanting state state line (fault_in state.lines NoMemory)
IsWanting-entry state line entry sound none left seen full = record {
  unchanged = refl;
  at_line = refl;
  observes = (
    state.observations,
    last,
    ap (λ (after : BookState). answer after.fault after.observations) (sym (after-taken state line entry state.room sound none left))
        ∙ ap (λ (fault : Option BookFault). answer fault (state.observations ++ option_to_list (observation_by setup entry state.book (state.lines + 1)))) sound
        ∙ ap (λ seen. Ok (state.observations ++ option_to_list (cond seen (Some last) None))) seen,
    refl,
  );
  full = full;
}
  where
    setup : Option Setup
    setup = setup_by entry state.setup

    last : Observed
    last = observed_from setup (known_name entry.target) (known entry.sighted) state.book (state.lines + 1)

-- what a book answers to a block without a fault of its own words
pub answered_entry : {A : Type 0} (given : Result A BookFault) (state new : BookState) (line : List ℕ) (entry : Entered) → state.fault ≡ None → entry_fault (setup_by entry state.setup) entry ≡ line_fault state.setup (block_at line) → IsLeft state.setup (words_in (block_at line)) entry → OnOk given (IsTakenIn state new entry) → IfErr given (λ fault. fault.kind ≢ NoMemory → IsKept (setup_by entry state.setup) state new entry fault) → IfErr given (λ fault. fault.kind ≡ NoMemory → IsWantingFor (setup_by entry state.setup) state new entry fault) → IsAnswered state new line given
answered_entry (Ok value) state new line entry sound same left taken kept wanting = record {
  taken = subst (λ (own : BookState). IsTaken state own line) (sym taken.state) (IsTaken-entry state line entry new.room sound (sym taken.fine ∙ same) left taken.room);
  refused = tt;
  wanting = tt;
}
answered_entry (Err fault) state new line entry sound same left taken kept wanting = record {
  taken = tt;
  refused = λ other.
      let is = kept other in
      subst (λ (own : BookState). IsRefused state own line fault) (sym is.state)
      (subst (λ (own : BookFault). IsRefused state (state_refusing state fault.kind) line own) (sym is.given) (IsRefused-line state line fault.kind sound (sym is.found ∙ same)));
  wanting = λ none.
      let is = wanting none in
      subst (λ (own : BookState). IsWanting state own line fault) (sym is.state)
      (subst (λ (own : BookFault). IsWanting state state line own) (sym is.given) (IsWanting-entry state line entry sound (sym is.fine ∙ same) left is.seen is.full));
}
