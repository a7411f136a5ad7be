-- A line changes the two entries that it writes, and those that its sight uses.
use Rattle.std.proofs.Common.{◌≡◌, ℕ, suc, ◌+◌, ◌<◌, Bool, true, false, cond, ◌==◌, List, [], ◌∷◌, ◌++◌, Option, Some, None, length, refl, sym, ap, ◌∙◌, arith}
use Rattle.std.specs.Prelude.{ℤ, is_some, option_map, slice_get}
use Rattle.std.specs.Option.{option_map_or}
use Rattle.std.proofs.lemmas.Bool.{eq-eqb, false≢true, ne_eqb, true≢false}
use Rattle.std.proofs.lemmas.List.{append-nil}
use Rattle.std.proofs.Math.Seq.{set-append_seam}
use Rattle.gsi_word.specs.Indexes.{reflector_height, instrument_height}
use Rattle.th_book.specs.Lines.{ParsedLine, holds, is_setup, is_sight}
use Rattle.th_book.specs.Places.{words_at}
use Rattle.th_entries.specs.Below.{all_below}
use Rattle.th_entries.specs.Entries.{index_of, uses, writes}
use Rattle.th_entries.specs.Inside.Running.{amended, amended_there, served, with_sight, with_word, written}
use Rattle.th_entries.specs.Inside.Tallies.{Bounds, both_at, candidate, candidate_at, open_at, opens, place_in, upto}
use Rattle.th_entries.specs.declared.entries.Entry.{Entry}
use Rattle.th_entries.specs.declared.entries.HeightKind.{HeightKind}
use Rattle.th_entries.specs.declared.entries.HeightKind.TheVariants.{Reflector, Instrument}
use Rattle.th_entries.proofs.BelowLemmas.{DiffersIn, all-same, one-differs}
use Rattle.th_entries.proofs.Candidates.{open-opens, place-instrument, place-reflector, unused, unwritten, used-once-more, uses-open, writes-none, writes-open, written-once-more}

-- the item between two lists
get-seam : (front : List Entry) (entry : Entry) (back : List Entry) → slice_get (front ++ entry ∷ back) (length front) ≡ Some entry
get-seam [] entry back = refl
get-seam (own ∷ front) entry back = get-seam front entry back

-- the item in which two lists differ is changed
amended-at : (change : Entry → Entry) (place : ℕ) (front : List Entry) (old new : Entry) (olds news : List Entry) → DiffersIn front old new olds news → length front ≡ place → change old ≡ new → amended change (Some place) olds ≡ news
amended-at change place front old new olds news d there more =
    ap (λ own. amended change (Some place) own) d.was
    ∙ ap (λ own. amended change (Some own) (front ++ old ∷ d.back)) (sym there)
    ∙ ap (λ found. amended_there change found (length front) (front ++ old ∷ d.back)) (get-seam front old d.back)
    ∙ set-append_seam front old d.back (change old)
    ∙ ap (λ own. front ++ own ∷ d.back) more
    ∙ sym d.is

-- whether an entry is the open one
abbrev is_open : Option ℕ → ℕ → Bool
is_open found line = option_map_or (λ own. own == line) found false

-- ---- a change of the open entry of a kind, which takes its bounds from old ones to new ones
module _ (book : ℕ) (parsed : List ParsedLine) (n : ℕ) (change : Entry → Entry) (old new other : Bounds) where
  amend-reflector : (found : Option ℕ) → open_at reflector_height parsed (suc n) ≡ found
      → ((line : ℕ) → is_open found line ≡ false → candidate book parsed Reflector old line ≡ candidate book parsed Reflector new line)
      → ((line : ℕ) → is_open found line ≡ true → change (candidate book parsed Reflector old line) ≡ candidate book parsed Reflector new line)
      → amended change (option_map (place_in parsed Reflector) found) (all_below (both_at book parsed old other) (suc n)) ≡ all_below (both_at book parsed new other) (suc n)
  amend-reflector found is same more = go found is same more
    where
      apart : (line : ℕ) → candidate book parsed Reflector old line ≡ candidate book parsed Reflector new line → both_at book parsed old other line ≡ both_at book parsed new other line
      apart line e = ap (λ own. cond (opens parsed Reflector line) (own ∷ []) [] ++ candidate_at book parsed Instrument other line) e

      go : (found : Option ℕ) → open_at reflector_height parsed (suc n) ≡ found → ((line : ℕ) → is_open found line ≡ false → candidate book parsed Reflector old line ≡ candidate book parsed Reflector new line) → ((line : ℕ) → is_open found line ≡ true → change (candidate book parsed Reflector old line) ≡ candidate book parsed Reflector new line) → amended change (option_map (place_in parsed Reflector) found) (all_below (both_at book parsed old other) (suc n)) ≡ all_below (both_at book parsed new other) (suc n)
      go None is same more = all-same (both_at book parsed old other) (both_at book parsed new other) (suc n) (λ line below. apart line (same line refl))
      go (Some line) is same more =
          let opened = open-opens Reflector parsed (suc n) line is in
          let here : DiffersIn [] (candidate book parsed Reflector old line) (candidate book parsed Reflector new line) (both_at book parsed old other line) (both_at book parsed new other line) = record {
            back = candidate_at book parsed Instrument other line;
            was = ap (λ (own : Bool). cond own (candidate book parsed Reflector old line ∷ []) [] ++ candidate_at book parsed Instrument other line) opened.1;
            is = ap (λ (own : Bool). cond own (candidate book parsed Reflector new line ∷ []) [] ++ candidate_at book parsed Instrument other line) opened.1;
          } in
          amended-at change (place_in parsed Reflector line) (all_below (both_at book parsed old other) line ++ []) _ _ _ _
          (one-differs (both_at book parsed old other) (both_at book parsed new other) (suc n) line [] (candidate book parsed Reflector old line) (candidate book parsed Reflector new line) opened.0 here
          (λ k before. apart k (same k (ne_eqb line k (λ same. omega (arith, same, before)))))
          (λ k behind. apart k (same k (ne_eqb line k (λ same. omega (arith, same, behind))))))
          (ap length (append-nil (all_below (both_at book parsed old other) line)) ∙ place-reflector book parsed old other line)
          (more line (eq-eqb line line refl))

  amend-instrument : (found : Option ℕ) → open_at instrument_height parsed (suc n) ≡ found
      → ((line : ℕ) → is_open found line ≡ false → candidate book parsed Instrument old line ≡ candidate book parsed Instrument new line)
      → ((line : ℕ) → is_open found line ≡ true → change (candidate book parsed Instrument old line) ≡ candidate book parsed Instrument new line)
      → amended change (option_map (place_in parsed Instrument) found) (all_below (both_at book parsed other old) (suc n)) ≡ all_below (both_at book parsed other new) (suc n)
  amend-instrument found is same more = go found is same more
    where
      apart : (line : ℕ) → candidate book parsed Instrument old line ≡ candidate book parsed Instrument new line → both_at book parsed other old line ≡ both_at book parsed other new line
      apart line e = ap (λ own. candidate_at book parsed Reflector other line ++ cond (opens parsed Instrument line) (own ∷ []) []) e

      go : (found : Option ℕ) → open_at instrument_height parsed (suc n) ≡ found → ((line : ℕ) → is_open found line ≡ false → candidate book parsed Instrument old line ≡ candidate book parsed Instrument new line) → ((line : ℕ) → is_open found line ≡ true → change (candidate book parsed Instrument old line) ≡ candidate book parsed Instrument new line) → amended change (option_map (place_in parsed Instrument) found) (all_below (both_at book parsed other old) (suc n)) ≡ all_below (both_at book parsed other new) (suc n)
      go None is same more = all-same (both_at book parsed other old) (both_at book parsed other new) (suc n) (λ line below. apart line (same line refl))
      go (Some line) is same more =
          let opened = open-opens Instrument parsed (suc n) line is in
          let here : DiffersIn (candidate_at book parsed Reflector other line) (candidate book parsed Instrument old line) (candidate book parsed Instrument new line) (both_at book parsed other old line) (both_at book parsed other new line) = record {
            back = [];
            was = ap (λ (own : Bool). candidate_at book parsed Reflector other line ++ cond own (candidate book parsed Instrument old line ∷ []) []) opened.1;
            is = ap (λ (own : Bool). candidate_at book parsed Reflector other line ++ cond own (candidate book parsed Instrument new line ∷ []) []) opened.1;
          } in
          amended-at change (place_in parsed Instrument line) (all_below (both_at book parsed other old) line ++ candidate_at book parsed Reflector other line) _ _ _ _
          (one-differs (both_at book parsed other old) (both_at book parsed other new) (suc n) line (candidate_at book parsed Reflector other line) (candidate book parsed Instrument old line) (candidate book parsed Instrument new line) opened.0 here
          (λ k before. apart k (same k (ne_eqb line k (λ same. omega (arith, same, before)))))
          (λ k behind. apart k (same k (ne_eqb line k (λ same. omega (arith, same, behind))))))
          (place-instrument book parsed other old other line)
          (more line (eq-eqb line line refl))

-- ---- a sight that uses the open entries
pub serve-reflector : (book : ℕ) (parsed : List ParsedLine) (n words : ℕ) (other : Bounds) → n < 4294967295 → is_sight (words_at parsed n) ≡ true → is_setup (words_at parsed n) ≡ false → served (option_map (place_in parsed Reflector) (open_at reflector_height parsed (suc n))) (n + 1) (all_below (both_at book parsed (upto n words) other) (suc n)) ≡ all_below (both_at book parsed (upto (suc n) words) other) (suc n)
serve-reflector book parsed n words other small sight none =
    amend-reflector book parsed n (with_sight (n + 1)) (upto n words) (upto (suc n) words) other (open_at reflector_height parsed (suc n)) refl
    (λ line not_open. unused book parsed Reflector n words line (uses-open reflector_height parsed n line sight none ∙ not_open))
    (λ line opened. used-once-more book parsed Reflector n words line small (uses-open reflector_height parsed n line sight none ∙ opened))

pub serve-instrument : (book : ℕ) (parsed : List ParsedLine) (n words : ℕ) (other : Bounds) → n < 4294967295 → is_sight (words_at parsed n) ≡ true → is_setup (words_at parsed n) ≡ false → served (option_map (place_in parsed Instrument) (open_at instrument_height parsed (suc n))) (n + 1) (all_below (both_at book parsed other (upto n words)) (suc n)) ≡ all_below (both_at book parsed other (upto (suc n) words)) (suc n)
serve-instrument book parsed n words other small sight none =
    amend-instrument book parsed n (with_sight (n + 1)) (upto n words) (upto (suc n) words) other (open_at instrument_height parsed (suc n)) refl
    (λ line not_open. unused book parsed Instrument n words line (uses-open instrument_height parsed n line sight none ∙ not_open))
    (λ line opened. used-once-more book parsed Instrument n words line small (uses-open instrument_height parsed n line sight none ∙ opened))

-- ---- a line that writes the open entries, or none
pub write-reflector : (book : ℕ) (parsed : List ParsedLine) (n sights : ℕ) (other : Bounds) (length : Option ℤ) → is_some length ≡ holds reflector_height (words_at parsed n) → written length (option_map (place_in parsed Reflector) (open_at reflector_height parsed (suc n))) (n + 1) (all_below (both_at book parsed (upto sights n) other) (suc n)) ≡ all_below (both_at book parsed (upto sights (suc n)) other) (suc n)
write-reflector book parsed n sights other None held =
    all-same (both_at book parsed (upto sights n) other) (both_at book parsed (upto sights (suc n)) other) (suc n)
    (λ line below. ap (λ own. cond (opens parsed Reflector line) (own ∷ []) [] ++ candidate_at book parsed Instrument other line) (unwritten book parsed Reflector sights n line (writes-none reflector_height parsed n line (sym held))))
write-reflector book parsed n sights other (Some length) held =
    amend-reflector book parsed n (with_word (n + 1)) (upto sights n) (upto sights (suc n)) other (open_at reflector_height parsed (suc n)) refl
    (λ line not_open. unwritten book parsed Reflector sights n line (writes-open reflector_height parsed n line (sym held) ∙ not_open))
    (λ line opened. written-once-more book parsed Reflector sights n line (writes-open reflector_height parsed n line (sym held) ∙ opened))

pub write-instrument : (book : ℕ) (parsed : List ParsedLine) (n sights : ℕ) (other : Bounds) (length : Option ℤ) → is_some length ≡ holds instrument_height (words_at parsed n) → written length (option_map (place_in parsed Instrument) (open_at instrument_height parsed (suc n))) (n + 1) (all_below (both_at book parsed other (upto sights n)) (suc n)) ≡ all_below (both_at book parsed other (upto sights (suc n))) (suc n)
write-instrument book parsed n sights other None held =
    all-same (both_at book parsed other (upto sights n)) (both_at book parsed other (upto sights (suc n))) (suc n)
    (λ line below. ap (λ own. candidate_at book parsed Reflector other line ++ cond (opens parsed Instrument line) (own ∷ []) []) (unwritten book parsed Instrument sights n line (writes-none instrument_height parsed n line (sym held))))
write-instrument book parsed n sights other (Some length) held =
    amend-instrument book parsed n (with_word (n + 1)) (upto sights n) (upto sights (suc n)) other (open_at instrument_height parsed (suc n)) refl
    (λ line not_open. unwritten book parsed Instrument sights n line (writes-open instrument_height parsed n line (sym held) ∙ not_open))
    (λ line opened. written-once-more book parsed Instrument sights n line (writes-open instrument_height parsed n line (sym held) ∙ opened))
