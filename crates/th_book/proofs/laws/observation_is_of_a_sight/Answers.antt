use Rattle.std.proofs.Common.{◌≡◌, ℕ, Bool, true, false, cond, List, map, length, Option, Some, None, Ok, Err, refl, ap, subst}
use Rattle.std.specs.Prelude.{All, Contains, filter, nat_lt}
use Rattle.std.specs.List.{range_with_len}
use Rattle.std.proofs.lemmas.List.Elements.{All-contains, All-map, All-weaker, filter_passes}
use Rattle.gsi_block.specs.Blocks.{block_at}
use Rattle.gsi_block.specs.Lines.{lines_of}
use Rattle.th_observations.specs.Observed.{Observed}
use Rattle.th_book.specs.Books.{answer, book_answer, observations_of, observed_at, too_long}
use Rattle.th_book.specs.Faults.{first_fault}
use Rattle.th_book.specs.Limits.{max_book}
use Rattle.th_book.specs.Lines.{ParsedLine, is_sight}
use Rattle.th_book.specs.Places.{words_at}
use Rattle.th_book.specs.declared.faults.BookFault.{BookFault}
use Rattle.th_book.proofs.laws.observation_is_of_a_sight.Goals as goal

-- it is the observation of a sight
abbrev IsOfSight : ℕ → List ParsedLine → Observed → Type 0
IsOfSight book parsed o = (place : ℕ) × (is_sight (words_at parsed place) ≡ true) × (o ≡ observed_at book parsed place)

-- an answer without a fault is what the sights give
given : (long : Bool) (fault : Option BookFault) (all observations : List Observed) → cond long (Err too_long) (answer fault all) ≡ Ok observations → all ≡ observations
given true fault all observations e = cc
given false None all observations e = cc
given false (Some fault) all observations e = cc

all_of_sights : (book : ℕ) (parsed : List ParsedLine) → All (IsOfSight book parsed) (observations_of book parsed)
all_of_sights book parsed =
    let passes = λ (place : ℕ). is_sight (words_at parsed place) in
    let sights = filter passes (range_with_len 0 (length parsed)) in
    All-map (IsOfSight book parsed) (observed_at book parsed) sights
    (All-weaker (λ place. passes place ≡ true) (λ place. IsOfSight book parsed (observed_at book parsed place)) (λ place sight. (place, sight, refl)) sights (filter_passes passes (range_with_len 0 (length parsed))))

of_sight : (book : ℕ) (bytes : List ℕ) (observations : List Observed) (o : Observed) → book_answer book bytes ≡ Ok observations → Contains observations o → IsOfSight book (map block_at (lines_of bytes)) o
of_sight book bytes observations o is among =
    let parsed = map block_at (lines_of bytes) in
    let same = given (nat_lt max_book (length bytes)) (first_fault parsed) (observations_of book parsed) observations is in
    All-contains (IsOfSight book parsed) observations o (subst (All (IsOfSight book parsed)) same (all_of_sights book parsed)) among

pub returns-clause-sight : goal.returns-clause-sight
returns-clause-sight c = of_sight

pub returns-clause-book : goal.returns-clause-book
returns-clause-book c = λ book bytes observations o is among.
    ap (λ (own : Observed). own.book) (of_sight book bytes observations o is among).2
