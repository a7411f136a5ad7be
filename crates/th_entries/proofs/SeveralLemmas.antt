-- The entries of several books, among the observations of all of them.
use Rattle.std.proofs.Common.{◌≡◌, ◌≢◌, ℕ, ◌+◌, ◌<◌, ◌⊎◌, inl, inr, List, [], ◌∷◌, ◌++◌, Ok, sym, subst, arith}
use Rattle.std.specs.Prelude.{All, Contains}
use Rattle.std.proofs.lemmas.List.Elements.{All-append, All-contains_itself, All-weaker, Contains-append_cases}
use Rattle.th_observations.specs.Observed.{Observed}
use Rattle.th_book.specs.Lines.{ParsedLine}
use Rattle.th_book.specs.Books.{book_answer}
use Rattle.th_entries.specs.Entries.{entries_of}
use Rattle.th_entries.specs.Reviews.{parsed_of}
use Rattle.th_entries.specs.Several.{AreObserved, entries_of_books, numbered}
use Rattle.th_entries.specs.Stations.{HasOneStation}
use Rattle.th_entries.specs.declared.entries.Entry.{Entry}
use Rattle.th_entries.proofs.StationLemmas.{station-before, station-behind}

-- what the laws say of one book
pub record Laws : Type 0 where
  pub observed : (number : ℕ) (text : List ℕ) (observations : List Observed) (o : Observed) → book_answer number text ≡ Ok observations → Contains observations o → o.book ≡ number
  pub entered : (number : ℕ) (parsed : List ParsedLine) (entry : Entry) → Contains (entries_of number parsed) entry → entry.book ≡ number
  pub station : (number : ℕ) (text : List ℕ) (observations : List Observed) (entry : Entry) → book_answer number text ≡ Ok observations → Contains (entries_of number (parsed_of text)) entry → HasOneStation observations entry

-- all observations of a book have its number, so they are of other books than one with another number
all-of : (P : Observed → Type 0) (observations : List Observed) → ((o : Observed) → Contains observations o → P o) → All P observations
all-of P observations each = All-weaker (Contains observations) P each observations (All-contains_itself observations)

-- the books behind keep the station of an entry
kept-behind : Laws → (texts : List (List ℕ)) (number : ℕ) (before all : List Observed) (entry : Entry) → AreObserved number before texts all → entry.book < number → HasOneStation before entry → HasOneStation all entry
kept-behind laws [] number before all entry are earlier own = subst (λ (all : List Observed). HasOneStation all entry) (sym are) own
kept-behind laws (text ∷ texts) number before all entry are earlier own =
    let others : All (λ (o : Observed). o.book ≢ entry.book) are.0 = all-of (λ (o : Observed). o.book ≢ entry.book) are.0 (λ o among same. omega (arith, earlier, same, laws.observed number text are.0 o are.1 among)) in
    kept-behind laws texts (number + 1) (before ++ are.0) all entry are.2 (omega (arith, earlier)) (station-behind before are.0 entry own others)

-- the entries of each book have one station among the observations of all
pub one-of-several : Laws → (texts : List (List ℕ)) (number : ℕ) (before all : List Observed) (entry : Entry) → AreObserved number before texts all → All (λ o. o.book < number) before → Contains (entries_of_books (numbered number texts)) entry → HasOneStation all entry
one-of-several laws [] number before all entry are earlier among = absurd (omega (arith, among.1))
one-of-several laws (text ∷ texts) number before all entry are earlier among =
    go (Contains-append_cases (entries_of number (parsed_of text)) (entries_of_books (numbered (number + 1) texts)) entry among)
    (λ more later. one-of-several laws texts (number + 1) (before ++ are.0) all entry are.2 more later)
  where
    own : List Observed
    own = are.0

    more : All (λ (o : Observed). o.book < number + 1) (before ++ own)
    more = All-append (λ (o : Observed). o.book < number + 1) before own
        (All-weaker (λ (o : Observed). o.book < number) (λ (o : Observed). o.book < number + 1) (λ o less. omega (arith, less)) before earlier)
        (all-of (λ (o : Observed). o.book < number + 1) own (λ o seen. omega (arith, laws.observed number text own o are.1 seen)))

    go : Contains (entries_of number (parsed_of text)) entry ⊎ Contains (entries_of_books (numbered (number + 1) texts)) entry → (All (λ (o : Observed). o.book < number + 1) (before ++ own) → Contains (entries_of_books (numbered (number + 1) texts)) entry → HasOneStation all entry) → HasOneStation all entry
    go (inl here) rest =
        let is : entry.book ≡ number = laws.entered number (parsed_of text) entry here in
        let others : All (λ (o : Observed). o.book ≢ entry.book) before = All-weaker (λ (o : Observed). o.book < number) (λ (o : Observed). o.book ≢ entry.book) (λ o less same. omega (arith, less, same, is)) before earlier in
        kept-behind laws texts (number + 1) (before ++ own) all entry are.2 (omega (arith, is)) (station-before before own entry others (laws.station number text own entry are.1 here))
    go (inr later) rest = rest more later
