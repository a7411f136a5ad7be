-- What is known of books that were read one after the other.
use Rattle.std.proofs.Common.{◌≡◌, ◌+◌, ◌<◌, ◌≤◌, ℕ, List, ◌∷◌, ◌++◌, Some, None, Ok, Err, IfSome, length, take, ap, sym, subst, ◌∙◌, inl, inr, arith}
use Rattle.std.proofs.lemmas.Bool.{cases_lt}
use Rattle.std.proofs.lemmas.List.{length-take, take_all}
use Rattle.std.specs.Prelude.{IfOk, OnOk, Option, Result, map}
use Rattle.th_book.specs.Books.{book_answer, too_long as book_too_long}
use Rattle.th_book.specs.Limits.{max_book}
use Rattle.th_observations.specs.Observed.{Observed}
use Rattle.th_run_parts.proofs.Fronts.{book_long}
use Rattle.th_run_parts.specs.Readers.{HasReadBooks}

-- the front of a text whose answer is no refusal is the text
whole_text : {X F : Type 0} (most : ℕ) (refused : F) (answer : List ℕ → Result X F) → ((text : List ℕ) → most < length text → answer text ≡ Err refused)
    → (text : List ℕ) (x : X) → answer (take (most + 1) text) ≡ Ok x → text ≡ take (most + 1) text
whole_text most refused answer long text x answered =
    elim (cases_lt most (length text)) [
      | inl longer ↦ absurd (cc (answered, long (take (most + 1) text) (omega (arith, length-take (most + 1) text, longer))))
      | inr short ↦ sym (take_all (most + 1) text (omega arith))
    ]

-- so where a text is told, the front that was read is the text
pub whole_told : {X F : Type 0} (most : ℕ) (refused : F) (answer : List ℕ → Result X F) → ((text : List ℕ) → most < length text → answer text ≡ Err refused)
    → (told : Option (List ℕ)) (front : List ℕ) (x : X) → answer front ≡ Ok x → IfSome told (λ text. front ≡ take (most + 1) text) → IfSome told (λ text. text ≡ front)
whole_told most refused answer long None front x answered is = tt
whole_told most refused answer long (Some text) front x answered is =
    whole_text most refused answer long text x (sym (ap answer is) ∙ answered) ∙ sym is

pub front_told : (number : ℕ) (told : Option (List ℕ)) (front : List ℕ) (observations : List Observed) → book_answer number front ≡ Ok observations
    → IfSome told (λ text. front ≡ take (max_book + 1) text) → IfSome told (λ text. text ≡ front)
front_told number = whole_told max_book book_too_long (book_answer number) (book_long number)

-- a book that gives observations has at most `max_book` bytes
pub book_within : (number : ℕ) (text : List ℕ) (observations : List Observed) → book_answer number text ≡ Ok observations → length text ≤ max_book
book_within number text observations answered =
    elim (cases_lt max_book (length text)) [
      | inl longer ↦ absurd (cc (answered, book_long number text longer))
      | inr short ↦ omega arith
    ]

-- what follows from an answer that is Ok
pub on_ok : {X E P Q : Type 0} (result : Result X E) → (P → Q) → OnOk result P → OnOk result Q
on_ok (Ok x) step holds = step holds
on_ok (Err e) step holds = tt

pub if_ok : {X E : Type 0} (P Q : X → Type 0) (result : Result X E) → ((x : X) → P x → Q x) → IfOk result P → IfOk result Q
if_ok P Q (Ok x) step holds = step x holds
if_ok P Q (Err e) step holds = tt

-- one book more was read before the others
pub read_next : {R S : Type 0} (has_read : ℕ → Option (List ℕ) → List Observed → R → R → Type 0) (left : S → Option (List ℕ)) (number : ℕ) (books : List S) (book : S)
    (later : List S) (before next after observations : List Observed) (old mid new : R) → books ≡ book ∷ later → has_read number (left book) observations old mid
    → next ≡ before ++ observations → HasReadBooks has_read (number + 1) (map left later) next after mid new
    → HasReadBooks has_read number (map left books) before after old new
read_next has_read left number books book later before next after observations old mid new is read joins rest =
    subst (λ own. HasReadBooks has_read number (map left own) before after old new) (sym is)
    (mid, observations, read, subst (λ own. HasReadBooks has_read (number + 1) (map left later) own after mid new) joins rest)
