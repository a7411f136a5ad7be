-- The sources that a folder gave.
use Rattle.std.proofs.Common.{◌≡◌, ◌+◌, ◌≤◌, ℕ, List, Bool, [], ◌∷◌, ◌++◌, Some, None, IfErr, is_some, length, map, subst, ap, ap₂, ◌∙◌, refl, arith}
use Rattle.std.specs.List.{AllZip}
use Rattle.std.specs.Prelude.{All, IfSome, Option, Result, option_map}
use Rattle.std.proofs.lemmas.List.Elements.{All-cons}
use Rattle.th_devices.specs.Devices.{IsOpened, IsReady, SourceState}
use Rattle.th_devices.specs.Spots.{Spot, file}
use Rattle.th_files.specs.Opened.{AreOpened, EachIsOpened, IsOpenedIfAny}
use Rattle.th_commands.specs.Asked.{Files}
use Rattle.th_commands.specs.PlanLimits.{max_books}
use Rattle.th_files.specs.Owed.{Told, claim_owed, given_by, given_by_books, given_from, survey_owed, tolds_in}
use Rattle.th_run_parts.specs.Inputs.{claim_owed_by_sources, Given, given, given_at, given_if_any, givens, owed_by_sources, owed_for_claim, owed_for_survey, told_by, told_if_any}
use Rattle.th_run_parts.specs.Summed.{tolds_of}
use Rattle.th_run_parts.specs.Reads.{AreRead, AreReady, EachBook, IfPresent, IsNamed, IsReadFor, Run, failed_reads_of}
use Rattle.th_inputs.specs.declared.inputs.Input.{Input}
use Rattle.th_inputs.specs.declared.inputs.Input.TheVariants as input
use Rattle.th_run_parts.specs.declared.refusals.Refusal.{Refusal}

-- one more of two lists whose items are related
pub zip_more : {A B : Type 0} (R : A → B → Type 0) (xs : List A) (ys : List B) (x : A) (y : B) → AllZip R xs ys → R x y → AllZip R (xs ++ x ∷ []) (ys ++ y ∷ [])
zip_more R [] [] x y are is = (is, tt)
zip_more R [] (other ∷ ys) x y are is = absurd are
zip_more R (one ∷ xs) [] x y are is = absurd are
zip_more R (one ∷ xs) (other ∷ ys) x y are is = (are.0, zip_more R xs ys x y are.1 is)

-- none of them was called
pub opened-ready : {S : Type 0} (state_of : S → SourceState) (reading : Spot → Bool) (told : Told)
    (names : List (List ℕ)) (sources : List S) → EachIsOpened state_of reading told names sources → All (λ source. IsReady (state_of source).counts) sources
opened-ready state_of reading told [] [] are = λ k d within. absurd (omega (arith, within))
opened-ready state_of reading told [] (one ∷ sources) are = absurd are
opened-ready state_of reading told (first ∷ names) [] are = absurd are
opened-ready state_of reading told (first ∷ names) (one ∷ sources) are =
    All-cons (λ source. IsReady (state_of source).counts) one sources (omega (arith, are.0.calls)) (opened-ready state_of reading told names sources are.1)

-- there are as many as names
pub opened-length : {S : Type 0} (state_of : S → SourceState) (reading : Spot → Bool) (told : Told)
    (names : List (List ℕ)) (sources : List S) → EachIsOpened state_of reading told names sources → length sources ≡ length names
opened-length state_of reading told [] [] are = refl
opened-length state_of reading told [] (one ∷ sources) are = absurd are
opened-length state_of reading told (first ∷ names) [] are = absurd are
opened-length state_of reading told (first ∷ names) (one ∷ sources) are =
    let more = opened-length state_of reading told names sources are.1 in omega (arith, more)

-- what a source gave that was read for a run
pub given-there : {S : Type 0} (state_of : S → SourceState) (reading : Spot → Bool) (told : Told)
    (which : Input) (answer : Option Refusal) (spot : Spot) (old new : S)
    → IsOpened (reading spot) (told spot) (state_of old) → (state_of new).counts.failures ≡ (state_of old).counts.failures + failed_reads_of which answer
    → given state_of old new ≡ given_from told answer which spot
given-there state_of reading told which answer spot old new is failed =
    let none : (state_of old).counts.failures ≡ 0 = omega (arith, is.calls, (state_of old).counts.failures_are_calls) in
    let some : (state_of new).counts.failures ≡ failed_reads_of which answer = omega (arith, none, failed) in
    ap₂ (λ before after. given_at before after ((state_of old).left)) none some ∙ ap (given_at 0 (failed_reads_of which answer)) is.tells

-- and the source of a file
pub given-opened : {S : Type 0} (state_of : S → SourceState) (reading : Spot → Bool) (told : Told)
    (which : Input) (answer : Option Refusal) (name : List ℕ) (old new : S)
    → IsOpened (reading (file name)) (told (file name)) (state_of old) → (state_of new).counts.failures ≡ (state_of old).counts.failures + failed_reads_of which answer
    → given state_of old new ≡ given_by told answer which name
given-opened state_of reading told which answer name old new is failed =
    given-there state_of reading told which answer (file name) old new is failed

-- what the sources of books gave
pub givens-opened : {S : Type 0} (state_of : S → SourceState) (reading : Spot → Bool) (told : Told)
    (answer : Option Refusal) (number : ℕ) (names : List (List ℕ)) (olds news : List S)
    → EachIsOpened state_of reading told names olds
    → EachBook (λ own. IsReadFor state_of (input.Book own) answer) number olds news
    → givens state_of olds news ≡ given_by_books told answer number names
givens-opened state_of reading told answer number [] [] [] are read = refl
givens-opened state_of reading told answer number [] [] (new ∷ news) are read = absurd read
givens-opened state_of reading told answer number [] (old ∷ olds) news are read = absurd are
givens-opened state_of reading told answer number (name ∷ names) [] news are read = absurd are
givens-opened state_of reading told answer number (name ∷ names) (old ∷ olds) [] are read = absurd read
givens-opened state_of reading told answer number (name ∷ names) (old ∷ olds) (new ∷ news) are read =
    ap₂ (λ one more. one ∷ more)
    (given-opened state_of reading told (input.Book number) answer name old new are.0 read.0.read.failed)
    (givens-opened state_of reading told answer (number + 1) names olds news are.1 read.1)

-- what the sources of books tell
pub tells-opened : {S : Type 0} (state_of : S → SourceState) (reading : Spot → Bool) (told : Told)
    (names : List (List ℕ)) (sources : List S) → EachIsOpened state_of reading told names sources
    → told_by state_of sources ≡ map (λ name. told (file name)) names
tells-opened state_of reading told [] [] are = refl
tells-opened state_of reading told [] (one ∷ sources) are = absurd are
tells-opened state_of reading told (first ∷ names) [] are = absurd are
tells-opened state_of reading told (first ∷ names) (one ∷ sources) are =
    ap₂ (λ own more. own ∷ more) are.0.tells (tells-opened state_of reading told names sources are.1)

-- and those of all inputs
tells-opened-if-any : {S : Type 0} (state_of : S → SourceState) (reading : Spot → Bool) (told : Told)
    (name : Option (List ℕ)) (source : Option S) → IsOpenedIfAny state_of reading told name source
    → told_if_any state_of source ≡ option_map (λ name. told (file name)) name
tells-opened-if-any state_of reading told None None is = refl
tells-opened-if-any state_of reading told None (Some source) is = absurd is
tells-opened-if-any state_of reading told (Some name) None is = absurd is
tells-opened-if-any state_of reading told (Some name) (Some source) is = ap Some is.tells

pub tolds-opened : {S : Type 0} (state_of : S → SourceState) (reading : Spot → Bool) (told : Told) (from : Files) (books : List S) (benchmarks : S) (weights : Option S)
    → AreOpened state_of reading told from books benchmarks weights → tolds_of state_of state_of state_of books benchmarks weights ≡ tolds_in told from
tolds-opened state_of reading told from books benchmarks weights opened =
    ap (λ own. record { books = own; benchmarks = (state_of benchmarks).left; weights = told_if_any state_of weights }) (tells-opened state_of reading told from.books books opened.of_books)
    ∙ ap₂ (λ own other. record { books = (tolds_in told from).books; benchmarks = own; weights = other }) opened.of_benchmarks.tells (tells-opened-if-any state_of reading told from.weights weights opened.of_weights)

-- what a source gave that may be absent
pub given-opened-if-any : {S : Type 0} (state_of : S → SourceState) (reading : Spot → Bool) (told : Told)
    (which : Input) (answer : Option Refusal) (name : Option (List ℕ)) (old new : Option S)
    → IsOpenedIfAny state_of reading told name old → IfPresent (IsReadFor state_of which answer) old new
    → given_if_any state_of old new ≡ option_map (given_by told answer which) name
given-opened-if-any state_of reading told which answer None None None is read = refl
given-opened-if-any state_of reading told which answer None None (Some new) is read = absurd read
given-opened-if-any state_of reading told which answer None (Some old) new is read = absurd is
given-opened-if-any state_of reading told which answer (Some name) None new is read = absurd is
given-opened-if-any state_of reading told which answer (Some name) (Some old) None is read = absurd read
given-opened-if-any state_of reading told which answer (Some name) (Some old) (Some new) is read =
    ap Some (given-opened state_of reading told which answer name old new is read.read.failed)

-- an absent source was not called, and neither was one that is there
opened-ready-if-any : {S : Type 0} (state_of : S → SourceState) (reading : Spot → Bool) (told : Told)
    (name : Option (List ℕ)) (source : Option S) → IsOpenedIfAny state_of reading told name source → IfSome source (λ own. IsReady (state_of own).counts)
opened-ready-if-any state_of reading told None None is = tt
opened-ready-if-any state_of reading told None (Some source) is = absurd is
opened-ready-if-any state_of reading told (Some name) None is = absurd is
opened-ready-if-any state_of reading told (Some name) (Some source) is = omega (arith, is.calls)

-- so a run may read them
pub opened-are-ready : {S : Type 0} (state_of : S → SourceState) (reading : Spot → Bool) (told : Told) (from : Files) (books : List S) (benchmarks : S) (weights : Option S)
    → AreOpened state_of reading told from books benchmarks weights → length books ≤ max_books → AreReady state_of state_of state_of books benchmarks weights
opened-are-ready state_of reading told from books benchmarks weights opened few = record {
  few_books = few;
  each_book = opened-ready state_of reading told from.books books opened.of_books;
  table = omega (arith, opened.of_benchmarks.calls);
  if_weights = opened-ready-if-any state_of reading told from.weights weights opened.of_weights;
}

-- the owed survey depends on what the inputs gave, and so does the owed claim
pub owed-same : (books books' : List Given) (benchmarks benchmarks' : Given) (weights weights' : Option Given) → books ≡ books' → benchmarks ≡ benchmarks'
    → weights ≡ weights' → owed_for_survey books benchmarks weights ≡ owed_for_survey books' benchmarks' weights'
owed-same books books' benchmarks benchmarks' weights weights' same_books same_benchmarks same_weights =
    ap (λ own. owed_for_survey own benchmarks weights) same_books
    ∙ ap (λ own. owed_for_survey books' own weights) same_benchmarks
    ∙ ap (λ own. owed_for_survey books' benchmarks' own) same_weights

owed-claim-same : (books books' : List Given) (benchmarks benchmarks' : Given) (weights weights' : Option Given) (certificate certificate' : Given)
    → books ≡ books' → benchmarks ≡ benchmarks' → weights ≡ weights' → certificate ≡ certificate'
    → owed_for_claim books benchmarks weights certificate ≡ owed_for_claim books' benchmarks' weights' certificate'
owed-claim-same books books' benchmarks benchmarks' weights weights' certificate certificate' same_books same_benchmarks same_weights same_certificate =
    ap (λ own. owed_for_claim own benchmarks weights certificate) same_books
    ∙ ap (λ own. owed_for_claim books' own weights certificate) same_benchmarks
    ∙ ap (λ own. owed_for_claim books' benchmarks' own certificate) same_weights
    ∙ ap (λ own. owed_for_claim books' benchmarks' weights' own) same_certificate

-- what a run is owed that read the sources of the named files
pub survey-opened : {S : Type 0} (state_of : S → SourceState) (reading : Spot → Bool) (told : Told) (from : Files) (answer : Option Refusal)
    (books books' : List S) (benchmarks benchmarks' : S) (weights weights' : Option S)
    → AreOpened state_of reading told from books benchmarks weights
    → AreRead state_of state_of state_of answer books books' benchmarks benchmarks' weights weights'
    → owed_by_sources state_of state_of state_of books books' benchmarks benchmarks' weights weights' ≡ survey_owed told answer from
survey-opened state_of reading told from answer books books' benchmarks benchmarks' weights weights' opened read =
    owed-same _ _ _ _ _ _
    (givens-opened state_of reading told answer 1 from.books books books' opened.of_books read.books)
    (given-opened state_of reading told input.Benchmarks answer from.benchmarks benchmarks benchmarks' opened.of_benchmarks read.benchmarks.read.failed)
    (given-opened-if-any state_of reading told input.Weights answer from.weights weights weights' opened.of_weights read.weights)

-- and one that read a certificate after them
pub claim-opened : {S : Type 0} (state_of : S → SourceState) (reading : Spot → Bool) (told : Told) (from : Files) (stated : List ℕ)
    (answer : Option Refusal) (books books' : List S) (benchmarks benchmarks' : S) (weights weights' : Option S) (certificate certificate' : S)
    → AreOpened state_of reading told from books benchmarks weights
    → IsOpened (reading (file stated)) (told (file stated)) (state_of certificate)
    → AreRead state_of state_of state_of answer books books' benchmarks benchmarks' weights weights' → IsReadFor state_of input.Certificate answer certificate certificate'
    → claim_owed_by_sources state_of state_of state_of state_of books books' benchmarks benchmarks' weights weights' certificate certificate' ≡ claim_owed told answer from stated
claim-opened state_of reading told from stated answer books books' benchmarks benchmarks' weights weights' certificate certificate' opened is_opened read read_certificate =
    owed-claim-same _ _ _ _ _ _ _ _
    (givens-opened state_of reading told answer 1 from.books books books' opened.of_books read.books)
    (given-opened state_of reading told input.Benchmarks answer from.benchmarks benchmarks benchmarks' opened.of_benchmarks read.benchmarks.read.failed)
    (given-opened-if-any state_of reading told input.Weights answer from.weights weights weights' opened.of_weights read.weights)
    (given-opened state_of reading told input.Certificate answer stated certificate certificate' is_opened read_certificate.read.failed)

-- a weights file is named just where there is a source for it
weights-named : {S : Type 0} (state_of : S → SourceState) (reading : Spot → Bool) (told : Told) (name : Option (List ℕ)) (source : Option S)
    → IsOpenedIfAny state_of reading told name source → is_some source ≡ is_some name
weights-named state_of reading told None None is = refl
weights-named state_of reading told None (Some source) is = absurd is
weights-named state_of reading told (Some name) None is = absurd is
weights-named state_of reading told (Some name) (Some source) is = refl

-- so a refusal of the run names one of the named files
pub named-opened : {S X : Type 0} (state_of : S → SourceState) (reading : Spot → Bool) (told : Told) (from : Files) (run : Run)
    (result : Result X Refusal) (books : List S) (benchmarks : S) (weights : Option S) → AreOpened state_of reading told from books benchmarks weights
    → IfErr result (IsNamed (length books) (is_some weights) run) → IfErr result (IsNamed (length from.books) (is_some from.weights) run)
named-opened state_of reading told from run result books benchmarks weights opened named =
    let few = opened-length state_of reading told from.books books opened.of_books in
    let any = weights-named state_of reading told from.weights weights opened.of_weights in
    subst (λ (n : ℕ). IfErr result (IsNamed n (is_some from.weights) run)) few (subst (λ (w : Bool). IfErr result (IsNamed (length books) w run)) any named)
