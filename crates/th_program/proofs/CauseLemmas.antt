-- What a refusal that blames a device shows of the folder.
use Rattle.std.proofs.Common.{◌≡◌, ◌⊎◌, ◌<◌, ◌+◌, ◌∙◌, ℕ, Bool, true, List, [], ◌∷◌, Some, None, Ok, Err, IfErr, ap, arith, inl, inr, is_some, length, map, refl, subst, suc, sym, zero}
use Rattle.std.specs.Prelude.{Option, Result, if◌then◌else◌, nat_eq, option_map, slice_get}
use Rattle.std.proofs.lemmas.Option.{slice_get-map}
use Rattle.th_run_parts.specs.Booked.{IsOfBooking, input_of}
use Rattle.th_run_parts.specs.Mended.{IsOfMending}
use Rattle.th_run_parts.specs.declared.conversions.Conversion.{Conversion}
use Rattle.th_run_parts.specs.declared.conversions.Conversion.TheVariants.{Differences, Heights}
use Rattle.th_devices.specs.Devices.{IsOpened, SinkState, SourceState}
use Rattle.th_devices.specs.Spots.{Spot, file}
use Rattle.th_devices.specs.Folders.{Failing, IsStopped}
use Rattle.th_commands.specs.Asked.{Files}
use Rattle.th_files.proofs.OpenedLemmas.{named-opened}
use Rattle.th_program.specs.Failing.{HasCause, IsInClaim, IsInFiles, IsInMending, Origins}
use Rattle.th_files.specs.Opened.{AreGivenBack, AreMade, AreOpened, EachIsOpened, IsOpenedIfAny}
use Rattle.th_files.specs.Outputs.{spot_at, spots_of}
use Rattle.th_files.specs.Owed.{Told}
use Rattle.th_runs.specs.Listed.{IsOfList}
use Rattle.th_run_parts.specs.Outputs.{ending_of}
use Rattle.th_run_parts.specs.Reads.{AreRead, EachBook, IfPresent, IsNamed, IsReadFor, Run, reads_behind, refused}
use Rattle.th_run_parts.specs.Writes.{AreWritten, EachOut, IsAt, IsWritten, Texts, UpTo}
use Rattle.th_inputs.specs.declared.inputs.Input.{Input}
use Rattle.th_inputs.specs.declared.inputs.Input.TheVariants as input
use Rattle.th_run_parts.specs.declared.outputs.Output.{Output}
use Rattle.th_run_parts.specs.declared.refusals.Refusal.{Refusal}
use Rattle.th_run_parts.specs.declared.refusals.Refusal.TheVariants as refusal

-- a spot of this input where reading may fail
abbrev ReadCause : (Spot → Bool) → Origins → Input → Type 0
ReadCause reading origins which = (spot : Spot) × origins which spot × (reading spot ≡ true)

-- a refusal blames the device of which it reports a failed read
same_place : (n : ℕ) → nat_eq n n ≡ true
same_place n = grind arith

one_read : (which : Input) → reads_behind which (refusal.Read which) ≡ 1
one_read (input.Book number) = ap (λ (same : Bool). if same then 1 else 0) (same_place number)
one_read input.Benchmarks = refl
one_read input.Weights = refl
one_read input.Certificate = refl
one_read input.Differences = refl
one_read input.Changes = refl

-- so its source may fail
blamed : {S : Type 0} (state_of : S → SourceState) (reading : Spot → Bool) (told : Told) (which : Input) (spot : Spot) (old new : S)
    → IsOpened (reading spot) (told spot) (state_of old) → IsReadFor state_of which (Some (refusal.Read which)) old new → reading spot ≡ true
blamed state_of reading told which spot old new is read = sym is.fails ∙ read.read.may_fail.allowed (omega (arith, one_read which))

-- the book at a place
book_blamed : {S : Type 0} (state_of : S → SourceState) (reading : Spot → Bool) (told : Told) (place first number : ℕ) (names : List (List ℕ)) (olds news : List S)
    → EachIsOpened state_of reading told names olds
    → EachBook (λ own. IsReadFor state_of (input.Book own) (Some (refusal.Read (input.Book number)))) first olds news
    → number ≡ first + place → place < length names
    → (name : List ℕ) × (slice_get names place ≡ Some name) × (reading (file name) ≡ true)
book_blamed state_of reading told place first number [] [] news are read is within = absurd (omega (arith, within))
book_blamed state_of reading told place first number [] (old ∷ olds) news are read is within = absurd are
book_blamed state_of reading told place first number (name ∷ names) [] news are read is within = absurd are
book_blamed state_of reading told place first number (name ∷ names) (old ∷ olds) [] are read is within = absurd read
book_blamed state_of reading told zero first number (name ∷ names) (old ∷ olds) (new ∷ news) are read is within =
    let here : first ≡ number = omega (arith, is) in (
      name,
      refl,
      blamed state_of reading told (input.Book number) (file name) old new are.0
          (subst (λ (own : ℕ). IsReadFor state_of (input.Book own) (Some (refusal.Read (input.Book number))) old new) here read.0),
    )
book_blamed state_of reading told (suc place) first number (name ∷ names) (old ∷ olds) (new ∷ news) are read is within =
    book_blamed state_of reading told place (first + 1) number names olds news are.1 read.1 (omega (arith, is)) (omega (arith, within))

-- the weights, if there are any
weights_blamed : {S : Type 0} (state_of : S → SourceState) (reading : Spot → Bool) (told : Told) (name : Option (List ℕ)) (old new : Option S)
    → IsOpenedIfAny state_of reading told name old → IfPresent (IsReadFor state_of input.Weights (Some (refusal.Read input.Weights))) old new
    → is_some name ≡ true → (own : List ℕ) × (name ≡ Some own) × (reading (file own) ≡ true)
weights_blamed state_of reading told None None new is read named = absurd (cc named)
weights_blamed state_of reading told None (Some old) new is read named = absurd is
weights_blamed state_of reading told (Some name) None new is read named = absurd is
weights_blamed state_of reading told (Some name) (Some old) None is read named = absurd read
weights_blamed state_of reading told (Some name) (Some old) (Some new) is read named =
    (name, refl, blamed state_of reading told input.Weights (file name) old new is read)

-- an input of the named files that is blamed is where reading may fail
files_blamed : {S : Type 0} (state_of : S → SourceState) (reading : Spot → Bool) (told : Told) (from : Files) (run : Run) (origins : Origins) (which : Input)
    (books books' : List S) (benchmarks benchmarks' : S) (weights weights' : Option S)
    → ((own : Input) (spot : Spot) → IsInFiles from own spot → origins own spot) → AreOpened state_of reading told from books benchmarks weights
    → AreRead state_of state_of state_of (Some (refusal.Read which)) books books' benchmarks benchmarks' weights weights'
    → IsNamed (length from.books) (is_some from.weights) run (refusal.Read which)
    → (which ≡ input.Certificate → run.has_certificate ≡ true → ReadCause reading origins which) → ReadCause reading origins which
files_blamed state_of reading told from run origins (input.Book zero) books books' benchmarks benchmarks' weights weights' widen opened read named stated =
    absurd (omega (arith, named.0))
files_blamed state_of reading told from run origins (input.Book (suc place)) books books' benchmarks benchmarks' weights weights' widen opened read named stated =
    let (name, at, may) = book_blamed state_of reading told place 1 (suc place) from.books books books' opened.of_books read.books (omega arith) (omega (arith, named.1)) in
    (file name, widen (input.Book (suc place)) (file name) (place, omega arith, at), may)
files_blamed state_of reading told from run origins input.Benchmarks books books' benchmarks benchmarks' weights weights' widen opened read named stated = (
  file from.benchmarks,
  widen input.Benchmarks (file from.benchmarks) refl,
  blamed state_of reading told input.Benchmarks (file from.benchmarks) benchmarks benchmarks' opened.of_benchmarks read.benchmarks,
)
files_blamed state_of reading told from run origins input.Weights books books' benchmarks benchmarks' weights weights' widen opened read named stated =
    let (name, is, may) = weights_blamed state_of reading told from.weights weights weights' opened.of_weights read.weights named in
    (file name, widen input.Weights (file name) is, may)
files_blamed state_of reading told from run origins input.Certificate books books' benchmarks benchmarks' weights weights' widen opened read named stated = stated refl named
files_blamed state_of reading told from run origins input.Differences books books' benchmarks benchmarks' weights weights' widen opened read named stated = absurd named
files_blamed state_of reading told from run origins input.Changes books books' benchmarks benchmarks' weights weights' widen opened read named stated = absurd named

-- so is one that the refusal of a run over these files blames
pub files_caused : {S X : Type 0} (state_of : S → SourceState) (reading : Spot → Bool) (told : Told) (from : Files) (run : Run) (origins : Origins) (result : Result X Refusal)
    (books books' : List S) (benchmarks benchmarks' : S) (weights weights' : Option S)
    → ((own : Input) (spot : Spot) → IsInFiles from own spot → origins own spot) → AreOpened state_of reading told from books benchmarks weights
    → AreRead state_of state_of state_of (refused result) books books' benchmarks benchmarks' weights weights'
    → IfErr result (IsNamed (length books) (is_some weights) run)
    → (refused result ≡ Some (refusal.Read input.Certificate) → run.has_certificate ≡ true → ReadCause reading origins input.Certificate)
    → (which : Input) → refused result ≡ Some (refusal.Read which) → ReadCause reading origins which
files_caused state_of reading told from run origins (Ok x) books books' benchmarks benchmarks' weights weights' widen opened read named stated which is = absurd (cc is)
files_caused {S} {X} state_of reading told from run origins (Err own) books books' benchmarks benchmarks' weights weights' widen opened read named stated which is =
    let same : own ≡ refusal.Read which = cc is in
    files_blamed state_of reading told from run origins which books books' benchmarks benchmarks' weights weights' widen opened
    (subst (λ (answer : Option Refusal). AreRead state_of state_of state_of answer books books' benchmarks benchmarks' weights weights') is read)
    (subst (λ (refusal : Refusal). IsNamed (length from.books) (is_some from.weights) run refusal) same
    (named-opened {X = X} state_of reading told from run (Err own) books benchmarks weights opened named))
    (λ certificate has. subst (ReadCause reading origins) (sym certificate)
    (stated (is ∙ ap (λ (input : Input). Some (refusal.Read input)) certificate) has))

-- so is the certificate of a check
pub certificate_blamed : {S X : Type 0} (state_of : S → SourceState) (reading : Spot → Bool) (told : Told) (name : List ℕ) (result : Result X Refusal) (old new : S)
    → IsOpened (reading (file name)) (told (file name)) (state_of old) → IsReadFor state_of input.Certificate (refused result) old new
    → refused result ≡ Some (refusal.Read input.Certificate) → reading (file name) ≡ true
certificate_blamed state_of reading told name result old new opened read is =
    blamed state_of reading told input.Certificate (file name) old new opened
    (subst (λ (answer : Option Refusal). IsReadFor state_of input.Certificate answer old new) is read)

-- so is the book of a list
pub book_caused : {S X : Type 0} (state_of : S → SourceState) (reading : Spot → Bool) (told : Told) (book : Spot) (result : Result X Refusal) (old new : S)
    → IsOpened (reading book) (told book) (state_of old) → IsReadFor state_of (input.Book 1) (refused result) old new → IfErr result IsOfList
    → (which : Input) → refused result ≡ Some (refusal.Read which) → ReadCause reading (λ own spot. spot ≡ book) which
book_caused state_of reading told book (Ok x) old new opened read named which is = absurd (cc is)
book_caused state_of reading told book (Err own) old new opened read named which is =
    let same : own ≡ refusal.Read which = cc is in
    let first : which ≡ input.Book 1 = subst IsOfList same named in (
      book,
      refl,
      blamed state_of reading told (input.Book 1) book old new opened
          (subst (λ (answer : Option Refusal). IsReadFor state_of (input.Book 1) answer old new)
          (is ∙ ap (λ (input : Input). Some (refusal.Read input)) first) read),
    )

-- a failed read of a conversion is one of its input
read_of_input : (conversion : Conversion) (which : Input) → IsOfBooking conversion (refusal.Read which) → which ≡ input_of conversion
read_of_input Differences which is = is
read_of_input Heights which is = is

-- and what becomes a book
pub input_caused : {S X : Type 0} (state_of : S → SourceState) (reading : Spot → Bool) (told : Told) (conversion : Conversion) (name : Spot) (result : Result X Refusal) (old new : S)
    → IsOpened (reading name) (told name) (state_of old) → IsReadFor state_of (input_of conversion) (refused result) old new → IfErr result (IsOfBooking conversion)
    → (which : Input) → refused result ≡ Some (refusal.Read which) → ReadCause reading (λ own spot. spot ≡ name) which
input_caused state_of reading told conversion name (Ok x) old new opened read named which is = absurd (cc is)
input_caused state_of reading told conversion name (Err own) old new opened read named which is =
    let same : own ≡ refusal.Read which = cc is in
    let first : which ≡ input_of conversion = read_of_input conversion which (subst (IsOfBooking conversion) same named) in (
      name,
      refl,
      blamed state_of reading told (input_of conversion) name old new opened
          (subst (λ (answer : Option Refusal). IsReadFor state_of (input_of conversion) answer old new)
          (is ∙ ap (λ (input : Input). Some (refusal.Read input)) first) read),
    )

-- so is an input of a run that mends
pub mending_caused : {C S X : Type 0} (of_table : C → SourceState) (of_book : S → SourceState) (reading : Spot → Bool) (told : Told) (changes book : List ℕ) (result : Result X Refusal)
    (old_table new_table : C) (old_book new_book : S) → IsOpened (reading (file changes)) (told (file changes)) (of_table old_table) → IsOpened (reading (file book)) (told (file book)) (of_book old_book)
    → IsReadFor of_table input.Changes (refused result) old_table new_table → IsReadFor of_book (input.Book 1) (refused result) old_book new_book → IfErr result IsOfMending
    → (which : Input) → refused result ≡ Some (refusal.Read which) → ReadCause reading (IsInMending changes book) which
mending_caused of_table of_book reading told changes book (Ok x) old_table new_table old_book new_book at_table at_book table read named which is = absurd (cc is)
mending_caused of_table of_book reading told changes book (Err own) old_table new_table old_book new_book at_table at_book table read named which is =
    by (subst IsOfMending same named)
  where
    same : own ≡ refusal.Read which
    same = cc is

    by : (which ≡ input.Changes) ⊎ (which ≡ input.Book 1) → ReadCause reading (IsInMending changes book) which
    by (inl first) = subst (ReadCause reading (IsInMending changes book)) (sym first) (
      file changes,
      refl,
      blamed of_table reading told input.Changes (file changes) old_table new_table at_table
          (subst (λ (answer : Option Refusal). IsReadFor of_table input.Changes answer old_table new_table)
          (is ∙ ap (λ (input : Input). Some (refusal.Read input)) first) table),
    )
    by (inr second) = subst (ReadCause reading (IsInMending changes book)) (sym second) (
      file book,
      refl,
      blamed of_book reading told (input.Book 1) (file book) old_book new_book at_book
          (subst (λ (answer : Option Refusal). IsReadFor of_book (input.Book 1) answer old_book new_book)
          (is ∙ ap (λ (input : Input). Some (refusal.Read input)) second) read),
    )

-- an output that is blamed is where writing may fail
output_blamed : {K : Type 0} (state_of : K → SinkState) (tells : Bool) (writing : Spot → Bool) (prefix : List ℕ) (which : Output) (texts : Texts) (olds news : List K)
    → AreMade state_of tells writing (spots_of prefix (map (λ own. own.0) texts)) olds → EachOut (IsAt state_of) (UpTo which) texts olds news
    → writing (spot_at prefix (ending_of which)) ≡ true
output_blamed state_of tells writing prefix which (text ∷ texts) (old ∷ olds) (new ∷ news) made (inl (whole, rest)) =
    output_blamed state_of tells writing prefix which texts olds news made.1 rest
output_blamed state_of tells writing prefix which (text ∷ texts) (old ∷ olds) (new ∷ news) made (inr (is, broken, rest)) =
    subst (λ (output : Output). writing (spot_at prefix (ending_of output)) ≡ true) is
    (sym made.0.fails ∙ broken.called.may_fail.allowed (omega arith))
output_blamed state_of tells writing prefix which [] [] [] made written = absurd written
output_blamed state_of tells writing prefix which [] [] (new ∷ news) made written = absurd written
output_blamed state_of tells writing prefix which [] (old ∷ olds) news made written = absurd made
output_blamed state_of tells writing prefix which (text ∷ texts) [] news made written = absurd made
output_blamed state_of tells writing prefix which (text ∷ texts) (old ∷ olds) [] made written = absurd written

-- so is one that the refusal of a run blames
pub output_caused : {K X : Type 0} (state_of : K → SinkState) (tells : Bool) (writing : Spot → Bool) (prefix : List ℕ) (outputs : List Output) (result : Result X Refusal)
    (olds news : List K) → AreMade state_of tells writing (spots_of prefix outputs) olds
    → (IsWritten result → (texts : Texts) × (map (λ own. own.0) texts ≡ outputs) × AreWritten state_of (refused result) texts olds news)
    → (which : Output) → refused result ≡ Some (refusal.Write which) → writing (spot_at prefix (ending_of which)) ≡ true
output_caused state_of tells writing prefix outputs (Ok x) olds news made written which is = absurd (cc is)
output_caused {K} {X} state_of tells writing prefix outputs (Err own) olds news made written which is =
    let same : own ≡ refusal.Write which = cc is in
    let (texts, are, begun) = written (subst (λ (refusal : Refusal). IsWritten {X = X} (Err refusal)) (sym same) tt) in
    output_blamed state_of tells writing prefix which texts olds news
    (subst (λ (all : List Output). AreMade state_of tells writing (spots_of prefix all) olds) (sym are) made)
    (subst (λ (answer : Option Refusal). AreWritten state_of answer texts olds news) is begun)

-- a refusal has its cause if each device that it may blame has one
pub run_caused : {X : Type 0} (failing : Failing) (origins : Origins) (prefix : List ℕ) (result : Result X Refusal)
    → ((which : Input) → refused result ≡ Some (refusal.Read which) → ReadCause failing.reading origins which)
    → ((which : Output) → refused result ≡ Some (refusal.Write which) → failing.writing (spot_at prefix (ending_of which)) ≡ true)
    → IfErr result (HasCause failing origins prefix)
run_caused failing origins prefix (Ok x) read written = tt
run_caused failing origins prefix (Err (refusal.Read which)) read written = read which refl
run_caused failing origins prefix (Err (refusal.Write which)) read written = written which refl
run_caused failing origins prefix (Err (refusal.Book number fault)) read written = tt
run_caused failing origins prefix (Err (refusal.Benchmarks fault)) read written = tt
run_caused failing origins prefix (Err (refusal.Weights fault)) read written = tt
run_caused failing origins prefix (Err (refusal.Certificate fault)) read written = tt
run_caused failing origins prefix (Err (refusal.Differences fault)) read written = tt
run_caused failing origins prefix (Err (refusal.Heights fault)) read written = tt
run_caused failing origins prefix (Err (refusal.Changes fault)) read written = tt
run_caused failing origins prefix (Err (refusal.Unfit fault)) read written = tt
run_caused failing origins prefix (Err (refusal.Mended fault)) read written = tt
run_caused failing origins prefix (Err (refusal.Network fault)) read written = tt
run_caused failing origins prefix (Err refusal.NoMemory) read written = tt

spots_map : {K : Type 0} (state_of : K → SinkState) (sinks : List K) → map (λ own. own.spot) (map state_of sinks) ≡ map (λ own. (state_of own).spot) sinks
spots_map state_of [] = refl
spots_map state_of (own ∷ sinks) = ap (λ (more : List Spot). (state_of own).spot ∷ more) (spots_map state_of sinks)

-- a finished file that could not take its place is where writing may fail
stop_caused : {F K : Type 0} (state_of : K → SinkState) (tells : Bool) (held : F → Told) (has_failed : F → Spot → Bool) (failing : F → Failing) (prefix : List ℕ) (outputs : List Output)
    (news : List K) (before after : F) (number : ℕ) (which : Output) → slice_get outputs number ≡ Some which
    → map (λ own. (state_of own).spot) news ≡ spots_of prefix outputs → IsStopped tells held has_failed failing (map state_of news) before after number
    → (failing before).writing (spot_at prefix (ending_of which)) ≡ true
stop_caused state_of tells held has_failed failing prefix outputs news before after number which at there stopped =
    let here : Some stopped.sink.spot ≡ Some (spot_at prefix (ending_of which)) =
    sym (ap (option_map (λ (own : SinkState). own.spot)) stopped.at) ∙ sym (slice_get-map (λ (own : SinkState). own.spot) (map state_of news) number)
    ∙ ap (λ (spots : List Spot). slice_get spots number) (spots_map state_of news ∙ there)
    ∙ slice_get-map (λ (own : Output). spot_at prefix (ending_of own)) outputs number ∙ ap (option_map (λ (own : Output). spot_at prefix (ending_of own))) at in
    let same : stopped.sink.spot ≡ spot_at prefix (ending_of which) = cc here in
    subst (λ (spot : Spot). (failing before).writing spot ≡ true) same stopped.allowed

-- so the refusal of a run has its cause also after its sinks were given back
pub given_caused : {F K : Type 0} (state_of : K → SinkState) (tells : Bool) (held : F → Told) (has_failed : F → Spot → Bool) (failing : F → Failing) (origins : Origins)
    (prefix : List ℕ) (outputs : List Output) (news : List K) (answer result : Result (Unit {0}) Refusal) (before after : F)
    → map (λ own. (state_of own).spot) news ≡ spots_of prefix outputs → AreGivenBack tells held has_failed failing (map state_of news) outputs answer result before after
    → IfErr answer (HasCause (failing before) origins prefix) → IfErr result (HasCause (failing before) origins prefix)
given_caused state_of tells held has_failed failing origins prefix outputs news (Ok x) (Ok y) before after there given caused = tt
given_caused state_of tells held has_failed failing origins prefix outputs news (Ok x) (Err own) before after there (number, which, at, is, stopped) caused =
    subst (HasCause (failing before) origins prefix) (sym is)
    (stop_caused state_of tells held has_failed failing prefix outputs news before after number which at there stopped)
given_caused state_of tells held has_failed failing origins prefix outputs news (Err own) (Ok y) before after there given caused = tt
given_caused state_of tells held has_failed failing origins prefix outputs news (Err own) (Err other) before after there (is, kept) caused =
    let own_is : own ≡ other = cc is in
    subst (HasCause (failing before) origins prefix) own_is caused

-- what is an input of these files is one of a check
pub widened : (from : Files) (certificate : List ℕ) (which : Input) (spot : Spot) → IsInFiles from which spot → IsInClaim from certificate which spot
widened from certificate (input.Book number) spot is = is
widened from certificate input.Benchmarks spot is = is
widened from certificate input.Weights spot is = is
widened from certificate input.Certificate (file name) is = absurd is
widened from certificate input.Certificate other is = absurd is
widened from certificate input.Differences spot is = is
widened from certificate input.Changes spot is = is
