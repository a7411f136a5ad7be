-- How sources are read, and what that says where another input decides.
use Rattle.std.proofs.Common.{◌≡◌, ◌≢◌, ◌+◌, ◌<◌, ◌≤◌, ℕ, List, [], ◌∷◌, Some, None, Ok, Err, IfSome, IfErr, IsSomeAnd, ap, sym, subst, refl, if◌then◌else◌, false, arith}
use Rattle.std.proofs.lemmas.Bool.{ne_eqb}
use Rattle.std.proofs.lemmas.List.Elements.{All-tail}
use Rattle.std.specs.List.{All}
use Rattle.std.specs.Prelude.{Option, Result, Bool}
use Rattle.th_devices.specs.Transfer.{Advances}
use Rattle.th_devices.specs.Devices.{MayHaveFailed, SourceState}
use Rattle.th_run_parts.specs.Reads.{AreRead, EachBook, IfPresent, IsBehind, IsFrom, IsOfBook, IsOfBooks, IsOfInputs, IsPast, IsReadBefore, IsReadFor, decided_by, reads_behind, same_input}
use Rattle.th_inputs.specs.declared.inputs.Input.{Input}
use Rattle.th_inputs.specs.declared.inputs.Input.TheVariants as input
use Rattle.th_run_parts.specs.declared.refusals.Refusal.{Refusal}
use Rattle.th_run_parts.specs.declared.refusals.Refusal.TheVariants as refusal
use Rattle.th_run_parts.specs.Reads.{refused}

-- books that stay as they were
pub each_same : {S : Type 0} (R : ℕ → S → S → Type 0) (number : ℕ) (books : List S) → ((own : ℕ) (book : S) → number ≤ own → R own book book)
    → EachBook R number books books
each_same R number [] same = tt
each_same R number (book ∷ books) same =
    (same number book (omega arith), each_same R (number + 1) books (λ own other above. same own other (omega arith)))

-- a first book that changed, and later ones that stay as they were
pub each_first : {S : Type 0} (R : ℕ → S → S → Type 0) (number : ℕ) (books : List S) (old new : S) (later : List S) → books ≡ old ∷ later → R number old new
    → ((own : ℕ) (book : S) → number < own → R own book book) → EachBook R number books (new ∷ later)
each_first R number books old new later is first same =
    subst (λ olds. EachBook R number olds (new ∷ later)) (sym is) (first, each_same R (number + 1) later (λ own book above. same own book (omega arith)))

-- the books behind the first, of all of which something is known
pub all_later : {S : Type 0} (P : S → Type 0) (books : List S) (book : S) (later : List S) → books ≡ book ∷ later → All P books → All P later
all_later P books book later is all = All-tail P book later (subst (All P) is all)

-- a first book, and what is known of the later ones
pub each_next : {S : Type 0} (R : ℕ → S → S → Type 0) (number : ℕ) (books : List S) (old new : S) (later newer : List S) → books ≡ old ∷ later → R number old new
    → EachBook R (number + 1) later newer → EachBook R number books (new ∷ newer)
each_next R number books old new later newer is first next = subst (λ olds. EachBook R number olds (new ∷ newer)) (sym is) (first, next)

-- a source that was not read stands where it stood
advances-same : (most : ℕ) (told : Option (List ℕ)) → Advances most told told
advances-same most None = ([], omega arith, tt)
advances-same most (Some text) = ([], omega arith, refl)

-- no call of a device failed
pub none_failed : (failures : ℕ) (may_fail : Bool) → failures ≡ 0 → MayHaveFailed failures may_fail may_fail
none_failed failures may_fail none = record { fixed = refl; allowed = λ some. absurd (omega (arith, none, some)) }

-- of two inputs each is read before the other, or none
asymmetric : (own other : Input) → IsReadBefore own other → IsReadBefore other own → ⊥
asymmetric (input.Book own) (input.Book other) before behind = omega (arith, before, behind)
asymmetric (input.Book own) input.Changes before behind = before
asymmetric input.Changes (input.Book other) before behind = behind
asymmetric (input.Book own) other before behind = behind
asymmetric own (input.Book other) before behind = before
asymmetric input.Benchmarks input.Benchmarks before behind = before
asymmetric input.Benchmarks other before behind = behind
asymmetric own input.Benchmarks before behind = before
asymmetric input.Weights input.Weights before behind = before
asymmetric input.Weights other before behind = behind
asymmetric own input.Weights before behind = before
asymmetric own other before behind = before

-- two inputs that differ are not one
differing : (which own : Input) → own ≢ which → same_input which own ≡ false
differing (input.Book which) (input.Book own) differs = ne_eqb which own (λ e. differs (ap input.Book (sym e)))
differing input.Benchmarks input.Benchmarks differs = absurd (differs refl)
differing input.Weights input.Weights differs = absurd (differs refl)
differing input.Certificate input.Certificate differs = absurd (differs refl)
differing input.Differences input.Differences differs = absurd (differs refl)
differing input.Changes input.Changes differs = absurd (differs refl)
differing which own differs = refl

-- the refusal comes from another input, or from none
abbrev pub IsFromElsewhere : Input → Refusal → Type 0
IsFromElsewhere which own = decided_by own ≢ Some which

-- no read of an input failed where another decided the answer
none_behind : (which : Input) (own : Refusal) → IsFromElsewhere which own → reads_behind which own ≡ 0
none_behind which (refusal.Read other) elsewhere =
    ap (λ (same : Bool). if same then 1 else 0) (differing which other (λ e. elsewhere (ap Some e)))
none_behind which other elsewhere = refl

-- what comes from behind an input does not come from it
elsewhere_behind : (which : Input) (own : Refusal) → IsBehind which own → IsFromElsewhere which own
elsewhere_behind which own behind = λ e. let here = subst (λ (at : Option Input). IfSome at (λ known. IsReadBefore which known)) e behind in asymmetric which which here here

-- so it does not come from before it
not_past : (which : Input) (own : Refusal) → IsBehind which own → IsPast which (Some own) → ⊥
not_past which own = by (decided_by own)
  where
    by : (decided : Option Input) → IfSome decided (λ at. IsReadBefore which at) → IsSomeAnd decided (λ at. IsReadBefore at which) → ⊥
    by None behind past = past
    by (Some at) behind past = asymmetric which at behind past

-- what holds of a refusal
pub if_refused : {X : Type 0} (P : Refusal → Type 0) (result : Result X Refusal) → IfErr result P → IfSome (refused result) P
if_refused P (Ok x) holds = tt
if_refused P (Err own) holds = holds

-- a source that is not touched, where the refusal comes from elsewhere
pub not_read : {S : Type 0} (state_of : S → SourceState) (which : Input) (answer : Option Refusal) (source : S)
    → IfSome answer (IsFromElsewhere which) → IsReadFor state_of which answer source source
not_read state_of which None source elsewhere =
    record {
      read = record { failed = omega arith; may_fail = none_failed 0 (state_of source).may_fail (omega arith); often = omega arith; far = advances-same _ _ };
      untouched = λ past. refl;
    }
not_read state_of which (Some own) source elsewhere =
    let none : reads_behind which own ≡ 0 = none_behind which own elsewhere in
    record {
      read = record { failed = omega (arith, none); may_fail = none_failed (reads_behind which own) (state_of source).may_fail none; often = omega arith; far = advances-same _ _ };
      untouched = λ past. refl;
    }

-- so is one that may be absent
pub none_read : {S : Type 0} (state_of : S → SourceState) (which : Input) (answer : Option Refusal) (source : Option S)
    → IfSome answer (IsFromElsewhere which) → IfPresent (IsReadFor state_of which answer) source source
none_read state_of which answer None elsewhere = tt
none_read state_of which answer (Some source) elsewhere = not_read state_of which answer source elsewhere

-- a source that was read, where the answer is decided behind it
pub read_before : {S : Type 0} (state_of : S → SourceState) (which : Input) (answer : Option Refusal)
    (old new : S) → IfSome answer (IsBehind which) → IsReadFor state_of which None old new
    → IsReadFor state_of which answer old new
read_before state_of which None old new behind read = read
read_before state_of which (Some own) old new behind read =
    let none : reads_behind which own ≡ 0 = none_behind which own (elsewhere_behind which own behind) in
    record {
      read = record {
        failed = omega (arith, none, read.read.failed);
        may_fail = record { fixed = read.read.may_fail.fixed; allowed = λ some. absurd (omega (arith, none, some)) };
        often = read.read.often;
        far = read.read.far;
      };
      untouched = λ past. absurd (not_past which own behind past);
    }

-- so is one that may be absent
pub present_before : {S : Type 0} (state_of : S → SourceState) (which : Input) (answer : Option Refusal)
    (old new : Option S) → IfSome answer (IsBehind which) → IfPresent (IsReadFor state_of which None) old new
    → IfPresent (IsReadFor state_of which answer) old new
present_before state_of which answer None None behind read = tt
present_before state_of which answer None (Some new) behind read = absurd read
present_before state_of which answer (Some old) None behind read = absurd read
present_before state_of which answer (Some old) (Some new) behind read = read_before state_of which answer old new behind read

-- books that were all read, where the answer is decided behind them
pub books_before : {S : Type 0} (state_of : S → SourceState) (number : ℕ) (answer : Option Refusal) (olds news : List S)
    → ((own : ℕ) → IfSome answer (IsBehind (input.Book own))) → EachBook (λ own. IsReadFor state_of (input.Book own) None) number olds news
    → EachBook (λ own. IsReadFor state_of (input.Book own) answer) number olds news
books_before state_of number answer [] [] behind each = tt
books_before state_of number answer [] (new ∷ news) behind each = absurd each
books_before state_of number answer (old ∷ olds) [] behind each = absurd each
books_before state_of number answer (old ∷ olds) (new ∷ news) behind each = (
  read_before state_of (input.Book number) answer old new (behind number) each.0,
  books_before state_of (number + 1) answer olds news behind each.1,
)

-- what is read behind the weights is read behind the books and the benchmarks
behind_book : (number : ℕ) (at : Input) → IsReadBefore input.Weights at → IsReadBefore (input.Book number) at
behind_book number (input.Book own) behind = absurd behind
behind_book number input.Changes behind = absurd behind
behind_book number at behind = tt

behind_benchmarks : (at : Input) → IsReadBefore input.Weights at → IsReadBefore input.Benchmarks at
behind_benchmarks (input.Book own) behind = behind
behind_benchmarks input.Benchmarks behind = behind
behind_benchmarks input.Changes behind = behind
behind_benchmarks at behind = tt

wider : (which : Input) (answer : Option Refusal) → ((at : Input) → IsReadBefore input.Weights at → IsReadBefore which at)
    → IfSome answer (IsBehind input.Weights) → IfSome answer (IsBehind which)
wider which None next behind = tt
wider which (Some own) next behind = by (decided_by own) behind
  where
    by : (decided : Option Input) → IfSome decided (λ at. IsReadBefore input.Weights at) → IfSome decided (λ at. IsReadBefore which at)
    by None is = tt
    by (Some at) is = next at is

-- sources that were all read, where the answer is decided behind them
pub all_before : {B T W : Type 0} (of_book : B → SourceState) (of_table : T → SourceState) (of_weights : W → SourceState) (answer : Option Refusal)
    (books books' : List B) (benchmarks benchmarks' : T) (weights weights' : Option W) → IfSome answer (IsBehind input.Weights)
    → AreRead of_book of_table of_weights None books books' benchmarks benchmarks' weights weights'
    → AreRead of_book of_table of_weights answer books books' benchmarks benchmarks' weights weights'
all_before of_book of_table of_weights answer books books' benchmarks benchmarks' weights weights' behind read = record {
  books = books_before of_book 1 answer books books' (λ own. wider (input.Book own) answer (behind_book own) behind) read.books;
  benchmarks = read_before of_table input.Benchmarks answer benchmarks benchmarks' (wider input.Benchmarks answer behind_benchmarks behind) read.benchmarks;
  weights = present_before of_weights input.Weights answer weights weights' behind read.weights;
}

-- a refusal for a book comes from no other book
pub elsewhere_book : (number other : ℕ) (own : Refusal) → IsOfBook number own → number < other → IsFromElsewhere (input.Book other) own
elsewhere_book number other (refusal.Book own fault) is above = λ e. let there : own ≡ other = cc e in omega (arith, is.0, there, above)
elsewhere_book number other (refusal.Read which) is above = λ e. let there : number ≡ other = cc (e, is) in omega (arith, there, above)
elsewhere_book number other refusal.NoMemory is above = λ e. cc e
elsewhere_book number other own is above = absurd is

-- a refusal for later books comes from behind one before them
pub behind_of_books : (low high number : ℕ) (own : Refusal) → IsOfBooks low high own → number < low → IsBehind (input.Book number) own
behind_of_books low high number (refusal.Book own fault) is below = omega (arith, is.0, below)
behind_of_books low high number (refusal.Read (input.Book own)) is below = omega (arith, is.0, below)
behind_of_books low high number refusal.NoMemory is below = tt
behind_of_books low high number own is below = absurd is

-- and from no table
pub elsewhere_tables : (low high : ℕ) (own : Refusal) → IsOfBooks low high own → IsFromElsewhere input.Benchmarks own × IsFromElsewhere input.Weights own
elsewhere_tables low high (refusal.Book own fault) is = ((λ e. cc e), (λ e. cc e))
elsewhere_tables low high (refusal.Read (input.Book own)) is = ((λ e. cc e), (λ e. cc e))
elsewhere_tables low high refusal.NoMemory is = ((λ e. cc e), (λ e. cc e))
elsewhere_tables low high own is = absurd is

-- a refusal for a table comes from behind all books
pub behind_of_tables : (weights : Bool) (number : ℕ) (own : Refusal) → IsOfInputs 0 weights own → IsBehind (input.Book number) own
behind_of_tables weights number (refusal.Book own fault) is = absurd (omega (arith, is.0, is.1))
behind_of_tables weights number (refusal.Benchmarks fault) is = tt
behind_of_tables weights number (refusal.Weights fault) is = tt
behind_of_tables weights number (refusal.Read (input.Book own)) is = absurd (omega (arith, is.0, is.1))
behind_of_tables weights number (refusal.Read input.Benchmarks) is = tt
behind_of_tables weights number (refusal.Read input.Weights) is = tt
behind_of_tables weights number refusal.NoMemory is = tt
behind_of_tables weights number own is = absurd is

-- one for an input comes from behind each that is read before it
pub behind_from : (which at : Input) (own : Refusal) → IsFrom at own → IsReadBefore which at → IsBehind which own
behind_from which at (refusal.NoMemory) is before = tt
behind_from which at (refusal.Book number fault) is before = subst (λ (known : Option Input). IfSome known (λ own. IsReadBefore which own)) (sym is) before
behind_from which at (refusal.Benchmarks fault) is before = subst (λ (known : Option Input). IfSome known (λ own. IsReadBefore which own)) (sym is) before
behind_from which at (refusal.Weights fault) is before = subst (λ (known : Option Input). IfSome known (λ own. IsReadBefore which own)) (sym is) before
behind_from which at (refusal.Certificate fault) is before = subst (λ (known : Option Input). IfSome known (λ own. IsReadBefore which own)) (sym is) before
behind_from which at (refusal.Differences fault) is before = subst (λ (known : Option Input). IfSome known (λ own. IsReadBefore which own)) (sym is) before
behind_from which at (refusal.Heights fault) is before = subst (λ (known : Option Input). IfSome known (λ own. IsReadBefore which own)) (sym is) before
behind_from which at (refusal.Changes fault) is before = subst (λ (known : Option Input). IfSome known (λ own. IsReadBefore which own)) (sym is) before
behind_from which at (refusal.Unfit fault) is before = subst (λ (known : Option Input). IfSome known (λ own. IsReadBefore which own)) (sym is) before
behind_from which at (refusal.Mended fault) is before = subst (λ (known : Option Input). IfSome known (λ own. IsReadBefore which own)) (sym is) before
behind_from which at (refusal.Read other) is before = subst (λ (known : Option Input). IfSome known (λ own. IsReadBefore which own)) (sym is) before
behind_from which at (refusal.Network fault) is before = absurd (cc is)
behind_from which at (refusal.Write other) is before = absurd (cc is)
