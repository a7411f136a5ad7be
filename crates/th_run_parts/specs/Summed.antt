-- The sums of what a run read.
use Rattle.std.specs.Prelude.{◌≡◌, ◌+◌, ◌++◌, ℕ, List, [], ◌∷◌, Option, Some, None, IfSome}
use Rattle.th_devices.specs.Devices.{SourceState}
use Rattle.th_inputs.specs.Sums.{sum_of}
use Rattle.th_inputs.specs.declared.inputs.Input.{Input}
use Rattle.th_inputs.specs.declared.inputs.Input.TheVariants as input
use Rattle.th_inputs.specs.declared.sums.Sum.{Sum}
use Rattle.th_run_parts.specs.Inputs.{told_by, told_if_any}

-- the sum of an input was put behind others: of the text that was read, which is the one that its source told, if it told one
pub record IsSummedNext (which : Input) (told : Option (List ℕ)) (old new : List Sum) : Type 0 where
  pub text : List ℕ
  pub is_told : IfSome told (λ own. own ≡ text)
  pub joined : new ≡ old ++ sum_of which text ∷ []

-- the same of an input that may be absent
abbrev pub IsSummedIfAny : Input → Option (Option (List ℕ)) → List Sum → List Sum → Type 0
IsSummedIfAny which None old new = new ≡ old
IsSummedIfAny which (Some told) old new = IsSummedNext which told old new

-- the sums of the benchmarks, and of the weights if there are any, were put behind others
pub record AreTablesSummed (benchmarks : Option (List ℕ)) (weights : Option (Option (List ℕ))) (old new : List Sum) : Type 0 where
  pub between : List Sum
  pub of_benchmarks : IsSummedNext input.Benchmarks benchmarks old between
  pub of_weights : IsSummedIfAny input.Weights weights between new

-- the sums of books, numbered from this one on, were put behind others
abbrev pub AreBooksSummed : ℕ → List (Option (List ℕ)) → List Sum → List Sum → Type 0
AreBooksSummed number [] old new = new ≡ old
AreBooksSummed number (told ∷ tolds) old new =
    (between : List Sum) × IsSummedNext (input.Book number) told old between × AreBooksSummed (number + 1) tolds between new

-- what the sources of a run told before it
pub record Tolds : Type 0 where
  pub books : List (Option (List ℕ))
  pub benchmarks : Option (List ℕ)
  pub weights : Option (Option (List ℕ))

-- what these sources told before a run
abbrev pub tolds_of : {B T W : Type 0} → (B → SourceState) → (T → SourceState) → (W → SourceState) → List B → T → Option W → Tolds
tolds_of of_book of_table of_weights books benchmarks weights = record {
  books = told_by of_book books;
  benchmarks = (of_table benchmarks).left;
  weights = told_if_any of_weights weights;
}

-- the sums of the tables, and then that of the certificate, were put behind others
pub record AreOthersSummed (tolds : Tolds) (certificate : Option (List ℕ)) (old new : List Sum) : Type 0 where
  pub between : List Sum
  pub of_tables : AreTablesSummed tolds.benchmarks tolds.weights old between
  pub of_certificate : IsSummedNext input.Certificate certificate between new

-- these are the sums of all that a check read
pub record AreClaimSummed (tolds : Tolds) (certificate : Option (List ℕ)) (sums : List Sum) : Type 0 where
  pub books : List Sum
  pub others : List Sum
  pub of_books : AreBooksSummed 1 tolds.books [] books
  pub of_others : AreOthersSummed tolds certificate [] others
  pub all : sums ≡ books ++ others
