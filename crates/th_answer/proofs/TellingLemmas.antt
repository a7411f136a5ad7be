-- What the other benchmarks say of the height of one.
use Rattle.std.proofs.Common.{◌≡◌, ◌∙◌, ◌<◌, ◌≤◌, ℕ, zero, suc, ℤ, ◌+ℤ◌, true, List, [], ◌∷◌, All, Some, Result, Ok, Err, ap, get_or, length, refl, sym, subst, unsigned_abs, arith}
use Rattle.std.proofs.lemmas.List.Elements.{All-head, All-tail}
use Rattle.std.specs.Prelude.{◌↔◌, IfOk, slice_get}
use Rattle.std.specs.List.{AllZip}
use Rattle.th_changes.specs.declared.numbers.Number.TheVariants as number
use Rattle.th_changes.proofs.TiltLemmas.{reach_small}
use Rattle.th_explain.specs.Explained.{Explains}
use Rattle.th_explain.specs.declared.freed.Freed.{Freed}
use Rattle.th_network.specs.Networks.{Survey}
use Rattle.th_numbers.specs.Ties.{IsTiedOn, IsTold}
use Rattle.th_numbers.specs.declared.ties.TiedRow.{TiedRow}
use Rattle.th_limits.specs.Limits.{max_len}
use Rattle.th_observations.specs.Observed.{largest_difference}
use Rattle.th_answer.specs.Others.{IsSaid}
use Rattle.th_answer.specs.declared.answers.Others.{Others}
use Rattle.th_answer.specs.declared.answers.Others.TheVariants.{Differ}

module _ (survey : Survey) (name : List ℕ) (given : ℤ) (row : TiedRow) (told : IsTold survey (name, given) row) where
  pub different : row.tied ≡ true → (freed : Freed) → Explains survey 0 (number.Benchmark name) freed → (own : Others) → own ≡ Differ (given +ℤ freed.low) (given +ℤ freed.high) → IsSaid survey (name, given) own
  different tied freed explains own is =
      subst (IsSaid survey (name, given)) (sym is) (record { tied = told.tied.0 tied; freed = freed; explains = explains; lowest = refl; highest = refl })

-- a benchmark's height changes no further than a difference may
pub low_is_small : (survey : Survey) (name : List ℕ) (freed : Freed) → Explains survey 0 (number.Benchmark name) freed → unsigned_abs freed.low ≤ largest_difference
low_is_small survey name freed explains = omega (arith, explains.low_in_reach, reach_small (number.Benchmark name) survey.observations)

pub high_is_small : (survey : Survey) (name : List ℕ) (freed : Freed) → Explains survey 0 (number.Benchmark name) freed → unsigned_abs freed.high ≤ largest_difference
high_is_small survey name freed explains = omega (arith, explains.high_in_reach, reach_small (number.Benchmark name) survey.observations)

-- what is told of the row at a place
pub told_there : (survey : Survey) (benchmarks : List (List ℕ × ℤ)) (rows : List TiedRow) (place : ℕ) (row : TiedRow) (entry : List ℕ × ℤ) → AllZip (IsTold survey) benchmarks rows → row ≡ get_or rows place row → slice_get benchmarks place ≡ Some entry → place < length rows → IsTold survey entry row
told_there survey [] rows place row entry are here is within = absurd (cc)
told_there survey (first ∷ benchmarks) [] place row entry are here is within = absurd are
told_there survey (first ∷ benchmarks) (own ∷ rows) zero row entry are here is within =
    let same : first ≡ entry = cc in
    subst (λ (entry : List ℕ × ℤ). IsTold survey entry row) same (subst (IsTold survey first) (sym here) are.0)
told_there survey (first ∷ benchmarks) (own ∷ rows) (suc place) row entry are here is within = told_there survey benchmarks rows place row entry are.1 here is (omega arith)

-- the same of its name, whatever its height
pub told_by_name : (survey : Survey) (entry : List ℕ × ℤ) (row : TiedRow) (given : ℤ) → IsTold survey entry row → IsTold survey (row.name, given) row
told_by_name survey entry row given told = record { name = refl; tied = subst (λ (name : List ℕ). (row.tied ≡ true) ↔ IsTiedOn survey name) (sym told.name) told.tied }

-- the height of the row at a place
pub low_there : (benchmarks : List (List ℕ × ℤ)) (place : ℕ) (entry : List ℕ × ℤ) → All (λ row. unsigned_abs row.1 ≤ max_len) benchmarks → slice_get benchmarks place ≡ Some entry → unsigned_abs entry.1 ≤ max_len
low_there [] place entry low is = absurd (cc)
low_there (first ∷ benchmarks) zero entry low is =
    let same : first ≡ entry = cc in
    subst (λ (entry : List ℕ × ℤ). unsigned_abs entry.1 ≤ max_len) same (All-head (λ row. unsigned_abs row.1 ≤ max_len) first benchmarks low)
low_there (first ∷ benchmarks) (suc place) entry low is = low_there benchmarks place entry (All-tail (λ row. unsigned_abs row.1 ≤ max_len) first benchmarks low) is

-- what is said of a row is said of its name and height
pub said_there : (survey : Survey) (name : List ℕ) (given : ℤ) (row : TiedRow) (plain : ℤ) → IsTold survey (name, given) row → plain ≡ given → (said : Others) → IsSaid survey (row.name, plain) said → (other : List ℕ × ℤ) → (name, given) ≡ other → IsSaid survey other said
said_there survey name given row plain told same said is other one =
    subst (λ (entry : List ℕ × ℤ). IsSaid survey entry said) (ap {B = List ℕ × ℤ} (λ (name : List ℕ). (name, plain)) told.name ∙ ap {B = List ℕ × ℤ} (λ (given : ℤ). (name, given)) same ∙ one) is

pub weaker_ok : {T E : Type 0} (P Q : T → Type 0) (r : Result T E) → ((x : T) → P x → Q x) → IfOk r P → IfOk r Q
weaker_ok P Q (Ok x) weaker is = weaker x is
weaker_ok P Q (Err e) weaker is = is
