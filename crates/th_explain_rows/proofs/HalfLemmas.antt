-- Numbers beyond half of a limit.
use Rattle.std.proofs.Common.{◌≡◌, ℕ, ◌/◌, ◌≤◌, ℤ, pos, Bool, true, false, if◌then◌else◌, int_lt, unsigned_abs, refl, subst, sym, arith}
use Rattle.std.proofs.lemmas.Int.{ints}
use Rattle.th_explain.specs.Explained.{Explains}
use Rattle.th_explain.specs.declared.freed.Freed.{Freed}
use Rattle.th_changes.specs.declared.numbers.Number.{Number}
use Rattle.th_network.specs.Networks.{Survey}
use Rattle.th_numbers.specs.Candidates.{number_of}
use Rattle.th_numbers.specs.declared.candidates.Candidate.{Candidate}
use Rattle.th_explain_rows.specs.Rows.{Passes, beyond, half_of, limit_size}

pub half_less : (b : Bool) (size : ℕ) → (if b then size / 2 else size) ≤ size
half_less true size = omega arith
half_less false size = omega arith

not_below : (n : ℕ) → int_lt (pos n) (pos 0) ≡ true → ⊥
not_below n e = grind (arith, ints)

pub size_of : (n : ℕ) → limit_size (pos n) ≡ n
size_of n = by (int_lt (pos n) (pos 0)) refl
  where
    by : (b : Bool) → int_lt (pos n) (pos 0) ≡ b → (if b then 0 else unsigned_abs (pos n)) ≡ n
    by true e = absurd (not_below n e)
    by false e = refl

pub explains_less : (survey : Survey) (far near : ℕ) (number : Number) (freed : Freed) → near ≤ far → Explains survey far number freed → Explains survey near number freed
explains_less survey far near number freed less is = record {
  exact = is.exact;
  far = let above = is.far in omega (arith, less, above);
  low_in_reach = is.low_in_reach;
  high_in_reach = is.high_in_reach;
}

-- one that passes beyond the limit passes beyond half of it
pub beyond_half : (survey : Survey) (limit : ℤ) (candidate : Candidate) (freed : Freed) → Passes survey (beyond limit) candidate freed → Passes survey (beyond (half_of limit)) candidate freed
beyond_half survey limit candidate freed is = record {
  explains = subst (λ (n : ℕ). Explains survey n (number_of candidate) freed) (sym (size_of (limit_size limit / 2)))
      (explains_less survey (limit_size limit) (limit_size limit / 2) (number_of candidate) freed (half_less true (limit_size limit)) is.explains);
  leads = is.leads;
}
