-- What the private functions of a check state about a verdict and what is printed of it.
use Rattle.std.specs.Prelude.{◌≡◌, ℕ, List, Option}
use Rattle.th_inputs.specs.declared.sums.Sum.{Sum}
use Rattle.th_runs.specs.Checked.{IsVerdictOn, check_text}
use Rattle.th_run_parts.specs.Inputs.{Claim}
use Rattle.th_runs.specs.declared.checking.Judged.{Judged}

-- the verdict is that on the claim, and the text is what is printed of it
pub record IsJudged (names : Option (List (List ℕ))) (sums : List Sum) (claim : Claim) (judged : Judged) : Type 0 where
  pub verdict : IsVerdictOn claim judged.verdict
  pub text : judged.text.items ≡ check_text names sums judged.verdict
