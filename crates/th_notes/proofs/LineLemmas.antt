-- Texts that are put on a page one after the other.
use Rattle.std.proofs.Common.{◌≡◌, ℕ, List, ◌++◌, ap, ◌∙◌, append_assoc}

-- behind a page there is a text, and then another one
pub put_behind : (page text more before after : List ℕ) → before ≡ page ++ text → after ≡ before ++ more → after ≡ page ++ (text ++ more)
put_behind page text more before after was is = is ∙ ap (λ own. own ++ more) was ∙ append_assoc page text more
