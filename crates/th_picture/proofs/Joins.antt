-- Texts that grow part by part.
use Rattle.std.proofs.Common.{◌≡◌, ℕ, List, ◌++◌, Result, Ok, Err, OnOk, append_assoc, ap, ◌∙◌}

pub on_ok : {A E : Type 0} (P Q : Type 0) (result : Result A E) → (P → Q) → OnOk result P → OnOk result Q
on_ok P Q (Ok x) weaker holds = weaker holds
on_ok P Q (Err e) weaker holds = tt

-- a text with one more part
pub more : (p x d s t : List ℕ) → s ≡ p ++ x → t ≡ s ++ d → t ≡ p ++ (x ++ d)
more p x d s t first next = next ∙ ap (λ (y : List ℕ). y ++ d) first ∙ append_assoc p x d
