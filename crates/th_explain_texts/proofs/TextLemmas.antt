-- A text that grows part by part.
use Rattle.std.proofs.Common.{◌≡◌, ℕ, List, ◌++◌, Result, Ok, Err, OnOk, append_assoc, sym, ap, ◌∙◌}

pub on_ok : {A E : Type 0} (P Q : Type 0) (result : Result A E) → (P → Q) → OnOk result P → OnOk result Q
on_ok P Q (Ok x) weaker holds = weaker holds
on_ok P Q (Err e) weaker holds = tt

pub two_parts : (p a c l q r : List ℕ) → q ≡ p ++ a → r ≡ q ++ (c ++ l) → r ≡ p ++ ((a ++ c) ++ l)
two_parts p a c l q r first second =
    second ∙ ap (λ (x : List ℕ). x ++ (c ++ l)) first ∙ append_assoc p a (c ++ l) ∙ ap (λ (x : List ℕ). p ++ x) (sym (append_assoc a c l))

pub three_parts : (p a b c q r s : List ℕ) → q ≡ p ++ a → r ≡ q ++ b → s ≡ r ++ c → s ≡ p ++ ((a ++ b) ++ c)
three_parts p a b c q r s first second third =
    third ∙ ap (λ (x : List ℕ). x ++ c) (second ∙ ap (λ (x : List ℕ). x ++ b) first ∙ append_assoc p a b) ∙ append_assoc p (a ++ b) c

pub three_parts_and_end : (p a b c l q r s : List ℕ) → q ≡ p ++ a → r ≡ q ++ b → s ≡ r ++ (c ++ l) → s ≡ p ++ (((a ++ b) ++ c) ++ l)
three_parts_and_end p a b c l q r s first second third =
    three_parts p a b (c ++ l) q r s first second third ∙ ap (λ (x : List ℕ). p ++ x) (sym (append_assoc (a ++ b) c l))

-- a text that has grown grows by one more part
pub with_part : (p x c q r : List ℕ) → q ≡ p ++ x → r ≡ q ++ c → r ≡ p ++ (x ++ c)
with_part p x c q r first second = second ∙ ap (λ (t : List ℕ). t ++ c) first ∙ append_assoc p x c

-- by its last part, and the end of its line
pub with_end : (p x c l q r : List ℕ) → q ≡ p ++ x → r ≡ q ++ (c ++ l) → r ≡ p ++ ((x ++ c) ++ l)
with_end p x c l q r first second = with_part p x (c ++ l) q r first second ∙ ap (λ (t : List ℕ). p ++ t) (sym (append_assoc x c l))

-- by two more parts
pub with_two : (p x w c q r : List ℕ) → q ≡ p ++ x → r ≡ (q ++ w) ++ c → r ≡ p ++ ((x ++ w) ++ c)
with_two p x w c q r first second =
    second ∙ ap (λ (t : List ℕ). (t ++ w) ++ c) first ∙ ap (λ (t : List ℕ). t ++ c) (append_assoc p x w) ∙ append_assoc p (x ++ w) c
