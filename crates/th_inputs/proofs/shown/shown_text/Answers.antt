use Rattle.std.proofs.Common.{◌≡◌, ◌∙◌, ℕ, List, Ok, Err, IfOk, string_bytes, arith}
use Rattle.std.proofs.lemmas.Grind.{common_steps}
use Rattle.std.specs.Prelude.{Result}
use Rattle.std.specs.Str.{IsUtf8}
use Rattle.th_inputs.proofs.ShownLemmas.{shown_utf8}
use Rattle.th_inputs.specs.Shown.{shown}
use Rattle.th_inputs.proofs.shown.shown_text.Goals as goal

read : {X E : Type 0} (text_of : X → List ℕ) (result : Result X E) (bytes text : List ℕ) → bytes ≡ text → IsUtf8 text
    → IfOk result (λ own. IsUtf8 bytes → text_of own ≡ bytes) → IfOk result (λ own. text_of own ≡ text)
read text_of (Ok own) bytes text same valid is = is (rw same valid) ∙ same
read text_of (Err error) bytes text same valid is = tt

pub returns : goal.returns
returns c =
    let whole : c.as_slice.result.now ≡ shown c.args.text.now = grind (arith, common_steps) in
    read string_bytes c.from_utf8_lossy.result _ _ whole (shown_utf8 c.args.text.now (λ i. omega (arith, c.type_inv.text i))) c.from_utf8_lossy.ensures.ok
