use Rattle.std.proofs.Common.{◌≡◌, ℕ, ◌+◌, ◌-◌, ◌≤◌, Bool, true, false, nat_lt, List, take, drop, length, position, Some, None, is_some, if◌then◌else◌, refl, sym, ap, ◌∙◌, arith, rules, length-drop}
use Rattle.std.specs.List.{position_or_len}
use Rattle.std.proofs.lemmas.Bool.Decides.{nat_tests}
use Rattle.std.proofs.lemmas.Iterator.{YieldsList-from_slice}
use Rattle.std.proofs.lemmas.Iterator.Search.{position_from_yields_List}
use Rattle.std.proofs.lemmas.List.{take_all}
use Rattle.th_units.specs.Metres.{decimals, is_dot, whole}
use Rattle.th_units.proofs.metres.split_at_dot.Goals as goal

-- the rest of a text, taken to its end
rest_of : (text : List ℕ) (from : ℕ) → take (length text - from) (drop from text) ≡ drop from text
rest_of text from = take_all (length text - from) (drop from text) (omega (arith, length-drop from text))

-- where the first dot stands at a place, the text is cut there
some_dot : (text : List ℕ) (dot : ℕ) → Some dot ≡ position is_dot text
    → (take dot text ≡ whole text) × (Some (take (length text - (dot + 1)) (drop (dot + 1) text)) ≡ decimals text)
some_dot text dot found = by (nat_lt (position_or_len is_dot text) (length text)) found
  where
    by : (within : Bool) → Some dot ≡ (if within then Some (position_or_len is_dot text) else None)
        → (take dot text ≡ whole text)
        × (Some (take (length text - (dot + 1)) (drop (dot + 1) text))
        ≡ (if is_some (if within then Some (position_or_len is_dot text) else None) then Some (drop (position_or_len is_dot text + 1) text) else None))
    by true found =
        let at : dot ≡ position_or_len is_dot text = cc in
        (ap (λ n. take n text) at, ap Some (rest_of text (dot + 1) ∙ ap (λ n. drop (n + 1) text) at))
    by false found = cc found

-- where there is no dot, the text is whole metres
no_dot : (text : List ℕ) → None ≡ position is_dot text → (text ≡ whole text) × (None ≡ decimals text)
no_dot text none = by (nat_lt (position_or_len is_dot text) (length text)) refl none
  where
    by : (within : Bool) → nat_lt (position_or_len is_dot text) (length text) ≡ within
        → None ≡ (if within then Some (position_or_len is_dot text) else None)
        → (text ≡ whole text) × (None ≡ (if is_some (if within then Some (position_or_len is_dot text) else None) then Some (drop (position_or_len is_dot text + 1) text) else None))
    by true is none = cc none
    by false is none =
        let past : length text ≤ position_or_len is_dot text = grind (arith, nat_tests) in
        (sym (take_all (position_or_len is_dot text) text past), refl)

pub returns-in-Some-clause-whole : goal.returns-in-Some-clause-whole
returns-in-Some-clause-whole c =
    let text = c.args.text.now in
    let at : c.position.result ≡ position is_dot text =
    position_from_yields_List is_dot _ _ _ c.position.ensures.ran (YieldsList-from_slice text (search rules)) (λ x b q k. search rules) in
    (some_dot text c.in-Some.dot (sym c.in-Some.is ∙ at)).0

pub returns-in-Some-clause-decimals : goal.returns-in-Some-clause-decimals
returns-in-Some-clause-decimals c =
    let text = c.args.text.now in
    let at : c.position.result ≡ position is_dot text =
    position_from_yields_List is_dot _ _ _ c.position.ensures.ran (YieldsList-from_slice text (search rules)) (λ x b q k. search rules) in
    (some_dot text c.in-Some.dot (sym c.in-Some.is ∙ at)).1

pub returns-in-None-clause-whole : goal.returns-in-None-clause-whole
returns-in-None-clause-whole c =
    let text = c.args.text.now in
    let at : c.position.result ≡ position is_dot text =
    position_from_yields_List is_dot _ _ _ c.position.ensures.ran (YieldsList-from_slice text (search rules)) (λ x b q k. search rules) in
    (no_dot text (sym c.in-None.is ∙ at)).0

pub returns-in-None-clause-decimals : goal.returns-in-None-clause-decimals
returns-in-None-clause-decimals c =
    let text = c.args.text.now in
    let at : c.position.result ≡ position is_dot text =
    position_from_yields_List is_dot _ _ _ c.position.ensures.ran (YieldsList-from_slice text (search rules)) (λ x b q k. search rules) in
    (no_dot text (sym c.in-None.is ∙ at)).1
