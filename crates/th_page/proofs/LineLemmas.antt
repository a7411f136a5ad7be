-- What a byte more does to the lines of a text.
use Rattle.std.proofs.Common.{◌≡◌, ◌+◌, ◌-◌, ◌<◌, ◌≤◌, ℕ, List, [], ◌∷◌, ◌++◌, add-one, arith, drop, get_or, length, take, ap, ◌∙◌}
use Rattle.std.specs.Prelude.{◌==◌, if◌then◌else◌}
use Rattle.std.proofs.Math.Seq.{drop-cons, get_or-drop, take-suc}
use Rattle.std.proofs.lemmas.List.{length-drop}
use Rattle.std.specs.List.{slice_range}
use Rattle.th_page.specs.Shown.{lines_behind}

pub range_more : (text : List ℕ) (start place : ℕ) → start ≤ place → place < length text → slice_range text start (place + 1) ≡ slice_range text start place ++ get_or text place 0 ∷ []
range_more text start place below within =
    let count : (place + 1) - start ≡ (place - start) + 1 = omega arith in
    let room : place - start < length (drop start text) = omega (arith, length-drop start text) in
    let at : start + (place - start) ≡ place = omega arith in
    ap (λ (n : ℕ). take n (drop start text)) count ∙ rw add-one (take-suc (drop start text) (place - start) 0 room)
    ∙ ap (λ (byte : ℕ). take (place - start) (drop start text) ++ byte ∷ []) (get_or-drop start text (place - start) 0 ∙ ap (λ (n : ℕ). get_or text n 0) at)

pub lines_step : (text : List ℕ) (start place : ℕ) → start ≤ place → place < length text
    → lines_behind (slice_range text start place) (drop place text)
    ≡ (if get_or text place 0 == 10 then slice_range text start place ∷ lines_behind [] (drop (place + 1) text) else lines_behind (slice_range text start (place + 1)) (drop (place + 1) text))
lines_step text start place below within =
    rw (range_more text start place below within, add-one, drop-cons text place 0)

pub range_none : (text : List ℕ) (place : ℕ) → slice_range text place place ≡ []
range_none text place = let none : place - place ≡ 0 = omega arith in ap (λ (n : ℕ). take n (drop place text)) none
