-- Which side a flow is on: it shows a residual where it is the whole weight, to the residual's side, unless that is zero.
use Rattle.std.proofs.Common.{◌≡◌, ℕ, ◌*◌, ℤ, pos, negsuc, zero, suc, ◌-ℤ◌, ◌*ℤ◌, List, [], ◌∷◌, unsigned_abs, ap, ◌∙◌, arith}
use Rattle.std.specs.Prelude.{◌<ℤ◌}
use Rattle.std.proofs.lemmas.Int.{ints}
use Rattle.std.proofs.Math.IntN.{*ℤ_comm, *ℤ-zero}
use Rattle.std.proofs.Math.Nat.{eq_of_mul-eq-mul_right}
use Rattle.std.specs.List.{AllZip}
use Rattle.th_observations.specs.Observed.{Observed}
use Rattle.th_tables.specs.Rows.{WeightRows, weight_of}
use Rattle.th_network.specs.Heights.{residual}
use Rattle.th_network.specs.Circulation.{Shows}
use Rattle.th_network.proofs.Products.{times-minus}

-- the flow is the whole weight, to the side of the residual, where that is not zero
abbrev pub IsFull : ℕ → ℤ → ℤ → Type 0
IsFull w f r = (pos 0 <ℤ r → f ≡ pos w) × (r <ℤ pos 0 → f ≡ pos 0 -ℤ pos w)

times_negsuc : (f : ℤ) (n : ℕ) → f *ℤ negsuc n ≡ pos 0 -ℤ f *ℤ pos (suc n)
times_negsuc f n =
    let e : negsuc n ≡ pos 0 -ℤ pos (suc n) = omega (arith, ints) in
    let turned = ap (λ z. f *ℤ z) e ∙ times-minus f (pos 0) (pos (suc n)) in
    let none = *ℤ-zero f in
    omega (arith, ints)

full_above : (w : ℕ) (f : ℤ) (n : ℕ) → f *ℤ pos (suc n) ≡ pos (w * suc n) → f ≡ pos w
full_above w (pos m) n shown =
    let same : m * suc n ≡ w * suc n = omega (arith, ints) in
    ap pos (eq_of_mul-eq-mul_right (suc n) (omega arith) m w same)
full_above w (negsuc m) n shown =
    let turned = *ℤ_comm (negsuc m) (pos (suc n)) ∙ times_negsuc (pos (suc n)) m in
    absurd (omega (arith, ints))

full_below : (w : ℕ) (f : ℤ) (n : ℕ) → f *ℤ negsuc n ≡ pos (w * suc n) → f ≡ pos 0 -ℤ pos w
full_below w f n shown =
    let turned = times_negsuc f n in
    let other = *ℤ_comm (pos 0 -ℤ f) (pos (suc n)) ∙ times-minus (pos (suc n)) (pos 0) f in
    let swapped = *ℤ_comm (pos (suc n)) f in
    let none = *ℤ-zero (pos (suc n)) in
    let full = full_above w (pos 0 -ℤ f) n (omega (arith, ints)) in
    omega (arith, ints)

full_of_shown : (w : ℕ) (f r : ℤ) → f *ℤ r ≡ pos (w * unsigned_abs r) → IsFull w f r
full_of_shown w f (pos zero) shown = ((λ up. absurd (omega (arith, ints))), (λ down. absurd (omega (arith, ints))))
full_of_shown w f (pos (suc n)) shown = ((λ up. full_above w f n shown), (λ down. absurd (omega (arith, ints))))
full_of_shown w f (negsuc n) shown = ((λ up. absurd (omega (arith, ints))), (λ down. full_below w f n shown))

shown_of_full : (w : ℕ) (f r : ℤ) → IsFull w f r → f *ℤ r ≡ pos (w * unsigned_abs r)
shown_of_full w f (pos zero) full = let none = *ℤ-zero f in omega (arith, ints)
shown_of_full w f (pos (suc n)) full = ap (λ z. z *ℤ pos (suc n)) (full.0 (omega (arith, ints)))
shown_of_full w f (negsuc n) full =
    let whole = full.1 (omega (arith, ints)) in
    let turned = times_negsuc f n in
    let same = ap (λ z. pos (suc n) *ℤ z) whole ∙ times-minus (pos (suc n)) (pos 0) (pos w) in
    let swapped = *ℤ_comm f (pos (suc n)) in
    let none = *ℤ-zero (pos (suc n)) in
    omega (arith, ints)

-- each flow is full, to the side of its observation's residual
abbrev pub AreFull : List Observed → WeightRows → List ℤ → (List ℕ → ℤ) → Type 0
AreFull observations weights flows heights = AllZip (λ o flow. IsFull (weight_of weights o.station o.target) flow (residual o heights)) observations flows

pub full_of_shows : (weights : WeightRows) (heights : List ℕ → ℤ) (observations : List Observed) (flows : List ℤ) → Shows observations weights flows heights → AreFull observations weights flows heights
full_of_shows weights heights [] [] shown = tt
full_of_shows weights heights [] (flow ∷ flows) shown = absurd shown
full_of_shows weights heights (o ∷ observations) [] shown = absurd shown
full_of_shows weights heights (o ∷ observations) (flow ∷ flows) shown = (full_of_shown (weight_of weights o.station o.target) flow (residual o heights) shown.0, full_of_shows weights heights observations flows shown.1)

pub shows_of_full : (weights : WeightRows) (heights : List ℕ → ℤ) (observations : List Observed) (flows : List ℤ) → AreFull observations weights flows heights → Shows observations weights flows heights
shows_of_full weights heights [] [] full = tt
shows_of_full weights heights [] (flow ∷ flows) full = absurd full
shows_of_full weights heights (o ∷ observations) [] full = absurd full
shows_of_full weights heights (o ∷ observations) (flow ∷ flows) full = (shown_of_full (weight_of weights o.station o.target) flow (residual o heights) full.0, shows_of_full weights heights observations flows full.1)
