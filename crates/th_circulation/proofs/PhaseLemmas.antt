-- Gains against the costs of heights, and across a phase.
use Rattle.std.proofs.Common.{◌≡◌, ℕ, zero, suc, ◌+◌, ◌*◌, ◌≤◌, ℤ, pos, negsuc, ◌+ℤ◌, ◌-ℤ◌, ◌*ℤ◌, ◌≤ℤ◌, List, [], ◌∷◌, zip, length, sum, unsigned_abs, refl, ap, ◌∙◌, arith}
use Rattle.std.proofs.lemmas.Int.{ints}
use Rattle.std.proofs.Math.IntN.{*ℤ-zero}
use Rattle.std.proofs.lemmas.List.Sums.{sum_by-cons}
use Rattle.std.specs.List.{AllZip}
use Rattle.th_network.proofs.Products.{times-plus, times-minus, times_swap, times-le}
use Rattle.th_network.proofs.Balance.{total_by-cons}
use Rattle.th_network.specs.declared.links.Link.{Link}
use Rattle.th_circulation.specs.Inside.Flows.{IsFlow, Next, ShowsLinks, cost, gain, residual, residuals}
use Rattle.th_circulation.proofs.FlowSums.{carried, nothing_carried}

pub gain-cons : (flow diff : ℤ) (flows diffs : List ℤ) → gain (flow ∷ flows) (diff ∷ diffs) ≡ flow *ℤ diff +ℤ gain flows diffs
gain-cons flow diff flows diffs = total_by-cons (λ (pair : ℤ × ℤ). pair.0 *ℤ pair.1) (flow, diff) (zip flows diffs)

pub cost-cons : (weight : ℕ) (rest : ℤ) (weights : List ℕ) (rests : List ℤ) → cost (weight ∷ weights) (rest ∷ rests) ≡ weight * unsigned_abs rest + cost weights rests
cost-cons weight rest weights rests = sum_by-cons (λ (pair : ℕ × ℤ). pair.0 * unsigned_abs pair.1) (weight, rest) (zip weights rests)

-- a difference is the residual and the rise
gain_parts : (heights : ℕ → ℤ) (links : List Link) (diffs flows : List ℤ) → length diffs ≡ length links → gain flows diffs ≡ gain flows (residuals links diffs heights) +ℤ carried heights links flows
gain_parts heights [] [] [] h = refl
gain_parts heights [] [] (flow ∷ flows) h = refl
gain_parts heights [] (diff ∷ diffs) flows h = absurd (omega arith)
gain_parts heights (link ∷ links) [] flows h = absurd (omega arith)
gain_parts heights (link ∷ links) (diff ∷ diffs) [] h = refl
gain_parts heights (link ∷ links) (diff ∷ diffs) (flow ∷ flows) h =
    let rest = gain_parts heights links diffs flows (omega arith) in
    let a = gain-cons flow diff flows diffs in
    let b = gain-cons flow (residual heights link diff) flows (residuals links diffs heights) in
    let c = times-minus flow diff (heights link.head -ℤ heights link.tail) in
    omega (arith, ints)

pub heights_out : (links : List Link) (weights : List ℕ) (diffs flows : List ℤ) (heights : ℕ → ℤ) → length diffs ≡ length links → IsFlow links weights flows → gain flows diffs ≡ gain flows (residuals links diffs heights)
heights_out links weights diffs flows heights h flow =
    let parts = gain_parts heights links diffs flows h in
    let none = nothing_carried heights links flows flow.balanced in
    omega (arith, ints)

-- bounded flows gain at most the cost of what they are multiplied by
gain_most : (weights : List ℕ) (flows rests : List ℤ) → AllZip (λ weight flow. unsigned_abs flow ≤ weight) weights flows → gain flows rests ≤ℤ pos (cost weights rests)
gain_most [] [] rests h = omega (arith, ints)
gain_most [] (flow ∷ flows) rests h = absurd h
gain_most (weight ∷ weights) [] rests h = absurd h
gain_most (weight ∷ weights) (flow ∷ flows) [] h = omega (arith, ints)
gain_most (weight ∷ weights) (flow ∷ flows) (rest ∷ rests) h =
    let more = gain_most weights flows rests h.1 in
    let a = gain-cons flow rest flows rests in
    let b = cost-cons weight rest weights rests in
    let c = times-le flow rest weight h.0 in
    omega (arith, ints)

gain_shown : (weights : List ℕ) (flows rests : List ℤ) → AllZip (λ weight flow. unsigned_abs flow ≤ weight) weights flows → ShowsLinks weights flows rests → gain flows rests ≡ pos (cost weights rests)
gain_shown [] [] [] h s = refl
gain_shown [] [] (rest ∷ rests) h s = absurd s
gain_shown [] (flow ∷ flows) rests h s = absurd h
gain_shown (weight ∷ weights) [] rests h s = absurd h
gain_shown (weight ∷ weights) (flow ∷ flows) [] h s = absurd s
gain_shown (weight ∷ weights) (flow ∷ flows) (rest ∷ rests) h s =
    let more = gain_shown weights flows rests h.1 s.1 in
    let a = gain-cons flow rest flows rests in
    let b = cost-cons weight rest weights rests in
    let c = s.0 in
    omega (arith, ints)

pub most : (links : List Link) (weights : List ℕ) (diffs flows : List ℤ) (heights : ℕ → ℤ) → length diffs ≡ length links → IsFlow links weights flows → gain flows diffs ≤ℤ pos (cost weights (residuals links diffs heights))
most links weights diffs flows heights h flow =
    let out = heights_out links weights diffs flows heights h flow in
    let bound = gain_most weights flows (residuals links diffs heights) flow.bounded in
    omega (arith, ints)

pub shown : (links : List Link) (weights : List ℕ) (diffs flows : List ℤ) (heights : ℕ → ℤ) → length diffs ≡ length links → IsFlow links weights flows → ShowsLinks weights flows (residuals links diffs heights) → gain flows diffs ≡ pos (cost weights (residuals links diffs heights))
shown links weights diffs flows heights h flow s =
    let out = heights_out links weights diffs flows heights h flow in
    let same = gain_shown weights flows (residuals links diffs heights) flow.bounded s in
    out ∙ same

-- a product by nothing or one
times_bit : (f e : ℤ) (w : ℕ) → unsigned_abs f ≤ w → pos 0 ≤ℤ e → e ≤ℤ pos 1 → ((f *ℤ e) ≤ℤ pos w) × ((pos 0 -ℤ pos w) ≤ℤ (f *ℤ e))
times_bit f (pos zero) w bound low high = let none = *ℤ-zero f in (omega (arith, ints), omega (arith, ints))
times_bit f (pos (suc zero)) w bound low high = (omega (arith, ints), omega (arith, ints))
times_bit f (pos (suc (suc n))) w bound low high = absurd (omega (arith, ints))
times_bit f (negsuc n) w bound low high = absurd (omega (arith, ints))

-- one link: g's part of the next gain against f's
one_next : (w : ℕ) (f g d n : ℤ) → unsigned_abs f ≤ w → unsigned_abs g ≤ w → (pos 2 *ℤ d) ≤ℤ n → n ≤ℤ (pos 2 *ℤ d +ℤ pos 1) → (g *ℤ n -ℤ f *ℤ n) ≤ℤ (pos 2 *ℤ (g *ℤ d -ℤ f *ℤ d) +ℤ pos (2 * w))
one_next w f g d n bf bg low high =
    let e = n -ℤ pos 2 *ℤ d in
    let split : n ≡ pos 2 *ℤ d +ℤ e = omega (arith, ints) in
    let a = ap (λ z. f *ℤ z) split ∙ times-plus f (pos 2 *ℤ d) e in
    let b = ap (λ z. g *ℤ z) split ∙ times-plus g (pos 2 *ℤ d) e in
    let a' = times_swap f (pos 2) d in
    let b' = times_swap g (pos 2) d in
    let bit_f = times_bit f e w bf (omega (arith, ints)) (omega (arith, ints)) in
    let bit_g = times_bit g e w bg (omega (arith, ints)) (omega (arith, ints)) in
    omega (arith, ints, bit_f, bit_g)

next_gain : (weights : List ℕ) (diffs next flows others : List ℤ) → AllZip (λ weight flow. unsigned_abs flow ≤ weight) weights flows → AllZip (λ weight flow. unsigned_abs flow ≤ weight) weights others → Next diffs next → (gain others next -ℤ gain flows next) ≤ℤ (pos 2 *ℤ (gain others diffs -ℤ gain flows diffs) +ℤ pos (2 * sum weights))
next_gain [] diffs next [] [] bf bg finer = omega (arith, ints)
next_gain [] diffs next (flow ∷ flows) others bf bg finer = absurd bf
next_gain [] diffs next [] (other ∷ others) bf bg finer = absurd bg
next_gain (weight ∷ weights) diffs next [] others bf bg finer = absurd bf
next_gain (weight ∷ weights) diffs next (flow ∷ flows) [] bf bg finer = absurd bg
next_gain (weight ∷ weights) [] [] (flow ∷ flows) (other ∷ others) bf bg finer = omega (arith, ints)
next_gain (weight ∷ weights) [] (n ∷ next) (flow ∷ flows) (other ∷ others) bf bg finer = absurd finer
next_gain (weight ∷ weights) (d ∷ diffs) [] (flow ∷ flows) (other ∷ others) bf bg finer = absurd finer
next_gain (weight ∷ weights) (d ∷ diffs) (n ∷ next) (flow ∷ flows) (other ∷ others) bf bg finer =
    let rest = next_gain weights diffs next flows others bf.1 bg.1 finer.1 in
    let one = one_next weight flow other d n bf.0 bg.0 finer.0.0 finer.0.1 in
    let a = gain-cons flow d flows diffs in
    let b = gain-cons flow n flows next in
    let a' = gain-cons other d others diffs in
    let b' = gain-cons other n others next in
    let s = sum_by-cons (λ (x : ℕ). x) weight weights in
    omega (arith, ints)

pub phase : (links : List Link) (weights : List ℕ) (diffs next flows others : List ℤ) (heights : ℕ → ℤ) → length diffs ≡ length links → IsFlow links weights flows → ShowsLinks weights flows (residuals links diffs heights) → Next diffs next → IsFlow links weights others → gain others next ≤ℤ (gain flows next +ℤ pos (2 * sum weights))
phase links weights diffs next flows others heights h flow s finer other =
    let same = shown links weights diffs flows heights h flow s in
    let bound = most links weights diffs others heights h other in
    let step = next_gain weights diffs next flows others flow.bounded other.bounded finer in
    omega (arith, ints)
