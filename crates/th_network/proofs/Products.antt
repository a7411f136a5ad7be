-- Products of integers, which `omega` does not multiply out over a sum.
use Rattle.std.proofs.Common.{◌≡◌, ℕ, ◌*◌, ◌≤◌, ℤ, pos, ◌+ℤ◌, ◌-ℤ◌, ◌*ℤ◌, ◌≤ℤ◌, neg_ℤ, unsigned_abs, ap, ◌∙◌, arith, mul-le-mul_right}
use Rattle.std.proofs.lemmas.Int.{ints, unsigned_abs-mul}
use borrow.Author.Differences.{up, down, sum_is_lem, neg_is, product_is}

-- a product over a sum
pub times-plus : (a b c : ℤ) → a *ℤ (b +ℤ c) ≡ a *ℤ b +ℤ a *ℤ c
times-plus a b c =
    let s = sum_is_lem b c in
    let p = ap (λ n. up a * n) s in
    let q = ap (λ n. down a * n) s in
    omega (arith, ints)

times-neg : (a b : ℤ) → a *ℤ neg_ℤ b ≡ neg_ℤ (a *ℤ b)
times-neg a b =
    let s = neg_is b in
    let p = ap (λ n. up a * n) s.0 in
    let q = ap (λ n. down a * n) s.0 in
    let r = ap (λ n. up a * n) s.1 in
    let t = ap (λ n. down a * n) s.1 in
    omega (arith, ints)

-- a product over a difference
pub times-minus : (a b c : ℤ) → a *ℤ (b -ℤ c) ≡ a *ℤ b -ℤ a *ℤ c
times-minus a b c = times-plus a b (neg_ℤ c) ∙ ap (λ d. a *ℤ b +ℤ d) (times-neg a c)

-- three factors in another order
pub times_swap : (a b c : ℤ) → a *ℤ (b *ℤ c) ≡ b *ℤ (a *ℤ c)
times_swap a b c =
    let s = product_is b c in
    let p = ap (λ n. up a * n) s.0 in
    let q = ap (λ n. down a * n) s.0 in
    let r = ap (λ n. up a * n) s.1 in
    let t = ap (λ n. down a * n) s.1 in
    let s' = product_is a c in
    let p' = ap (λ n. up b * n) s'.0 in
    let q' = ap (λ n. down b * n) s'.0 in
    let r' = ap (λ n. up b * n) s'.1 in
    let t' = ap (λ n. down b * n) s'.1 in
    omega (arith, ints)

-- a product is at most that of the sizes, and of what bounds one of them
pub times-le : (f r : ℤ) (w : ℕ) → unsigned_abs f ≤ w → (f *ℤ r) ≤ℤ pos (w * unsigned_abs r)
times-le f r w bound =
    let size = unsigned_abs-mul f r in
    let more = mul-le-mul_right (unsigned_abs r) bound in
    omega (arith, ints)

-- what a flow times a rise adds to a sum, where the height of each end is split in two
pub rise_split : (flow high low high' low' at arrived left rest rest' sum gone sum' gone' : ℤ) → flow *ℤ high ≡ flow *ℤ high' +ℤ at *ℤ arrived → flow *ℤ low ≡ flow *ℤ low' +ℤ at *ℤ left → rest ≡ rest' +ℤ at *ℤ (sum -ℤ gone) → sum' ≡ arrived +ℤ sum → gone' ≡ left +ℤ gone → flow *ℤ (high -ℤ low) +ℤ rest ≡ flow *ℤ (high' -ℤ low') +ℤ rest' +ℤ at *ℤ (sum' -ℤ gone')
rise_split flow high low high' low' at arrived left rest rest' sum gone sum' gone' h l r s g =
    let p = times-minus flow high low in
    let q = times-minus flow high' low' in
    let t = times-minus at sum gone in
    let t' = times-minus at sum' gone' in
    let v = ap (λ z. at *ℤ z) s ∙ times-plus at arrived sum in
    let w = ap (λ z. at *ℤ z) g ∙ times-plus at left gone in
    omega (arith, ints)
