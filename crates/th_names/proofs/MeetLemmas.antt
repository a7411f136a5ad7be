-- The lower ones and the higher ones of two numbers: differences between them cost no more than those between the two.
use Rattle.std.proofs.Common.{◌≡◌, ℕ, Bool, true, false, ◌+◌, ◌*◌, ◌≤◌, ℤ, ◌-ℤ◌, ◌≤ℤ◌, ◌⊎◌, inl, inr, if◌then◌else◌, unsigned_abs, refl, arith, mul-le-mul_left}
use Rattle.std.proofs.Math.Nat.{mul-add}
use Rattle.std.proofs.lemmas.Int.{ints}
use lib.Signed.{lt_z}

abbrev pub lesser : ℤ → ℤ → ℤ
lesser a b = if lt_z b a then b else a

abbrev pub greater : ℤ → ℤ → ℤ
greater a b = if lt_z b a then a else b

-- the lower and the higher one of two numbers
abbrev pub IsMeet : ℤ → ℤ → ℤ → ℤ → Type 0
IsMeet a b low high = ((low ≡ a) × (high ≡ b) × (a ≤ℤ b)) ⊎ ((low ≡ b) × (high ≡ a) × (b ≤ℤ a))

pub meets : (a b : ℤ) → IsMeet a b (lesser a b) (greater a b)
meets a b = by (lt_z b a) refl
  where
    above : lt_z b a ≡ true → b ≤ℤ a
    above e = grind (arith, ints)

    below : lt_z b a ≡ false → a ≤ℤ b
    below e = grind (arith, ints)

    by : (c : Bool) → lt_z b a ≡ c → IsMeet a b (if c then b else a) (if c then a else b)
    by true e = inr (refl, refl, above e)
    by false e = inl (refl, refl, below e)

pub lesser_first : (a b : ℤ) → a ≤ℤ b → lesser a b ≡ a
lesser_first a b less = by (meets a b)
  where
    by : IsMeet a b (lesser a b) (greater a b) → lesser a b ≡ a
    by (inl (e, f, g)) = e
    by (inr (e, f, g)) = omega (arith, ints)

pub greater_second : (a b : ℤ) → a ≤ℤ b → greater a b ≡ b
greater_second a b less = by (meets a b)
  where
    by : IsMeet a b (lesser a b) (greater a b) → greater a b ≡ b
    by (inl (e, f, g)) = f
    by (inr (e, f, g)) = omega (arith, ints)

pub lesser_under : (a b : ℤ) → lesser a b ≤ℤ b
lesser_under a b = by (meets a b)
  where
    by : IsMeet a b (lesser a b) (greater a b) → lesser a b ≤ℤ b
    by (inl (e, f, g)) = omega (arith, ints)
    by (inr (e, f, g)) = omega (arith, ints)

pub greater_over : (a b : ℤ) → a ≤ℤ greater a b
greater_over a b = by (meets a b)
  where
    by : IsMeet a b (lesser a b) (greater a b) → a ≤ℤ greater a b
    by (inl (e, f, g)) = omega (arith, ints)
    by (inr (e, f, g)) = omega (arith, ints)

one_size : (d s t u v sl sh tl th : ℤ) → IsMeet s u sl sh → IsMeet t v tl th → (unsigned_abs (d -ℤ (tl -ℤ sl)) + unsigned_abs (d -ℤ (th -ℤ sh))) ≤ (unsigned_abs (d -ℤ (t -ℤ s)) + unsigned_abs (d -ℤ (v -ℤ u)))
one_size d s t u v sl sh tl th (inl (a, b, c)) (inl (e, f, g)) = omega (arith, ints)
one_size d s t u v sl sh tl th (inl (a, b, c)) (inr (e, f, g)) = omega (arith, ints)
one_size d s t u v sl sh tl th (inr (a, b, c)) (inl (e, f, g)) = omega (arith, ints)
one_size d s t u v sl sh tl th (inr (a, b, c)) (inr (e, f, g)) = omega (arith, ints)

pub one_meet : (w : ℕ) (d s t u v sl sh tl th : ℤ) → IsMeet s u sl sh → IsMeet t v tl th → (w * unsigned_abs (d -ℤ (tl -ℤ sl)) + w * unsigned_abs (d -ℤ (th -ℤ sh))) ≤ (w * unsigned_abs (d -ℤ (t -ℤ s)) + w * unsigned_abs (d -ℤ (v -ℤ u)))
one_meet w d s t u v sl sh tl th from to =
    let times = mul-le-mul_left w (one_size d s t u v sl sh tl th from to) in
    let low = mul-add w (unsigned_abs (d -ℤ (tl -ℤ sl))) (unsigned_abs (d -ℤ (th -ℤ sh))) in
    let high = mul-add w (unsigned_abs (d -ℤ (t -ℤ s))) (unsigned_abs (d -ℤ (v -ℤ u))) in
    omega arith
