-- Sums and counts over the numbers below a bound.
use Rattle.std.specs.Prelude.{ℕ, zero, suc, ◌+◌, ◌-◌, Bool, cond}

-- the sum of f k over each k below n
unfoldable pub sum : ℕ → (ℕ → ℕ) → ℕ
sum zero f = 0
sum (suc n) f = sum n f + f n

-- 1 for true, 0 for false
unfoldable pub bit : Bool → ℕ
bit b = cond b 1 0

-- how many k below n pass a test
unfoldable pub number : ℕ → (ℕ → Bool) → ℕ
number n test = sum n (λ k. bit (test k))

-- how many k pass it with a ≤ k < d
unfoldable pub between : (ℕ → Bool) → ℕ → ℕ → ℕ
between test a d = number d test - number a test
