-- Sums and counts over the numbers below a bound.
use Rattle.std.proofs.Common.{◌≡◌, ℕ, zero, suc, ◌+◌, ◌-◌, ◌*◌, ◌<◌, ◌≤◌, min, Bool, true, false, ◌&&◌, ltb, leb, refl, ap, ⊎_elim, add-zero, add-suc, mul-zero, mul-add, add-one, arith}
use Rattle.std.proofs.lemmas.Bool.{cases_eq}
use Rattle.std.proofs.lemmas.Bool.Decides.{nat_tests}
use Rattle.theory.specs.Sums.{sum, bit, number}

pub sum-zero : (f : ℕ → ℕ) → sum 0 f ≡ 0
unfolding sum
sum-zero f = refl

pub sum-suc : (n : ℕ) (f : ℕ → ℕ) → sum (suc n) f ≡ sum n f + f n
unfolding sum
sum-suc n f = refl

-- one more, as code counts
pub sum_more : (n : ℕ) (f : ℕ → ℕ) → sum (n + 1) f ≡ sum n f + f n
unfolding sum
sum_more n f = rw (add-one n)

pub sum-le : (n : ℕ) (f g : ℕ → ℕ) → ((i : ℕ) → i < n → f i ≤ g i) → sum n f ≤ sum n g
unfolding sum
sum-le zero f g h = omega arith
sum-le (suc n) f g h = omega (arith, sum-le n f g (λ i l. h i (omega arith)), h n (omega arith))

pub sum-eq : (n : ℕ) (f g : ℕ → ℕ) → ((i : ℕ) → i < n → f i ≡ g i) → sum n f ≡ sum n g
unfolding sum
sum-eq zero f g h = refl
sum-eq (suc n) f g h = omega (arith, sum-eq n f g (λ i l. h i (omega arith)), h n (omega arith))

pub sum-add : (n : ℕ) (f g : ℕ → ℕ) → sum n (λ i. f i + g i) ≡ sum n f + sum n g
unfolding sum
sum-add zero f g = refl
sum-add (suc n) f g = omega (arith, sum-add n f g)

pub sum-mul : (c n : ℕ) (f : ℕ → ℕ) → sum n (λ i. c * f i) ≡ c * sum n f
unfolding sum
sum-mul c zero f = omega (arith, mul-zero c)
sum-mul c (suc n) f = omega (arith, sum-mul c n f, mul-add c (sum n f) (f n))

pub sum_none : (n : ℕ) → sum n (λ i. 0) ≡ 0
unfolding sum
sum_none zero = refl
sum_none (suc n) = omega (arith, sum_none n)

-- a sum grows with its bound
pub sum_up : (n m : ℕ) (f : ℕ → ℕ) → n ≤ m → sum n f ≤ sum m f
unfolding sum
sum_up n zero f h = let e : n ≡ 0 = omega arith in omega (arith, ap (λ x. sum x f) e)
sum_up n (suc m) f h =
    ⊎_elim
    (λ (e : n ≡ suc m). omega (arith, ap (λ x. sum x f) e))
    (λ (e : n ≡ suc m → ⊥). omega (arith, sum_up n m f (omega arith)))
    (cases_eq n (suc m))

-- each term is at most the sum
pub sum_at : (n : ℕ) (f : ℕ → ℕ) (i : ℕ) → i < n → f i ≤ sum n f
sum_at n f i h = omega (arith, sum-suc i f, sum_up (suc i) n f h)

-- a sum of terms that are at most c
pub sum_bound : (c n : ℕ) (f : ℕ → ℕ) → ((i : ℕ) → i < n → f i ≤ c) → sum n f ≤ c * n
unfolding sum
sum_bound c zero f h = omega arith
sum_bound c (suc n) f h = omega (arith, sum_bound c n f (λ i l. h i (omega arith)), h n (omega arith), mul-add c n 1, add-one n)

pub bit_le : (b : Bool) → bit b ≤ 1
unfolding bit
bit_le true = omega arith
bit_le false = omega arith

pub number-zero : (P : ℕ → Bool) → number 0 P ≡ 0
unfolding number
number-zero P = sum-zero (λ k. bit (P k))

pub number-suc : (n : ℕ) (P : ℕ → Bool) → number (suc n) P ≡ number n P + bit (P n)
unfolding number
number-suc n P = sum-suc n (λ k. bit (P k))

pub number_up : (a d : ℕ) (P : ℕ → Bool) → a ≤ d → number a P ≤ number d P
unfolding number
number_up a d P h = sum_up a d (λ k. bit (P k)) h

-- at most as many as there are numbers
pub number_grows : (a k : ℕ) (P : ℕ → Bool) → number (a + k) P ≤ number a P + k
number_grows a zero P = simp add-zero (omega arith)
number_grows a (suc k) P = rw (add-suc a k) (omega (arith, number_grows a k P, number-suc (a + k) P, bit_le (P (a + k))))

pub number-le : (n : ℕ) (P : ℕ → Bool) → number n P ≤ n
unfolding number sum
number-le zero P = omega arith
number-le (suc n) P = omega (arith, number-le n P, bit_le (P n))

span_more : (n c e : ℕ) → min (suc n) e - c ≡ (min n e - c) + bit (leb c n && ltb n e)
unfolding bit
span_more n c e = grind (arith, nat_tests)

-- a count of a span: the numbers from c up to e, of those below n
pub number_span : (n c e : ℕ) (P : ℕ → Bool) → ((j : ℕ) → P j ≡ (leb c j && ltb j e)) → number n P ≡ min n e - c
unfolding number sum
number_span zero c e P h = omega arith
number_span (suc n) c e P h = omega (arith, number_span n c e P h, span_more n c e, ap bit (h n))
