-- How many jobs a span of ticks holds, by division.
use Rattle.std.proofs.Common.{◌≡◌, ℕ, zero, suc, ◌+◌, ◌-◌, ◌*◌, ◌/◌, ◌%◌, ◌<◌, ◌≤◌, ◌&&◌, ltb, leb, sym, ap, ◌∙◌, ap₂, ⊎_elim, mod-lt, mod-eq_of_lt, suc-mul, div-lt_iff_lt-mul, add-mul, le-div_iff_mul-le, zero-mul, div-le_self, div-mul-le_self, add-one, arith}
use native.Mathlib.Nat.{sub-zero, zero-div, lt-div-mul-add, div-add-mod, div-eq_of_lt-le, div-eq_of_eq-mul_left, suc-mod, mod_self}
use Rattle.std.proofs.lemmas.Bool.{cases_eq, cases_lt}
use Rattle.std.proofs.lemmas.Bool.Decides.{nat_tests}
use Rattle.theory.specs.Loads.{Loads, size, work, period, load}
use Rattle.theory.specs.Laws.{jobs, demand}
use Rattle.theory.proofs.Sums.{sum-eq, number_span}

leb_same : (a b c d : ℕ) → (a ≤ b → c ≤ d) → (c ≤ d → a ≤ b) → leb a b ≡ leb c d
leb_same a b c d f g = grind (arith, nat_tests)

-- how many jobs of period p are released before tick a
unfoldable pub released : ℕ → ℕ → ℕ
released p zero = 0
released p (suc t) = suc (t / p)

module _ (p : ℕ) (pos : 0 < p) where
  due_by : (j d : ℕ) → leb ((j + 1) * p) d ≡ ltb j (d / p)
  due_by j d = leb_same ((j + 1) * p) d (suc j) (d / p)
      (λ h. let k : suc j * p ≤ d = rw (← (add-one j)) h in (le-div_iff_mul-le pos).1 k)
      (λ h. rw (add-one j) ((le-div_iff_mul-le pos).0 h))

  from_later : (j t : ℕ) → leb (suc t) (j * p) ≡ leb (suc (t / p)) j
  from_later j t = leb_same (suc t) (j * p) (suc (t / p)) j (λ h. (div-lt_iff_lt-mul pos).1 h) (λ h. (div-lt_iff_lt-mul pos).0 h)

  from_start : (j : ℕ) → leb 0 (j * p) ≡ leb 0 j
  from_start j = leb_same 0 (j * p) 0 j (λ h. omega arith) (λ h. omega arith)

  rest_full : (t : ℕ) → suc t % p ≡ 0 → suc (t % p) ≡ p
  rest_full t e =
      ⊎_elim
      (λ (l : suc (t % p) < p). omega (arith, suc-mod t p, mod-eq_of_lt l))
      (λ (l : p ≤ suc (t % p)). omega (arith, mod-lt t pos))
      (cases_lt (suc (t % p)) p)

  rest_short : (t : ℕ) → (suc t % p ≡ 0 → ⊥) → suc (t % p) < p
  rest_short t e =
      ⊎_elim
      (λ (q : suc (t % p) ≡ p). absurd (e (suc-mod t p ∙ ap (λ x. x % p) q ∙ mod_self p)))
      (λ (q : suc (t % p) ≡ p → ⊥). omega (arith, mod-lt t pos))
      (cases_eq (suc (t % p)) p)

  -- the quotient goes up where the divisor divides, and nowhere else
  pub quotient_up : (t : ℕ) → suc t % p ≡ 0 → suc t / p ≡ suc (t / p)
  quotient_up t e = div-eq_of_eq-mul_left pos (omega (arith, div-add-mod t p, rest_full t e))

  pub quotient_stays : (t : ℕ) → (suc t % p ≡ 0 → ⊥) → suc t / p ≡ t / p
  quotient_stays t e =
      div-eq_of_lt-le p (omega (arith, div-add-mod t p)) (omega (arith, div-add-mod t p, rest_short t e))

  pub div_up : (a b : ℕ) → a ≤ b → a / p ≤ b / p
  div_up a b l = (le-div_iff_mul-le pos).1 (omega (arith, div-mul-le_self a p))

  -- a is no later than the first release at a or later
  pub released_from : (a : ℕ) → a ≤ released p a * p
  unfolding released
  released_from zero = omega arith
  released_from (suc t) = omega (arith, lt-div-mul-add {a = t} pos, suc-mul (t / p) p)

  -- where the period divides a, the jobs released before a are those due at a or earlier
  pub released_whole : (m : ℕ) → m % p ≡ 0 → released p m ≡ m / p
  unfolding released
  released_whole zero e = sym (zero-div p)
  released_whole (suc t) e = sym (quotient_up t e)

module _ (T : Loads) (i : ℕ) (pos : 0 < period T i) where
  pub jobs_after : (t d : ℕ) → jobs T i (suc t) d ≡ d / period T i - suc (t / period T i)
  unfolding jobs
  jobs_after t d =
      omega (
        arith,
        div-le_self d (period T i),
        number_span d (suc (t / period T i)) (d / period T i) (λ j. leb (suc t) (j * period T i) && leb ((j + 1) * period T i) d)
            (λ j. ap₂ ◌&&◌ (from_later (period T i) pos j t) (due_by (period T i) pos j d)),
      )

  pub jobs_all : (d : ℕ) → jobs T i 0 d ≡ d / period T i
  unfolding jobs
  jobs_all d =
      omega (
        arith,
        div-le_self d (period T i),
        number_span d 0 (d / period T i) (λ j. leb 0 (j * period T i) && leb ((j + 1) * period T i) d)
            (λ j. ap₂ ◌&&◌ (from_start (period T i) pos j) (due_by (period T i) pos j d)),
      )

  pub jobs-is : (a d : ℕ) → jobs T i a d ≡ d / period T i - released (period T i) a
  unfolding released
  jobs-is zero d = rw sub-zero (jobs_all d)
  jobs-is (suc t) d = jobs_after t d

  -- the jobs of a span take up no more than the span
  pub jobs_span : (a d : ℕ) → a ≤ d → jobs T i a d * period T i ≤ d - a
  jobs_span a d l =
      let p : ℕ = period T i in
      let R : ℕ = released (period T i) a in
      ⊎_elim
      (λ (x : d / p < R). let z : d / p - R ≡ 0 = omega arith in
      omega (arith, ap (λ y. y * p) (jobs-is a d ∙ z), zero-mul p))
      (λ (x : R ≤ d / p). let z : d / p ≡ R + jobs T i a d = omega (arith, jobs-is a d) in
      omega (arith, ap (λ y. y * p) z, add-mul R (jobs T i a d) p, released_from p pos a, div-mul-le_self d p))
      (cases_lt (d / p) R)

-- the work that has to be done from tick 0 to d is the work that falls due by d
pub demand_whole : (T : Loads) → ((i : ℕ) → i < size T → 0 < period T i) → (d : ℕ) → demand T 0 d ≡ load T d
unfolding demand load
demand_whole T pos d = sum-eq (size T) _ _ (λ i k. ap (λ x. work T i * x) (jobs_all T i (pos i k) d))
