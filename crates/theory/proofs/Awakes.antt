-- Always awake keeps the law where the load fits the cycle.
use Rattle.std.proofs.Common.{◌≡◌, ℕ, zero, suc, ◌-◌, ◌*◌, ◌/◌, ◌<◌, ◌≤◌, refl, ap, mul-le-mul_left, arith}
use native.Mathlib.Nat.{le_of_mul-le-mul_left, div-add-mod}
use Rattle.theory.specs.Sums.{sum, bit, number, between}
use Rattle.theory.specs.Loads.{Loads, size, work, period, Cycle, load}
use Rattle.theory.specs.Laws.{jobs, demand, always, AlwaysKeepsLaw}
use Rattle.theory.proofs.Sums.{sum-le, sum-mul}
use Rattle.theory.proofs.Jobs.{jobs_span}

pub number-always : (n : ℕ) → number n always ≡ n
unfolding number sum bit
number-always zero = refl
number-always (suc n) = omega (arith, number-always n)

module _ (T : Loads) (H : ℕ) (cycle : Cycle T H) where
  -- a task's work in a span is to its load as the span is to the cycle, or less
  per_task : (i : ℕ) → i < size T → (a d : ℕ) → a ≤ d → H * (work T i * jobs T i a d) ≤ (d - a) * (work T i * (H / period T i))
  per_task i k a d l =
      let Q : ℕ = H / period T i in
      let e : H ≡ period T i * Q = omega (arith, div-add-mod H (period T i), cycle.divides i k) in
      let h : (work T i * Q) * (jobs T i a d * period T i) ≤ (work T i * Q) * (d - a) =
      mul-le-mul_left (work T i * Q) (jobs_span T i (cycle.some_period i k) a d l) in
      omega (arith, h, ap (λ x. x * (work T i * jobs T i a d)) e)

  -- where the load fits the cycle, the work of a span fits the span
  pub demand_fits : load T H ≤ H → (a d : ℕ) → a ≤ d → demand T a d ≤ d - a
  unfolding demand load
  demand_fits fit a d l =
      le_of_mul-le-mul_left
      (omega (
        arith,
        mul-le-mul_left (d - a) fit,
        sum-le (size T) (λ i. H * (work T i * jobs T i a d)) (λ i. (d - a) * (work T i * (H / period T i))) (λ i k. per_task i k a d l),
        sum-mul H (size T) (λ i. work T i * jobs T i a d),
        sum-mul (d - a) (size T) (λ i. work T i * (H / period T i)),
      ))
      cycle.ticks

pub always_keeps_law : AlwaysKeepsLaw
unfolding between
always_keeps_law T H cycle fit a d l h = omega (arith, demand_fits T H cycle fit a d l, number-always a, number-always d)
