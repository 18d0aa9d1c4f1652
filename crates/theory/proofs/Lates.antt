-- The plan that works as late as it can keeps the law where the load fits the cycle.
use Rattle.std.proofs.Common.{◌≡◌, ℕ, zero, suc, ◌+◌, ◌-◌, ◌*◌, ◌/◌, ◌%◌, ◌<◌, ◌≤◌, cond, eqb, ltb, ap, ◌∙◌, ⊎_elim, mul-le-mul_left, mul-zero, mul-suc, mul-add, arith}
use native.Mathlib.Nat.{zero-div, sub-zero}
use Rattle.std.proofs.lemmas.Bool.{cases_eq, cases_lt, cond-true, cond-false, eq-eqb, ne_eqb}
use Rattle.std.proofs.lemmas.Bool.Decides.{nat_tests}
use Rattle.theory.specs.Sums.{bit, number, between}
use Rattle.theory.specs.Loads.{Loads, size, work, period, Cycle, load}
use Rattle.theory.specs.Laws.{jobs, demand, Law}
use Rattle.theory.specs.Lates.{due_at, backlog, edl, LateKeepsLaw}
use Rattle.theory.proofs.Sums.{sum-le, sum-eq, sum-add, sum_none, number-zero, number-suc, number_grows}
use Rattle.theory.proofs.Jobs.{quotient_up, quotient_stays, div_up, jobs-is, demand_whole}
use Rattle.theory.proofs.Awakes.{demand_fits}

one_taken : (n : ℕ) → n - 1 + cond (ltb 0 n) 1 0 ≡ n
one_taken n = grind (arith, nat_tests)

-- the work that falls due by a tick, tick by tick
module _ (T : Loads) (pos : (i : ℕ) → i < size T → 0 < period T i) where
  pub load_none : load T 0 ≡ 0
  unfolding load
  load_none = sum-eq (size T) _ _ (λ i k. rw (zero-div (period T i), mul-zero (work T i))) ∙ sum_none (size T)

  task_more : (i : ℕ) → i < size T → (t : ℕ) →
      work T i * (suc t / period T i) ≡ work T i * (t / period T i) + cond (eqb (suc t % period T i) 0) (work T i) 0
  task_more i k t =
      ⊎_elim
      (λ (e : suc t % period T i ≡ 0).
      omega (
        arith,
        ap (λ x. work T i * x) (quotient_up (period T i) (pos i k) t e),
        mul-suc (work T i) (t / period T i),
        cond-true (eqb (suc t % period T i) 0) (work T i) 0 (eq-eqb (suc t % period T i) 0 e),
      ))
      (λ (e : suc t % period T i ≡ 0 → ⊥).
      omega (
        arith,
        ap (λ x. work T i * x) (quotient_stays (period T i) (pos i k) t e),
        cond-false (eqb (suc t % period T i) 0) (work T i) 0 (ne_eqb (suc t % period T i) 0 e),
      ))
      (cases_eq (suc t % period T i) 0)

  -- one tick more
  pub load_more : (t : ℕ) → load T (suc t) ≡ load T t + due_at T (suc t)
  unfolding load due_at
  load_more t =
      sum-eq (size T) _ _ (λ i k. task_more i k t)
      ∙ sum-add (size T) (λ i. work T i * (t / period T i)) (λ i. cond (eqb (suc t % period T i) 0) (work T i) 0)

  -- what is due by b and not within a .. b is no more than what is due by d and not within a .. d
  pub carry_up : (a b d : ℕ) → a ≤ b → b ≤ d → load T b + demand T a d ≤ load T d + demand T a b
  unfolding load demand
  carry_up a b d l h =
      omega (
        arith,
        sum-le (size T) (λ i. work T i * (b / period T i) + work T i * jobs T i a d) (λ i. work T i * (d / period T i) + work T i * jobs T i a b) each,
        sum-add (size T) (λ i. work T i * (b / period T i)) (λ i. work T i * jobs T i a d),
        sum-add (size T) (λ i. work T i * (d / period T i)) (λ i. work T i * jobs T i a b),
      )
    where
      each : (i : ℕ) → i < size T →
          work T i * (b / period T i) + work T i * jobs T i a d ≤ work T i * (d / period T i) + work T i * jobs T i a b
      each i k =
          let p : ℕ = period T i in
          let x : b / p + jobs T i a d ≤ d / p + jobs T i a b =
          omega (arith, jobs-is T i (pos i k) a d, jobs-is T i (pos i k) a b, div_up p (pos i k) b d h) in
          omega (arith, mul-le-mul_left (work T i) x, mul-add (work T i) (b / p) (jobs T i a d), mul-add (work T i) (d / p) (jobs T i a b))

  module _ (H : ℕ) where
    -- the backlog in front of tick t
    unfoldable pub before : ℕ → ℕ
    before t = backlog T H (H - t)

    before_step : (t : ℕ) → t < H → before t + bit (edl T H t) ≡ before (suc t) + due_at T (suc t)
    unfolding before backlog edl bit
    before_step t l =
        let e : H - t ≡ suc (H - suc t) = omega arith in
        let f : H - (H - suc t) ≡ suc t = omega arith in
        omega (arith, ap (λ x. backlog T H x) e, ap (λ x. due_at T x) f, one_taken (backlog T H (H - suc t) + due_at T (suc t)))

    -- awake ticks are paid by the backlog
    pub paid : (t : ℕ) → t ≤ H → before t + load T t ≡ before 0 + number t (edl T H)
    paid zero l = omega (arith, load_none, number-zero (edl T H))
    paid (suc t) l = omega (arith, paid t (omega arith), before_step t l, load_more t, number-suc t (edl T H))

    -- the backlog is no more than what the ticks after it cannot take
    bound : (k X : ℕ) → k ≤ H → ((d : ℕ) → H - k ≤ d → d ≤ H → load T d + (H - k) ≤ X + load T (H - k) + d) → backlog T H k ≤ X
    unfolding backlog
    bound zero X l h = omega arith
    bound (suc k) X l h =
        let e : H - k ≡ suc (H - suc k) = omega arith in
        let m : load T (H - k) ≡ load T (H - suc k) + due_at T (H - k) = rw e (load_more (H - suc k)) in
        let first : due_at T (H - k) ≤ X + 1 = omega (arith, h (H - k) (omega arith) (omega arith)) in
        omega (arith, bound k (X + 1 - due_at T (H - k)) (omega arith) (λ d x y. omega (arith, h d (omega arith) y)))

    pub before_bound : (a X : ℕ) → a ≤ H → ((d : ℕ) → a ≤ d → d ≤ H → load T d + a ≤ X + load T a + d) → before a ≤ X
    unfolding before
    before_bound a X l h =
        let e : H - (H - a) ≡ a = omega arith in
        bound (H - a) X (omega arith) (rw e h)

    -- and no less
    pub reaches : (a d : ℕ) → a ≤ d → d ≤ H → load T d ≤ load T a + before a + (d - a)
    reaches a d l h = omega (arith, paid a (omega arith), paid d h, rw e at (number_grows a (d - a) (edl T H)))
      where
        e : a + (d - a) ≡ d
        e = omega arith

module _ (T : Loads) (H : ℕ) (cycle : Cycle T H) where
  -- no work is left in front of the cycle
  pub all_taken : load T H ≤ H → before T cycle.some_period H 0 ≡ 0
  all_taken fit =
      let h : before T cycle.some_period H 0 ≤ 0 =
      before_bound T cycle.some_period H 0 0 (omega arith)
      (λ d _ _. omega (arith, demand_fits T H cycle fit 0 d (omega arith), demand_whole T cycle.some_period d)) in
      omega arith

  keeps : load T H ≤ H → Law T H (edl T H)
  unfolding between
  keeps fit a d l h =
      let P : (i : ℕ) → i < size T → 0 < period T i = cycle.some_period in
      let now : demand T a d ≤ d - a = demand_fits T H cycle fit a d l in
      let carry : load T a + demand T a d ≤ load T d = omega (arith, carry_up T P a a d (omega arith) l, demand_fits T H cycle fit a a (omega arith)) in
      let bounded : before T P H a ≤ before T P H d + load T d - load T a - demand T a d =
      before_bound T P H a (before T P H d + load T d - load T a - demand T a d) (omega arith)
      (λ e x y. ⊎_elim
      (λ (z : e < d). omega (arith, carry_up T P a e d x (omega arith), demand_fits T H cycle fit a e x))
      (λ (z : d ≤ e). omega (arith, reaches T P H d e z y))
      (cases_lt e d)) in
      omega (arith, paid T P H a (omega arith), paid T P H d h, all_taken fit)

pub late_keeps_law : LateKeepsLaw
unfolding before
late_keeps_law T H cycle fit = (keeps T H cycle fit, rw sub-zero at (all_taken T H cycle fit))
