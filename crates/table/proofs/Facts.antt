-- What the ghost fields of a workload and of a table come to, in the words of the theory.
use Rattle.std.proofs.Common.{◌≡◌, ℕ, ◌-◌, ◌*◌, ◌/◌, ◌<◌, ◌≤◌, length, get_or, sym, ◌∙◌, subst, ap₂, mul-le-mul_left, mul-one, arith}
use native.Mathlib.Nat.{le_of_dvd, dvd_of_mod-eq-zero}
use Rattle.std.proofs.lemmas.Nat.{le-div}
use Rattle.std.proofs.lemmas.List.{ext_get_or}
use Rattle.theory.specs.declared.Load.{Load}
use Rattle.theory.specs.Loads.{Loads, Cycle, load, size, work, period, no_load}
use Rattle.theory.proofs.Sums.{sum_at}
use Rattle.table.specs.declared.workload.Workload.{Workload}
use Rattle.table.specs.declared.table.Table.{Table}
use Rattle.table.specs.Workloads.{loads_in, turn_of}
use Rattle.table.specs.Allowances.{allowance, allowed}
use Rattle.table.specs.Tables.{admitted}
use Rattle.grammar.proofs.Rises.{rising_some, each_above, each_within, later-above, ends_full}
use Rattle.table.proofs.Admissions.{has-place, allowance-enough, allowance_covers, size-allowed, work-allowed, period-allowed}

pub cycle_of_lem : (w : Workload) → Cycle (loads_in w) (turn_of w)
cycle_of_lem w = record { ticks = w.ticks; some_period = w.periods; divides = w.divides }

pub fits_of : (w : Workload) → load (loads_in w) (turn_of w) ≤ turn_of w
fits_of w = w.fits

pub short_of : (w : Workload) → turn_of w ≤ 30000
short_of w = w.cycle.short

pub few_of : (w : Workload) → size (loads_in w) ≤ 16
few_of w = w.few

-- no period and no work is longer than the cycle
pub period-within : (w : Workload) (i : ℕ) → i < size (loads_in w) → period (loads_in w) i ≤ turn_of w
period-within w i h = le_of_dvd w.ticks (dvd_of_mod-eq-zero (period (loads_in w) i) (w.divides i h))

pub work-within : (w : Workload) (i : ℕ) → i < size (loads_in w) → work (loads_in w) i ≤ turn_of w
unfolding load
work-within w i h =
    let T : Loads = loads_in w in
    let H : ℕ = turn_of w in
    let once : 1 ≤ H / period T i = le-div 1 H (period T i) (w.periods i h) (omega (arith, period-within w i h)) in
    omega (
      arith,
      w.fits,
      sum_at (size T) (λ k. work T k * (H / period T k)) i h,
      mul-le-mul_left (work T i) once,
      mul-one (work T i),
    )

same_load : (x y : Load) → x.work ≡ y.work → x.period ≡ y.period → x ≡ y
same_load x y e f = ap₂ (λ a b. record { work = a; period = b }) e f

module _ (t : Table) where
  -- 1 to 8 levels from 1 to 100, each above the one before, the last 100
  pub levels-some : 0 < length (admitted t).levels
  levels-some = rising_some (admitted t).levels t.level_order

  pub levels-few : length (admitted t).levels ≤ 8
  levels-few = t.level_few

  pub level_in_range : (i : ℕ) → i < length (admitted t).levels → (1 ≤ get_or (admitted t).levels i 0) × (get_or (admitted t).levels i 0 ≤ 100)
  level_in_range i h =
      (each_above 0 (admitted t).levels t.level_order i h, each_within 0 (admitted t).levels t.level_order i h)

  pub levels-rise : (i j : ℕ) → i < j → j < length (admitted t).levels → get_or (admitted t).levels i 0 < get_or (admitted t).levels j 0
  levels-rise i j l h = later-above 0 (admitted t).levels t.level_order i j l h

  pub last_level_full : get_or (admitted t).levels (length (admitted t).levels - 1) 0 ≡ 100
  last_level_full = ends_full 0 (admitted t).levels t.level_order (length (admitted t).levels - 1) (omega (arith, levels-some))

  -- the base level is one of the levels
  pub base_in_range : (1 ≤ (admitted t).base) × ((admitted t).base ≤ 100)
  base_in_range = (t.base.some, t.base.most)

  pub base-place : (i : ℕ) × (i < length (admitted t).levels) × (get_or (admitted t).levels i 0 ≡ (admitted t).base)
  base-place = has-place (admitted t).base (admitted t).levels t.base_known

  -- works and allowances have one cycle
  pub cycle_of_works : Cycle (admitted t).works (admitted t).cycle
  cycle_of_works = cycle_of_lem t.works

  pub cycle_of_allowances : Cycle (admitted t).allowances (admitted t).cycle
  cycle_of_allowances = subst (λ (H : ℕ). Cycle (admitted t).allowances H) t.one_cycle (cycle_of_lem t.allowances)

  pub works_fit : load (admitted t).works (admitted t).cycle ≤ (admitted t).cycle
  works_fit = fits_of t.works

  pub allowances_fit : load (admitted t).allowances (admitted t).cycle ≤ (admitted t).cycle
  allowances_fit = subst (λ (H : ℕ). load (admitted t).allowances H ≤ H) t.one_cycle (fits_of t.allowances)

  pub cycle_short : (admitted t).cycle ≤ 30000
  cycle_short = short_of t.works

  -- and one number of tasks
  pub names_number : length (admitted t).names ≡ size (admitted t).works
  names_number = t.one_number

  pub works-few : size (admitted t).works ≤ 16
  works-few = few_of t.works

  pub one_size : size (admitted t).allowances ≡ size (admitted t).works
  one_size = t.one_size

  pub one-period : (i : ℕ) → i < size (admitted t).works → period (admitted t).allowances i ≡ period (admitted t).works i
  one-period = t.one_period

  pub at_base : (i : ℕ) → i < size (admitted t).works → work (admitted t).allowances i ≡ allowance (admitted t).base (work (admitted t).works i)
  at_base = t.at_base

  -- the allowances are those at the base level
  pub allowances_are : (admitted t).allowances ≡ allowed (admitted t).base (admitted t).works
  unfolding work period
  allowances_are =
      let W : Loads = (admitted t).works in
      let b : ℕ = (admitted t).base in
      ext_get_or no_load (admitted t).allowances (allowed b W) (one_size ∙ sym (size-allowed b W))
      (λ i h.
      let l : i < size W = omega (arith, one_size) in
      same_load (get_or (admitted t).allowances i no_load) (get_or (allowed b W) i no_load)
      (at_base i l ∙ sym (work-allowed b W i l)) (one-period i l ∙ sym (period-allowed b W i l)))

  pub work-some : (i : ℕ) → i < size (admitted t).works → 1 ≤ work (admitted t).works i
  work-some = t.works_some

  -- no allowance is smaller than its work, and at the base level it is enough
  pub allowance_more : (i : ℕ) → i < size (admitted t).works → work (admitted t).works i ≤ work (admitted t).allowances i
  allowance_more i h =
      omega (arith, at_base i h, allowance-enough (admitted t).base (work (admitted t).works i) t.base.some t.base.most)

  pub allowance_serves : (i : ℕ) → i < size (admitted t).works → 100 * work (admitted t).works i ≤ (admitted t).base * work (admitted t).allowances i
  allowance_serves i h =
      subst (λ (x : ℕ). 100 * work (admitted t).works i ≤ (admitted t).base * x) (sym (at_base i h))
      (allowance_covers (admitted t).base (work (admitted t).works i) t.base.some)
