-- What a sheet and a base level come to in a table.
use Rattle.std.proofs.Common.{◌≡◌, ℕ, zero, suc, ◌+◌, ◌-◌, ◌*◌, ◌/◌, ◌<◌, ◌≤◌, Bool, true, false, eqb, List, [], ◌∷◌, length, get_or, Some, sym, ap, ◌∙◌, subst, ⊎_elim, mul-le-mul_right, mul_comm, mul-le-mul_left, arith}
use native.Mathlib.Nat.{lt-div-mul-add}
use Rattle.std.proofs.lemmas.Nat.{le-div}
use Rattle.std.proofs.lemmas.List.{length-map, get_or-map, get_or_default}
use Rattle.std.proofs.lemmas.Bool.{cases_Bool, cond-true, cond-false, eq-eqb, or_left, or_right, eqb-true, or_cases}
use Rattle.sheet.specs.declared.sheet.Sheet.{Sheet}
use Rattle.grammar.specs.declared.task.TaskLine.{TaskLine}
use Rattle.sheet.specs.Sheets.{content}
use Rattle.grammar.specs.Tasks.{no_task}
use Rattle.sheet.proofs.Facts.{task_sound_at, levels-few, level_in_range, levels-rise}
use Rattle.theory.specs.declared.Load.{Load}
use Rattle.theory.specs.Loads.{Loads, size, work, period, load, no_load, Cycle}
use Rattle.theory.proofs.Sums.{sum-le}
use Rattle.table.specs.declared.tasks.TaskSet.{TaskSet}
use Rattle.table.specs.Cycles.{Sound}
use Rattle.table.specs.Allowances.{allowance, slowed, allowed, base_of, has, Levels, Lowest}
use Rattle.table.specs.Admissions.{load_of, loads_of}
use Rattle.table.proofs.Bases.{load-allowed}

-- a sheet's tasks and levels
pub sheet_sound : (s : Sheet) → Sound (loads_of (content s).tasks)
unfolding work period
sheet_sound s i h =
    let ts : List TaskLine = (content s).tasks in
    let l : i < length ts = omega (arith, length-map ts load_of) in
    let e : get_or (loads_of ts) i no_load ≡ load_of (get_or ts i no_task) = get_or-map load_of ts i no_task no_load l in
    let p = task_sound_at s i l in
    let P : Load → Type 0 = λ x. (0 < x.work) × (x.work ≤ x.period) × (x.period ≤ 30000) in
    subst P (sym e) (p.0, p.1, p.2)

pub sheet_levels : (s : Sheet) → Levels (content s).levels
sheet_levels s =
    record { few = levels-few s; some = λ i h. (level_in_range s i h).0; most = λ i h. (level_in_range s i h).1; rise = levels-rise s }

-- the base level that is found is the lowest that fits
module _ (fits : ℕ → Bool) where
  some_is : (v s : ℕ) → Some v ≡ Some s → v ≡ s
  some_is v s e = cc

  base-known : (vs : List ℕ) (s : ℕ) → base_of vs fits ≡ Some s → has s vs ≡ true
  base-known [] s e = cc
  base-known (v ∷ vs) s e =
      ⊎_elim
      (λ (q : fits v ≡ true). or_left (eqb s v) (has s vs) (eq-eqb s v (sym (some_is v s (sym (cond-true (fits v) (Some v) (base_of vs fits) q) ∙ e)))))
      (λ (q : fits v ≡ false). or_right (eqb s v) (has s vs) (base-known vs s (sym (cond-false (fits v) (Some v) (base_of vs fits) q) ∙ e)))
      (cases_Bool (fits v))

  base-enough : (vs : List ℕ) (s : ℕ) → base_of vs fits ≡ Some s → fits s ≡ true
  base-enough [] s e = cc
  base-enough (v ∷ vs) s e =
      ⊎_elim
      (λ (q : fits v ≡ true). ap fits (sym (some_is v s (sym (cond-true (fits v) (Some v) (base_of vs fits) q) ∙ e))) ∙ q)
      (λ (q : fits v ≡ false). base-enough vs s (sym (cond-false (fits v) (Some v) (base_of vs fits) q) ∙ e))
      (cases_Bool (fits v))

  base-lowest : (vs : List ℕ) (s : ℕ) → ((i j : ℕ) → i < j → j < length vs → get_or vs i 0 < get_or vs j 0) → base_of vs fits ≡ Some s →
      (i : ℕ) → i < length vs → get_or vs i 0 < s → fits (get_or vs i 0) ≡ false
  base-lowest [] s rise e i h l = absurd (omega arith)
  base-lowest (v ∷ vs) s rise e i h l =
      ⊎_elim
      (λ (q : fits v ≡ true).
      let z : v ≡ s = some_is v s (sym (cond-true (fits v) (Some v) (base_of vs fits) q) ∙ e) in
      absurd (not-below v vs s z rise i h l))
      (λ (q : fits v ≡ false).
      later v vs q (base-lowest vs s (λ i j a b. rise (suc i) (suc j) (omega arith) (omega arith)) (sym (cond-false (fits v) (Some v) (base_of vs fits) q) ∙ e)) i h l)
      (cases_Bool (fits v))
    where
      not-below : (v : ℕ) (vs : List ℕ) (s : ℕ) → v ≡ s → ((i j : ℕ) → i < j → j < length (v ∷ vs) → get_or (v ∷ vs) i 0 < get_or (v ∷ vs) j 0) →
          (i : ℕ) → i < length (v ∷ vs) → get_or (v ∷ vs) i 0 < s → ⊥
      not-below v vs s z rise zero h l = omega arith
      not-below v vs s z rise (suc i) h l = omega (arith, rise 0 (suc i) (omega arith) h)

      later : (v : ℕ) (vs : List ℕ) → fits v ≡ false → ((i : ℕ) → i < length vs → get_or vs i 0 < s → fits (get_or vs i 0) ≡ false) →
          (i : ℕ) → i < length (v ∷ vs) → get_or (v ∷ vs) i 0 < s → fits (get_or (v ∷ vs) i 0) ≡ false
      later v vs q rest zero h l = q
      later v vs q rest (suc i) h l = rest i (omega arith) l

  pub base-is : (vs : List ℕ) (s : ℕ) → Levels vs → base_of vs fits ≡ Some s → Lowest vs fits s
  base-is vs s levels e = record { known = base-known vs s e; enough = base-enough vs s e; lowest = base-lowest vs s levels.rise e }

-- one of the levels stands at a place among them
pub has-place : (s : ℕ) (vs : List ℕ) → has s vs ≡ true → (i : ℕ) × (i < length vs) × (get_or vs i 0 ≡ s)
has-place s [] e = absurd (let z : ◌≡◌ {A = ℕ} 0 1 = (cc) in omega arith)
has-place s (v ∷ vs) e =
    ⊎_elim
    (λ (q : eqb s v ≡ true). (0, omega arith, sym (eqb-true s v q)))
    (λ (q : has s vs ≡ true). let r = has-place s vs q in (suc r.0, omega (arith, r.1), r.2))
    (or_cases (eqb s v) (has s vs) e)

-- no allowance is smaller than its work
pub allowance-enough : (s c : ℕ) → 0 < s → s ≤ 100 → c ≤ allowance s c
unfolding allowance
allowance-enough s c pos most = le-div c (100 * c + (s - 1)) s pos (omega (arith, mul-le-mul_left c most, mul_comm c 100))

-- at its level an allowance is enough for its work
pub allowance_covers : (s c : ℕ) → 0 < s → 100 * c ≤ s * allowance s c
unfolding allowance
allowance_covers s c pos =
    omega (arith, lt-div-mul-add {a = 100 * c + (s - 1)} pos, mul_comm s ((100 * c + (s - 1)) / s))

module _ (s : ℕ) (T : Loads) where
  pub size-allowed : size (allowed s T) ≡ size T
  unfolding allowed
  size-allowed = length-map T (slowed s)

  pub work-allowed : (i : ℕ) → i < size T → work (allowed s T) i ≡ allowance s (work T i)
  unfolding allowed work
  work-allowed i h = ap (λ x. x.work) (get_or-map (slowed s) T i no_load no_load h)

  pub period-allowed : (i : ℕ) → i < size T → period (allowed s T) i ≡ period T i
  unfolding allowed period
  period-allowed i h = ap (λ x. x.period) (get_or-map (slowed s) T i no_load no_load h)

  -- a cycle of the tasks is one at every level
  pub cycle-allowed : (H : ℕ) → Cycle T H → Cycle (allowed s T) H
  cycle-allowed H c =
      record {
        ticks = c.ticks;
        some_period = λ i h. let l : i < size T = omega (arith, size-allowed) in rw (period-allowed i l) (c.some_period i l);
        divides = λ i h. let l : i < size T = omega (arith, size-allowed) in rw (period-allowed i l) (c.divides i l);
      }

  -- where the allowances fit, the works fit
  pub load_at_most : (H : ℕ) → 0 < s → s ≤ 100 → load T H ≤ load (allowed s T) H
  unfolding load
  load_at_most H pos most =
      subst (λ (x : ℕ). load T H ≤ x) (sym (load-allowed s T H))
      (sum-le (size T) (λ i. work T i * (H / period T i)) (λ i. allowance s (work T i) * (H / period T i))
      (λ i h. mul-le-mul_right (H / period T i) (allowance-enough s (work T i) pos most)))

-- no work of a task set is above 30,000, wherever its list stands
pub work_short : (set : TaskSet) {T : Loads} (i : ℕ) (d : Load) → T ≡ set.loads → i < length T → (get_or T i d).work ≤ 30000
unfolding work period
work_short set {T} i d e l =
    let k : i < length set.loads = omega (arith, l, ap length e) in
    let p = set.sound i k in
    rw (e, get_or_default set.loads i d no_load k) (omega (arith, p.1, p.2))
