-- One tick of the slot machine, place by place.
use Rattle.std.proofs.Common.{◌≡◌, ℕ, suc, ◌+◌, ◌-◌, ◌*◌, ◌/◌, ◌%◌, ◌<◌, ◌≤◌, Bool, true, false, cond, eqb, ltb, List, length, get_or, map, Some, None, Option, sym, refl, ap, ◌∙◌, ⊎_elim, suc-mul, mul_comm, one-mul, zero-mul, add-one, arith}
use native.Mathlib.Nat.{zero-div, div-add-mod, mul-mod_left, sub-zero, zero-sub}
use Rattle.std.specs.Option.{option_eq}
use Rattle.std.proofs.lemmas.List.{get_or_past, get_or_default, get_or-map, length-map}
use Rattle.std.proofs.lemmas.Bool.{cases_eq, cases_lt, lt-ltb, le-ltb, eq-eqb, ne_eqb, ltb-true}
use Rattle.std.proofs.lemmas.Bool.Decides.{nat_tests}
use Rattle.theory.specs.Sums.{bit}
use Rattle.theory.specs.declared.Load.{Load}
use Rattle.theory.specs.Loads.{Loads, size, work, period, no_load}
use Rattle.theory.specs.Orders.{Chosen}
use Rattle.theory.proofs.Orders.{earliest_chosen}
use Rattle.theory.specs.Slots.{job_at, is, owner, charged, next}
use Rattle.theory.proofs.Jobs.{quotient_up, quotient_stays}
use Rattle.table.specs.Workloads.{loads_in}
use Rattle.table.specs.declared.workload.Workload.{Workload}
use Rattle.table.proofs.Facts.{short_of, period-within}
use Rattle.wake.specs.Jobs.{no_job, released, first_job, renewed, spent}
use Rattle.wake.specs.declared.job.Job.{Job}
use Rattle.wake.specs.declared.machine.SlotMachine.{SlotMachine}
use Rattle.wake.specs.Machines.{owner_in}

-- no period is longer than the longest cycle
pub period_short : (w : Workload) (i : ℕ) → i < size (loads_in w) → period (loads_in w) i ≤ 30000
period_short w i l = omega (arith, period-within w i l, short_of w)

pub period_short_in : (w : Workload) {T : Loads} (i : ℕ) (d : Load) → T ≡ loads_in w → i < length T → (get_or T i d).period ≤ 30000
unfolding period
period_short_in w {T} i d e l =
    let n : i < size (loads_in w) = omega (arith, ap length e) in
    rw (e, get_or_default (loads_in w) i d no_load n) (period_short w i n)

-- a place past the last task has no work
work_past : (T : Loads) (k : ℕ) → size T ≤ k → work T k ≡ 0
unfolding work
work_past T k l = ap (λ l. l.work) (get_or_past T k no_load l)

-- the first jobs
module _ (T : Loads) (k : ℕ) where
  here : k < size T → first_job T k ≡ released (get_or T k no_load) 0 k
  here l = rw (lt-ltb k (size T) l)

  past : size T ≤ k → first_job T k ≡ no_job
  past l = rw (le-ltb k (size T) l)

  pub first-left : (first_job T k).left ≡ work T k
  unfolding work
  first-left =
      ⊎_elim
      (λ (l : k < size T). ap (λ j. j.left) (here l))
      (λ (l : size T ≤ k). ap (λ j. j.left) (past l) ∙ sym (work_past T k l))
      (cases_lt k (size T))

  pub first-due : k < size T → (first_job T k).due ≡ (job_at T 0 k).due
  unfolding job_at period
  first-due l = ap (λ j. j.due) (here l) ∙ rw (zero-div (get_or T k no_load).period) (omega (arith, one-mul (get_or T k no_load).period))

  pub first-release : k < size T → (first_job T k).release ≡ (job_at T 0 k).release
  unfolding job_at period
  first-release l = ap (λ j. j.release) (here l) ∙ rw (zero-div (get_or T k no_load).period) (sym (zero-mul (get_or T k no_load).period))

  pub first-place : k < size T → (first_job T k).place ≡ k
  first-place l = ap (λ j. j.place) (here l)

-- a job is due as a tick begins exactly where its period divides the tick
module _ (p t : ℕ) (pos : 0 < p) where
  pub due_here : suc t % p ≡ 0 → (t / p + 1) * p ≡ t + 1
  due_here e =
      rw (add-one (t / p), add-one t)
      (omega (arith, div-add-mod (suc t) p, ap (λ q. p * q) (quotient_up p pos t e), mul_comm p (suc (t / p))))

  pub due_not : (suc t % p ≡ 0 → ⊥) → (t / p + 1) * p ≡ t + 1 → ⊥
  due_not e h = e (rw (← (add-one t)) (rw (← h) (mul-mod_left (t / p + 1) p)))

  pub next-due : suc t % p ≡ 0 → t + 1 + p ≡ ((t + 1) / p + 1) * p
  next-due e =
      let f = due_here e in
      rw (add-one t, quotient_up p pos t e, add-one (suc (t / p)))
      (omega (arith, suc-mul (suc (t / p)) p, ap (λ x. x * p) (sym (add-one (t / p)))))

  pub next-release : suc t % p ≡ 0 → t + 1 ≡ (t + 1) / p * p
  next-release e =
      let f = due_here e in
      rw (add-one t, quotient_up p pos t e) (omega (arith, ap (λ x. x * p) (sym (add-one (t / p)))))

  pub same_quotient : (suc t % p ≡ 0 → ⊥) → (t + 1) / p ≡ t / p
  same_quotient e = rw (add-one t) (quotient_stays p pos t e)

module _ (T : Loads) (t : ℕ) (awake : Bool) (o : Option ℕ) (k : ℕ) (j : Job) where
  -- the job after the tick, where it falls due, and where it does not
  falls_due : k < size T → j.due ≡ t + 1 → renewed T (t + 1) k (spent o k j) ≡ released (get_or T k no_load) (t + 1) k
  falls_due l e = rw (lt-ltb k (size T) l, eq-eqb j.due (t + 1) e)

  goes_on : (j.due ≡ t + 1 → ⊥) → renewed T (t + 1) k (spent o k j) ≡ spent o k j
  goes_on e = let f = ne_eqb j.due (t + 1) e in rw f (grind (arith, nat_tests))

  pub past_last : size T ≤ k → renewed T (t + 1) k (spent o k j) ≡ spent o k j
  past_last l = rw (le-ltb k (size T) l)

  module _ (l : k < size T) (pos : 0 < period T k) (due : j.due ≡ (job_at T t k).due) (release : j.release ≡ (job_at T t k).release) (own : j.place ≡ k) where
    abbrev After : Type 0
    After =
        ((renewed T (t + 1) k (spent o k j)).due ≡ (job_at T (t + 1) k).due)
        × ((renewed T (t + 1) k (spent o k j)).release ≡ (job_at T (t + 1) k).release)
        × ((renewed T (t + 1) k (spent o k j)).place ≡ k)
        × ((renewed T (t + 1) k (spent o k j)).left ≡ cond (eqb (suc t % period T k) 0) (work T k) (j.left - bit (is k o)))

    pub passed : After
    unfolding job_at period work
    passed =
        ⊎_elim
        (λ (e : suc t % period T k ≡ 0).
        let d : j.due ≡ t + 1 = due ∙ due_here (period T k) t pos e in
        let r = falls_due l d in (
          ap (λ x. x.due) r ∙ next-due (period T k) t pos e,
          ap (λ x. x.release) r ∙ next-release (period T k) t pos e,
          ap (λ x. x.place) r,
          ap (λ x. x.left) r ∙ rw (eq-eqb (suc t % period T k) 0 e),
        ))
        (λ (e : suc t % period T k ≡ 0 → ⊥).
        let d : j.due ≡ t + 1 → ⊥ = (λ h. due_not (period T k) t pos e (sym due ∙ h)) in
        let r = goes_on d in
        let q = same_quotient (period T k) t pos e in (
          ap (λ x. x.due) r ∙ (due ∙ ap (λ x. (x + 1) * period T k) (sym q)),
          ap (λ x. x.release) r ∙ (release ∙ ap (λ x. x * period T k) (sym q)),
          ap (λ x. x.place) r ∙ own,
          ap (λ x. x.left) r ∙ rw (ne_eqb (suc t % period T k) 0 e),
        ))
        (cases_eq (suc t % period T k) 0)

-- the slots left after the tick
pub left_after : (T : Loads) (t : ℕ) (awake : Bool) (left : ℕ → ℕ) (k : ℕ) (j : Job) → left k ≡ j.left →
    ((l : k < size T) → (renewed T (t + 1) k (spent (owner T awake left t) k j)).left ≡ cond (eqb (suc t % period T k) 0) (work T k) (j.left - bit (is k (owner T awake left t)))) →
    (size T ≤ k → j ≡ no_job) →
    (renewed T (t + 1) k (spent (owner T awake left t) k j)).left ≡ next T awake left t k
unfolding next charged
left_after T t awake left k j e here past =
    ⊎_elim
    (λ (l : k < size T). here l ∙ ap (λ x. cond (eqb (suc t % period T k) 0) (work T k) (x - bit (is k (owner T awake left t)))) (sym e))
    (λ (l : size T ≤ k).
    let z : j.left ≡ 0 = ap (λ x. x.left) (past l) in
    let w = work_past T k l in
    let n = ap (λ x. x.left) (past_last T t awake (owner T awake left t) k j l) in
    n ∙ both (eqb (suc t % period T k) 0) w z)
    (cases_lt k (size T))
  where
    both : (b : Bool) → work T k ≡ 0 → j.left ≡ 0 →
        j.left - bit (is k (owner T awake left t)) ≡ cond b (work T k) (left k - bit (is k (owner T awake left t)))
    both true w z = omega arith
    both false w z = omega arith

chosen_waits : (T : Loads) (t : ℕ) (left : ℕ → ℕ) (r : Option ℕ) (p : ℕ) → Chosen (λ i. ltb 0 (left i)) (job_at T t) (size T) r → r ≡ Some p →
    (p < size T) × (0 < left p)
chosen_waits T t left None p h e = absurd (let z : ◌≡◌ {A = ℕ} 0 1 = cc in omega arith)
chosen_waits T t left (Some b) p h e = let f : b ≡ p = cc in rw (← f) (h.0, ltb-true 0 (left b) h.1)

-- an owner has slots left, and is a task's place
pub owner_waits : (T : Loads) (t : ℕ) (awake : Bool) (left : ℕ → ℕ) (p : ℕ) → owner T awake left t ≡ Some p → (p < size T) × (0 < left p)
unfolding owner job_at
owner_waits T t true left p e =
    chosen_waits T t left _ p (earliest_chosen (λ i. ltb 0 (left i)) (job_at T t) (λ k. refl) (size T)) e
owner_waits T t false left p e = absurd (let z : ◌≡◌ {A = ℕ} 0 1 = cc in omega arith)

-- whether a place is the owner, as the code asks it
is_asked : (o : Option ℕ) (p : ℕ) → option_eq eqb o (Some p) ≡ is p o
unfolding is
is_asked None p = refl
is_asked (Some o) p = grind (arith, nat_tests)

-- one slot is taken from the owner's job, and no other job alters
pub spent_owner : (o : Option ℕ) (j : Job) → true ≡ option_eq eqb o (Some j.place) →
    record { due = j.due; release = j.release; place = j.place; left = j.left - 1 } ≡ spent o j.place j
unfolding bit
spent_owner o j e = rw (← is_asked o j.place, ← e) refl

pub spent_other : (o : Option ℕ) (j : Job) → false ≡ option_eq eqb o (Some j.place) → j ≡ spent o j.place j
unfolding bit
spent_other o j e = rw (← is_asked o j.place, ← e, sub-zero) refl

-- a place past the last task stays blank
pub rest_after : (T : Loads) (t : ℕ) (awake : Bool) (o : Option ℕ) (k : ℕ) (j : Job) → size T ≤ k → j ≡ no_job → renewed T (t + 1) k (spent o k j) ≡ no_job
rest_after T t awake o k j l e =
    past_last T t awake o k j l
    ∙ (ap (λ (x : Job). spent o k x) e ∙ ap (λ (n : ℕ). record { due = 0; release = 0; place = 0; left = n }) (zero-sub (bit (is k o))))

-- the jobs after a tick, place by place
pub jobs_after : (T : Loads) (t : ℕ) (awake : Bool) (o : Option ℕ) (before after : List Job) → length before ≡ size T →
    ((i : ℕ) → i < size T → (get_or before i no_job).place ≡ i) →
    after ≡ map (λ (j : Job). renewed T (t + 1) j.place (spent o j.place j)) before → (k : ℕ) →
    get_or after k no_job ≡ renewed T (t + 1) k (spent o k (get_or before k no_job))
jobs_after T t awake o before after e own f k =
    ⊎_elim
    (λ (l : k < size T).
    ap (λ js. get_or js k no_job) f
    ∙ (get_or-map (λ (j : Job). renewed T (t + 1) j.place (spent o j.place j)) before k no_job no_job (omega arith)
    ∙ ap (λ p. renewed T (t + 1) p (spent o p (get_or before k no_job))) (own k l)))
    (λ (l : size T ≤ k).
    get_or_past after k no_job (omega (arith, ap length f, length-map before (λ (j : Job). renewed T (t + 1) j.place (spent o j.place j))))
    ∙ sym (rest_after T t awake o k (get_or before k no_job) l (get_or_past before k no_job (omega arith))))
    (cases_lt k (size T))

-- each job is a task's, and the owner's job has slots left
pub job_of_task : (m : SlotMachine) {js : List Job} (i : ℕ) (d : Job) → js ≡ m.jobs → i < length js → (get_or js i d).place < size (loads_in m.workload)
job_of_task m {js} i d e l =
    let n : i < size (loads_in m.workload) = omega (arith, ap length e, m.one_number) in
    rw (e, get_or_default m.jobs i d no_job (omega (arith, ap length e)), m.own i n) n

pub owner_has_slots : (m : SlotMachine) (awake : Bool) {js : List Job} {o : Option ℕ} (i : ℕ) (d : Job) → js ≡ m.jobs → o ≡ owner_in m awake → i < length js →
    o ≡ Some (get_or js i d).place → 0 < (get_or js i d).left
owner_has_slots m awake {js} {o} i d e f l g =
    let n : i < size (loads_in m.workload) = omega (arith, ap length e, m.one_number) in
    let here : get_or js i d ≡ get_or m.jobs i no_job = ap (λ x. get_or x i d) e ∙ get_or_default m.jobs i d no_job (omega (arith, ap length e)) in
    let w = owner_waits (loads_in m.workload) m.tick awake (λ k. (get_or m.jobs k no_job).left) i (sym f ∙ (g ∙ ap (λ p. Some p) (ap (λ (j : Job). j.place) here ∙ m.own i n))) in
    rw here w.1
