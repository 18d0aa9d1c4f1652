-- One turn of the loop that lays the plan that works as late as it can.
use Rattle.std.proofs.Common.{◌≡◌, ℕ, zero, suc, ◌+◌, ◌-◌, ◌*◌, ◌/◌, ◌%◌, ◌<◌, ◌≤◌, Bool, true, false, cond, eqb, ltb, List, [], length, get_or, set, refl, ap, ◌∙◌, ⊎_elim, mul-le-mul_left, mul-one, arith, get_or-set_other, get_or-set_same}
use native.Mathlib.Nat.{sub-zero}
use Rattle.std.proofs.lemmas.Nat.{le-div}
use Rattle.std.proofs.lemmas.Bool.{cases_eq}
use Rattle.std.proofs.lemmas.Bool.Decides.{nat_tests}
use Rattle.theory.specs.Sums.{sum, bit}
use Rattle.theory.specs.Loads.{Loads, size, work, period, load}
use Rattle.theory.specs.Lates.{due_at, backlog, edl}
use Rattle.theory.proofs.Lates.{load_more}
use Rattle.theory.proofs.Sums.{sum_up, sum_more, sum-le}
use Rattle.table.specs.Workloads.{loads_in, turn_of}
use Rattle.table.specs.declared.workload.Workload.{Workload}
use Rattle.table.proofs.Facts.{fits_of, short_of, period-within}

-- a table with no task rests in each tick
none_due : (t : ℕ) → due_at [] t ≡ 0
unfolding due_at sum
none_due t = refl

none_left : (H k : ℕ) → backlog [] H k ≡ 0
unfolding backlog
none_left H zero = refl
none_left H (suc k) = omega (arith, none_left H k, none_due (H - k))

pub edl_none : (T : Loads) (H t : ℕ) → T ≡ [] → edl T H t ≡ false
unfolding edl
edl_none T H t e =
    rw e (let x = none_left H (H - suc t) in let y = none_due (suc t) in grind (arith, nat_tests))

module _ (T : Loads) (H : ℕ) where
  backlog_down : (u : ℕ) → u < H → backlog T H (H - u) ≡ backlog T H (H - suc u) + due_at T (suc u) - 1
  unfolding backlog
  backlog_down u l =
      let e : H - u ≡ suc (H - suc u) = omega arith in
      let f : H - (H - suc u) ≡ suc u = omega arith in
      omega (arith, ap (λ x. backlog T H x) e, ap (λ x. due_at T x) f)

  -- what the backlog and the jobs due next come to, before and after tick t - 1
  pub left : (t : ℕ) → 0 < t → t ≤ H → backlog T H (H - (t - 1)) ≡ backlog T H (H - t) + due_at T (t - 1 + 1) - 1
  left t p l =
      let e : t - 1 + 1 ≡ t = omega arith in
      let f : suc (t - 1) ≡ t = omega arith in
      rw e (rw f at (backlog_down (t - 1) (omega arith)))

  pub wakes : (t : ℕ) → 0 < t → t ≤ H → edl T H (t - 1) ≡ ltb 0 (backlog T H (H - t) + due_at T (t - 1 + 1))
  unfolding edl
  wakes t p l =
      let e : suc (t - 1) ≡ t = omega arith in
      let f : t - 1 + 1 ≡ t = omega arith in
      rw (e, f)

  module _ (pos : (i : ℕ) → i < size T → 0 < period T i) where
    -- what is left is no more than what was due
    left_bound : (k : ℕ) → k ≤ H → backlog T H k + load T (H - k) ≤ load T H
    unfolding backlog
    left_bound zero l = rw (sub-zero H) (omega arith)
    left_bound (suc k) l =
        let e : H - k ≡ suc (H - suc k) = omega arith in
        let m : load T (H - k) ≡ load T (H - suc k) + due_at T (H - k) = rw e (load_more T pos (H - suc k)) in
        omega (arith, left_bound k (omega arith))

    pub due_bound : (t : ℕ) → 0 < t → t ≤ H → backlog T H (H - t) + due_at T (t - 1 + 1) ≤ load T H
    due_bound t p l =
        let e : H - (H - t) ≡ t = omega arith in
        let f : t - 1 + 1 ≡ t = omega arith in
        let g : suc (t - 1) ≡ t = omega arith in
        rw f (omega (arith, rw e at (left_bound (H - t) (omega arith)), rw g at (load_more T pos (t - 1))))

-- one byte more is written
pub bytes_more : (P : ℕ → ℕ) (H t v : ℕ) (m : List ℕ) → 0 < t → t ≤ H → H ≤ length m → v ≡ P (t - 1) →
    ((k : ℕ) → t ≤ k → k < H → get_or m k 0 ≡ P k) → (k : ℕ) → t - 1 ≤ k → k < H → get_or (set m (t - 1) v) k 0 ≡ P k
bytes_more P H t v m p l long e below k h x =
    ⊎_elim
    (λ (z : k ≡ t - 1). rw z (get_or-set_same m (t - 1) v 0 (omega arith) ∙ e))
    (λ (z : k ≡ t - 1 → ⊥). get_or-set_other m (t - 1) k v 0 z ∙ below k (omega arith) x)
    (cases_eq k (t - 1))

pub bytes_past : (H t v : ℕ) (m n : List ℕ) → 0 < t → t ≤ H →
    ((k : ℕ) → H ≤ k → get_or m k 0 ≡ get_or n k 0) → (k : ℕ) → H ≤ k → get_or (set m (t - 1) v) k 0 ≡ get_or n k 0
bytes_past H t v m n p l past k h =
    let z : k ≡ t - 1 → ⊥ = (λ q. omega arith) in get_or-set_other m (t - 1) k v 0 z ∙ past k h

-- the work of the first places that is due at a tick: one place more
pub share_more : (T : Loads) (tick i n : ℕ) → n ≡ sum i (λ k. cond (eqb (tick % period T k) 0) (work T k) 0) →
    sum (i + 1) (λ k. cond (eqb (tick % period T k) 0) (work T k) 0) ≡ n + cond (eqb (tick % period T i) 0) (work T i) 0
share_more T tick i n e = rw e (sum_more i (λ k. cond (eqb (tick % period T k) 0) (work T k) 0))

pub share_bound : (T : Loads) (tick i n : ℕ) → i < size T → n ≡ sum i (λ k. cond (eqb (tick % period T k) 0) (work T k) 0) →
    n + cond (eqb (tick % period T i) 0) (work T i) 0 ≤ due_at T tick
unfolding due_at
share_bound T tick i n h e =
    omega (arith, share_more T tick i n e, sum_up (i + 1) (size T) (λ k. cond (eqb (tick % period T k) 0) (work T k) 0) (omega arith))

-- no more work is due at a tick than in a cycle
pub due_small : (w : Workload) (tick : ℕ) → due_at (loads_in w) tick ≤ 30000
unfolding due_at load
due_small w tick =
    let T = loads_in w in
    let H = turn_of w in
    let each : (i : ℕ) → i < size T → cond (eqb (tick % period T i) 0) (work T i) 0 ≤ work T i * (H / period T i) =
    (λ i l.
    let once : 1 ≤ H / period T i = le-div 1 H (period T i) (w.periods i l) (omega (arith, period-within w i l)) in
    let more : work T i ≤ work T i * (H / period T i) = omega (arith, mul-le-mul_left (work T i) once, mul-one (work T i)) in
    cond_le (eqb (tick % period T i) 0) (work T i) (work T i * (H / period T i)) more) in
    omega (arith, sum-le (size T) (λ i. cond (eqb (tick % period T i) 0) (work T i) 0) (λ i. work T i * (H / period T i)) each, fits_of w, short_of w)
  where
    cond_le : (b : Bool) (c d : ℕ) → c ≤ d → cond b c 0 ≤ d
    cond_le true c d l = l
    cond_le false c d l = omega arith

-- a turn: what it leaves, and whether it finds work
module _ (T : Loads) (H t B D : ℕ) (some : 0 < t) (l : t ≤ H) (b : B ≡ backlog T H (H - t)) (d : D ≡ due_at T (t - 1 + 1)) where
  pub turn : (B + D - 1 ≡ backlog T H (H - (t - 1))) × (bit (ltb 0 (B + D)) ≡ bit (edl T H (t - 1)))
  unfolding bit
  turn =
      let e : B + D ≡ backlog T H (H - t) + due_at T (t - 1 + 1) = omega arith in
      (omega (arith, left T H t some l), rw (e, wakes T H t some l) refl)
