-- The least common multiple of the periods, one task after another.
use Rattle.std.proofs.Common.{◌≡◌, ℕ, zero, suc, ◌+◌, ◌*◌, ◌%◌, ◌<◌, ◌≤◌, true, false, eqb, [], ◌∷◌, take, Some, None, refl, ap, ⊎_elim, arith}
use Prim.Native.Nat.{◌∣◌}
use native.Mathlib.Nat.{dvd_trans, one-dvd, dvd-mul_right, dvd-mul_left, pos_of_dvd_of_pos, le_of_dvd, mod-eq-zero_of_dvd, dvd_of_mod-eq-zero}
use Rattle.std.proofs.lemmas.Nat.{mul-lt}
use Rattle.std.proofs.lemmas.List.{take_all}
use Rattle.std.proofs.lemmas.Bool.{cases_eq, cases_Bool, and_parts, and_from, eqb-true, eq-eqb}
use Rattle.theory.specs.Loads.{Loads, size, period, Cycle}
use Rattle.table.specs.Common.{Lcm}
use Rattle.table.specs.Searches.{absent}
use Rattle.table.specs.Cycles.{Sound, divide_all, cycle_of, long_at, Least}
use Rattle.table.proofs.Searches.{first_none, first_some, first_found}

-- no task has the period 0
pub period-some : (T : Loads) → Sound T → (i : ℕ) → i < size T → 0 < period T i
period-some T sound i h = omega (arith, (sound i h).0, (sound i h).1)

-- H is the least common multiple of the first n periods
pub record LeastOf (T : Loads) (n H : ℕ) : Type 0 where
  pub some : 0 < H
  pub each : (i : ℕ) → i < n → period T i ∣ H
  pub least : (m : ℕ) → ((i : ℕ) → i < n → period T i ∣ m) → H ∣ m

pub least_none : (T : Loads) → LeastOf T 0 1
least_none T = record { some = omega arith; each = λ i h. absurd (omega arith); least = λ m h. one-dvd m }

pub least_more : (T : Loads) (n H L : ℕ) → 0 < period T n → LeastOf T n H → Lcm H (period T n) L → LeastOf T (suc n) L
least_more T n H L pos l c =
    record {
      some = pos_of_dvd_of_pos (c.least (H * period T n) (dvd-mul_right H (period T n)) (dvd-mul_left (period T n) H)) (mul-lt 0 0 H (period T n) l.some pos);
      each = λ i h. ⊎_elim
          (λ (e : i ≡ n). rw e c.right)
          (λ (e : i ≡ n → ⊥). dvd_trans (period T i) (l.each i (omega arith)) c.left)
          (cases_eq i n);
      least = λ m h. c.least m (l.least m (λ i x. h i (omega arith))) (h n (omega arith));
    }

pub least-all : (T : Loads) (H : ℕ) → LeastOf T (size T) H → Least T H
least-all T H l = record { some = l.some; each = l.each; least = l.least }

-- the least common multiple is a cycle of the tasks
pub least-cycle : (T : Loads) (H : ℕ) → ((i : ℕ) → i < size T → 0 < period T i) → Least T H → Cycle T H
least-cycle T H pos l =
    record { ticks = l.some; some_period = pos; divides = λ i h. mod-eq-zero_of_dvd (period T i) (l.each i h) }

-- what the test of all periods says of the first n
pub divides_front : (T : Loads) (n m : ℕ) → ((i : ℕ) → i < n → i < size T → period T i ∣ m) → divide_all (take n T) m ≡ true
unfolding divide_all period
divides_front [] zero m h = refl
divides_front [] (suc n) m h = refl
divides_front (l ∷ T) zero m h = refl
divides_front (l ∷ T) (suc n) m h =
    and_from (eqb (m % l.period) 0) (divide_all (take n T) m)
    (eq-eqb (m % l.period) 0 (mod-eq-zero_of_dvd l.period (h 0 (omega arith) (omega arith))))
    (divides_front T n m (λ i a b. h (suc i) (omega arith) (omega arith)))

pub front_divides : (T : Loads) (n m : ℕ) → divide_all (take n T) m ≡ true → (i : ℕ) → i < n → i < size T → period T i ∣ m
unfolding divide_all period
front_divides [] n m e i a b = absurd (omega arith)
front_divides (l ∷ T) zero m e i a b = absurd (omega arith)
front_divides (l ∷ T) (suc n) m e zero a b =
    dvd_of_mod-eq-zero l.period (eqb-true (m % l.period) 0 (and_parts (eqb (m % l.period) 0) (divide_all (take n T) m) e).0)
front_divides (l ∷ T) (suc n) m e (suc i) a b =
    front_divides T n m (and_parts (eqb (m % l.period) 0) (divide_all (take n T) m) e).1 i (omega arith) (omega arith)

module _ (T : Loads) (n H : ℕ) (few : n ≤ size T) (l : LeastOf T n H) where
  -- the first n places have no smaller common multiple
  pub not_sooner : (m : ℕ) → 0 < m → m < H → divide_all (take n T) m ≡ false
  not_sooner m pos h =
      ⊎_elim
      (λ (e : divide_all (take n T) m ≡ true).
      absurd (omega (arith, le_of_dvd pos (l.least m (λ i x. front_divides T n m e i x (omega arith))))))
      (λ (e : divide_all (take n T) m ≡ false). e)
      (cases_Bool (divide_all (take n T) m))

  pub cycle-some : H ≤ 30000 → cycle_of (take n T) ≡ Some H
  unfolding cycle_of
  cycle-some h =
      first_some (divide_all (take n T)) 1 30000 H l.some (omega arith)
      (divides_front T n H (λ i x _. l.each i x))
      (λ j a b. not_sooner j a b)

  pub cycle_none : 30000 < H → cycle_of (take n T) ≡ None
  unfolding cycle_of
  cycle_none h = first_none (divide_all (take n T)) 1 30000 (λ m a b. not_sooner m a (omega arith))

  -- where that is short, no earlier place is too long
  pub short_before : H ≤ 30000 → (j : ℕ) → j < n → absent (cycle_of (take (suc j) T)) ≡ false
  unfolding cycle_of
  short_before h j x =
      first_found (divide_all (take (suc j) T)) 1 30000 H l.some (omega arith)
      (divides_front T (suc j) H (λ i a _. l.each i (omega arith)))

-- more places have no cycle where fewer have none
pub cycle_none_all : (T : Loads) (n H : ℕ) → n ≤ size T → LeastOf T n H → 30000 < H → cycle_of T ≡ None
unfolding cycle_of
cycle_none_all T n H few l h = first_none (divide_all T) 1 30000 none
  where
    whole : take (size T) T ≡ T
    whole = take_all (size T) T (omega arith)

    none : (m : ℕ) → 1 ≤ m → m < 1 + 30000 → divide_all T m ≡ false
    none m a b =
        ⊎_elim
        (λ (e : divide_all T m ≡ true).
        let f : divide_all (take (size T) T) m ≡ true = rw whole e in
        absurd (omega (arith, le_of_dvd a (l.least m (λ i x. front_divides T (size T) m f i (omega arith) (omega arith))))))
        (λ (e : divide_all T m ≡ false). e)
        (cases_Bool (divide_all T m))

-- of the first N places, n is the first that makes the cycle too long
pub long_first : (T : Loads) (n N H L : ℕ) → n < N → N ≤ size T → LeastOf T n H → H ≤ 30000 → LeastOf T (suc n) L → 30000 < L → long_at T N ≡ Some n
unfolding long_at
long_first T n N H L lt few l short m long =
    first_some (λ i. absent (cycle_of (take (suc i) T))) 0 N n (omega arith) (omega arith)
    (ap absent (cycle_none T (suc n) L (omega arith) m long))
    (λ j a b. short_before T n H (omega arith) l short j b)

-- the whole list
pub cycle-all : (T : Loads) (H : ℕ) → LeastOf T (size T) H → H ≤ 30000 → cycle_of T ≡ Some H
cycle-all T H l h =
    let e : take (size T) T ≡ T = take_all (size T) T (omega arith) in
    rw e at (cycle-some T (size T) H (omega arith) l h)
