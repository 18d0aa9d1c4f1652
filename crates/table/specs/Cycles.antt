-- The cycle of a task set, and where it becomes too long.
use Rattle.std.specs.Prelude.{ℕ, suc, ◌%◌, ◌<◌, ◌≤◌, Bool, true, ◌&&◌, [], ◌∷◌, take, Option, ◌==◌}
use Rattle.std.specs.Int.{◌∣◌}
use Rattle.theory.specs.Loads.{Loads, size, work, period}
use Rattle.table.specs.Searches.{first_from, absent}

-- of each task 1 ≤ work ≤ period ≤ 30,000
abbrev pub Sound : Loads → Type 0
Sound T = (i : ℕ) → i < size T → (0 < work T i) × (work T i ≤ period T i) × (period T i ≤ 30000)

-- each period divides m
unfoldable pub divide_all : Loads → ℕ → Bool
divide_all [] m = true
divide_all (l ∷ T) m = m % l.period == 0 && divide_all T m

-- the cycle: the least number of ticks from 1 to 30,000 that each period divides, if there is one
unfoldable pub cycle_of : Loads → Option ℕ
cycle_of T = first_from (divide_all T) 1 30000

-- of the first n places, the first at which the tasks up to and including it have no cycle of at most 30,000 ticks
unfoldable pub long_at : Loads → ℕ → Option ℕ
long_at T n = first_from (λ i. absent (cycle_of (take (suc i) T))) 0 n

-- H is the least common multiple of the periods: each divides it, and it divides every number that each divides
pub record Least (T : Loads) (H : ℕ) : Type 0 where
  pub some : 0 < H
  pub each : (i : ℕ) → i < size T → period T i ∣ H
  pub least : (m : ℕ) → ((i : ℕ) → i < size T → period T i ∣ m) → H ∣ m
