-- Tasks as a board sees them: works and periods, by place from 0, and a cycle of them.
-- Job j of a place, from 0, is released at tick j * period and due at (j + 1) * period.
use Rattle.std.specs.Prelude.{◌≡◌, ℕ, ◌*◌, ◌/◌, ◌%◌, ◌<◌, List, length, slice_index_or}
use Rattle.theory.specs.declared.Load.{Load}
use Rattle.theory.specs.Sums.{sum}

abbrev pub Loads : Type 0
Loads = List Load

-- how many tasks there are
abbrev pub size : Loads → ℕ
size T = length T

-- a place past the last task
abbrev pub no_load : Load
no_load = record { work = 0; period = 0 }

-- the work and the period of the task at a place
unfoldable pub work : Loads → ℕ → ℕ
work T i = (slice_index_or T i no_load).work

unfoldable pub period : Loads → ℕ → ℕ
period T i = (slice_index_or T i no_load).period

-- a cycle of the tasks: a number of ticks, at least one, that each period divides
pub record Cycle (T : Loads) (H : ℕ) : Type 0 where
  pub ticks : 0 < H
  pub some_period : (i : ℕ) → i < size T → 0 < period T i
  pub divides : (i : ℕ) → i < size T → H % period T i ≡ 0

-- the work that falls due in a cycle: each task's work as often as its period goes into the cycle
unfoldable pub load : Loads → ℕ → ℕ
load T H = sum (size T) (λ i. work T i * (H / period T i))
