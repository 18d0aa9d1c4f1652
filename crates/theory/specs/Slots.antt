-- The slot machine of one board. Each task's current job has slots left, at its release as many as its work.
-- In an awake tick the earliest job with slots left owns the tick and loses one slot. A job that falls due makes room for its successor.
use Rattle.std.specs.Prelude.{ℕ, zero, suc, ◌+◌, ◌-◌, ◌*◌, ◌/◌, ◌%◌, Bool, false, cond, Some, None, Option, ◌==◌, nat_lt}
use Rattle.theory.specs.Sums.{bit}
use Rattle.theory.specs.Loads.{Loads, size, work, period}
use Rattle.theory.specs.Orders.{Key, earliest}

-- the job that the place i has in tick t
unfoldable pub job_at : Loads → ℕ → ℕ → Key
job_at T t i = record { due = (t / period T i + 1) * period T i; release = t / period T i * period T i; place = i }

-- who owns tick t, where the places' jobs have those slots left
unfoldable pub owner : Loads → Bool → (ℕ → ℕ) → ℕ → Option ℕ
owner T awake left t = cond awake (earliest (λ i. nat_lt 0 (left i)) (job_at T t) (size T)) None

-- whether a place is the one that is meant
unfoldable pub is : ℕ → Option ℕ → Bool
is i None = false
is i (Some o) = i == o

-- the slots left of place i's job after tick t: one less if it owns the tick
unfoldable pub charged : Loads → Bool → (ℕ → ℕ) → ℕ → ℕ → ℕ
charged T awake left t i = left i - bit (is i (owner T awake left t))

-- the slots left at the start of the tick after t: fresh ones where a job fell due
unfoldable pub next : Loads → Bool → (ℕ → ℕ) → ℕ → ℕ → ℕ
next T awake left t i = cond (suc t % period T i == 0) (work T i) (charged T awake left t i)

-- the slots left of place i's job at the start of tick t, from tick 0 on
unfoldable pub slots : Loads → (ℕ → Bool) → ℕ → ℕ → ℕ
slots T awake zero i = work T i
slots T awake (suc t) i = next T (awake t) (slots T awake t) t i

-- who owns tick t
unfoldable pub owns : Loads → (ℕ → Bool) → ℕ → Option ℕ
owns T awake t = owner T (awake t) (slots T awake t) t
