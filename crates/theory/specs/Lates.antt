-- The plan that works as late as it can (earliest deadline late).
use Rattle.std.specs.Prelude.{◌≡◌, ℕ, zero, suc, ◌+◌, ◌-◌, ◌%◌, ◌≤◌, Bool, cond, ◌==◌, nat_lt}
use Rattle.theory.specs.Sums.{sum}
use Rattle.theory.specs.Loads.{Loads, size, work, period, Cycle, load}
use Rattle.theory.specs.Laws.{Law}

-- the work of the jobs that are due at tick t
unfoldable pub due_at : Loads → ℕ → ℕ
due_at T t = sum (size T) (λ i. cond (t % period T i == 0) (work T i) 0)

-- from the end of the cycle down: what its last k ticks leave for the ticks before them, where each takes one slot if it finds one
unfoldable pub backlog : Loads → ℕ → ℕ → ℕ
backlog T H zero = 0
backlog T H (suc k) = backlog T H k + due_at T (H - k) - 1

-- tick t is awake if it finds a slot: one that the ticks after it leave, or one of a job that is due right after it
unfoldable pub edl : Loads → ℕ → ℕ → Bool
edl T H t = nat_lt 0 (backlog T H (H - suc t) + due_at T (suc t))

-- where the work that falls due in a cycle fits the cycle, that plan keeps the law, and nothing is left over
abbrev pub LateKeepsLaw : Type 0
LateKeepsLaw = (T : Loads) (H : ℕ) → Cycle T H → load T H ≤ H → Law T H (edl T H) × (backlog T H H ≡ 0)
