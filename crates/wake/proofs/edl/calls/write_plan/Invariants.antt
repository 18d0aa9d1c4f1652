use Rattle.std.proofs.Common.{◌≡◌, ℕ, ◌-◌, ◌<◌, ◌≤◌, get_or}
use Rattle.theory.specs.Sums.{bit}
use Rattle.theory.specs.Lates.{backlog, edl}
use Rattle.table.specs.Workloads.{loads_in, turn_of}
use Rattle.wake.proofs.edl.calls.write_plan.Given as goal

-- the bytes from t on are laid, and those past the cycle are as they were
abbrev pub invariant-loop-tick : goal.invariant-loop-tick
invariant-loop-tick l =
    (l.backlog ≡ backlog (loads_in l.workload) (turn_of l.workload) (turn_of l.workload - l.tick))
    × ((k : ℕ) → l.tick ≤ k → k < turn_of l.workload → get_or l.memory k 0 ≡ bit (edl (loads_in l.workload) (turn_of l.workload) k))
    × ((k : ℕ) → turn_of l.workload ≤ k → get_or l.memory k 0 ≡ get_or l.initial.memory k 0)
